-- The numbers of a name are bytes.
use Rattle.std.proofs.Common.{◌≡◌, ◌∙◌, ap, sym, refl, ℕ, ◌+◌, ◌/◌, ◌%◌, ◌<◌, arith, ◌==◌, Bool, true, false, not, ◌&&◌, cond, List, [], ◌∷◌, ◌++◌, length, Some, None, inl, inr, ltb}
use Rattle.std.specs.Prelude.{nat_lt, IsUtf8}
use Rattle.std.specs.List.{list_any}
use Rattle.std.specs.Str.{is_utf8}
use Rattle.std.proofs.Math.Utf8.{scalar, scalars, encode, encodes, scalar_cases}
use Rattle.std.proofs.lemmas.Bool.{and_parts, and_from, cond_both, ltb-true, lt-ltb}
use Rattle.std.proofs.lemmas.Str.{IsUtf8-from_is_utf8}
use Rattle.afp_names.specs.Name.{name_fault, longest_name}
use Rattle.afp_names.specs.declared.name.NameFault.TheVariants.{Empty, TooLong, HasNul, NotUtf8}
use Rattle.volume_spec.specs.TypedVolume.{is_byte, are_bytes}

pub small : (n : ℕ) → n < 256 → is_byte n ≡ true
small n h = lt-ltb n 256 h

pub bytes-append : (xs ys : List ℕ) → are_bytes xs ≡ true → are_bytes ys ≡ true → are_bytes (xs ++ ys) ≡ true
bytes-append [] ys h k = k
bytes-append (x ∷ xs) ys h k = let e = and_parts (is_byte x) (are_bytes xs) h in and_from (is_byte x) (are_bytes (xs ++ ys)) e.0 (bytes-append xs ys e.1 k)

next-small : (n : ℕ) → 128 + n % 64 < 256
next-small n = omega arith

-- the bytes of a character
encode-bytes : (c : ℕ) → scalar c ≡ true → are_bytes (encode c) ≡ true
unfolding encode
encode-bytes c is =
    cond_both (ltb c 128) (c ∷ []) _ (λ l. are_bytes l ≡ true)
    (λ one. let h = ltb-true c 128 one in and_from (is_byte c) true (small c (omega arith)) refl)
    (λ more. cond_both (ltb c 2048) ((192 + c / 64) ∷ (128 + c % 64) ∷ []) _ (λ l. are_bytes l ≡ true)
    (λ two. let h = ltb-true c 2048 two in both (192 + c / 64) (128 + c % 64) (omega arith) (next-small c))
    (λ more. cond_both (ltb c 65536) ((224 + c / 4096) ∷ (128 + (c / 64) % 64) ∷ (128 + c % 64) ∷ []) _ (λ l. are_bytes l ≡ true)
    (λ three. let h = ltb-true c 65536 three in
    and_from (is_byte (224 + c / 4096)) _ (small (224 + c / 4096) (omega arith)) (both (128 + (c / 64) % 64) (128 + c % 64) (next-small (c / 64)) (next-small c)))
    (λ more. let top : c < 1114112 = below c is in
    and_from (is_byte (240 + c / 262144)) _ (small (240 + c / 262144) (omega arith))
    (and_from (is_byte (128 + (c / 4096) % 64)) _ (small (128 + (c / 4096) % 64) (next-small (c / 4096))) (both (128 + (c / 64) % 64) (128 + c % 64) (next-small (c / 64)) (next-small c))))))
  where
    both : (a b : ℕ) → a < 256 → b < 256 → are_bytes (a ∷ b ∷ []) ≡ true
    both a b h k = and_from (is_byte a) (is_byte b && true) (small a h) (and_from (is_byte b) true (small b k) refl)

    below : (c : ℕ) → scalar c ≡ true → c < 1114112
    below c is = elim (scalar_cases c is) [
      | inl low ↦ omega arith
      | inr high ↦ high.1
    ]

encodes-bytes : (cs : List ℕ) → scalars cs ≡ true → are_bytes (encodes cs) ≡ true
encodes-bytes [] h = refl
encodes-bytes (c ∷ cs) h = let e = and_parts (scalar c) (scalars cs) h in bytes-append (encode c) (encodes cs) (encode-bytes c e.0) (encodes-bytes cs e.1)

utf8-bytes : (name : List ℕ) → IsUtf8 name → are_bytes name ≡ true
utf8-bytes name u = ap are_bytes (sym u.1.1) ∙ encodes-bytes u.0 u.1.0

is-text : (name : List ℕ) → name_fault name ≡ None → is_utf8 name ≡ true
unfolding name_fault
is-text name h = last (length name == 0) (nat_lt longest_name (length name)) (list_any (λ byte. byte == 0) name) (is_utf8 name) h
  where
    last : (a b c d : Bool) → cond a (Some Empty) (cond b (Some TooLong) (cond c (Some HasNul) (cond (not d) (Some NotUtf8) None))) ≡ None → d ≡ true
    last true b c d h = absurd (cc)
    last false true c d h = absurd (cc)
    last false false true d h = absurd (cc)
    last false false false false h = absurd (cc)
    last false false false true h = refl

pub name-bytes : (name : List ℕ) → name_fault name ≡ None → are_bytes name ≡ true
name-bytes name h = utf8-bytes name (IsUtf8-from_is_utf8 name (is-text name h))
