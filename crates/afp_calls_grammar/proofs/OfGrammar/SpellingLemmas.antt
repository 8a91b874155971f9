-- What is read of a word is its spelling, and the canonical bytes are a spelling.
use Rattle.std.proofs.Common.{◌≡◌, ◌==◌, ◌&&◌, ℕ, suc, ℤ, pos, negsuc, ◌+◌, ◌%◌, ◌^◌, ◌<◌, ◌≤◌, Bool, true, false, cond, nat_le, is_none, List, [], ◌∷◌, ◌++◌, length, take, drop, get_or, replicate, Some, None, refl, sym, ◌∙◌, ap, subst, inl, inr, arith, w32, w64, FitsSigned}
use Rattle.std.specs.Int.{cast_signed, cast_unsigned}
use Rattle.std.proofs.lemmas.Int.{ints, to_z-of_z}
use Rattle.std.proofs.lemmas.Bool.{le-leb, leb-true, eqb-true, eq-eqb, and_parts}
use Rattle.std.proofs.Math.Seq.{drop-append_seam, take-append_seam, take-add}
use Rattle.std.proofs.lemmas.List.{append-nil, append_assoc, drop-append-le, drop-drop, drop-take, length-drop, length-take-le, length-replicate, take_all, drop_all, length-append}
use Rattle.byteorder.specs.Endian.{big_number, big_bytes}
use Rattle.byteorder.specs.Numbers.{big_from-take, big_from-append, big_from-lt, big_number-reads_back, length-bytes_high_first}
use Rattle.afp_names.specs.Path.{PathValue, canonical_path, longest_path, path_fault, path_steps}
use Rattle.afp_calls_grammar.specs.grammar.Words.{Word, Literal, Pad, LastPad, Even, Number, Within, Count, Optional, Signed32, Signed64, Plain, Counted, Pathname, Tail, Value, IsCountedText, SpellsPathname, IsWordSpelling, IsTypedValue, CanSpell, canonical, hint_size, count_size}
use Rattle.afp_calls_grammar.specs.grammar.Reading.{Taken, next, path_count, path_size, path_text}
use Rattle.afp_base.proofs.Facts.{none_from_is_none}

-- what was taken under a condition
taken_if : {w : Word} (P : Taken w → Type 0) (b : Bool) (x t : Taken w) → (b ≡ true → P x) → cond b (Some x) None ≡ Some t → P t
taken_if P true x t holds h = let e : x ≡ t = cc in subst P e (holds refl)
taken_if P false x t holds h = absurd cc

-- the bytes that were taken spell the word
pub record IsTaken (w : Word) (place : ℕ) (bytes : List ℕ) (t : Taken w) : Type 0 where
  pub within : t.size ≤ length bytes
  pub spells : IsWordSpelling w t.value place (take t.size bytes) (drop t.size bytes)

counted_taken : (n : ℕ) (bytes : List ℕ) → n + big_number n bytes ≤ length bytes → IsCountedText n (take (big_number n bytes) (drop n bytes)) (take (n + big_number n bytes) bytes)
counted_taken n bytes some =
    let whole = length-take-le (n + big_number n bytes) bytes some in
    let part : length (take (big_number n bytes) (drop n bytes)) ≡ big_number n bytes = length-take-le (big_number n bytes) (drop n bytes) (omega (arith, length-drop n bytes)) in
    record {
      length_is = omega (arith, whole, part);
      count_is = big_from-take 0 n (n + big_number n bytes) bytes (omega arith) ∙ sym part;
      text_is = drop-take n (big_number n bytes) bytes;
    }

pathname_taken : (kind place : ℕ) (bytes : List ℕ) → path_size kind bytes ≤ length bytes → path_fault kind (path_text kind bytes) ≡ None
    → IsTaken Pathname place (kind ∷ bytes) (record { value = record { kind = kind; steps = path_steps kind (path_text kind bytes) }; size = 1 + path_size kind bytes })
pathname_taken kind place bytes some good =
    let hint = hint_size kind in
    let behind = drop hint bytes in
    let size = count_size kind + path_count kind bytes in
    let one : 1 + path_size kind bytes ≡ suc (hint + size) = omega arith in
    record {
      within = omega arith;
      spells = record {
        hint = take hint bytes;
        text = path_text kind bytes;
        behind_hint = take size behind;
        whole = rw one (ap (λ (l : List ℕ). kind ∷ l) (take-add hint size bytes));
        hint_length = length-take-le hint bytes (omega arith);
        count = rw (← drop-drop (count_size kind) hint bytes) (counted_taken (count_size kind) behind (omega (arith, length-drop hint bytes)));
        spells = record { no_fault = good; steps = refl };
      };
    }

pub next_spells : (w : Word) (place : ℕ) (bytes : List ℕ) (t : Taken w) → next w place bytes ≡ Some t → IsTaken w place bytes t
unfolding next
next_spells (Literal n) place [] t h = absurd (cc)
next_spells (Literal n) place (b ∷ bytes) t h = taken_if (IsTaken (Literal n) place (b ∷ bytes)) (b == n) _ t (λ e. record { within = omega arith; spells = rw (eqb-true b n e) refl }) h
next_spells Pad place bytes t h = taken_if (IsTaken Pad place bytes) (nat_le 1 (length bytes)) _ t (λ e. let some = leb-true 1 _ e in record { within = some; spells = length-take-le 1 bytes some }) h
next_spells LastPad place [] t h = let e : record { value = tt; size = 0 } ≡ t = cc in subst (IsTaken LastPad place []) e (record { within = omega arith; spells = inr (refl, refl) })
next_spells LastPad place (b ∷ bytes) t h = let e : record { value = tt; size = 1 } ≡ t = cc in subst (IsTaken LastPad place (b ∷ bytes)) e (record { within = omega arith; spells = inl refl })
next_spells Even place bytes t h = taken_if (IsTaken Even place bytes) (nat_le (place % 2) (length bytes)) _ t (λ e. let some = leb-true (place % 2) _ e in record { within = some; spells = length-take-le (place % 2) bytes some }) h
next_spells (Number n) place bytes t h = taken_if (IsTaken (Number n) place bytes) (nat_le n (length bytes)) _ t (λ e. let some = leb-true n _ e in record { within = some; spells = (length-take-le n bytes some, big_from-take 0 n n bytes (omega arith)) }) h
next_spells (Within n low high) place bytes t h = taken_if (IsTaken (Within n low high) place bytes) (nat_le n (length bytes) && (nat_le low (big_number n bytes) && nat_le (big_number n bytes) high)) _ t
    (λ e.
    let all = and_parts (nat_le n (length bytes)) _ e in
    let range = and_parts (nat_le low (big_number n bytes)) _ all.1 in
    let some = leb-true n _ all.0 in
    record { within = some; spells = (length-take-le n bytes some, big_from-take 0 n n bytes (omega arith), leb-true low _ range.0, leb-true _ high range.1) }) h
next_spells (Count n) place bytes t h = taken_if (IsTaken (Count n) place bytes) (nat_le n (length bytes)) _ t (λ e. let some = leb-true n _ e in record { within = some; spells = (length-take-le n bytes some, big_from-take 0 n n bytes (omega arith)) }) h
next_spells (Optional true n) place bytes t h = taken_if (IsTaken (Optional true n) place bytes) (nat_le n (length bytes)) _ t (λ e. let some = leb-true n _ e in record { within = some; spells = (length-take-le n bytes some, big_from-take 0 n n bytes (omega arith)) }) h
next_spells (Optional false n) place bytes t h = let e : record { value = None; size = 0 } ≡ t = cc in subst (IsTaken (Optional false n) place bytes) e (record { within = omega arith; spells = refl })
next_spells Signed32 place bytes t h = taken_if (IsTaken Signed32 place bytes) (nat_le 4 (length bytes)) _ t (λ e. let some = leb-true 4 _ e in record { within = some; spells = (length-take-le 4 bytes some, ap (cast_signed w32) (big_from-take 0 4 4 bytes (omega arith))) }) h
next_spells Signed64 place bytes t h = taken_if (IsTaken Signed64 place bytes) (nat_le 8 (length bytes)) _ t (λ e. let some = leb-true 8 _ e in record { within = some; spells = (length-take-le 8 bytes some, ap (cast_signed w64) (big_from-take 0 8 8 bytes (omega arith))) }) h
next_spells (Plain n) place bytes t h = taken_if (IsTaken (Plain n) place bytes) (nat_le n (length bytes)) _ t (λ e. let some = leb-true n _ e in record { within = some; spells = (length-take-le n bytes some, refl) }) h
next_spells (Counted n) place bytes t h = taken_if (IsTaken (Counted n) place bytes) (nat_le (n + big_number n bytes) (length bytes)) _ t (λ e. let some = leb-true _ _ e in record { within = some; spells = counted_taken n bytes some }) h
next_spells Pathname place [] t h = absurd (cc)
next_spells Pathname place (kind ∷ bytes) t h = taken_if (IsTaken Pathname place (kind ∷ bytes)) (nat_le (path_size kind bytes) (length bytes) && is_none (path_fault kind (path_text kind bytes))) _ t
    (λ e.
    let both = and_parts (nat_le (path_size kind bytes) (length bytes)) _ e in
    pathname_taken kind place bytes (leb-true _ _ both.0) (none_from_is_none (path_fault kind (path_text kind bytes)) both.1)) h
next_spells Tail place bytes t h = let e : record { value = bytes; size = length bytes } ≡ t = cc in subst (IsTaken Tail place bytes) e (record { within = omega arith; spells = (take_all (length bytes) bytes (omega arith), drop_all (length bytes) bytes (omega arith)) })

-- what spells a word is taken
counted_next : (n : ℕ) (text bytes rest : List ℕ) → IsCountedText n text bytes → (big_number n (bytes ++ rest) ≡ length text) × (n + length text ≤ length (bytes ++ rest)) × (take (length text) (drop n (bytes ++ rest)) ≡ text)
counted_next n text bytes rest h = (
  big_from-append n bytes rest (omega (arith, h.length_is)) ∙ h.count_is,
  omega (arith, length-append bytes rest, h.length_is),
  rw (drop-append-le n bytes rest (omega (arith, h.length_is)), h.text_is) (take-append_seam text rest),
)

pathname_next : (p : PathValue) (place : ℕ) (first rest : List ℕ) → SpellsPathname p first → next Pathname place (first ++ rest) ≡ Some (record { value = p; size = length first })
unfolding next
pathname_next p place first rest h =
    let bytes = h.hint ++ (h.behind_hint ++ rest) in
    let same : first ++ rest ≡ p.kind ∷ bytes = rw h.whole (ap (λ (l : List ℕ). p.kind ∷ l) (append_assoc h.hint h.behind_hint rest)) in
    let behind : drop (hint_size p.kind) bytes ≡ h.behind_hint ++ rest = rw (← h.hint_length) (drop-append_seam h.hint (h.behind_hint ++ rest)) in
    let inner = counted_next (count_size p.kind) h.text h.behind_hint rest h.count in
    let count : path_count p.kind bytes ≡ length h.text = rw behind inner.0 in
    let size : path_size p.kind bytes ≡ hint_size p.kind + count_size p.kind + length h.text = ap (λ (n : ℕ). hint_size p.kind + count_size p.kind + n) count in
    let far : drop (hint_size p.kind + count_size p.kind) bytes ≡ drop (count_size p.kind) (h.behind_hint ++ rest) = sym (drop-drop (count_size p.kind) (hint_size p.kind) bytes) ∙ ap (drop (count_size p.kind)) behind in
    let text : path_text p.kind bytes ≡ h.text = rw (count, far) inner.2 in
    let some : nat_le (path_size p.kind bytes) (length bytes) ≡ true = le-leb _ _ (omega (arith, size, length-append h.hint (h.behind_hint ++ rest), h.hint_length, inner.1)) in
    let good : is_none (path_fault p.kind (path_text p.kind bytes)) ≡ true = rw (text, h.spells.no_fault) refl in
    let steps : path_steps p.kind (path_text p.kind bytes) ≡ p.steps = ap (path_steps p.kind) text ∙ h.spells.steps in
    let whole : 1 + path_size p.kind bytes ≡ length first = omega (arith, size, ap length h.whole, length-append h.hint h.behind_hint, h.hint_length, h.count.length_is) in
    rw (same, some, good, steps, whole) refl

pub spelling_next : (w : Word) (x : Value w) (place : ℕ) (first rest : List ℕ) → IsWordSpelling w x place first rest → next w place (first ++ rest) ≡ Some (record { value = x; size = length first })
unfolding next
spelling_next (Literal n) x place first rest h = rw (h, eq-eqb n n refl) refl
spelling_next Pad x place first rest h =
    let some : nat_le 1 (length (first ++ rest)) ≡ true = le-leb 1 _ (omega (arith, length-append first rest)) in
    rw (some, h) refl
spelling_next LastPad x place [] [] h = refl
spelling_next LastPad x place [] (b ∷ rest) (inl h) = absurd (omega arith)
spelling_next LastPad x place [] (b ∷ rest) (inr h) = absurd cc
spelling_next LastPad x place (b ∷ first) rest (inl h) = rw h refl
spelling_next LastPad x place (b ∷ first) rest (inr h) = absurd cc
spelling_next Even x place first rest h =
    let some : nat_le (place % 2) (length (first ++ rest)) ≡ true = le-leb (place % 2) _ (omega (arith, length-append first rest)) in
    rw (some, h) refl
spelling_next (Number n) x place first rest h =
    let some : nat_le n (length (first ++ rest)) ≡ true = le-leb n _ (omega (arith, length-append first rest, h.0)) in
    let number : big_number n (first ++ rest) ≡ x = big_from-append n first rest (omega (arith, h.0)) ∙ h.1 in
    rw (some, number, h.0) refl
spelling_next (Within n low high) x place first rest h =
    let some : nat_le n (length (first ++ rest)) ≡ true = le-leb n _ (omega (arith, length-append first rest, h.0)) in
    let number : big_number n (first ++ rest) ≡ x = big_from-append n first rest (omega (arith, h.0)) ∙ h.1 in
    rw (some, number, le-leb low x h.2, le-leb x high h.3, h.0) refl
spelling_next (Count n) x place first rest h =
    let some : nat_le n (length (first ++ rest)) ≡ true = le-leb n _ (omega (arith, length-append first rest, h.0)) in
    let number : big_number n (first ++ rest) ≡ x = big_from-append n first rest (omega (arith, h.0)) ∙ h.1 in
    rw (some, number, h.0) refl
spelling_next (Optional true n) (Some x) place first rest h =
    let some : nat_le n (length (first ++ rest)) ≡ true = le-leb n _ (omega (arith, length-append first rest, h.0)) in
    let number : big_number n (first ++ rest) ≡ x = big_from-append n first rest (omega (arith, h.0)) ∙ h.1 in
    rw (some, number, h.0) refl
spelling_next (Optional true n) None place first rest h = absurd h
spelling_next (Optional false n) (Some x) place first rest h = absurd h
spelling_next (Optional false n) None place first rest h = rw h refl
spelling_next Signed32 x place first rest h =
    let some : nat_le 4 (length (first ++ rest)) ≡ true = le-leb 4 _ (omega (arith, length-append first rest, h.0)) in
    let number : cast_signed w32 (big_number 4 (first ++ rest)) ≡ x = ap (cast_signed w32) (big_from-append 4 first rest (omega (arith, h.0))) ∙ h.1 in
    rw (some, number, h.0) refl
spelling_next Signed64 x place first rest h =
    let some : nat_le 8 (length (first ++ rest)) ≡ true = le-leb 8 _ (omega (arith, length-append first rest, h.0)) in
    let number : cast_signed w64 (big_number 8 (first ++ rest)) ≡ x = ap (cast_signed w64) (big_from-append 8 first rest (omega (arith, h.0))) ∙ h.1 in
    rw (some, number, h.0) refl
spelling_next (Plain n) x place first rest h =
    let some : nat_le n (length (first ++ rest)) ≡ true = le-leb n _ (omega (arith, length-append first rest, h.0)) in
    let text : take n (first ++ rest) ≡ x = rw (← h.0) (take-append_seam first rest ∙ h.1) in
    rw (some, text, h.0) refl
spelling_next (Counted n) x place first rest h =
    let inner = counted_next n x first rest h in
    let some : nat_le (n + length x) (length (first ++ rest)) ≡ true = le-leb (n + length x) _ inner.1 in
    rw (inner.0, some, inner.2, h.length_is) refl
spelling_next Pathname x place first rest h = pathname_next x place first rest h
spelling_next Tail x place first rest h = rw (h.0, h.1, append-nil) refl

-- the canonical bytes spell the word
counted_spells : (n : ℕ) (x : List ℕ) → length x < 256 ^ n → IsCountedText n x (big_bytes n (length x) ++ x)
counted_spells n x fits =
    let size = length-bytes_high_first n (length x) in
    let seam = drop-append_seam (big_bytes n (length x)) x in
    record {
      length_is = omega (arith, length-append (big_bytes n (length x)) x, size);
      count_is = big_number-reads_back n (length x) x fits;
      text_is = rw size at seam;
    }

number_spells : (n x : ℕ) → x < 256 ^ n → (length (big_bytes n x) ≡ n) × (big_number n (big_bytes n x) ≡ x)
number_spells n x typed =
    (length-bytes_high_first n x, rw (← append-nil (big_bytes n x)) (big_number-reads_back n x [] typed))

low_32 : (z : ℤ) → FitsSigned w32 z → cast_unsigned w32 z < 256 ^ 4
low_32 (pos n) h = omega (arith, ints, h)
low_32 (negsuc n) h = omega (arith, ints, h)

low_64 : (z : ℤ) → FitsSigned w64 z → cast_unsigned w64 z < 256 ^ 8
low_64 (pos n) h = omega (arith, ints, h)
low_64 (negsuc n) h = omega (arith, ints, h)

path_fits : (kind n : ℕ) (t : Bool) → (kind == 2) ≡ t → n ≤ longest_path kind → n < 256 ^ count_size kind
path_fits kind n true e h = rw e (let low = rw e at h in omega arith)
path_fits kind n false e h = rw e (let low = rw e at h in omega arith)

pub canonical_spells : (w : Word) (x : Value w) (place : ℕ) (rest : List ℕ) → IsTypedValue w x → CanSpell w x → (w ≡ Tail → rest ≡ []) → IsWordSpelling w x place (canonical w x place) rest
canonical_spells (Literal n) x place rest typed can ends = refl
canonical_spells Pad x place rest typed can ends = refl
canonical_spells LastPad x place rest typed can ends = inl refl
canonical_spells Even x place rest typed can ends = length-replicate (place % 2) 0
canonical_spells (Number n) x place rest typed can ends = number_spells n x typed
canonical_spells (Within n low high) x place rest typed can ends = let number = number_spells n x typed in (number.0, number.1, can.0, can.1)
canonical_spells (Count n) x place rest typed can ends = number_spells n x can
canonical_spells (Optional true n) (Some x) place rest typed can ends = number_spells n x typed
canonical_spells (Optional true n) None place rest typed can ends = absurd cc
canonical_spells (Optional false n) (Some x) place rest typed can ends = absurd cc
canonical_spells (Optional false n) None place rest typed can ends = refl
canonical_spells Signed32 x place rest typed can ends = let number = number_spells 4 (cast_unsigned w32 x) (low_32 x typed) in (number.0, ap (cast_signed w32) number.1 ∙ to_z-of_z w32 x typed)
canonical_spells Signed64 x place rest typed can ends = let number = number_spells 8 (cast_unsigned w64 x) (low_64 x typed) in (number.0, ap (cast_signed w64) number.1 ∙ to_z-of_z w64 x typed)
canonical_spells (Plain n) x place rest typed can ends = (can, refl)
canonical_spells (Counted n) x place rest typed can ends = counted_spells n x can
canonical_spells Pathname x place rest typed can ends =
    record {
      hint = replicate (hint_size x.kind) 0;
      text = canonical_path x;
      behind_hint = big_bytes (count_size x.kind) (length (canonical_path x)) ++ canonical_path x;
      whole = refl;
      hint_length = length-replicate (hint_size x.kind) 0;
      count = counted_spells (count_size x.kind) (canonical_path x) (path_fits x.kind (length (canonical_path x)) (x.kind == 2) refl typed.fits);
      spells = typed.spelt;
    }
canonical_spells Tail x place rest typed can ends = (refl, ends refl)

-- each is below 256
abbrev pub AreBytes : List ℕ → Type 0
AreBytes bytes = (i : ℕ) → get_or bytes i 0 < 256

-- what bytes spell can be spelt
pub spelling_can : (w : Word) (x : Value w) (place : ℕ) (first rest : List ℕ) → AreBytes first → IsWordSpelling w x place first rest → CanSpell w x
spelling_can (Within n low high) x place first rest small h = (h.2, h.3)
spelling_can (Count n) x place first rest small h = rw (← h.1) (rw (← h.0) (big_from-lt 0 (length first) first small))
spelling_can (Optional true n) (Some x) place first rest small h = refl
spelling_can (Optional true n) None place first rest small h = absurd h
spelling_can (Optional false n) (Some x) place first rest small h = absurd h
spelling_can (Optional false n) None place first rest small h = refl
spelling_can (Plain n) x place first rest small h = rw (← h.1) h.0
spelling_can (Counted n) x place first rest small h = rw (← h.count_is) (big_from-lt 0 n first small)
spelling_can (Literal n) x place first rest small h = tt
spelling_can Pad x place first rest small h = tt
spelling_can LastPad x place first rest small h = tt
spelling_can Even x place first rest small h = tt
spelling_can (Number n) x place first rest small h = tt
spelling_can Signed32 x place first rest small h = tt
spelling_can Signed64 x place first rest small h = tt
spelling_can Pathname x place first rest small h = tt
spelling_can Tail x place first rest small h = tt
