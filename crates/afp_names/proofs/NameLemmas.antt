-- What decides that bytes are a name, and how a key is made step by step.
use Rattle.std.proofs.Common.{◌≡◌, ℕ, ◌<◌, ◌≤◌, ◌==◌, ◌↔◌, Bool, true, false, nat_lt, List, length, map, All, get_or, Some, None, IsUtf8, chars, encode_utf8_all, refl, sym, ap, ◌∙◌, arith}
use Rattle.std.specs.List.{list_any}
use Rattle.std.specs.Str.{IsAscii, is_utf8}
use Rattle.std.proofs.lemmas.Bool.{both_ways, eq-eqb, ne_eqb, false_from_ne_true}
use Rattle.std.proofs.lemmas.Bool.Decides.{nat_tests}
use Rattle.std.proofs.lemmas.List.Elements.{All-from_get_or, All-weaker}
use Rattle.std.proofs.lemmas.List.Folds.{list_any_at, list_any_none}
use Rattle.std.proofs.lemmas.Str.Ascii.{All-from_ascii, IsAscii-map, encodes-IsAscii, lowercase_ascii}
use Rattle.std.specs.Char.{to_ascii_lowercase}
use Rattle.std.proofs.lemmas.Str.{chars-IsAscii, chars_from_encodes, is_utf8-from_IsUtf8, IsUtf8-from_is_utf8}
use Rattle.unicode_normalization.specs.Forms.{nfd}
use Rattle.caseless.proofs.CaselessLemmas.{canonical_key-ascii, default_case_fold-ascii}
use Rattle.caseless.specs.Caseless.{default_case_fold}
use Rattle.afp_names.specs.declared.name.NameFault.TheVariants.{Empty, TooLong, HasNul, NotUtf8}
use Rattle.afp_names.specs.Name.{name_fault, IsName, name_key, longest_name}

pub name_fault-empty : (bs : List ℕ) → (length bs == 0) ≡ true → name_fault bs ≡ Some Empty
unfolding name_fault
name_fault-empty bs e = rw e refl

pub name_fault-long : (bs : List ℕ) → (length bs == 0) ≡ false → longest_name < length bs → name_fault bs ≡ Some TooLong
unfolding name_fault
name_fault-long bs some long = let over : nat_lt longest_name (length bs) ≡ true = grind (arith, nat_tests) in rw (some, over) refl

pub name_fault-zero : (bs : List ℕ) → (length bs == 0) ≡ false → length bs ≤ longest_name → list_any (λ byte. byte == 0) bs ≡ true → name_fault bs ≡ Some HasNul
unfolding name_fault
name_fault-zero bs some short zero = let within : nat_lt longest_name (length bs) ≡ false = grind (arith, nat_tests) in rw (some, within, zero) refl

pub name_fault-text : (bs : List ℕ) → (length bs == 0) ≡ false → length bs ≤ longest_name → list_any (λ byte. byte == 0) bs ≡ false → is_utf8 bs ≡ false → name_fault bs ≡ Some NotUtf8
unfolding name_fault
name_fault-text bs some short no_zero text = let within : nat_lt longest_name (length bs) ≡ false = grind (arith, nat_tests) in rw (some, within, no_zero, text) refl

pub name_fault-none : (bs : List ℕ) → (length bs == 0) ≡ false → length bs ≤ longest_name → list_any (λ byte. byte == 0) bs ≡ false → is_utf8 bs ≡ true → name_fault bs ≡ None
unfolding name_fault
name_fault-none bs some short no_zero text = let within : nat_lt longest_name (length bs) ≡ false = grind (arith, nat_tests) in rw (some, within, no_zero, text) refl

pub is_utf8-not : (bs : List ℕ) → (IsUtf8 bs → ⊥) → is_utf8 bs ≡ false
is_utf8-not bs h = false_from_ne_true (is_utf8 bs) (λ e. h (IsUtf8-from_is_utf8 bs e))

-- the key of n in three steps, each over the text that the step before made
pub name_key-steps : (n d f k : List ℕ) → IsUtf8 d → IsUtf8 f → d ≡ encode_utf8_all (nfd (chars n)) → f ≡ encode_utf8_all (default_case_fold (chars d)) → k ≡ encode_utf8_all (nfd (chars f)) → k ≡ name_key n
name_key-steps n d f k du fu de fe ke =
    let dc : nfd (chars n) ≡ chars d = chars_from_encodes (nfd (chars n)) d du (sym de) in
    let fc : default_case_fold (chars d) ≡ chars f = chars_from_encodes (default_case_fold (chars d)) f fu (sym fe) in
    rw (dc, fc) ke

-- the parts of a name that its type keeps
pub name_fault-parts : (bs : List ℕ) → name_fault bs ≡ None → (0 < length bs) × (length bs ≤ longest_name) × (list_any (λ byte. byte == 0) bs ≡ false)
unfolding name_fault
name_fault-parts bs h = parts (length bs == 0) (nat_lt longest_name (length bs)) (list_any (λ byte. byte == 0) bs) refl refl refl h
  where
    parts : (e l z : Bool) → (length bs == 0) ≡ e → nat_lt longest_name (length bs) ≡ l → list_any (λ byte. byte == 0) bs ≡ z → name_fault bs ≡ None → (0 < length bs) × (length bs ≤ longest_name) × (list_any (λ byte. byte == 0) bs ≡ false)
    parts true l z ee le ze h = absurd (let k = sym (name_fault-empty bs ee) ∙ h in cc)
    parts false true z ee le ze h = absurd (let long : longest_name < length bs = grind (arith, nat_tests) in let k = sym (name_fault-long bs ee long) ∙ h in cc)
    parts false false true ee le ze h = absurd (let short : length bs ≤ longest_name = grind (arith, nat_tests) in let k = sym (name_fault-zero bs ee short ze) ∙ h in cc)
    parts false false false ee le ze h = (grind (arith, nat_tests), grind (arith, nat_tests), ze)

pub IsName-from_none : (bs : List ℕ) → name_fault bs ≡ None → IsUtf8 bs → IsName bs
IsName-from_none bs h text =
    let parts = name_fault-parts bs h in
    record { not_empty = parts.0; short = parts.1; no_zero = All-from_get_or (λ byte. byte ≡ 0 → ⊥) bs 0 (λ i within e. both_ways (list_any (λ byte. byte == 0) bs) parts.2 (list_any_at (λ byte. byte == 0) bs i 0 within (eq-eqb (get_or bs i 0) 0 e))); utf8 = text }

none_by : (t : Bool) (bs : List ℕ) → is_utf8 bs ≡ t → name_fault bs ≡ None → IsUtf8 bs
none_by true bs e h = IsUtf8-from_is_utf8 bs e
none_by false bs e h =
    let parts = name_fault-parts bs h in
    let some : (length bs == 0) ≡ false = ne_eqb (length bs) 0 (λ z. omega (arith, parts.0)) in
    absurd (let bad = sym (name_fault-text bs some parts.1 parts.2 e) ∙ h in cc)

-- the bytes of a name have no fault, and bytes with no fault are a name's
pub name_fault-IsName : (bs : List ℕ) → (name_fault bs ≡ None) ↔ IsName bs
name_fault-IsName bs = (
  λ h. IsName-from_none bs h (none_by (is_utf8 bs) bs refl h),
  λ name. name_fault-none bs (ne_eqb (length bs) 0 (λ z. omega (arith, name.not_empty))) name.short (list_any_none (λ byte. byte == 0) bs (All-weaker (λ byte. byte ≡ 0 → ⊥) (λ byte. (byte == 0) ≡ false) (λ byte h. ne_eqb byte 0 h) bs name.no_zero)) (is_utf8-from_IsUtf8 bs name.utf8),
)

pub name_fault-none_from : (bs : List ℕ) → (0 < length bs) × (length bs ≤ longest_name) × (list_any (λ byte. byte == 0) bs ≡ false) → IsUtf8 bs → name_fault bs ≡ None
name_fault-none_from bs parts text = name_fault-none bs (ne_eqb (length bs) 0 (λ z. omega (arith, parts.0))) parts.1 parts.2 (is_utf8-from_IsUtf8 bs text)

-- the key of a name of ASCII characters alone
pub ascii_name_key : (n : List ℕ) → IsAscii n → name_key n ≡ map to_ascii_lowercase n
ascii_name_key n ascii =
    let all : All (λ c. c < 128) n = All-from_ascii n ascii in
    ap (λ l. encode_utf8_all (nfd (default_case_fold (nfd l)))) (chars-IsAscii n ascii)
    ∙ ap encode_utf8_all (canonical_key-ascii n all ∙ default_case_fold-ascii n all)
    ∙ encodes-IsAscii (map to_ascii_lowercase n) (IsAscii-map to_ascii_lowercase n lowercase_ascii ascii)
