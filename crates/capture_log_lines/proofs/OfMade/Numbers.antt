-- A number in decimal is read as that number.
use Rattle.std.proofs.Common.{◌≡◌, ℕ, ◌+◌, ◌*◌, ◌-◌, ◌<◌, ◌≤◌, ◌^◌, Bool, true, false, List, [], ◌∷◌, ◌++◌, suc, zero, length, take, drop, get_or, refl, sym, ap, ◌∙◌, subst, cond, not, arith}
use Rattle.std.specs.Prelude.{◌==◌, ◌&&◌, ◌||◌, nat_le, if◌then◌else◌, slice_index, Option, Some, None}
use Rattle.std.specs.Cmp.Derive.{both_true}
use Rattle.std.specs.Fmt.{decimal}
use Rattle.std.specs.List.{list_all, before_first, after_first, position_or_len}
use Rattle.std.proofs.lemmas.Bool.{le-leb, leb-true, ne_eqb}
use Rattle.std.proofs.lemmas.Fmt.{first_decimal, decimal_digit, decimal_nonempty, digits_decimal, digits_value-decimal}
use Rattle.std.proofs.lemmas.Str.Parse.{IsDigitsTest, FoldsDigits, IsNumeralModel, numerals_by_fold}
use Rattle.std.proofs.Math.Seq.{take-append_seam, drop-append_seam, drop-append-add}
use Rattle.afp_base.proofs.Facts.{left_true, right_true, or-true}
use Rattle.line_words.specs.Numbers.{is_digit, is_decimal, value_behind, number_in}
use Rattle.line_words.specs.Words.{is_space}

AreDigits : List ℕ → Type 0
AreDigits ds = list_all is_digit ds ≡ true

tells : IsDigitsTest (λ ds. list_all is_digit ds ≡ true)
tells = record {
  empty = refl;
  parts = λ c cs e. let k = left_true (is_digit c) (list_all is_digit cs) e in ((leb-true 48 c (left_true _ _ k), leb-true c 57 (right_true _ _ k)), right_true (is_digit c) (list_all is_digit cs) e);
  more = λ c cs k e. both_true (both_true (le-leb 48 c k.0) (le-leb c 57 k.1)) e;
}

folds : FoldsDigits value_behind
folds = record { empty = λ n. refl; more = λ n c cs k. refl }

model : IsNumeralModel (λ ds. list_all is_digit ds ≡ true) (value_behind 0)
model = numerals_by_fold (λ ds. list_all is_digit ds ≡ true) tells value_behind folds

are-digits : (n : ℕ) → n < 2 ^ 64 → list_all is_digit (decimal n) ≡ true
are-digits n h = digits_decimal model n h

value-is : (n : ℕ) → n < 2 ^ 64 → value_behind 0 (decimal n) ≡ n
value-is n h = digits_value-decimal model n h

no-lead : (n : ℕ) → n < 2 ^ 64 → (length (decimal n) == 1 || not (slice_index (decimal n) 0 == 48)) ≡ true
no-lead zero h = ap (λ (ds : List ℕ). length ds == 1 || not (slice_index ds 0 == 48)) (decimal_digit 0 (omega arith))
no-lead (suc n) h =
    let first = first_decimal (suc n) (omega arith) h in
    let other : (slice_index (decimal (suc n)) 0 == 48) ≡ false = ne_eqb (slice_index (decimal (suc n)) 0) 48 (λ e. omega (arith, first, e)) in
    ap (λ (b : Bool). length (decimal (suc n)) == 1 || not b) other ∙ or-true (length (decimal (suc n)) == 1)

some-digit : (n : ℕ) → n < 2 ^ 64 → not (length (decimal n) == 0) ≡ true
some-digit n h = let some = decimal_nonempty n h in ap not (ne_eqb (length (decimal n)) 0 (λ e. omega (arith, some, e)))

if-true : {X : Type 0} (b : Bool) (x y : X) → b ≡ true → (if b then x else y) ≡ x
if-true true x y e = refl
if-true false x y e = absurd (cc e)

pub number-read : (most n : ℕ) → n ≤ most → n < 2 ^ 64 → number_in most (decimal n) ≡ Some n
number-read most n l h =
    let below : nat_le (value_behind 0 (decimal n)) most ≡ true = le-leb (value_behind 0 (decimal n)) most (omega (arith, l, value-is n h)) in
    if-true (is_decimal (decimal n) && nat_le (value_behind 0 (decimal n)) most) (Some (value_behind 0 (decimal n))) None
    (both_true (both_true (both_true (some-digit n h) (are-digits n h)) (no-lead n h)) below)
    ∙ ap Some (value-is n h)

-- a word, and what stands behind the space behind it

NoSpace : List ℕ → Type 0
NoSpace [] = Unit {0}
NoSpace (b ∷ bs) = (is_space b ≡ false) × NoSpace bs

digits-no_space : (ds : List ℕ) → list_all is_digit ds ≡ true → NoSpace ds
unfolding NoSpace
digits-no_space [] a = tt
digits-no_space (c ∷ cs) a =
    let k = left_true (is_digit c) (list_all is_digit cs) a in
    let low = leb-true 48 c (left_true _ _ k) in
    (ne_eqb c 32 (λ e. omega (arith, low, e)), digits-no_space cs (right_true (is_digit c) (list_all is_digit cs) a))

first-space : (w r : List ℕ) → NoSpace w → position_or_len is_space (w ++ 32 ∷ r) ≡ length w
unfolding NoSpace
first-space [] r s = refl
first-space (b ∷ w) r s =
    let e : 1 + length w ≡ suc (length w) = omega arith in
    ap (λ (t : Bool). cond (not t) (1 + position_or_len is_space (w ++ 32 ∷ r)) 0) s.0 ∙ (ap (λ (n : ℕ). 1 + n) (first-space w r s.1) ∙ e)

pub number-before : (n : ℕ) (r : List ℕ) → n < 2 ^ 64 → before_first is_space (decimal n ++ 32 ∷ r) ≡ decimal n
number-before n r h = ap (λ (k : ℕ). take k (decimal n ++ 32 ∷ r)) (first-space (decimal n) r (digits-no_space (decimal n) (are-digits n h))) ∙ take-append_seam (decimal n) (32 ∷ r)

pub number-after : (n : ℕ) (r : List ℕ) → n < 2 ^ 64 → after_first is_space (decimal n ++ 32 ∷ r) ≡ r
number-after n r h =
    ap (λ (k : ℕ). drop (k + 1) (decimal n ++ 32 ∷ r)) (first-space (decimal n) r (digits-no_space (decimal n) (are-digits n h))) ∙ drop-append-add (decimal n) (32 ∷ r) 1
