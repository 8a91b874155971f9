-- Sums over all seats, after one seat's view changed.
use Rattle.std.proofs.Common.{◌≡◌, ◌≢◌, ℕ, zero, suc, ◌+◌, ◌<◌, ◌≤◌, eqb, eq-eqb, ne_eqb, Bool, true, false, true≢false, ⊎_elim, List, [], ◌∷◌, ◌++◌, set, refl, sym, ap, ◌∙◌, arith}
use Rattle.std.specs.Prelude.{nat_le}
use Rattle.std.proofs.lemmas.Bool.{leb-true}
use Rattle.std.proofs.lemmas.Bool.Decides.{leb_tells, nat_tests}
use Rattle.afp_desk.specs.desk.Rule.{one_between}
use mathlib.Core.Option.{some, some-injective, some-ne-none}
use mathlib.Core.Logic.{dite}
use native.Mathlib.Decide.{ℕ_discrete}
use lib.ListN.{get_elem?}
use Rattle.afp_serial.specs.Shown.{Rising}
use Rattle.afp_serial.proofs.Grows.{rising-bound}
use Rattle.afp_desk.specs.desk.Totals.{total, one_if, times, insert, insert_if, merge}

pub leb-false : (a b : ℕ) → nat_le a b ≡ false → b < a
leb-false a b is = ⊎_elim (λ (t : (nat_le a b ≡ true) × (a ≤ b)). let e : true ≡ false = sym t.0 ∙ is in absurd (true≢false e)) (λ (t : (nat_le a b ≡ false) × (b < a)). t.1) (leb_tells a b)

module _ {A : Type 0} (f : A → ℕ) where
  pub total-set : (xs : List A) (i : ℕ) (v w : A) → get_elem? xs i ≡ some v → total f (set xs i w) + f v ≡ total f xs + f w
  total-set [] i v w e = absurd (some-ne-none v (sym e))
  total-set (x ∷ xs) zero v w e = let same : f x ≡ f v = ap f (some-injective x v e) in omega arith
  total-set (x ∷ xs) (suc i) v w e = let rest = total-set xs i v w e in omega arith

  pub total-snoc : (xs : List A) (w : A) → total f (xs ++ w ∷ []) ≡ total f xs + f w
  total-snoc [] w = omega arith
  total-snoc (x ∷ xs) w = let rest = total-snoc xs w in omega arith

  pub total-one : (xs : List A) (i : ℕ) (v : A) → get_elem? xs i ≡ some v → f v ≤ total f xs
  total-one [] i v e = absurd (some-ne-none v (sym e))
  total-one (x ∷ xs) zero v e = let same : f x ≡ f v = ap f (some-injective x v e) in omega arith
  total-one (x ∷ xs) (suc i) v e = let rest = total-one xs i v e in omega arith

  pub total-two : (xs : List A) (i j : ℕ) (v w : A) → i ≢ j → get_elem? xs i ≡ some v → get_elem? xs j ≡ some w → f v + f w ≤ total f xs
  total-two [] i j v w n e d = absurd (some-ne-none v (sym e))
  total-two (x ∷ xs) zero zero v w n e d = absurd (n refl)
  total-two (x ∷ xs) zero (suc j) v w n e d = let same : f x ≡ f v = ap f (some-injective x v e) in let rest = total-one xs j w d in omega arith
  total-two (x ∷ xs) (suc i) zero v w n e d = let same : f x ≡ f w = ap f (some-injective x w d) in let rest = total-one xs i v e in omega arith
  total-two (x ∷ xs) (suc i) (suc j) v w n e d = let rest = total-two xs i j v w (λ s. n (ap suc s)) e d in omega arith

-- what each has at most is had at most in all
pub total-less : {A : Type 0} (f g : A → ℕ) (xs : List A) → ((i : ℕ) (v : A) → get_elem? xs i ≡ some v → f v ≤ g v) → total f xs ≤ total g xs
total-less f g [] h = omega arith
total-less f g (x ∷ xs) h = let here = h 0 x refl in let rest = total-less f g xs (λ i v e. h (suc i) v e) in omega arith

pub one-same : (k j : ℕ) → k ≡ j → one_if (eqb k j) ≡ 1
one-same k j e = ap one_if (eq-eqb k j e)

pub one-other : (k j : ℕ) → k ≢ j → one_if (eqb k j) ≡ 0
one-other k j n = ap one_if (ne_eqb k j n)

pub times-append : (k : ℕ) (xs ys : List ℕ) → times k (xs ++ ys) ≡ times k xs + times k ys
times-append k [] ys = omega arith
times-append k (x ∷ xs) ys = let rest = times-append k xs ys in omega arith

-- a place below the first of a rising list is not in it
pub times-below : (from : ℕ) (xs : List ℕ) (n k : ℕ) → Rising from xs n → k < from → times k xs ≡ 0
times-below from [] n k r l = refl
times-below from (x ∷ xs) n k r l = let here = one-other k x (λ e. omega arith) in let rest = times-below (x + 1) xs n k r.1 (omega arith) in omega arith

pub times-insert : (k x : ℕ) (ys : List ℕ) → times k (insert x ys) ≡ one_if (eqb k x) + times k ys
times-insert k x [] = refl
times-insert k x (y ∷ ys) = by_cases (nat_le x y) (times-insert k x ys)
  where
    by_cases : (b : Bool) → times k (insert x ys) ≡ one_if (eqb k x) + times k ys → times k (insert_if b x y ys (insert x ys)) ≡ one_if (eqb k x) + (one_if (eqb k y) + times k ys)
    by_cases true rest = refl
    by_cases false rest = omega arith

pub times-merge : (k : ℕ) (xs ys : List ℕ) → times k (merge xs ys) ≡ times k xs + times k ys
times-merge k [] ys = omega arith
times-merge k (x ∷ xs) ys = let rest = times-merge k xs ys in let here = times-insert k x (merge xs ys) in omega arith

pub rising-lower : (low from : ℕ) (xs : List ℕ) (n : ℕ) → low ≤ from → Rising from xs n → Rising low xs n
rising-lower low from [] n l r = omega arith
rising-lower low from (x ∷ xs) n l r = (omega arith, r.1)

pub rising-insert : (from x : ℕ) (ys : List ℕ) (n : ℕ) → from ≤ x → x < n → times x ys ≡ 0 → Rising from ys n → Rising from (insert x ys) n
rising-insert from x [] n l b none r = (l, omega arith)
rising-insert from x (y ∷ ys) n l b none r = by_cases (nat_le x y) refl (λ (h : y + 1 ≤ x). rising-insert (y + 1) x ys n h b (omega arith) r.1)
  where
    apart : x ≢ y
    apart e = let here = one-same x y e in omega arith

    by_cases : (t : Bool) → nat_le x y ≡ t → (y + 1 ≤ x → Rising (y + 1) (insert x ys) n) → Rising from (insert_if t x y ys (insert x ys)) n
    by_cases true is rest = let le : x ≤ y = leb-true x y is in let ne : x ≢ y = apart in (l, (omega arith, r.1))
    by_cases false is rest = (r.0, rest (let gt : y < x = leb-false x y is in omega arith))

pub rising-merge : (from : ℕ) (xs ys : List ℕ) (n : ℕ) → Rising from xs n → Rising from ys n → ((k : ℕ) → times k xs + times k ys ≤ 1) → Rising from (merge xs ys) n
rising-merge from [] ys n r s apart = s
rising-merge from (x ∷ xs) ys n r s apart =
    let below = rising-bound (x + 1) xs n r.1 in
    let rest = rising-merge from xs ys n (rising-lower from (x + 1) xs n (omega arith) r.1) s (λ k. let a = apart k in omega arith) in
    let not_after = times-below (x + 1) xs n x r.1 (omega arith) in
    let not_there = apart x in
    let here = one-same x x refl in
    rising-insert from x (merge xs ys) n r.0 (omega arith) (omega (arith, times-merge x xs ys)) rest

pub between-in : (from to k : ℕ) → from ≤ k → k < to → one_between from to k ≡ 1
between-in from to k a b = grind (arith, nat_tests)

pub between-drawn : (from to k : ℕ) → from ≤ to → one_between from (to + 1) k ≡ one_between from to k + one_if (eqb k to)
between-drawn from to k a = grind (arith, nat_tests)

pub between-served : (from to k : ℕ) → from < to → one_between from to k ≡ one_between (from + 1) to k + one_if (eqb k from)
between-served from to k a = grind (arith, nat_tests)

pub between-range : (from to k : ℕ) → 1 ≤ one_between from to k → (from ≤ k) × (k < to)
between-range from to k a = (grind (arith, nat_tests), grind (arith, nat_tests))

pub between-most : (from to k : ℕ) → one_between from to k ≤ 1
between-most from to k = grind (arith, nat_tests)

pub between-none : (from k : ℕ) → one_between from from k ≡ 0
between-none from k = grind (arith, nat_tests)

-- a place at or above the bound is not in a rising list
pub times-above : (from : ℕ) (xs : List ℕ) (n k : ℕ) → Rising from xs n → n ≤ k → times k xs ≡ 0
times-above from [] n k r l = refl
times-above from (x ∷ xs) n k r l = let b = rising-bound (x + 1) xs n r.1 in let here = one-other k x (λ e. omega arith) in let rest = times-above (x + 1) xs n k r.1 l in omega arith

total-none : {A : Type 0} (f : A → ℕ) (xs : List A) → ((j : ℕ) (u : A) → get_elem? xs j ≡ some u → f u ≡ 0) → total f xs ≡ 0
total-none f [] h = refl
total-none f (x ∷ xs) h = let here = h 0 x refl in let rest = total-none f xs (λ j u e. h (suc j) u e) in omega arith

pub total-alone : {A : Type 0} (f : A → ℕ) (xs : List A) (i : ℕ) (v : A) → get_elem? xs i ≡ some v → ((j : ℕ) (u : A) → j ≢ i → get_elem? xs j ≡ some u → f u ≡ 0) → total f xs ≡ f v
total-alone f [] i v e h = absurd (some-ne-none v (sym e))
total-alone f (x ∷ xs) zero v e h = let same : f x ≡ f v = ap f (some-injective x v e) in let rest = total-none f xs (λ j u d. h (suc j) u (λ n. omega arith) d) in omega arith
total-alone f (x ∷ xs) (suc i) v e h = let here = h 0 x (λ n. omega arith) refl in let rest = total-alone f xs i v e (λ j u n d. h (suc j) u (λ m. n (omega arith)) d) in omega arith

-- a rising list has no place twice
pub times-most : (from : ℕ) (xs : List ℕ) (n k : ℕ) → Rising from xs n → times k xs ≤ 1
times-most from [] n k r = omega arith
times-most from (x ∷ xs) n k r = dite (ℕ_discrete k x)
    (λ e. let rest = times-below (x + 1) xs n k r.1 (omega arith) in let here = one-same k x e in omega arith)
    (λ ne. let rest = times-most (x + 1) xs n k r.1 in let here = one-other k x ne in omega arith)
