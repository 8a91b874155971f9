-- The first that holds, and the first that is found, of what a function gives for the numbers from a on.
use Rattle.std.proofs.Common.{◌≡◌, ℕ, zero, suc, ◌+◌, ◌<◌, ◌≤◌, Bool, true, false, map, refl, sym, subst, arith, inl, inr}
use Rattle.std.specs.Prelude.{Some, None}
use Rattle.std.specs.List.{find, range_with_len}
use Rattle.std.proofs.lemmas.Bool.{cases_order}
use Rattle.afp_base.specs.Choice.{first_holding}

pub first_of-none : {A : Type 0} (f : ℕ → Bool × A) (a n : ℕ) → ((k : ℕ) → a ≤ k → k < a + n → (f k).0 ≡ false) → first_holding (map f (range_with_len a n)) ≡ None
first_of-none f a zero h = refl
first_of-none f a (suc n) h = rw (h a (omega arith) (omega arith)) (first_of-none f (a + 1) n (λ k lo hi. h k (omega arith) (omega arith)))

pub first_of-at : {A : Type 0} (f : ℕ → Bool × A) (a n w : ℕ) → a ≤ w → w < a + n → ((k : ℕ) → a ≤ k → k < w → (f k).0 ≡ false) → (f w).0 ≡ true → first_holding (map f (range_with_len a n)) ≡ Some (f w).1
first_of-at f a zero w lo hi before hit = absurd (omega arith)
first_of-at {A = A} f a (suc n) w lo hi before hit =
    elim (cases_order a w) [
      | inl same ↦ let P : ℕ → Type 0 = λ x. first_holding (map f (range_with_len a (suc n))) ≡ Some (f x).1 in
          let Q : ℕ → Type 0 = λ x. (f x).0 ≡ true in
          let here : (f a).0 ≡ true = subst Q (sym same) hit in
          subst P same (rw here refl)
      | inr (inl less) ↦ rw (before a (omega arith) less) (first_of-at f (a + 1) n w (omega arith) (omega arith) (λ k l h. before k (omega arith) h) hit)
      | inr (inr more) ↦ absurd (omega arith)
    ]

pub find_of-none : {A : Type 0} (p : A → Bool) (g : ℕ → A) (a n : ℕ) → ((k : ℕ) → a ≤ k → k < a + n → p (g k) ≡ false) → find p (map g (range_with_len a n)) ≡ None
find_of-none p g a zero h = refl
find_of-none p g a (suc n) h = rw (h a (omega arith) (omega arith)) (find_of-none p g (a + 1) n (λ k lo hi. h k (omega arith) (omega arith)))

pub find_of-at : {A : Type 0} (p : A → Bool) (g : ℕ → A) (a n w : ℕ) → a ≤ w → w < a + n → ((k : ℕ) → a ≤ k → k < w → p (g k) ≡ false) → p (g w) ≡ true → find p (map g (range_with_len a n)) ≡ Some (g w)
find_of-at p g a zero w lo hi before hit = absurd (omega arith)
find_of-at {A = A} p g a (suc n) w lo hi before hit =
    elim (cases_order a w) [
      | inl same ↦ let P : ℕ → Type 0 = λ x. find p (map g (range_with_len a (suc n))) ≡ Some (g x) in
          let Q : ℕ → Type 0 = λ x. p (g x) ≡ true in
          let here : p (g a) ≡ true = subst Q (sym same) hit in
          subst P same (rw here refl)
      | inr (inl less) ↦ rw (before a (omega arith) less) (find_of-at p g (a + 1) n w (omega arith) (omega arith) (λ k l h. before k (omega arith) h) hit)
      | inr (inr more) ↦ absurd (omega arith)
    ]
