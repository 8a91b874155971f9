-- Lists in which each element stands in a relation to all behind it.
use Rattle.std.proofs.Common.{◌≡◌, ◌∙◌, ℕ, ◌+◌, ◌<◌, ◌≤◌, Bool, true, false, cond, not, List, [], ◌∷◌, map, refl, arith}
use Rattle.std.specs.Prelude.{nat_lt, fold, sum_by}
use Rattle.std.specs.List.{list_all, list_any, filter}
use Rattle.std.proofs.lemmas.Bool.{and_from, lt-ltb, ltb-true, not_from_false}
use Rattle.std.proofs.lemmas.List.Folds.{list_all-map}
use Rattle.volume_spec.specs.Order.{rises, rises_from, stands_before}
use Rattle.afp_base.specs.Apart.{are_apart}
use Rattle.afp_base.proofs.Facts.{left_true, right_true}
use Rattle.afp_base.proofs.ListFacts.{all-weaker, any-none}

abbrev pub Chain : {A : Type 0} → (A → A → Bool) → List A → Type 0
Chain R [] = Unit {0}
Chain R (x ∷ xs) = (list_all (R x) xs ≡ true) × Chain R xs

pub chain-more : {A : Type 0} (R S : A → A → Bool) (p : A → Bool) (xs : List A) → ((x y : A) → p x ≡ true → p y ≡ true → R x y ≡ true → S x y ≡ true) → list_all p xs ≡ true → Chain R xs → Chain S xs
chain-more R S p [] h a c = tt
chain-more {A} R S p (x ∷ xs) h a c = (each xs (right_true _ _ a) c.0, chain-more R S p xs h (right_true _ _ a) c.1)
  where
    each : (ys : List A) → list_all p ys ≡ true → list_all (R x) ys ≡ true → list_all (S x) ys ≡ true
    each [] b e = refl
    each (y ∷ ys) b e = and_from _ _ (h x y (left_true _ _ a) (left_true _ _ b) (left_true _ _ e)) (each ys (right_true _ _ b) (right_true _ _ e))

pub all-filter : {A : Type 0} (p q : A → Bool) (xs : List A) → list_all q xs ≡ true → list_all q (filter p xs) ≡ true
all-filter p q [] e = refl
all-filter p q (x ∷ xs) e = elim (p x) as (λ b. list_all q (cond b (x ∷ filter p xs) (filter p xs)) ≡ true) [
  | true ↦ and_from (q x) (list_all q (filter p xs)) (left_true (q x) (list_all q xs) e) (all-filter p q xs (right_true (q x) (list_all q xs) e))
  | false ↦ all-filter p q xs (right_true (q x) (list_all q xs) e)
]

pub chain-filter : {A : Type 0} (R : A → A → Bool) (p : A → Bool) (xs : List A) → Chain R xs → Chain R (filter p xs)
chain-filter R p [] c = tt
chain-filter R p (x ∷ xs) c = elim (p x) as (λ b. Chain R (cond b (x ∷ filter p xs) (filter p xs))) [
  | true ↦ (all-filter p (R x) xs c.0, chain-filter R p xs c.1)
  | false ↦ chain-filter R p xs c.1
]

pub chain-map : {A B : Type 0} (R : B → B → Bool) (f : A → B) (xs : List A) → Chain (λ x y. R (f x) (f y)) xs → Chain R (map f xs)
chain-map R f [] c = tt
chain-map R f (x ∷ xs) c = (list_all-map (R (f x)) f xs ∙ c.0, chain-map R f xs c.1)

-- the last element: all stand at most at it
pub top : {A : Type 0} (R le : A → A → Bool) → ((a b : A) → R a b ≡ true → le a b ≡ true) → ((a : A) → le a a ≡ true) → (x : A) (xs : List A) → Chain R (x ∷ xs)
    → (m : A) × (list_all (λ o. le o m) (x ∷ xs) ≡ true) × ((p : A → Bool) → list_all p (x ∷ xs) ≡ true → p m ≡ true)
top R le h s x [] c = (x, and_from _ _ (s x) refl, λ p e. left_true _ _ e)
top R le h s x (y ∷ ys) c =
    let t = top R le h s y ys c.1 in
    (t.0, and_from (le x t.0) (list_all (λ o. le o t.0) (y ∷ ys)) (h x t.0 (t.2 (R x) c.0)) t.1, λ p e. t.2 p (right_true (p x) (list_all p (y ∷ ys)) e))

-- ---- sums

pub sum-cons : {A : Type 0} (f : A → ℕ) (xs : List A) (a : ℕ) → fold (λ b x. b + f x) a xs ≡ a + sum_by f xs
sum-cons f [] a = omega arith
sum-cons f (x ∷ xs) a = let l = sum-cons f xs (a + f x) in let r = sum-cons f xs (0 + f x) in omega (arith, l, r)

pub sum-filter : {A : Type 0} (f : A → ℕ) (p : A → Bool) (xs : List A) → sum_by f (filter p xs) ≤ sum_by f xs
sum-filter f p [] = omega arith
sum-filter f p (x ∷ xs) =
    let rest = sum-filter f p xs in
    let all = sum-cons f xs (0 + f x) in
    let some = sum-cons f (filter p xs) (0 + f x) in
    elim (p x) as (λ b. sum_by f (cond b (x ∷ filter p xs) (filter p xs)) ≤ sum_by f (x ∷ xs)) [ true ↦ omega (arith, rest, all, some) | false ↦ omega (arith, rest, all) ]

pub sum-map : {A B : Type 0} (f : B → ℕ) (g : A → B) (h : A → ℕ) (xs : List A) → ((x : A) → f (g x) ≡ h x) → sum_by f (map g xs) ≡ sum_by h xs
sum-map f g h [] e = refl
sum-map f g h (x ∷ xs) e =
    let rest = sum-map f g h xs e in
    let here = e x in
    let left = sum-cons f (map g xs) (0 + f (g x)) in
    let right = sum-cons h xs (0 + h x) in
    omega (arith, rest, here, left, right)

-- ---- the orders of a volume's lists

pub rises-chain : {A : Type 0} (key : A → List ℕ) (xs : List A) → rises key xs ≡ true → Chain (λ x y. stands_before (key x) (key y)) xs
rises-chain key [] e = tt
rises-chain key (x ∷ xs) e = (left_true (list_all (λ y. stands_before (key x) (key y)) xs) (rises key xs) e, rises-chain key xs (right_true (list_all (λ y. stands_before (key x) (key y)) xs) (rises key xs) e))

pub chain-rises : {A : Type 0} (key : A → List ℕ) (xs : List A) → Chain (λ x y. stands_before (key x) (key y)) xs → rises key xs ≡ true
chain-rises key [] c = refl
chain-rises key (x ∷ xs) c = and_from (list_all (λ y. stands_before (key x) (key y)) xs) (rises key xs) c.0 (chain-rises key xs c.1)

lower : {A : Type 0} (f : A → ℕ) (low n : ℕ) (xs : List A) → low < n → list_all (λ y. nat_lt n (f y)) xs ≡ true → list_all (λ y. nat_lt low (f y)) xs ≡ true
lower f low n xs h e = all-weaker (λ y. nat_lt n (f y)) (λ y. nat_lt low (f y)) xs (λ y t. let l : n < f y = ltb-true _ _ t in lt-ltb _ _ (omega arith)) e

pub from-all : {A : Type 0} (f : A → ℕ) (low : ℕ) (xs : List A) → rises_from f low xs ≡ true → (list_all (λ y. nat_lt low (f y)) xs ≡ true) × Chain (λ x y. nat_lt (f x) (f y)) xs
from-all f low [] e = (refl, tt)
from-all f low (x ∷ xs) e =
    let first = left_true (nat_lt low (f x)) (rises_from f (f x) xs) e in
    let rest = from-all f (f x) xs (right_true (nat_lt low (f x)) (rises_from f (f x) xs) e) in
    (and_from (nat_lt low (f x)) (list_all (λ y. nat_lt low (f y)) xs) first (lower f low (f x) xs (ltb-true _ _ first) rest.0), (rest.0, rest.1))

pub all-from : {A : Type 0} (f : A → ℕ) (low : ℕ) (xs : List A) → list_all (λ y. nat_lt low (f y)) xs ≡ true → Chain (λ x y. nat_lt (f x) (f y)) xs → rises_from f low xs ≡ true
all-from f low [] a c = refl
all-from f low (x ∷ xs) a c = and_from (nat_lt low (f x)) (rises_from f (f x) xs) (left_true (nat_lt low (f x)) (list_all (λ y. nat_lt low (f y)) xs) a) (all-from f (f x) xs c.0 c.1)

-- what stands in an order is apart
pub chain-apart : {A : Type 0} (R alike : A → A → Bool) → ((a b : A) → R a b ≡ true → alike a b ≡ false) → (xs : List A) → Chain R xs → are_apart alike xs ≡ true
chain-apart R alike h [] c = refl
chain-apart R alike h (x ∷ xs) c =
    and_from (not (list_any (alike x) xs)) (are_apart alike xs)
    (not_from_false _ (any-none (alike x) xs (all-weaker (R x) (λ y. not (alike x y)) xs (λ y e. not_from_false _ (h x y e)) c.0)))
    (chain-apart R alike h xs c.1)
