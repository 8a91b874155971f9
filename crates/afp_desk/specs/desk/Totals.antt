-- Sums over all seats, and lists of places.
use Rattle.std.specs.Prelude.{ℕ, ◌+◌, ◌==◌, Bool, true, false, List, [], ◌∷◌}
use Rattle.std.specs.Prelude.{nat_le}

-- the sum over a list
abbrev pub total : {A : Type 0} → (A → ℕ) → List A → ℕ
total f [] = 0
total f (x ∷ xs) = f x + total f xs

-- 1 or 0
abbrev pub one_if : Bool → ℕ
one_if true = 1
one_if false = 0

-- how often k stands in the list
abbrev pub times : ℕ → List ℕ → ℕ
times k [] = 0
times k (x ∷ xs) = one_if (k == x) + times k xs

-- by whether x comes first
abbrev pub insert_if : Bool → ℕ → ℕ → List ℕ → List ℕ → List ℕ
insert_if true x y ys more = x ∷ y ∷ ys
insert_if false x y ys more = y ∷ more

-- the list with x before the first that is not smaller
abbrev pub insert : ℕ → List ℕ → List ℕ
insert x [] = x ∷ []
insert x (y ∷ ys) = insert_if (nat_le x y) x y ys (insert x ys)

-- two rising lists as one
abbrev pub merge : List ℕ → List ℕ → List ℕ
merge [] ys = ys
merge (x ∷ xs) ys = insert x (merge xs ys)
