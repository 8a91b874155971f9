-- Lists in order (AFP Reference, "Enumerate", leaves it free; this profile has the order of the keys' bytes).
use Rattle.std.specs.Prelude.{ℕ, nat_lt, ◌&&◌, Bool, true, List, [], ◌∷◌, if◌then◌else◌}
use Rattle.std.specs.List.{list_all}
use Rattle.std.specs.Ordering.{nat_cmp, is_lt}
use Rattle.std.specs.Cmp.Lexicographic.{slice_cmp}

-- whether a key stands before another in the order of their bytes
abbrev pub stands_before : List ℕ → List ℕ → Bool
stands_before a b = is_lt (slice_cmp nat_cmp a b)

-- a list with one element more, before the first whose key is higher
abbrev pub put_in : {A : Type 0} → (A → List ℕ) → A → List A → List A
put_in key x [] = x ∷ []
put_in key x (y ∷ ys) = if stands_before (key x) (key y) then x ∷ y ∷ ys else y ∷ put_in key x ys

-- a list in the order of its keys
abbrev pub in_order : {A : Type 0} → (A → List ℕ) → List A → List A
in_order key [] = []
in_order key (x ∷ xs) = put_in key x (in_order key xs)

-- whether each key stands before all behind it
abbrev pub rises : {A : Type 0} → (A → List ℕ) → List A → Bool
rises key [] = true
rises key (x ∷ xs) = list_all (λ y. stands_before (key x) (key y)) xs && rises key xs

-- whether the numbers of elements rise, each above the one before it, and the first above this one
abbrev pub rises_from : {A : Type 0} → (A → ℕ) → ℕ → List A → Bool
rises_from number low [] = true
rises_from number low (x ∷ xs) = nat_lt low (number x) && rises_from number (number x) xs
