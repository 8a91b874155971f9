-- Paths, and the names that they go down to.
use Rattle.std.proofs.Common.{◌≡◌, ◌∙◌, ap, refl, ℕ, zero, suc, ◌+◌, ◌-◌, ◌<◌, arith, Bool, true, List, [], ◌∷◌, length, take, Some, None, add-one}
use Rattle.std.specs.Prelude.{option_map, slice_get}
use Rattle.std.specs.List.{list_all}
use Rattle.std.proofs.lemmas.Bool.{and_parts, and_from}
use Rattle.afp_names.specs.declared.path.Step.{Step}
use Rattle.afp_names.specs.declared.path.Step.TheVariants.{Up, Down}
use Rattle.volume_spec.specs.Walk.{before_down}

down-at : (steps : List Step) (n : ℕ) (name : List ℕ) → length steps ≡ suc n → slice_get steps n ≡ Some (Down name) → before_down steps ≡ Some (take n steps, name)
down-at [] n name long is = absurd (cc)
down-at (Up ∷ []) zero name long is = absurd (cc)
down-at (Down other ∷ []) zero name long is = let same : other ≡ name = cc in ap (λ (q : List ℕ). Some ([], q)) same
down-at (step ∷ []) (suc n) name long is = absurd (omega arith)
down-at (step ∷ next ∷ steps) zero name long is = absurd (omega arith)
down-at (Up ∷ next ∷ steps) (suc n) name long is = ap (λ o. option_map (λ (split : List Step × List ℕ). (Up ∷ split.0, split.1)) o) (down-at (next ∷ steps) n name (omega arith) is)
down-at (Down other ∷ next ∷ steps) (suc n) name long is = ap (λ o. option_map (λ (split : List Step × List ℕ). (Down other ∷ split.0, split.1)) o) (down-at (next ∷ steps) n name (omega arith) is)

up-at : (steps : List Step) (n : ℕ) → length steps ≡ suc n → slice_get steps n ≡ Some Up → before_down steps ≡ None
up-at [] n long is = absurd (cc)
up-at (Up ∷ []) zero long is = refl
up-at (Down other ∷ []) zero long is = absurd (cc)
up-at (step ∷ []) (suc n) long is = absurd (omega arith)
up-at (step ∷ next ∷ steps) zero long is = absurd (omega arith)
up-at (Up ∷ next ∷ steps) (suc n) long is = ap (λ o. option_map (λ (split : List Step × List ℕ). (Up ∷ split.0, split.1)) o) (up-at (next ∷ steps) n (omega arith) is)
up-at (Down other ∷ next ∷ steps) (suc n) long is = ap (λ o. option_map (λ (split : List Step × List ℕ). (Down other ∷ split.0, split.1)) o) (up-at (next ∷ steps) n (omega arith) is)

pub last-down-is : (steps : List Step) (name : List ℕ) → 0 < length steps → slice_get steps (length steps - 1) ≡ Some (Down name) → before_down steps ≡ Some (take (length steps - 1) steps, name)
last-down-is steps name some is = down-at steps (length steps - 1) name (omega arith) is

pub last-up-is : (steps : List Step) → 0 < length steps → slice_get steps (length steps - 1) ≡ Some Up → before_down steps ≡ None
last-up-is steps some is = up-at steps (length steps - 1) (omega arith) is

pub none-last : (steps : List Step) → length steps ≡ 0 → before_down steps ≡ None
none-last [] none = refl
none-last (step ∷ steps) none = absurd (omega arith)

-- what holds of the first elements and of the next one
pub all-next : {A : Type 0} (p : A → Bool) (xs : List A) (i : ℕ) (x : A) → slice_get xs i ≡ Some x → p x ≡ true → list_all p (take i xs) ≡ true → list_all p (take (i + 1) xs) ≡ true
all-next {A = A} p xs i x is passes h = ap (λ n. list_all p (take n xs)) (add-one i) ∙ go xs i is h
  where
    go : (ys : List A) (j : ℕ) → slice_get ys j ≡ Some x → list_all p (take j ys) ≡ true → list_all p (take (suc j) ys) ≡ true
    go [] j is h = refl
    go (y ∷ ys) zero is h = let same : y ≡ x = cc in and_from (p y) true (ap p same ∙ passes) refl
    go (y ∷ ys) (suc j) is h = let e = and_parts (p y) (list_all p (take j ys)) h in and_from (p y) (list_all p (take (suc j) ys)) e.0 (go ys j is e.1)
