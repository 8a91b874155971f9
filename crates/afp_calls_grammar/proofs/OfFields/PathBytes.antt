-- The bytes of a path, step by step.
use Rattle.std.proofs.Common.{◌≡◌, ℕ, zero, suc, ◌+◌, ◌≤◌, List, [], ◌∷◌, ◌++◌, length, drop, Option, Some, None, refl, sym, ◌∙◌, slice_get, add-one}
use Rattle.std.proofs.lemmas.List.{append-nil, append_assoc, drop_all}
use Rattle.afp_names.specs.declared.path.Step.{Step}
use Rattle.afp_names.specs.Path.{PathValue, step_bytes, steps_bytes, canonical_path}

step_first : (steps : List Step) (i : ℕ) (step : Step) → slice_get steps i ≡ Some step → drop i steps ≡ step ∷ drop (suc i) steps
step_first [] i step h = absurd cc
step_first (s ∷ steps) zero step h = let same : s ≡ step = cc in rw same refl
step_first (s ∷ steps) (suc i) step h = step_first steps i step h

-- a step more has been put
pub step_put : (kind : ℕ) (before : Option Step) (steps : List Step) (i : ℕ) (step : Step) (bytes out whole : List ℕ) → slice_get steps i ≡ Some step → out ≡ bytes ++ step_bytes kind before step → bytes ++ steps_bytes kind before (drop i steps) ≡ whole → out ++ steps_bytes kind (Some step) (drop (i + 1) steps) ≡ whole
step_put kind before steps i step bytes out whole is put so_far =
    let first : drop i steps ≡ step ∷ drop (suc i) steps = step_first steps i step is in
    let all : bytes ++ (step_bytes kind before step ++ steps_bytes kind (Some step) (drop (suc i) steps)) ≡ whole = rw first at so_far in
    rw (put, add-one i, append_assoc) all

pub none_put : (p : PathValue) (kind : ℕ) (bytes : List ℕ) → kind ≡ p.kind → bytes ≡ [] → bytes ++ steps_bytes kind None (drop 0 p.steps) ≡ canonical_path p
unfolding canonical_path
none_put p kind bytes is h = rw (is, h) refl

pub all_put : (kind : ℕ) (before : Option Step) (steps : List Step) (i : ℕ) (bytes whole : List ℕ) → length steps ≤ i → bytes ++ steps_bytes kind before (drop i steps) ≡ whole → bytes ≡ whole
all_put kind before steps i bytes whole end so_far =
    let rest : drop i steps ≡ [] = drop_all i steps end in
    sym (append-nil bytes) ∙ (rw rest at so_far)
