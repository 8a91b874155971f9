-- One step of a walk, at a place of its steps.
use Rattle.std.proofs.Common.{◌≡◌, ◌∙◌, ap, refl, ℕ, zero, suc, ◌+◌, ◌≤◌, ◌<◌, true, false, List, [], ◌∷◌, length, take, drop, Some, None, arith}
use Rattle.std.specs.Prelude.{Ok, Err, slice_get}
use Rattle.std.proofs.lemmas.List.{drop_all}
use Rattle.afp_base.specs.declared.code.Code.{Code}
use Rattle.afp_base.specs.declared.code.Code.TheVariants.{AccessDenied, ObjectNotFound, DirNotFound}
use Rattle.afp_names.specs.declared.path.Step.{Step}
use Rattle.afp_names.specs.declared.path.Step.TheVariants.{Up, Down}
use Rattle.volume_spec.specs.VolumeState.{Row}
use Rattle.volume_spec.specs.Walk.{parent_at, child, failed_down, onward, unless_closed, walk_from}
use Rattle.volume_spec.specs.Rights.{is_closed}

-- the steps from a place are the step there and those behind it
at-place : {A : Type 0} (steps : List A) (i : ℕ) (step : A) → slice_get steps i ≡ Some step → drop i steps ≡ step ∷ drop (i + 1) steps
at-place [] i step is = absurd (cc)
at-place (s ∷ steps) zero step is = let same : s ≡ step = cc in ap (λ q. q ∷ steps) same
at-place (s ∷ steps) (suc i) step is = let next : suc (i + 1) ≡ suc i + 1 = omega arith in at-place steps i step is ∙ ap (λ n. step ∷ drop n (s ∷ steps)) next

-- the first steps are those steps
pub step-in : {A : Type 0} (n : ℕ) (xs : List A) (i : ℕ) → i < n → slice_get (take n xs) i ≡ slice_get xs i
step-in zero xs i within = absurd (omega arith)
step-in (suc n) [] i within = refl
step-in (suc n) (x ∷ xs) zero within = refl
step-in (suc n) (x ∷ xs) (suc i) within = step-in n xs i (omega arith)

-- what a failing step down is told
last-down : (missing : Code) (steps : List Step) (j : ℕ) → length steps ≤ j → failed_down missing (drop j steps) ≡ missing
last-down missing [] zero within = refl
last-down missing [] (suc j) within = refl
last-down missing (s ∷ steps) zero within = absurd (omega arith)
last-down missing (s ∷ steps) (suc j) within = last-down missing steps j (omega arith)

early-down : (missing : Code) (steps : List Step) (j : ℕ) → j < length steps → failed_down missing (drop j steps) ≡ DirNotFound
early-down missing [] j within = absurd (omega arith)
early-down missing (s ∷ steps) zero within = refl
early-down missing (s ∷ steps) (suc j) within = early-down missing steps j (omega arith)

module _ (rows : List Row) (user kind : ℕ) (missing : Code) (steps : List Step) (i here : ℕ) where
  pub goes-up : (up : ℕ) → slice_get steps i ≡ Some Up → parent_at rows here ≡ Some up → walk_from rows user kind missing (drop i steps) here ≡ walk_from rows user kind missing (drop (i + 1) steps) up
  goes-up up is found =
      ap (λ l. walk_from rows user kind missing l here) (at-place steps i Up is)
      ∙ ap (λ o. onward o ObjectNotFound (walk_from rows user kind missing (drop (i + 1) steps))) found

  pub stops-up : slice_get steps i ≡ Some Up → parent_at rows here ≡ None → walk_from rows user kind missing (drop i steps) here ≡ Err ObjectNotFound
  stops-up is found =
      ap (λ l. walk_from rows user kind missing l here) (at-place steps i Up is)
      ∙ ap (λ o. onward o ObjectNotFound (walk_from rows user kind missing (drop (i + 1) steps))) found

  pub stops-closed : (name : List ℕ) → slice_get steps i ≡ Some (Down name) → is_closed rows user here ≡ true → walk_from rows user kind missing (drop i steps) here ≡ Err AccessDenied
  stops-closed name is closed =
      ap (λ l. walk_from rows user kind missing l here) (at-place steps i (Down name) is)
      ∙ ap (λ b. unless_closed b (onward (child rows kind here name) (failed_down missing (drop (i + 1) steps)) (walk_from rows user kind missing (drop (i + 1) steps)))) closed

  pub goes-down : (name : List ℕ) (down : ℕ) → slice_get steps i ≡ Some (Down name) → is_closed rows user here ≡ false → child rows kind here name ≡ Some down → walk_from rows user kind missing (drop i steps) here ≡ walk_from rows user kind missing (drop (i + 1) steps) down
  goes-down name down is opens found =
      ap (λ l. walk_from rows user kind missing l here) (at-place steps i (Down name) is)
      ∙ ap (λ b. unless_closed b (onward (child rows kind here name) (failed_down missing (drop (i + 1) steps)) (walk_from rows user kind missing (drop (i + 1) steps)))) opens
      ∙ ap (λ o. onward o (failed_down missing (drop (i + 1) steps)) (walk_from rows user kind missing (drop (i + 1) steps))) found

  pub stops-down : (name : List ℕ) → slice_get steps i ≡ Some (Down name) → is_closed rows user here ≡ false → child rows kind here name ≡ None → length steps ≤ i + 1 → walk_from rows user kind missing (drop i steps) here ≡ Err missing
  stops-down name is opens found last =
      ap (λ l. walk_from rows user kind missing l here) (at-place steps i (Down name) is)
      ∙ ap (λ b. unless_closed b (onward (child rows kind here name) (failed_down missing (drop (i + 1) steps)) (walk_from rows user kind missing (drop (i + 1) steps)))) opens
      ∙ ap (λ o. onward o (failed_down missing (drop (i + 1) steps)) (walk_from rows user kind missing (drop (i + 1) steps))) found
      ∙ ap Err (last-down missing steps (i + 1) last)

  pub stops-early : (name : List ℕ) → slice_get steps i ≡ Some (Down name) → is_closed rows user here ≡ false → child rows kind here name ≡ None → i + 1 < length steps → walk_from rows user kind missing (drop i steps) here ≡ Err DirNotFound
  stops-early name is opens found early =
      ap (λ l. walk_from rows user kind missing l here) (at-place steps i (Down name) is)
      ∙ ap (λ b. unless_closed b (onward (child rows kind here name) (failed_down missing (drop (i + 1) steps)) (walk_from rows user kind missing (drop (i + 1) steps)))) opens
      ∙ ap (λ o. onward o (failed_down missing (drop (i + 1) steps)) (walk_from rows user kind missing (drop (i + 1) steps))) found
      ∙ ap Err (early-down missing steps (i + 1) early)

-- no step is left
pub no-steps : (rows : List Row) (user kind : ℕ) (missing : Code) (steps : List Step) (i here : ℕ) → length steps ≤ i → walk_from rows user kind missing (drop i steps) here ≡ Ok here
no-steps rows user kind missing steps i here past = ap (λ l. walk_from rows user kind missing l here) (drop_all i steps past)
