-- A reference that was forgotten is no open's.
use Rattle.std.proofs.Common.{◌≡◌, ◌∙◌, ap, refl, ℕ, ◌==◌, ◌||◌, false, not, List, [], ◌∷◌, inl, inr}
use Rattle.std.proofs.lemmas.Bool.{cases_Bool, cond-true, cond-false}
use Rattle.deny_modes.specs.Opens.{Open, has_reference, without_reference}

pub forgotten : (r : ℕ) (opens : List Open) → has_reference (without_reference r opens) r ≡ false
forgotten r [] = refl
forgotten r (o ∷ os) = elim (cases_Bool (o.reference == r)) [
  | inl here ↦
      ap (λ l. has_reference l r) (cond-false (not (o.reference == r)) (o ∷ without_reference r os) (without_reference r os) (ap not here)) ∙ forgotten r os
  | inr other ↦
      ap (λ l. has_reference l r) (cond-true (not (o.reference == r)) (o ∷ without_reference r os) (without_reference r os) (ap not other))
      ∙ ap (λ t. t || has_reference (without_reference r os) r) other ∙ forgotten r os
]
