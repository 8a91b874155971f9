-- Plans that give a fork of a file other bytes (this profile).
use Rattle.std.specs.Prelude.{◌≡◌, ℕ, Bool, true, false, if◌then◌else◌, List, length, Result, Ok, Err}
use Rattle.afp_base.specs.declared.code.Code.TheVariants.{DiskFull}
use Rattle.volume_spec.specs.Edit.{after_call}
use Rattle.volume_spec.specs.ForkEffect.{fork_effect, would_pass}
use Rattle.volume_spec.specs.VolumeState.{VolumeState}
use Rattle.volume_edits.specs.edits.Planned.{PlanValue, edits_of}
use Rattle.volume_keeper.specs.kept.Commits.{HasEdits}
use Rattle.volume_tree.specs.declared.resolve.PlanFault.{PlanFault}
use Rattle.volume_tree.specs.declared.resolve.PlanFault.TheVariants as fault

-- a volume with other bytes in a fork of a file; where none is written and their number stays, nothing changes
abbrev pub given : ℕ → ℕ → Bool → Bool → List ℕ → VolumeState → VolumeState
given now id resource writes bytes v = if writes then fork_effect now id resource bytes true v else v

-- a plan that gives a fork other bytes, of some that it has: they pass no total; behind the plan the fork has them; and it has an edit only where something
-- changes
pub record GivesBytes (v : VolumeState) (now id : ℕ) (resource writes : Bool) (before after : List ℕ) (plan : PlanValue) : Type 0 where
  pub room : would_pass v (length before) (length after) ≡ false
  pub effect : after_call v plan.moment (edits_of plan.edits) ≡ given now id resource writes after v
  pub some : HasEdits plan → writes ≡ true

-- such a plan, or the bytes of all forks would pass the total, or there was no memory
abbrev pub PlansBytes : VolumeState → ℕ → ℕ → Bool → Bool → List ℕ → List ℕ → Result PlanValue PlanFault → Type 0
PlansBytes v now id resource writes before after (Ok plan) = GivesBytes v now id resource writes before after plan
PlansBytes v now id resource writes before after (Err (fault.Code code)) = (would_pass v (length before) (length after) ≡ true) × (code ≡ DiskFull)
PlansBytes v now id resource writes before after (Err fault.Memory) = Unit {0}
