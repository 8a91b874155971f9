-- The plan of a write of a fork (this profile).
use Rattle.std.specs.Prelude.{◌≡◌, ◌∷◌, [], ℕ, Bool, true, Some, Result, Ok, Err}
use Rattle.fork_bytes.specs.Plan.{ForkWriteState}
use Rattle.volume_spec.specs.Edit.{Writes}
use Rattle.volume_spec.specs.EditLaws.{MayWrite}
use Rattle.volume_spec.specs.TypedVolume.{are_bytes}
use Rattle.volume_spec.specs.VolumeState.{VolumeState}
use Rattle.volume_tree.specs.Shown.{fork_at}
use Rattle.volume_tree.specs.declared.resolve.PlanFault.{PlanFault}
use Rattle.volume_tree.specs.declared.resolve.PlanFault.TheVariants as fault
use Rattle.volume_edits.specs.edits.Planned.{PlanValue}

-- a write of a fork of a file as it is, which may be made, and whose bytes are in their range
pub record IsWriteOf (v : VolumeState) (id : ℕ) (resource : Bool) (write : ForkWriteState) : Type 0 where
  pub may : MayWrite v id resource write.after
  pub before : fork_at v.rows id resource ≡ Some write.before
  pub typed : are_bytes write.after ≡ true

-- the plan of one write of a fork
abbrev pub plan_of_write : ℕ → ℕ → Bool → ForkWriteState → PlanValue
plan_of_write now id resource write = record { moment = now; edits = record { edit = Writes now id resource write.after; before = write.before } ∷ [] }

-- such a plan, or there was no memory
abbrev pub IsPlannedWrite : ℕ → ℕ → Bool → ForkWriteState → Result PlanValue PlanFault → Type 0
IsPlannedWrite now id resource write (Ok plan) = plan ≡ plan_of_write now id resource write
IsPlannedWrite now id resource write (Err (fault.Code code)) = ⊥
IsPlannedWrite now id resource write (Err fault.Memory) = Unit {0}
