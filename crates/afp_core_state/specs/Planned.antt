-- A call that was planned of a volume comes to its end: its plan is committed to the volume's keeper and carried out, or it was refused (this profile).
use Rattle.std.specs.Prelude.{◌≡◌, ℕ, false, List, Result, Ok, Err, Some, slice_get}
use Rattle.afp_base.specs.declared.bytes.OutOfMemory.{OutOfMemory}
use Rattle.afp_base.specs.declared.code.Code.TheVariants as code
use Rattle.afp_core_state.specs.KeptWorld.{KeptWorld}
use Rattle.afp_core_state.specs.OnVolumes.{BecomesKept}
use Rattle.afp_core_state.specs.Running.{done}
use Rattle.afp_serial.specs.Answer.{refusal_reply}
use Rattle.afp_serial.specs.declared.ask.Outcome.{Outcome}
use Rattle.afp_serial.specs.declared.ask.Outcome.TheVariants as outcome
use Rattle.afp_serial.specs.declared.ask.Told.{Told}
use Rattle.afp_serial.specs.declared.ask.Told.TheVariants.{Reply}
use Rattle.record_keeper.specs.declared.keeper.KeeperFault.{KeeperFault}
use Rattle.record_keeper.specs.declared.keeper.KeeperFault.TheVariants as keeper
use Rattle.volume_edits.specs.edits.Planned.{PlanValue}
use Rattle.volume_keeper.specs.kept.Commits.{Commits, MayCommit}
use Rattle.volume_spec.specs.VolumeState.{VolumeState}
use Rattle.volume_tree.specs.declared.resolve.PlanFault.{PlanFault}
use Rattle.volume_tree.specs.declared.resolve.PlanFault.TheVariants as fault

-- the plan may be committed to the volume at an index
abbrev pub MayCommitAt : KeptWorld → ℕ → PlanValue → Type 0
MayCommitAt k index plan = (v : VolumeState) → slice_get k.world.volumes index ≡ Some v → MayCommit v plan

-- what is told of a commit, by these bytes where it went well
abbrev pub TellsCommitted : Result (Unit {0}) KeeperFault → List ℕ → Result (Told × Outcome) OutOfMemory → Type 0
TellsCommitted (Ok committed) block (Ok r) = r ≡ done (Reply code.Ok block false)
TellsCommitted (Ok committed) block (Err e) = ⊥
TellsCommitted (Err keeper.Failed) block (Ok r) = r ≡ (refusal_reply code.MiscErr, outcome.Fault)
TellsCommitted (Err keeper.Failed) block (Err e) = ⊥
TellsCommitted (Err keeper.Memory) block (Ok r) = ⊥
TellsCommitted (Err keeper.Memory) block (Err e) = Unit {0}

-- a plan that was committed, with what is told of that
pub record RunsCommit (k : KeptWorld) (index : ℕ) (plan : PlanValue) (block : List ℕ) (result : Result (Told × Outcome) OutOfMemory) (new : KeptWorld) : Type 0 where
  pub answer : Result (Unit {0}) KeeperFault
  pub becomes : BecomesKept k index (λ old one. Commits old plan answer one) new
  pub tells : TellsCommitted answer block result

-- A planned call is carried out, or told why it is refused; without memory nothing changes.
abbrev pub RunsPlan : KeptWorld → ℕ → Result PlanValue PlanFault → List ℕ → Result (Told × Outcome) OutOfMemory → KeptWorld → Type 0
RunsPlan k index (Ok plan) block result new = RunsCommit k index plan block result new
RunsPlan k index (Err (fault.Code code)) block (Ok r) new = (r ≡ done (refusal_reply code)) × (new ≡ k)
RunsPlan k index (Err (fault.Code code)) block (Err e) new = ⊥
RunsPlan k index (Err fault.Memory) block (Ok r) new = ⊥
RunsPlan k index (Err fault.Memory) block (Err e) new = new ≡ k
