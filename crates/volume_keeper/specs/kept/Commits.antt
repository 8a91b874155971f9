-- What becomes of a volume and its keeper where a plan is committed (this profile).
use Rattle.std.specs.Prelude.{◌≡◌, ◌==◌, true, false, length, Result, Ok, Err}
use Rattle.std.specs.List.{list_all}
use Rattle.record_keeper.specs.declared.keeper.KeeperFault.{KeeperFault}
use Rattle.record_keeper.specs.declared.keeper.KeeperFault.TheVariants as keeper
use Rattle.volume_spec.specs.Edit.{after_call}
use Rattle.volume_spec.specs.EditLaws.{MayEditAll}
use Rattle.volume_spec.specs.EditRanges.{is_typed_edit}
use Rattle.volume_spec.specs.VolumeState.{VolumeState}
use Rattle.volume_edits.specs.edits.Planned.{PlanValue, StandOn, edits_of}
use Rattle.volume_keeper.specs.kept.Changing.{FailsIn}
use Rattle.volume_keeper.specs.kept.Kept.{KeptState}

-- the edits of a plan may be made of a volume, and their numbers are in their ranges
pub record MayCommit (v : VolumeState) (plan : PlanValue) : Type 0 where
  pub may : MayEditAll v (edits_of plan.edits)
  pub before : StandOn v plan.edits
  pub typed : list_all is_typed_edit (edits_of plan.edits) ≡ true

-- a plan that has edits
abbrev pub HasEdits : PlanValue → Type 0
HasEdits plan = (length plan.edits == 0) ≡ false

-- A plan that is committed: the volume is the one behind it, which the keeper holds; or the keeper failed, or there is no memory, and the volume is as
-- before. A plan of no edits asks no keeper and wants no memory, so it is done.
abbrev pub Commits : KeptState → PlanValue → Result (Unit {0}) KeeperFault → KeptState → Type 0
Commits old plan (Ok done) new = new ≡ record old { state = after_call old.state plan.moment (edits_of plan.edits) }
Commits old plan (Err keeper.Failed) new = HasEdits plan × FailsIn old new × (new.settles ≡ old.settles)
Commits old plan (Err keeper.Memory) new = HasEdits plan × (new ≡ old)
