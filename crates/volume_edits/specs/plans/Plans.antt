-- The plan of a call (the form is this profile's).
use Rattle.std.specs.Prelude.{◌≡◌, ℕ, true}
use Rattle.std.specs.List.{list_all}
use Rattle.volume_spec.specs.EditLaws.{MayEditAll}
use Rattle.volume_spec.specs.EditRanges.{is_typed_edit}
use Rattle.volume_spec.specs.VolumeCalls.{VolumeCall, call_edits}
use Rattle.volume_spec.specs.VolumeState.{VolumeState}
use Rattle.volume_edits.specs.edits.Planned.{PlanValue, StandOn, edits_of}

-- a plan has the edits of a call of a user at a moment; they may be made, and their numbers are in their ranges
pub record Plans (v : VolumeState) (user now : ℕ) (call : VolumeCall) (plan : PlanValue) : Type 0 where
  pub moment : plan.moment ≡ now
  pub edits : edits_of plan.edits ≡ call_edits v user now call
  pub may : MayEditAll v (edits_of plan.edits)
  pub before : StandOn v plan.edits
  pub typed : list_all is_typed_edit (edits_of plan.edits) ≡ true
