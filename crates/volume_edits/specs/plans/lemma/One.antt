-- Plans of a few edits, and of none; no public contract cites it.
use Rattle.std.specs.Prelude.{◌≡◌, ℕ, pos, true, List, Result, Ok, Err}
use Rattle.volume_spec.specs.EditLaws.{CallsMayEdit}
use Rattle.volume_spec.specs.EditRanges.{CallsBringTyped}
use Rattle.volume_spec.specs.SoundVolume.{IsSoundVolume}
use Rattle.volume_spec.specs.TypedVolume.{is_date, is_long, is_typed_volume}
use Rattle.volume_spec.specs.VolumeState.{VolumeState}
use Rattle.volume_edits.specs.edits.Planned.{EditValue, PlanValue}
use Rattle.volume_tree.specs.declared.resolve.PlanFault.{PlanFault}
use Rattle.volume_tree.specs.declared.resolve.PlanFault.TheVariants as fault

-- what holds of every call, and of a volume, a user and a moment
pub record Holds (v : VolumeState) (user now : ℕ) : Type 0 where
  pub may : CallsMayEdit
  pub bring : CallsBringTyped
  pub long : is_long user ≡ true
  pub date : is_date (pos now) ≡ true
  pub sound : IsSoundVolume v
  pub typed : is_typed_volume v ≡ true

-- a plan of these edits at a moment
pub record HasEdits (now : ℕ) (wanted : List EditValue) (plan : PlanValue) : Type 0 where
  pub moment : plan.moment ≡ now
  pub edits : plan.edits ≡ wanted

-- such a plan, or there was no memory
abbrev pub IsPlanOf : ℕ → List EditValue → Result PlanValue PlanFault → Type 0
IsPlanOf now edits (Ok plan) = HasEdits now edits plan
IsPlanOf now edits (Err (fault.Code code)) = ⊥
IsPlanOf now edits (Err fault.Memory) = Unit {0}
