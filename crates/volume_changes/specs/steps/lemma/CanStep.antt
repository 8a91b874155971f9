-- What a step goes by beside what contracts see; no public contract cites it.
use Rattle.std.specs.Prelude.{List}
use Rattle.volume_spec.specs.EditLaws.{MayEditAll}
use Rattle.volume_spec.specs.VolumeState.{VolumeState}
use Rattle.volume_edits.specs.edits.Planned.{EditValue, StandOn, edits_of}

-- the edits may be made, and a write of a fork stands on the fork as it is
pub record CanStep (v : VolumeState) (edits : List EditValue) : Type 0 where
  pub may : MayEditAll v (edits_of edits)
  pub before : StandOn v edits
