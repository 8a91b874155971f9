-- What the code and the proofs go by beside Whole; no public contract cites it.
use Rattle.std.specs.Prelude.{◌≡◌, true}
use Rattle.volume_spec.specs.SoundVolume.{IsSoundVolume}
use Rattle.volume_spec.specs.TypedVolume.{is_typed_volume}
use Rattle.volume_spec.specs.VolumeState.{VolumeState}

-- what holds of a whole volume
pub record IsWhole (v : VolumeState) : Type 0 where
  pub sound : IsSoundVolume v
  pub typed : is_typed_volume v ≡ true
