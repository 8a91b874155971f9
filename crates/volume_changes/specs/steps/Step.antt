-- A volume before a plan of it and behind it, as contracts see both (the form is this profile's).
use Rattle.volume_spec.specs.VolumeState.{VolumeState}

pub record StepValue : Type 0 where
  pub before : VolumeState
  pub after : VolumeState
