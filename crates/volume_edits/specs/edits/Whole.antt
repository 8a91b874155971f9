-- A volume with its desktop database, as contracts see it (the form is this profile's).
use Rattle.std.specs.Prelude.{ℕ}
use Rattle.volume_spec.specs.VolumeState.{VolumeState}

-- a whole volume; and room: so many nodes, and so many elements of any one list of the desktop database, can be added with no memory
pub record VolumeValue : Type 0 where
  pub state : VolumeState
  pub spare : ℕ
