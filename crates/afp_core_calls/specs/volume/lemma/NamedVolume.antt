-- What the code goes by where a volume is found by its name; no public contract cites it.
use Rattle.std.specs.Prelude.{◌≡◌, ℕ, List, Some}
use Rattle.afp_serial.specs.World.{World, volume_at}
use Rattle.volume_spec.specs.VolumeState.{VolumeState}
use Rattle.afp_serial.specs.OpenVol.{volume_named}

-- the id is that of the volume with exactly that name, which is there
pub record IsNamed (w : World) (name : List ℕ) (id : ℕ) : Type 0 where
  pub named : volume_named w name ≡ Some id
  pub state : VolumeState
  pub there : volume_at w.volumes id ≡ Some state
