-- What the rows of calls on an open fork share (this profile).
use Rattle.std.specs.Prelude.{◌≡◌, ◌<◌, ◌+◌, ℕ, true, length, Option, Some, None, slice_get}
use Rattle.afp_core_state.specs.KeptWorld.{KeptWorld}
use Rattle.afp_core_state.specs.declared.on_fork.OwnFork.{OwnFork}
use Rattle.afp_serial.specs.OnFork.{OpenFile, open_file}
use Rattle.afp_serial.specs.World.{is_open, Session}
use Rattle.volume_spec.specs.SoundVolume.{has_file}
use Rattle.volume_spec.specs.Walk.{row_at}

-- The reference is open in the session of this number, and its fork is this one, of the volume at the index: ids count from 1. Its node is a file.
pub record IsForkAt (k : KeptWorld) (number reference : ℕ) (own : OwnFork) : Type 0 where
  pub file : OpenFile
  pub found : (s : Session) → s.number ≡ number → open_file k.world s reference ≡ Some file
  pub within : own.index < length k.world.volumes
  pub volume : slice_get k.world.volumes own.index ≡ Some file.volume
  pub id : own.fork.volume ≡ own.index + 1
  pub node : row_at file.volume.rows own.fork.node ≡ Some file.file
  pub is_file : has_file file.volume.rows own.fork.node ≡ true
  pub reference_is : file.fork.reference ≡ reference
  pub session_is : file.fork.session ≡ number
  pub fork_is : file.fork.fork ≡ own.fork
  pub access_is : file.fork.access ≡ own.mode
  pub is_open : is_open k.world.opens reference ≡ true

-- where that is so; else no session of this number has such a fork
abbrev pub IsFork : KeptWorld → ℕ → ℕ → Option OwnFork → Type 0
IsFork k number reference None = (s : Session) → s.number ≡ number → open_file k.world s reference ≡ None
IsFork k number reference (Some own) = IsForkAt k number reference own
