-- Volumes by their places, beside their keepers: which of them a session has open, for which user it calls, and what becomes of one (this profile).
use Rattle.std.specs.Prelude.{◌≡◌, ◌<◌, ◌+◌, ℕ, true, length, Option, Some, None, slice_get, slice_set}
use Rattle.afp_base.specs.Choice.{first_holding}
use Rattle.afp_base.specs.declared.code.Code.{Code}
use Rattle.afp_base.specs.declared.code.Code.TheVariants as code
use Rattle.afp_core_state.specs.KeptWorld.{KeptWorld}
use Rattle.session_table.specs.Sessions.{session_of}
use Rattle.afp_serial.specs.World.{plain, has_opened, user_of, Session}
use Rattle.afp_serial.specs.OnVolume.{on_volume}
use Rattle.volume_spec.specs.VolumeState.{VolumeState}
use Rattle.volume_keeper.specs.kept.Kept.{KeptState}
use Rattle.record_keeper.specs.Settling.{settled_in}

-- the session has opened the volume, which is at this index: ids count from 1
pub record IsOpenAt (k : KeptWorld) (number volume index : ℕ) : Type 0 where
  pub id : volume ≡ index + 1
  pub within : index < length k.world.volumes
  pub opened : (s : Session) → session_of k.world.sessions number ≡ Some s → has_opened s volume ≡ true

-- where that is so; else each call on the volume is refused
abbrev pub IsOpen : KeptWorld → ℕ → ℕ → Option ℕ → Type 0
IsOpen k number volume None =
    (s : Session) → session_of k.world.sessions number ≡ Some s → (refuses : VolumeState → Option Code)
    → first_holding (on_volume k.world s volume refuses) ≡ Some (plain code.ParamErr)
IsOpen k number volume (Some index) = IsOpenAt k number volume index

-- the user for whom the session of this number calls
abbrev pub IsUser : KeptWorld → ℕ → ℕ → Type 0
IsUser k number user = (s : Session) → session_of k.world.sessions number ≡ Some s → user ≡ user_of s

-- the volume at an index, with its keeper's count, whether the keeper is sure, and how many of its settles went well
pub record IsKeptAt (k : KeptWorld) (index : ℕ) (one : KeptState) : Type 0 where
  pub state : slice_get k.world.volumes index ≡ Some one.state
  pub faults : slice_get k.faults index ≡ Some one.faults
  pub sure : slice_get k.sure index ≡ Some one.sure
  pub settled : slice_get k.settled index ≡ Some (settled_in one.settles)

-- another one in its place
abbrev pub with_kept : KeptWorld → ℕ → KeptState → KeptWorld
with_kept k index one = record {
  world = record k.world { volumes = slice_set k.world.volumes index one.state };
  faults = slice_set k.faults index one.faults;
  sure = slice_set k.sure index one.sure;
  settled = slice_set k.settled index (settled_in one.settles);
}

-- the volume at an index and its keeper came to this, and all else is as before
pub record BecomesKept (k : KeptWorld) (index : ℕ) (becomes : KeptState → KeptState → Type 0) (new : KeptWorld) : Type 0 where
  pub old : KeptState
  pub one : KeptState
  pub was : IsKeptAt k index old
  pub is : becomes old one
  pub now : new ≡ with_kept k index one
