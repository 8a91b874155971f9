-- What other bytes of a fork do to a volume (AFP Reference, "FPWrite", "FPSetForkParms"; whose dates change is this profile's).
use Rattle.std.specs.Prelude.{ℕ, pos, ◌+◌, nat_lt, Bool, if◌then◌else◌, List}
use Rattle.volume_spec.specs.Edits.{with_changed}
use Rattle.afp_base.specs.Limits.{most_fork_bytes}
use Rattle.volume_spec.specs.SoundVolume.{fork_bytes}
use Rattle.volume_spec.specs.VolumeState.{Row, VolumeState}

-- the bytes of a fork of a file: of its resource fork, or of its data fork (AFP Reference, "File forks")
abbrev pub fork_of : Bool → Row → List ℕ
fork_of resource row = if resource then row.resource_fork else row.data_fork

-- a row with other bytes in a fork; where some are written or the length changes, with another modified date
abbrev pub written : ℕ → Bool → List ℕ → Bool → Row → Row
written now resource bytes writes row = record row {
  modified = if writes then pos now else row.modified;
  data_fork = if resource then row.data_fork else bytes;
  resource_fork = if resource then bytes else row.resource_fork;
}

-- a volume with other bytes in a fork of a file, and then its modified date
unfoldable pub fork_effect : ℕ → ℕ → Bool → List ℕ → Bool → VolumeState → VolumeState
fork_effect now id resource bytes writes v = record v { modified = if writes then pos now else v.modified; rows = with_changed id (written now resource bytes writes) v.rows }

-- whether the bytes of all forks would pass the total of the volume, if a fork of so many bytes had so many others (this profile)
unfoldable pub would_pass : VolumeState → ℕ → ℕ → Bool
would_pass v old new = nat_lt (most_fork_bytes + old) (fork_bytes v.rows + new)
