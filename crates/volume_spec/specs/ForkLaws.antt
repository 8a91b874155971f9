-- The laws of the bytes of forks on a volume (this profile).
use Rattle.std.specs.Prelude.{◌≡◌, ◌≤◌, ℕ, pos, ◌+◌, ◌==◌, Bool, true, false, List, length, Some}
use Rattle.volume_spec.specs.ForkEffect.{fork_effect, fork_of, would_pass, written}
use Rattle.afp_base.specs.Limits.{most_fork_bytes}
use Rattle.volume_spec.specs.SoundVolume.{IsSoundVolume, fork_bytes, has_file}
use Rattle.volume_spec.specs.TypedVolume.{are_bytes, is_date, is_typed_volume}
use Rattle.volume_spec.specs.VolumeState.{Row, VolumeState}
use Rattle.volume_spec.specs.Walk.{row_at}

-- other bytes in the fork of a file, for which there is room, keep a volume sound, and its numbers in their ranges
abbrev pub ForkKeepsSound : Type 0
ForkKeepsSound = (v : VolumeState) (now id : ℕ) (resource writes : Bool) (bytes : List ℕ) (file : Row) → row_at v.rows id ≡ Some file → file.dir ≡ false → would_pass v (length (fork_of resource file)) (length bytes) ≡ false
    → IsSoundVolume v → IsSoundVolume (fork_effect now id resource bytes writes v)

abbrev pub ForkKeepsTyped : Type 0
ForkKeepsTyped = (v : VolumeState) (now id : ℕ) (resource writes : Bool) (bytes : List ℕ) → is_date (pos now) ≡ true → are_bytes bytes ≡ true → is_typed_volume v ≡ true → is_typed_volume (fork_effect now id resource bytes writes v) ≡ true

-- the file has the bytes then, and its other fork stays; so do all other nodes, and files are files
abbrev pub ForkIsGiven : Type 0
ForkIsGiven = (v : VolumeState) (now id : ℕ) (resource writes : Bool) (bytes : List ℕ) (file : Row) → row_at v.rows id ≡ Some file → row_at (fork_effect now id resource bytes writes v).rows id ≡ Some (written now resource bytes writes file)

abbrev pub ForkLeavesOthers : Type 0
ForkLeavesOthers = (v : VolumeState) (now id other : ℕ) (resource writes : Bool) (bytes : List ℕ) → (other == id) ≡ false → row_at (fork_effect now id resource bytes writes v).rows other ≡ row_at v.rows other

abbrev pub FilesStay : Type 0
FilesStay = (v : VolumeState) (now id other : ℕ) (resource writes : Bool) (bytes : List ℕ) → has_file (fork_effect now id resource bytes writes v).rows other ≡ has_file v.rows other

-- the bytes of all forks are as many as before, less those of the fork, and its new ones
abbrev pub ForkIsCounted : Type 0
ForkIsCounted = (v : VolumeState) (now id : ℕ) (resource writes : Bool) (bytes : List ℕ) (file : Row) → row_at v.rows id ≡ Some file → file.dir ≡ false → IsSoundVolume v
    → fork_bytes (fork_effect now id resource bytes writes v).rows + length (fork_of resource file) ≡ fork_bytes v.rows + length bytes

-- a fork has no more bytes than a volume may have, nor would it where there is room
abbrev pub ForksAreFew : Type 0
ForksAreFew = (v : VolumeState) (id : ℕ) (resource : Bool) (file : Row) → row_at v.rows id ≡ Some file → IsSoundVolume v → length (fork_of resource file) ≤ most_fork_bytes

abbrev pub RoomIsFew : Type 0
RoomIsFew = (v : VolumeState) (id : ℕ) (resource : Bool) (file : Row) (new : ℕ) → row_at v.rows id ≡ Some file → would_pass v (length (fork_of resource file)) new ≡ false → new ≤ most_fork_bytes
