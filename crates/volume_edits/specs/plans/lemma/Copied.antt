-- Files that are copied; no public contract cites it.
use Rattle.std.specs.Prelude.{◌≡◌, ◌≤◌, true}
use Rattle.afp_base.specs.Limits.{most_fork_bytes}
use Rattle.volume_spec.specs.SoundVolume.{is_formed, row_bytes}
use Rattle.volume_spec.specs.TypedVolume.{is_typed_row}
use Rattle.volume_spec.specs.VolumeState.{Row}

-- what holds of each row of a volume
pub record IsCopied (row : Row) : Type 0 where
  pub formed : is_formed row ≡ true
  pub typed : is_typed_row row ≡ true
  pub few : row_bytes row ≤ most_fork_bytes
