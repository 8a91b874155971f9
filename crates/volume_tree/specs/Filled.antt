-- Filling forks block by block (this profile).
use Rattle.afp_base.specs.Limits.{block_size}
use Rattle.std.specs.Prelude.{◌≡◌, ℕ, ◌+◌, ◌*◌, ◌≤◌, Bool, if◌then◌else◌, List, length, Some}
use Rattle.afp_base.specs.ForkBytes.{splice}
use Rattle.volume_spec.specs.Edits.{with_changed}
use Rattle.volume_spec.specs.VolumeState.{Row, VolumeState}
use Rattle.volume_tree.specs.Shown.{fork_at}

-- a row with bytes in a fork, from the block with an index on
abbrev pub filled_row : Bool → ℕ → List ℕ → Row → Row
filled_row resource index block row = record row {
  data_fork = if resource then row.data_fork else splice row.data_fork (block_size * index) block;
  resource_fork = if resource then splice row.resource_fork (block_size * index) block else row.resource_fork;
}

-- a volume with these bytes in a fork of a file
unfoldable pub filled : ℕ → Bool → ℕ → List ℕ → VolumeState → VolumeState
filled id resource index block v = record v { rows = with_changed id (filled_row resource index block) v.rows }

-- bytes of a block that lie within a fork of a file
pub record FitsFork (v : VolumeState) (id : ℕ) (resource : Bool) (index : ℕ) (block : List ℕ) : Type 0 where
  pub bytes : List ℕ
  pub there : fork_at v.rows id resource ≡ Some bytes
  pub short : length block ≤ block_size
  pub within : block_size * index + length block ≤ length bytes
