-- What is kept of a volume's tree (this profile).
use Rattle.std.specs.Prelude.{ℕ, if◌then◌else◌, List, [], map, Option, Some, None, is_some}
use Rattle.std.specs.Ordering.{nat_cmp}
use Rattle.sorted_map.specs.map.Entries.{at}
use Rattle.node_rows.specs.Kept.{RowsValue}
use Rattle.volume_spec.specs.VolumeState.{Row, VolumeState}
use Rattle.volume_tree.specs.declared.forks.FileForks.{FileForks}
use Rattle.volume_tree.specs.declared.head.Dates.{Dates}

-- the forks that are kept, by node id
abbrev pub Forks : Type 0
Forks = List (ℕ × FileForks)

-- the bytes of forks; where nothing is kept there are none
abbrev pub data_of : Option FileForks → List ℕ
data_of None = []
data_of (Some forks) = forks.data_fork

abbrev pub resource_of : Option FileForks → List ℕ
resource_of None = []
resource_of (Some forks) = forks.resource_fork

-- a row with the forks that are kept of it
abbrev pub with_forks : Forks → Row → Row
with_forks forks row = record row { data_fork = data_of (at nat_cmp forks row.id); resource_fork = resource_of (at nat_cmp forks row.id) }

-- rows with the forks that are kept of them
unfoldable pub rows_of : Forks → List Row → List Row
rows_of forks rows = map (with_forks forks) rows

-- the volume that is kept
abbrev pub state_of : List ℕ → Dates → RowsValue → Forks → VolumeState
state_of name dates rows forks = record {
  name = name;
  created = dates.created;
  modified = dates.modified;
  backup = dates.backup;
  next_id = rows.next_id;
  rows = rows_of forks rows.rows;
  comments = [];
  icons = [];
  appls = [];
}

-- There is room for a new node where the rows have room and forks are kept for the next id already.
abbrev pub spare_of : RowsValue → Forks → ℕ
spare_of rows forks = if is_some (at nat_cmp forks rows.next_id) then rows.spare else 0
