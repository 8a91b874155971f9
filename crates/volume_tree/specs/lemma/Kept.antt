-- That what is kept of a volume's tree is sound, and its parts (this profile).
use Rattle.std.specs.Prelude.{◌≡◌, ℕ, ◌<◌, ◌+◌, ◌==◌, ◌||◌, Bool, true, false, if◌then◌else◌, List, [], length, Option, Some, None, is_some}
use Rattle.std.specs.List.{list_all}
use Rattle.std.specs.Ordering.{nat_cmp}
use Rattle.sorted_map.specs.map.Entries.{at}
use Rattle.afp_base.specs.declared.ids.NodeId.{NodeId}
use Rattle.node_rows.specs.Kept.{RowsValue, marked}
use Rattle.node_rows.specs.declared.node.Marks.{Marks}
use Rattle.volume_spec.specs.VolumeState.{Row}
use Rattle.volume_spec.specs.Edits.{without}
use Rattle.volume_spec.specs.SetFileDirParms.{Settings, with_settings}
use Rattle.volume_spec.specs.SoundVolume.{IsSoundVolume, fork_bytes}
use Rattle.volume_tree.specs.declared.forks.FileForks.{FileForks}
use Rattle.volume_tree.specs.declared.head.Dates.{Dates}
use Rattle.volume_tree.specs.Kept.{Forks, data_of, resource_of, rows_of, state_of}

-- what is kept shows the same bytes as something else, and no less is kept
pub record IsShownAs (old new : Option FileForks) : Type 0 where
  pub data_fork : data_of new ≡ data_of old
  pub resource_fork : resource_of new ≡ resource_of old
  pub kept : is_some old ≡ true → is_some new ≡ true

-- whether a row is a directory's, or its forks are kept
abbrev pub has_forks : Forks → Row → Bool
has_forks forks row = row.dir || is_some (at nat_cmp forks row.id)

-- The volume is sound; the forks of each file are kept; those of the next id have no bytes, and behind it are none; the number of bytes is kept.
pub record IsKeptVolume (name : List ℕ) (dates : Dates) (rows : RowsValue) (forks : Forks) (used : ℕ) : Type 0 where
  pub sound : IsSoundVolume (state_of name dates rows forks)
  pub files : list_all (has_forks forks) rows.rows ≡ true
  pub no_data : data_of (at nat_cmp forks rows.next_id) ≡ []
  pub no_resource : resource_of (at nat_cmp forks rows.next_id) ≡ []
  pub none_behind : (id : ℕ) → rows.next_id < id → at nat_cmp forks id ≡ None
  pub bytes : used ≡ fork_bytes (rows_of forks rows.rows)

-- whether a node goes
abbrev pub is_gone : Option NodeId → ℕ → Bool
is_gone None id = false
is_gone (Some gone) id = id == gone.0

-- rows without the node that goes
abbrev pub gone_rows : Option NodeId → List Row → List Row
gone_rows None rows = rows
gone_rows (Some gone) rows = without gone.0 rows

-- the bytes of the forks of a node that goes
abbrev pub bytes_of : Option NodeId → Forks → ℕ
bytes_of None forks = 0
bytes_of (Some gone) forks = length (data_of (at nat_cmp forks gone.0)) + length (resource_of (at nat_cmp forks gone.0))

-- what is kept of a node when another one has gone
abbrev pub at_gone : Option NodeId → ℕ → Option FileForks → Option FileForks
at_gone gone id kept = if is_gone gone id then None else kept

-- the marks are those of a row that was found
abbrev pub IsMarks : Marks → Option Row → Type 0
IsMarks marks found = (row : Row) × (found ≡ Some row) × (marked marks row ≡ row)

-- the marks are those of a row that was found, with its settings
abbrev pub IsMarksSet : Settings → Marks → Option Row → Type 0
IsMarksSet settings marks found = (row : Row) × (found ≡ Some row) × (marked marks row ≡ with_settings settings row)
