-- The records of a volume by rising key (this profile).
use Rattle.std.specs.Prelude.{◌≡◌, ◌==◌, if◌then◌else◌, ℕ, pos, Bool, true, false, List, [], ◌∷◌, ◌++◌, map, length, flat_map, Option, Some, None}
use Rattle.std.specs.List.{filter_map}
use Rattle.std.specs.FinMap.{entries, from_sorted}
use Rattle.fork_bytes.specs.declared.block.Block.{Block}
use Rattle.fork_bytes.specs.Blocks.{blocks_of}
use Rattle.volume_spec.specs.VolumeState.{Row as VolumeRow, Comment, Icon, Appl, VolumeState, guest, new_privileges}
use Rattle.record_keeper.specs.declared.record.Record.{Record}
pub use Rattle.record_keeper.specs.Records.{Records}
use Rattle.volume_keeper_records.specs.declared.rows.Head.{Head}
use Rattle.volume_keeper_records.specs.declared.rows.Node.{Node}
use Rattle.volume_keeper_records.specs.declared.rows.ForkBlock.{ForkBlock}
use Rattle.volume_keeper_records.specs.declared.rows.TableRow.{TableRow}
use Rattle.volume_keeper_records.specs.declared.rows.TableRow.TheVariants as row
use Rattle.volume_keeper_records.specs.Records.{version, old_version, record_of}

-- what the records of a volume say: its head, nodes, the blocks of its forks, comments, icons and APPL mappings
pub record Tables : Type 0 where
  pub head : Head
  pub nodes : List Node
  pub blocks : List ForkBlock
  pub comments : List Comment
  pub icons : List Icon
  pub appls : List Appl

-- a file or directory, with the lengths of its forks, as records of a version say it
abbrev pub node_of : ℕ → VolumeRow → Node
node_of version r = record {
  id = r.id;
  is_directory = r.dir;
  parent = r.parent;
  attributes = r.attributes;
  created = r.created;
  modified = r.modified;
  backup = r.backup;
  finder = r.finder;
  is_filed = r.filed;
  data_length = length r.data_fork;
  resource_length = length r.resource_fork;
  privileges = if version == old_version then None else Some r.privileges;
  name = r.name;
}

-- a block of a node's fork
abbrev pub fork_block_of : ℕ → Bool → Block → ForkBlock
fork_block_of id is_resource block = record { node = id; is_resource = is_resource; index = block.index; bytes = block.bytes }

-- the blocks of both forks, the data fork's first
abbrev pub fork_blocks : VolumeRow → List ForkBlock
fork_blocks r = map (fork_block_of r.id false) (blocks_of r.data_fork) ++ map (fork_block_of r.id true) (blocks_of r.resource_fork)

-- a volume in tables, each in the order of its records' keys
abbrev pub tables_of : ℕ → VolumeState → Tables
tables_of version v = record {
  head = record { version = version; created = v.created; modified = v.modified; backup = v.backup; next_id = v.next_id };
  nodes = map (node_of version) v.rows;
  blocks = flat_map fork_blocks v.rows;
  comments = v.comments;
  icons = v.icons;
  appls = v.appls;
}

-- the rows of tables, one for each record
abbrev pub rows_of : Tables → List TableRow
rows_of t =
    row.Head t.head
    ∷ (map (λ node. row.Node node) t.nodes
    ++ (map (λ block. row.Block block) t.blocks
    ++ (map (λ comment. row.Comment comment) t.comments
    ++ (map (λ icon. row.Icon icon) t.icons
    ++ map (λ appl. row.Appl appl) t.appls))))

-- the rows of each kind among some rows
abbrev pub as_head : TableRow → Option Head
as_head (row.Head head) = Some head
as_head _ = None

abbrev pub as_node : TableRow → Option Node
as_node (row.Node node) = Some node
as_node _ = None

abbrev pub as_block : TableRow → Option ForkBlock
as_block (row.Block block) = Some block
as_block _ = None

abbrev pub as_comment : TableRow → Option Comment
as_comment (row.Comment comment) = Some comment
as_comment _ = None

abbrev pub as_icon : TableRow → Option Icon
as_icon (row.Icon icon) = Some icon
as_icon _ = None

abbrev pub as_appl : TableRow → Option Appl
as_appl (row.Appl appl) = Some appl
as_appl _ = None

-- the first head; where there is none, one whose next id is 0
abbrev pub first_head : List Head → Head
first_head [] = record { version = 0; created = pos 0; modified = pos 0; backup = pos 0; next_id = 0 }
first_head (head ∷ heads) = head

-- the tables that rows make
abbrev pub tables_in : List TableRow → Tables
tables_in rows = record {
  head = first_head (filter_map as_head rows);
  nodes = filter_map as_node rows;
  blocks = filter_map as_block rows;
  comments = filter_map as_comment rows;
  icons = filter_map as_icon rows;
  appls = filter_map as_appl rows;
}

-- exactly the records of a volume in a version
abbrev pub image_in : ℕ → VolumeState → List Record
image_in version v = map record_of (rows_of (tables_of version v))

-- and in the version that is written, and in the older one
abbrev pub image : VolumeState → List Record
image v = image_in version v

abbrev pub old : VolumeState → List Record
old v = image_in old_version v

-- a volume whose directories are all the guest's, with all rights for all: so are those of the older version
abbrev pub IsOld : VolumeState → Type 0
IsOld v = map (λ (r : VolumeRow). r.privileges) v.rows ≡ map (λ (r : VolumeRow). new_privileges r.dir guest) v.rows

-- a keeper's records by rising key
abbrev pub records_in : Records → List Record
records_in kept = map (λ e. record { key = e.0; value = e.1 }) (entries kept)

abbrev pub entries_of : List Record → List (List ℕ × List ℕ)
entries_of records = map (λ (r : Record). (r.key, r.value)) records

-- the records of a volume as a keeper has them, in a version; and in the one that is written, and in the older one
abbrev pub kept_in : ℕ → VolumeState → Records
kept_in version v = from_sorted (entries_of (image_in version v))

abbrev pub kept_image : VolumeState → Records
kept_image v = kept_in version v

abbrev pub kept_old : VolumeState → Records
kept_old v = kept_in old_version v
