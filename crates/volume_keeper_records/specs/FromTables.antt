-- The volume that tables say (this profile).
use Rattle.std.specs.Prelude.{ℕ, ◌==◌, List, unwrap_or, map}
use Rattle.std.specs.List.{filter}
use Rattle.fork_bytes.specs.declared.block.Block.{Block}
use Rattle.fork_bytes.specs.Kept.{bytes_of}
use Rattle.volume_spec.specs.VolumeState.{VolumeState, guest, new_privileges, Row as VolumeRow}
use Rattle.volume_keeper_records.specs.declared.rows.Node.{Node}
use Rattle.volume_keeper_records.specs.declared.rows.ForkBlock.{ForkBlock}
use Rattle.volume_keeper_records.specs.Records.{flag_byte}
use Rattle.volume_keeper_records.specs.Image.{Tables}

-- a block of a node's fork as a block of a fork
abbrev pub piece_of : ForkBlock → Block
piece_of b = record { index = b.index; bytes = b.bytes }

-- the blocks of a node, and of one of its forks
abbrev pub own : List ForkBlock → ℕ → List ForkBlock
own blocks id = filter (λ b. id == b.node) blocks

abbrev pub fork_part : List ForkBlock → ℕ → List ForkBlock
fork_part blocks fork = filter (λ b. fork == flag_byte b.is_resource) blocks

abbrev pub pieces : List ForkBlock → ℕ → ℕ → List Block
pieces blocks id fork = map piece_of (fork_part (own blocks id) fork)

-- a node with the bytes of its forks
abbrev pub row_from : List ForkBlock → Node → VolumeRow
row_from blocks n = record {
  id = n.id;
  parent = n.parent;
  dir = n.is_directory;
  attributes = n.attributes;
  created = n.created;
  modified = n.modified;
  backup = n.backup;
  finder = n.finder;
  filed = n.is_filed;
  privileges = unwrap_or n.privileges (new_privileges n.is_directory guest);
  name = n.name;
  data_fork = bytes_of n.data_length (pieces blocks n.id 0);
  resource_fork = bytes_of n.resource_length (pieces blocks n.id 1);
}

-- the volume that tables say
abbrev pub volume_of : List ℕ → Tables → VolumeState
volume_of name t = record {
  name = name;
  created = t.head.created;
  modified = t.head.modified;
  backup = t.head.backup;
  next_id = t.head.next_id;
  rows = map (row_from t.blocks) t.nodes;
  comments = t.comments;
  icons = t.icons;
  appls = t.appls;
}
