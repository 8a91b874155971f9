-- Which records are of a volume's shape, and what they say (this profile).
use Rattle.std.specs.Prelude.{ℕ, ℤ, ◌==◌, nat_le, Bool, true, ◌&&◌, not, if◌then◌else◌, List, [], ◌++◌, length, take, drop, replicate, slice_index, bytes_eq, ◌+◌, unwrap_or, is_none, Option, Some, None}
use Rattle.std.specs.Int.{cast_signed, w32}
use Rattle.byteorder.specs.Endian.{big_number}
use Rattle.afp_base.specs.Limits.{block_size}
use Rattle.fork_bytes.specs.Blocks.{trimmed}
use Rattle.volume_spec.specs.VolumeState.{Privileges, Comment, Icon, Appl, root_id, root_parent, first_id, guest, new_privileges, Row as VolumeRow}
use Rattle.volume_spec.specs.SoundVolume.{is_formed as is_formed_row, is_comment, is_icon, code_size, last_next_id}
use Rattle.volume_spec.specs.TypedVolume.{is_long, is_word, is_quad, is_date, are_bytes, is_typed_row, is_typed_comment, is_typed_icon, is_typed_appl}
use Rattle.record_keeper.specs.declared.record.Record.{Record}
use Rattle.volume_keeper_records.specs.declared.rows.Head.{Head}
use Rattle.volume_keeper_records.specs.declared.rows.Node.{Node}
use Rattle.volume_keeper_records.specs.declared.rows.ForkBlock.{ForkBlock}
use Rattle.volume_keeper_records.specs.declared.rows.TableRow.{TableRow}
use Rattle.volume_keeper_records.specs.declared.rows.TableRow.TheVariants as row
use Rattle.volume_keeper_records.specs.Records.{head_tag, node_tag, block_tag, comment_tag, icon_tag, old_version, record_of}

-- of what version records are, and of a volume of what name
pub record Label : Type 0 where
  pub version : ℕ
  pub name : List ℕ

-- a node as a row of a volume, with no bytes in its forks
abbrev pub bare_row : Node → VolumeRow
bare_row node = record {
  id = node.id;
  parent = node.parent;
  dir = node.is_directory;
  attributes = node.attributes;
  created = node.created;
  modified = node.modified;
  backup = node.backup;
  finder = node.finder;
  filed = node.is_filed;
  privileges = unwrap_or node.privileges (new_privileges node.is_directory guest);
  name = node.name;
  data_fork = [];
  resource_fork = [];
}

-- What holds of the value of one record: numbers and dates in their ranges, and

-- the version is that of the others, and the next id is from 17 to 2 ^ 32
abbrev pub is_sound_head : Head → Bool
is_sound_head head = (is_date head.created && (is_date head.modified && is_date head.backup)) && (nat_le first_id head.next_id && nat_le head.next_id last_next_id)

-- a directory has no bytes in its forks
abbrev pub has_fit_forks : Node → Bool
has_fit_forks node = (is_quad node.data_length && is_quad node.resource_length) && (if node.is_directory then (node.data_length == 0) && (node.resource_length == 0) else true)

-- the root is a directory, its parent is 1, and it has the volume's name
abbrev pub is_root_or_other : List ℕ → Node → Bool
is_root_or_other name node = if node.id == root_id then node.is_directory && ((node.parent == root_parent) && bytes_eq node.name name) else true

abbrev pub is_formed_head : ℕ → Head → Bool
is_formed_head version head = ((head.version == version) && is_word head.version) && is_sound_head head

-- owner, group and rights are there but in the older version
abbrev pub is_of_version : ℕ → Option Privileges → Bool
is_of_version version privileges = if version == old_version then is_none privileges else not (is_none privileges)

-- a node is formed as each row of a volume
abbrev pub is_sound_node : List ℕ → Node → Bool
is_sound_node name node = is_typed_row (bare_row node) && (is_formed_row (bare_row node) && (has_fit_forks node && is_root_or_other name node))

abbrev pub is_formed_node : Label → Node → Bool
is_formed_node label node = is_of_version label.version node.privileges && is_sound_node label.name node

-- a block has 1 to 4,096 bytes, and no zero at their end
abbrev pub is_formed_block : ForkBlock → Bool
is_formed_block block =
    (is_long block.node && (is_long block.index && are_bytes block.bytes))
    && (nat_le 1 (length block.bytes) && (nat_le (length block.bytes) block_size && bytes_eq (trimmed block.bytes) block.bytes))

-- a comment, an icon and an APPL mapping are as each of a volume
abbrev pub is_formed_comment : Comment → Bool
is_formed_comment comment = is_typed_comment comment && is_comment comment

abbrev pub is_formed_icon : Icon → Bool
is_formed_icon icon = is_typed_icon icon && is_icon icon

abbrev pub is_formed_appl : Appl → Bool
is_formed_appl appl = is_typed_appl appl && (length appl.creator == code_size)

-- a row of a volume of that name
abbrev pub is_formed_record : Label → TableRow → Bool
is_formed_record label (row.Head head) = is_formed_head label.version head
is_formed_record label (row.Node node) = is_formed_node label node
is_formed_record label (row.Block block) = is_formed_block block
is_formed_record label (row.Comment comment) = is_formed_comment comment
is_formed_record label (row.Icon icon) = is_formed_icon icon
is_formed_record label (row.Appl appl) = is_formed_appl appl

-- Numbers of two, four and eight bytes at a place, a date, and four bytes as they are. Bytes behind the end count as 0.
abbrev pub word_at : List ℕ → ℕ → ℕ
word_at bytes i = big_number 2 (drop i bytes)

abbrev pub long_at : List ℕ → ℕ → ℕ
long_at bytes i = big_number 4 (drop i bytes)

abbrev pub quad_at : List ℕ → ℕ → ℕ
quad_at bytes i = big_number 8 (drop i bytes)

abbrev pub date_at : List ℕ → ℕ → ℤ
date_at bytes i = cast_signed w32 (long_at bytes i)

abbrev pub four_at : List ℕ → ℕ → List ℕ
four_at bytes i = take 4 (drop i bytes ++ replicate 4 0)

-- what a record says if it is of a volume's shape, by the first byte of its key
abbrev pub head_in : List ℕ → Head
head_in value = record { version = word_at value 0; created = date_at value 2; modified = date_at value 6; backup = date_at value 10; next_id = quad_at value 14 }

-- of a node's value: what stands before the Finder info, that, and what stands behind it
abbrev pub privileges_at : List ℕ → ℕ → Privileges
privileges_at bytes i = record { owner = long_at bytes i; group = long_at bytes (i + 4); everyone_rights = slice_index bytes (i + 8); group_rights = slice_index bytes (i + 9); owner_rights = slice_index bytes (i + 10) }

abbrev pub node_in : ℕ → List ℕ → List ℕ → List ℕ → List ℕ → Node
node_in version key front finder behind = record {
  id = long_at key 1;
  is_directory = slice_index front 0 == 1;
  parent = long_at front 1;
  attributes = word_at front 5;
  created = date_at front 7;
  modified = date_at front 11;
  backup = date_at front 15;
  finder = finder;
  is_filed = slice_index behind 0 == 1;
  data_length = quad_at behind 1;
  resource_length = quad_at behind 9;
  privileges = if version == old_version then None else Some (privileges_at behind 17);
  name = drop (if version == old_version then 17 else 28) behind;
}

abbrev pub block_in : List ℕ → List ℕ → ForkBlock
block_in key value = record { node = long_at key 1; is_resource = slice_index key 5 == 1; index = long_at key 6; bytes = value }

abbrev pub comment_in : List ℕ → List ℕ → Comment
comment_in key value = record { node = long_at key 1; text = value }

abbrev pub icon_in : List ℕ → List ℕ → Icon
icon_in key value = record { creator = four_at key 1; kind = four_at key 5; icon_kind = slice_index key 9; tag = long_at value 0; bits = drop 4 value }

abbrev pub appl_in : List ℕ → List ℕ → Appl
appl_in key value = record { creator = four_at key 1; node = long_at key 5; tag = long_at value 0 }

-- the only row whose record this can be
abbrev pub guess : ℕ → Record → TableRow
guess version r =
    if slice_index r.key 0 == head_tag then row.Head (head_in r.value)
    else (if slice_index r.key 0 == node_tag then row.Node (node_in version r.key r.value (take 32 (drop 19 r.value)) (drop 51 r.value))
    else (if slice_index r.key 0 == block_tag then row.Block (block_in r.key r.value)
    else (if slice_index r.key 0 == comment_tag then row.Comment (comment_in r.key r.value)
    else (if slice_index r.key 0 == icon_tag then row.Icon (icon_in r.key r.value)
    else row.Appl (appl_in r.key r.value)))))

abbrev pub are_same : Record → Record → Bool
are_same a b = bytes_eq a.key b.key && bytes_eq a.value b.value

-- the row of a volume of that name whose record this is: the one whose record, written again, is the same
unfoldable pub row_in : Label → Record → Option TableRow
row_in label r = if is_formed_record label (guess label.version r) && are_same (record_of (guess label.version r)) r then Some (guess label.version r) else None
