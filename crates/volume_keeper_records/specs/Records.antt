-- The records of a volume, one definition each (this profile). Numbers stand with their highest byte first.
use Rattle.std.specs.Prelude.{ℕ, ℤ, Bool, List, [], ◌∷◌, ◌++◌, Option, Some, None, if◌then◌else◌}
use Rattle.std.specs.Int.{cast_unsigned, w32}
use Rattle.byteorder.specs.Endian.{big_bytes}
use Rattle.volume_spec.specs.VolumeState.{Privileges, Comment, Icon, Appl}
use Rattle.volume_spec.specs.SoundVolume.{icon_key}
use Rattle.record_keeper.specs.declared.record.Record.{Record}
use Rattle.volume_keeper_records.specs.declared.rows.Head.{Head}
use Rattle.volume_keeper_records.specs.declared.rows.Node.{Node}
use Rattle.volume_keeper_records.specs.declared.rows.ForkBlock.{ForkBlock}
use Rattle.volume_keeper_records.specs.declared.rows.TableRow.{TableRow}
use Rattle.volume_keeper_records.specs.declared.rows.TableRow.TheVariants as row

-- the first byte of a key, by what the record is of
abbrev pub head_tag : ℕ
head_tag = 0

abbrev pub node_tag : ℕ
node_tag = 1

abbrev pub block_tag : ℕ
block_tag = 2

abbrev pub comment_tag : ℕ
comment_tag = 3

abbrev pub icon_tag : ℕ
icon_tag = 4

abbrev pub appl_tag : ℕ
appl_tag = 5

-- the version of a volume's records, and the older one, whose nodes have no owner, group and rights
abbrev pub version : ℕ
version = 2

abbrev pub old_version : ℕ
old_version = 1

-- numbers of two, of four and of eight bytes, and a date, which has a sign
abbrev pub word_bytes : ℕ → List ℕ
word_bytes n = big_bytes 2 n

abbrev pub long_bytes : ℕ → List ℕ
long_bytes n = big_bytes 4 n

abbrev pub quad_bytes : ℕ → List ℕ
quad_bytes n = big_bytes 8 n

abbrev pub date_bytes : ℤ → List ℕ
date_bytes date = long_bytes (cast_unsigned w32 date)

-- one byte: 0 or 1
abbrev pub flag_byte : Bool → ℕ
flag_byte set = if set then 1 else 0

-- The keys: the head's; a node's, by its id; a block's, by its node, fork and index; a comment's, by its node; an APPL mapping's, by its creator and node.
abbrev pub head_key : List ℕ
head_key = head_tag ∷ []

abbrev pub node_key : ℕ → List ℕ
node_key id = node_tag ∷ long_bytes id

abbrev pub block_key : ℕ → Bool → ℕ → List ℕ
block_key node is_resource index = block_tag ∷ (long_bytes node ++ (flag_byte is_resource ∷ long_bytes index))

abbrev pub comment_record_key : ℕ → List ℕ
comment_record_key node = comment_tag ∷ long_bytes node

abbrev pub appl_record_key : List ℕ → ℕ → List ℕ
appl_record_key creator node = appl_tag ∷ (creator ++ long_bytes node)

-- the volume's head: the version, the volume's dates, the next id
unfoldable pub head_record : Head → Record
head_record head = record {
  key = head_key;
  value = word_bytes head.version ++ (date_bytes head.created ++ (date_bytes head.modified ++ (date_bytes head.backup ++ quad_bytes head.next_id)));
}

-- owner, group and the rights of everyone, of the group and of the owner, where the version has them
abbrev pub privilege_bytes : Option Privileges → List ℕ
privilege_bytes None = []
privilege_bytes (Some p) = long_bytes p.owner ++ (long_bytes p.group ++ (p.everyone_rights ∷ p.group_rights ∷ p.owner_rights ∷ []))

-- a node: its kind (0 a file, 1 a directory), parent, attributes, dates, Finder info, whether it is filed, the lengths of its forks, owner, group and rights, its name
unfoldable pub node_record : Node → Record
node_record node = record {
  key = node_key node.id;
  value = flag_byte node.is_directory
      ∷ (long_bytes node.parent
      ++ (word_bytes node.attributes
      ++ (date_bytes node.created
      ++ (date_bytes node.modified
      ++ (date_bytes node.backup
      ++ (node.finder
      ++ (flag_byte node.is_filed
      ∷ (quad_bytes node.data_length
      ++ (quad_bytes node.resource_length
      ++ (privilege_bytes node.privileges
      ++ node.name))))))))));
}

-- a block of a fork (0 the data fork, 1 the resource fork): its bytes without the zeros at their end
unfoldable pub block_record : ForkBlock → Record
block_record block = record {
  key = block_key block.node block.is_resource block.index;
  value = block.bytes;
}

-- the comment of a node
unfoldable pub comment_record : Comment → Record
comment_record comment = record {
  key = comment_record_key comment.node;
  value = comment.text;
}

-- an icon under its creator, type and icon type: its tag and bits
unfoldable pub icon_record : Icon → Record
icon_record icon = record {
  key = icon_tag ∷ icon_key icon;
  value = long_bytes icon.tag ++ icon.bits;
}

-- an APPL mapping of a creator and a file: its tag
unfoldable pub appl_record : Appl → Record
appl_record appl = record {
  key = appl_record_key appl.creator appl.node;
  value = long_bytes appl.tag;
}

-- the record that says a row
abbrev pub record_of : TableRow → Record
record_of (row.Head head) = head_record head
record_of (row.Node node) = node_record node
record_of (row.Block block) = block_record block
record_of (row.Comment comment) = comment_record comment
record_of (row.Icon icon) = icon_record icon
record_of (row.Appl appl) = appl_record appl
