-- What is told of a file and of a directory (AFP Reference, "File Bitmap", "Directory Bitmap", "Access rights").
use Rattle.std.specs.Prelude.{ℕ, pos, ◌+◌, ◌*◌, ◌==◌, ◌&&◌, Bool, true, false, not, List, [], length, min, replicate, bit_or, if◌then◌else◌}
use Rattle.std.specs.List.{list_any}
use Rattle.afp_bitmap.specs.declared.file.FileValues.{FileValues}
use Rattle.afp_bitmap.specs.declared.directory.DirValues.{DirValues}
use Rattle.afp_bitmap.specs.declared.params.Values.{Values}
use Rattle.afp_bitmap.specs.declared.params.Values.TheVariants.{File, Dir}
use Rattle.afp_names.specs.LongName.{long_name_of}
use Rattle.volume_spec.specs.VolumeState.{Row, Privileges, finder_size}
use Rattle.volume_spec.specs.Rights.{rights_of}
use Rattle.volume_spec.specs.Shared.{Opened}
use Rattle.volume_spec.specs.Listing.{children}
use Rattle.volume_spec.specs.Parms.{asked_or}

-- whether this fork of a node is open: its resource fork or its data fork (this profile)
unfoldable pub has_open_fork : List Opened → ℕ → Bool → Bool
has_open_fork opens id resource = list_any (λ open_fork. (open_fork.node == id) && (if resource then open_fork.resource else not open_fork.resource)) opens

-- the attributes that tell of open forks (AFP Reference, "File attributes")
abbrev pub data_fork_open : ℕ
data_fork_open = 0x0008

abbrev pub resource_fork_open : ℕ
resource_fork_open = 0x0010

-- the attributes of a file: those that are set, and whether its forks are open (AFP Reference, "File attributes")
unfoldable pub told_attributes : List Opened → Row → ℕ
told_attributes opens row = bit_or row.attributes
    (bit_or (if has_open_fork opens row.id false then data_fork_open else 0) (if has_open_fork opens row.id true then resource_fork_open else 0))

-- what is told of a file: each value whose bit is asked, by its bit (AFP Reference, "File Bitmap")
unfoldable pub file_values : List Opened → ℕ → Row → FileValues
file_values opens bits row = record {
  attributes = asked_or bits 0 0 (told_attributes opens row);
  parent = asked_or bits 1 0 row.parent;
  created = asked_or bits 2 (pos 0) row.created;
  modified = asked_or bits 3 (pos 0) row.modified;
  backup = asked_or bits 4 (pos 0) row.backup;
  finder = asked_or bits 5 (replicate finder_size 0) row.finder;
  long_name = asked_or bits 6 [] (long_name_of row.name row.id);
  id = asked_or bits 8 0 row.id;
  data_length = asked_or bits 9 0 (length row.data_fork);
  resource_length = asked_or bits 10 0 (length row.resource_fork);
  ext_data_length = asked_or bits 11 0 (length row.data_fork);
  utf8_name = asked_or bits 13 [] row.name;
  ext_resource_length = asked_or bits 14 0 (length row.resource_fork);
}

-- how many children are told of a directory at most (AFP Reference, "Directory Bitmap": 2 bytes)
abbrev pub most_offspring : ℕ
most_offspring = 65535

-- the access rights of a directory as a user is told them: the user's own, with the bit of the owner, then those of everyone, of the group
-- and of the owner (AFP Reference, "Access rights")
abbrev pub owner_bit : ℕ
owner_bit = 0x80

abbrev pub own_rights : Privileges → ℕ → ℕ
own_rights p user = rights_of p user + (if p.owner == user then owner_bit else 0)

unfoldable pub told_rights : Privileges → ℕ → ℕ
told_rights p user = 0x1000000 * own_rights p user + 0x10000 * p.everyone_rights + 0x100 * p.group_rights + p.owner_rights

-- what a user is told of a directory: each value whose bit is asked, by its bit (AFP Reference, "Directory Bitmap")
unfoldable pub dir_values : List Row → ℕ → ℕ → Row → DirValues
dir_values rows user bits row = record {
  attributes = asked_or bits 0 0 row.attributes;
  parent = asked_or bits 1 0 row.parent;
  created = asked_or bits 2 (pos 0) row.created;
  modified = asked_or bits 3 (pos 0) row.modified;
  backup = asked_or bits 4 (pos 0) row.backup;
  finder = asked_or bits 5 (replicate finder_size 0) row.finder;
  long_name = asked_or bits 6 [] (long_name_of row.name row.id);
  id = asked_or bits 8 0 row.id;
  offspring = asked_or bits 9 0 (min most_offspring (length (children rows row.id)));
  owner = asked_or bits 10 0 row.privileges.owner;
  group = asked_or bits 11 0 row.privileges.group;
  rights = asked_or bits 12 0 (told_rights row.privileges user);
  utf8_name = asked_or bits 13 [] row.name;
}

-- the bits that are asked of a node, by its kind (AFP Reference, "FPGetFileDirParms")
abbrev pub bits_of : ℕ → ℕ → Row → ℕ
bits_of file_bits dir_bits row = if row.dir then dir_bits else file_bits

-- what a user is told of a node of rows, by its kind's bits (AFP Reference, "FPGetFileDirParms")
unfoldable pub node_values : List Row → ℕ → List Opened → ℕ → ℕ → Row → Values
node_values rows user opens file_bits dir_bits row =
    if row.dir then Dir (dir_values rows user dir_bits row) else File (file_values opens file_bits row)
