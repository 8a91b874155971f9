-- Records of a volume from what is lent of it; no public contract cites it.
use Rattle.std.specs.Prelude.{ℕ, List, ◌++◌, Some}
use Rattle.volume_keeper_records.specs.declared.rows.Node.{Node}
use Rattle.volume_keeper_records.specs.Records.{long_bytes}
use Rattle.volume_spec.specs.VolumeState.{Row}

-- a node of the version that is written, whose forks have so many bytes
abbrev pub sized : Row → ℕ → ℕ → Node
sized r data_length resource_length = record {
  id = r.id;
  is_directory = r.dir;
  parent = r.parent;
  attributes = r.attributes;
  created = r.created;
  modified = r.modified;
  backup = r.backup;
  finder = r.finder;
  is_filed = r.filed;
  data_length = data_length;
  resource_length = resource_length;
  privileges = Some r.privileges;
  name = r.name;
}

-- the value of an icon's record, from its tag and its bits
abbrev pub icon_bytes : ℕ × List ℕ → List ℕ
icon_bytes icon = long_bytes icon.0 ++ icon.1
