-- Volumes made from what is kept of them elsewhere (this profile).
use Rattle.std.specs.Prelude.{List, [], map, replicate}
use Rattle.volume_spec.specs.Shared.{name_of}
use Rattle.volume_spec.specs.SoundVolume.{IsSoundVolume}
use Rattle.volume_spec.specs.VolumeState.{Row, VolumeState, root_id}
use Rattle.volume_tree.specs.declared.head.VolumeHead.{VolumeHead}
use Rattle.volume_tree.specs.declared.restore.LoadedNode.{LoadedNode}

-- a node whose forks have so many bytes, which are zeros
abbrev pub loaded_row : LoadedNode → Row
loaded_row loaded = record loaded.node { data_fork = replicate loaded.data_len 0; resource_fork = replicate loaded.resource_len 0 }

-- the volume of these dates, this next id and these nodes, in their order; its name is its root's, and it has no comments, icons and APPL rows
unfoldable pub restored : VolumeHead → List LoadedNode → VolumeState
restored head nodes = record {
  name = name_of (map loaded_row nodes) root_id;
  created = head.created;
  modified = head.modified;
  backup = head.backup;
  next_id = head.next_id;
  rows = map loaded_row nodes;
  comments = [];
  icons = [];
  appls = [];
}

-- such a volume is sound
pub record IsRestorable (head : VolumeHead) (nodes : List LoadedNode) : Type 0 where
  pub sound : IsSoundVolume (restored head nodes)
