-- A volume's tree as contracts see it (the form is this profile's).
use Rattle.std.specs.Prelude.{◌≡◌, ℕ, Bool, List, map, Option, Some, option_map}
use Rattle.afp_base.specs.declared.ids.NodeId.{NodeId}
use Rattle.volume_spec.specs.Edits.{bare}
use Rattle.volume_spec.specs.Shared.{Opened}
use Rattle.volume_spec.specs.ForkEffect.{fork_of}
use Rattle.volume_spec.specs.OpenFork.{file_of}
use Rattle.volume_spec.specs.VolumeState.{Row, VolumeState}
use Rattle.volume_spec.specs.Walk.{row_at}

-- a volume, which has no comments, icons and APPL rows here; and room for so many nodes more
pub record TreeValue : Type 0 where
  pub state : VolumeState
  pub spare : ℕ

-- a fork of the file of this id (AFP Reference, "File forks")
unfoldable pub fork_at : List Row → ℕ → Bool → Option (List ℕ)
fork_at rows id resource = option_map (fork_of resource) (file_of (row_at rows id))

-- the row of a node that is given without its forks
pub record IsRowOf (rows : List Row) (node row : Row) : Type 0 where
  pub found : row_at rows node.id ≡ Some row
  pub shown : node ≡ bare row

-- a node of these rows, given without its forks
abbrev pub IsNode : List Row → Row → Type 0
IsNode rows node = (row : Row) × IsRowOf rows node row

-- open forks, each told by its node and whether it is the resource fork
abbrev pub opened : List (NodeId × Bool) → List Opened
opened opens = map (λ (open_fork : NodeId × Bool). record { node = open_fork.0.0; resource = open_fork.1 }) opens
