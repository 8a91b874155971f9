-- Nodes from which a volume is made, and their forks by id (this profile).
use Rattle.std.specs.Prelude.{ℕ, ◌+◌, ◌==◌, nat_le, Bool, ◌&&◌, if◌then◌else◌, List, [], ◌∷◌, replicate, Option, Some, None}
use Rattle.afp_base.specs.Limits.{most_fork_bytes}
use Rattle.volume_spec.specs.VolumeState.{Row}
use Rattle.volume_tree.specs.declared.forks.FileForks.{FileForks}
use Rattle.volume_tree.specs.declared.restore.LoadedNode.{LoadedNode}

-- the bytes of a node's two forks
abbrev pub loaded_bytes : LoadedNode → ℕ
loaded_bytes loaded = loaded.data_len + loaded.resource_len

-- a node as it is, and whether its forks are no longer than forks can be
abbrev pub loaded_node : LoadedNode → Row
loaded_node loaded = loaded.node

abbrev pub has_short_forks : LoadedNode → Bool
has_short_forks loaded = nat_le loaded.data_len most_fork_bytes && nat_le loaded.resource_len most_fork_bytes

-- the forks of a file of this id
abbrev pub own_forks : LoadedNode → ℕ → Option FileForks
own_forks loaded id = if loaded.node.dir then None else if id == loaded.node.id then Some (record { data_fork = replicate loaded.data_len 0; resource_fork = replicate loaded.resource_len 0 }) else None

-- forks that are there, or else others
abbrev pub or_forks : Option FileForks → Option FileForks → Option FileForks
or_forks (Some forks) other = Some forks
or_forks None other = other

-- the forks of the file of this id, the last of them if there were more
abbrev pub forks_in : List LoadedNode → ℕ → Option FileForks
forks_in [] id = None
forks_in (loaded ∷ nodes) id = or_forks (forks_in nodes id) (own_forks loaded id)
