-- A node with its forks, for private contracts (this profile).
use Rattle.std.specs.Prelude.{ℕ, Bool, true, false, List, [], Option, option_map, unwrap_or, if◌then◌else◌}
use Rattle.volume_spec.specs.VolumeState.{Row}
use Rattle.volume_tree.specs.Shown.{fork_at}
use Rattle.volume_tree.specs.declared.forks.FileForks.{FileForks}

-- the bytes of a fork of a file, and none of another node
unfoldable pub bytes_at : List Row → ℕ → Bool → List ℕ
bytes_at rows id resource = unwrap_or (fork_at rows id resource) []

-- a node that is given without its forks, with those that it has
abbrev pub whole : List Row → Row → Row
whole rows node = record node { data_fork = bytes_at rows node.id false; resource_fork = bytes_at rows node.id true }

-- the bytes of a fork of a file, where its forks are given, and none where none are
abbrev pub bytes_in : Option FileForks → Bool → List ℕ
bytes_in forks resource = unwrap_or (option_map (λ (kept : FileForks). if resource then kept.resource_fork else kept.data_fork) forks) []

-- a node that is given without its forks, with these
abbrev pub with_these : Option FileForks → Row → Row
with_these forks node = record node { data_fork = bytes_in forks false; resource_fork = bytes_in forks true }
