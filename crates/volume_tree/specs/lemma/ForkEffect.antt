-- The forks that are kept of a file, by which of them is changed (this profile).
use Rattle.std.specs.Prelude.{◌≡◌, ℕ, Bool, true, if◌then◌else◌, List, Option, is_some}
use Rattle.volume_tree.specs.Kept.{data_of, resource_of}
use Rattle.volume_tree.specs.declared.forks.FileForks.{FileForks}

-- the bytes of one fork or the other, none where nothing is kept
abbrev pub kept_fork : Bool → Option FileForks → List ℕ
kept_fork resource kept = if resource then resource_of kept else data_of kept

-- forks with other bytes in one of them
pub record IsChanged (resource : Bool) (after : List ℕ) (old new : Option FileForks) : Type 0 where
  pub data_fork : data_of new ≡ (if resource then data_of old else after)
  pub resource_fork : resource_of new ≡ (if resource then after else resource_of old)
  pub kept : is_some new ≡ true
