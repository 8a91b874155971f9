-- The places that a script's requests name (AFP Reference, "Pathnames"; this profile).
use Rattle.std.specs.Prelude.{◌≡◌, ℕ, ◌≤◌, List, length, None}
use Rattle.afp_base.specs.declared.ids.NodeId.{NodeId}
use Rattle.afp_names.specs.Path.{PathValue, utf8_names, path_fault, path_steps}

-- paths begin at the root of the volume
abbrev pub root : NodeId
root = record { 0 = 2 }

-- the most bytes of a path: those of a script's line
abbrev pub longest_place : ℕ
longest_place = 4096

-- the path that bytes spell: names in UTF-8, parted by zero bytes
abbrev pub place : List ℕ → PathValue
place text = record { kind = utf8_names; steps = path_steps utf8_names text }

-- the bytes are a path that fits a line
pub record IsPlace (text : List ℕ) : Type 0 where
  pub short : length text ≤ longest_place
  pub path : path_fault utf8_names text ≡ None
