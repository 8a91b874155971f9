-- Ids that may be missing, as numbers, for private contracts.
use Rattle.std.specs.Prelude.{ℕ, min, Option, Some, None}
use Rattle.afp_base.specs.declared.ids.NodeId.{NodeId}

-- the number of a node's id, if there is one
abbrev pub option_id : Option NodeId → Option ℕ
option_id None = None
option_id (Some id) = Some id.0

-- the lower of an id and of the one that was found before, if one was
abbrev pub lower : Option ℕ → ℕ → ℕ
lower None id = id
lower (Some other) id = min other id
