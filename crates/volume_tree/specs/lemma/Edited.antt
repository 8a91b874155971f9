-- What edits do to rows, for private contracts (this profile).
use Rattle.std.specs.Prelude.{ℕ, ℤ, List, Option, Some, None}
use Rattle.afp_base.specs.declared.ids.NodeId.{NodeId}
use Rattle.volume_spec.specs.Edits.{modified_at, with_changed}
use Rattle.volume_spec.specs.VolumeState.{Row}

-- a row with a modified date
abbrev pub modified_on : ℤ → Row → Row
modified_on date row = record row { modified = date }

-- rows with the moment as the modified date of a node, if there is one
abbrev pub modified_rows : ℕ → Option NodeId → List Row → List Row
modified_rows now None rows = rows
modified_rows now (Some id) rows = with_changed id.0 (modified_at now) rows
