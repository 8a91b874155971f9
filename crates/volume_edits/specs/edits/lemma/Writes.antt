-- Writes of forks among edits; no public contract cites it.
use Rattle.std.specs.Prelude.{◌≡◌, true, List, [], ◌∷◌, Option, Some, None}
use Rattle.volume_spec.specs.Edit as spec
use Rattle.volume_edits.specs.declared.edits.edit.DatedWrite.{DatedWrite}
use Rattle.volume_edits.specs.edits.Planned.{EditValue, write_none}

-- a write of a fork as an edit
abbrev pub write_value : DatedWrite → EditValue
write_value w = record { edit = spec.Writes w.moment w.id.0 w.resource w.write.after; before = w.write.before }

-- the one edit, where it is a write; else none is one
abbrev pub IsLoneWrite : List EditValue → Option EditValue → Type 0
IsLoneWrite edits (Some write) = edits ≡ write ∷ []
IsLoneWrite edits None = write_none edits ≡ true
