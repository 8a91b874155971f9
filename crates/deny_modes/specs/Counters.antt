-- What is kept for the opens: rows by reference, and a tally for each fork that is open (this profile).
use Rattle.std.specs.Prelude.{ℕ, List, map}
use Rattle.deny_modes.specs.declared.opens.Opened.{Opened}
use Rattle.deny_modes.specs.Opens.{Open}

-- the open of a row
abbrev pub open_of : ℕ × Opened → Open
open_of row = record { reference = row.0; fork = row.1.fork; access = row.1.mode }

abbrev pub opens_of : List (ℕ × Opened) → List Open
opens_of rows = map open_of rows
