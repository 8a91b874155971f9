-- Reads and writes of a fork at any place (AFP Reference, "FPReadExt", "FPWriteExt").
use Rattle.std.specs.Prelude.{ℕ, pos, List, [], length}
use Rattle.afp_base.specs.declared.ids.ForkRef.{ForkRef}
use Rattle.afp_calls_grammar.specs.declared.grammar.call.Call.{Call}
use Rattle.afp_calls_grammar.specs.declared.grammar.call.Call.TheVariants as calls

-- the most bytes of a piece: the quantum that the server answers (this profile)
abbrev pub most_piece : ℕ
most_piece = 130048

-- the first place that no fork has (a signed offset of 8 bytes)
abbrev pub end_of_places : ℕ
end_of_places = 9223372036854775808

abbrev pub read_at : ForkRef → ℕ → ℕ → Call
read_at reference from count = calls.ReadExt reference (pos from) (pos count)

abbrev pub write_at : ForkRef → ℕ → List ℕ → Call
write_at reference from piece = calls.WriteExt 0 reference (pos from) (pos (length piece)) piece

-- the bytes that a write carries
abbrev pub carried : Call → List ℕ
carried (calls.WriteExt flag reference offset count piece) = piece
carried call = []
