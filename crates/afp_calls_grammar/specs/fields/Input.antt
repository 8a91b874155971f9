-- The bytes of a request as they are read: its block, the place of the next byte, and what comes with the block.
use Rattle.std.specs.Prelude.{ℕ, List, drop, Option}
use Rattle.afp_calls_grammar.specs.declared.grammar.call.Call.{Call}
use Rattle.afp_calls_grammar.specs.grammar.Reading.{Reading, read}

-- a block, the place of the byte that is read next, and what a Write frame encloses
pub record Input : Type 0 where
  pub bytes : List ℕ
  pub place : ℕ
  pub enclosed : Option (List ℕ)

-- the bytes from the place on
abbrev pub bytes_left : Input → List ℕ
bytes_left f = drop f.place f.bytes

-- what the reading finds from the place on
abbrev pub read_on : Reading → Input → Option Call
read_on reading f = read reading f.place f.enclosed (bytes_left f)
