-- What the code and the proofs go by beside Input; no public contract cites it.
use Rattle.std.specs.Prelude.{ℕ, ◌+◌, List, take, drop}
use Rattle.afp_calls_grammar.specs.fields.Input.{Input}

-- the n bytes at the place
abbrev pub piece_at : Input → ℕ → List ℕ
piece_at f n = take n (drop f.place f.bytes)

-- the same behind the next n bytes
abbrev pub behind : Input → ℕ → Input
behind f n = record { bytes = f.bytes; place = f.place + n; enclosed = f.enclosed }
