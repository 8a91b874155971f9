-- Where the code reads; no public contract cites it.
use Rattle.std.specs.Prelude.{ℕ, List}

-- a place in a block, and the bytes from there on
abbrev pub Spot : Type 0
Spot = ℕ × List ℕ
