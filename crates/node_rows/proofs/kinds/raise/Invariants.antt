use Rattle.std.proofs.Common.{◌≡◌, ◌++◌, map, take, drop}
use Rattle.node_rows.specs.lemma.Kinds.{raised}
use Rattle.node_rows.proofs.kinds.raise.Given as goal

abbrev pub invariant-loop-i : goal.invariant-loop-i
invariant-loop-i l = l.numbers ≡ map (raised l.fn.more) (take l.i l.fn.numbers) ++ drop l.i l.fn.numbers
