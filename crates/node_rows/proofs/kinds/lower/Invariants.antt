use Rattle.std.proofs.Common.{◌≡◌, ◌++◌, map, take, drop}
use Rattle.node_rows.specs.lemma.Kinds.{lowered}
use Rattle.node_rows.proofs.kinds.lower.Given as goal

abbrev pub invariant-loop-i : goal.invariant-loop-i
invariant-loop-i l = l.numbers ≡ map (lowered l.fn.less) (take l.i l.fn.numbers) ++ drop l.i l.fn.numbers
