use Rattle.std.proofs.Common.{◌≡◌, take}
use Rattle.node_rows.specs.lemma.Kinds.{child_kinds}
use Rattle.node_rows.proofs.rows.kinds_of.Given as goal

abbrev pub invariant-loop-i : goal.invariant-loop-i
invariant-loop-i l = l.kinds.kinds ≡ child_kinds l.nodes (take l.i l.children)
