use Rattle.std.proofs.Common.{◌-◌}
use Rattle.node_rows.specs.lemma.Kinds.{IsHalved, kinds_of}
use Rattle.node_rows.proofs.kinds.find_nth.Given as goal

abbrev pub invariant-loop-low : goal.invariant-loop-low
invariant-loop-low l = IsHalved (kinds_of 0 l.fn.files) l.fn.file l.fn.from l.fn.end l.fn.skip l.low l.high

abbrev pub decreases-loop-low : goal.decreases-loop-low
decreases-loop-low l = l.high - l.low
