use Rattle.std.proofs.Common.{◌-◌}
use Rattle.fork_table.proofs.References.{AreHalved}
use Rattle.fork_table.proofs.rows.lowest_free.Given as goal

abbrev pub invariant-loop-low : goal.invariant-loop-low
invariant-loop-low l = AreHalved l.rows l.low l.high

abbrev pub decreases-loop-low : goal.decreases-loop-low
decreases-loop-low l = l.high - l.low
