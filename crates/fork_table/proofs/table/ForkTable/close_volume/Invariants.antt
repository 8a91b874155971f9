use Rattle.std.proofs.Common.{◌≡◌, length}
use Rattle.fork_table.specs.ForkTable.{closing, is_of_volume}
use Rattle.fork_table.proofs.table.ForkTable.close_volume.Given as goal

abbrev pub invariant-loop-r : goal.invariant-loop-r
invariant-loop-r l = closing (is_of_volume l.s.0 l.v.0) l.self ≡ closing (is_of_volume l.s.0 l.v.0) l.initial.self

abbrev pub decreases-loop-r : goal.decreases-loop-r
decreases-loop-r l = length l.self.opens
