use Rattle.std.proofs.Common.{◌≡◌, length}
use Rattle.fork_table.specs.ForkTable.{closing, is_open_of_session}
use Rattle.fork_table.proofs.table.ForkTable.close_session.Given as goal

abbrev pub invariant-loop-r : goal.invariant-loop-r
invariant-loop-r l = closing (is_open_of_session l.s.0) l.self ≡ closing (is_open_of_session l.s.0) l.initial.self

abbrev pub decreases-loop-r : goal.decreases-loop-r
decreases-loop-r l = length l.self.opens
