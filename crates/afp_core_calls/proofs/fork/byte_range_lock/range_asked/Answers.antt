use Rattle.std.proofs.Common.{pos, to_z-of_z}
use Rattle.afp_core_calls.proofs.OfFork.ForkLockLemmas.{range-told}
use Rattle.afp_core_calls.proofs.fork.byte_range_lock.range_asked.Goals as goal

pub returns-clause-range : goal.returns-clause-range
returns-clause-range g c = λ f there is.
    range-told f c.args.fork.now c.args.flags c.args.offset c.args.length c.counts_from_end.result c.start_on.result c.range_of.result is (c.counts_from_end.ensures (pos 0) (pos 0))
    (simp (to_z-of_z, c.ranges.offset) at (c.start_on.ensures.place f.file there)) (simp (to_z-of_z, c.ranges.length) at c.range_of.ensures)
