use Rattle.range_locks.proofs.Keeping.{seen_other}
use Rattle.range_locks.proofs.locks.Locks.blocks.Goals as goal

pub returns : goal.returns
returns c = seen_other c.intervals.ensures c.look.ensures
