use Rattle.std.proofs.Common.{arith}
use Rattle.range_locks.proofs.Keeping.{count_between}
use Rattle.range_locks.proofs.locks.held_by.Goals as goal

pub overflow_sub-result : goal.overflow_sub-result
overflow_sub-result c = omega (arith, count_between c.args.list.now c.args.r c.before-first.result c.behind-last.result c.before-first.ensures c.behind-last.ensures)

pub returns : goal.returns
returns c = omega (arith, count_between c.args.list.now c.args.r c.before-first.result c.behind-last.result c.before-first.ensures c.behind-last.ensures)
