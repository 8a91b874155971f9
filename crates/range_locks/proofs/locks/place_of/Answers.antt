use Rattle.std.proofs.Common.{arith}
use Rattle.range_locks.specs.Locks.{ForkLock, is_fork_lock}
use Rattle.range_locks.proofs.Keeping.{count_between, place_passes, none_passes, found, not_found}
use Rattle.range_locks.proofs.locks.place_of.Goals as goal

pub locks_between-requires-clause-low : goal.locks_between-requires-clause-low
locks_between-requires-clause-low c = omega (arith, count_between c.args.list.now c.args.r c.before-first.result c.behind-last.result c.before-first.ensures c.behind-last.ensures)

pub returns-in-Some : goal.returns-in-Some
returns-in-Some c =
    let any : ForkLock = record { reference = c.args.r; fork = c.args.fork.now; range = c.args.range.now } in
    let there = place_passes (is_fork_lock c.args.fork.now c.args.r c.args.range.now) c.locks_between.result.now c.in-Some.place any c.in-Some.ensures in
    found c.args.fork.now c.args.r c.args.range.now c.before-first.result c.behind-last.result c.in-Some.place c.before-first.ensures c.behind-last.ensures c.locks_between.ensures there

pub returns-in-None : goal.returns-in-None
returns-in-None c = not_found c.args.fork.now c.args.r c.args.range.now c.before-first.result c.behind-last.result c.before-first.ensures c.behind-last.ensures c.locks_between.ensures (none_passes (is_fork_lock c.args.fork.now c.args.r c.args.range.now) c.locks_between.result.now c.in-None.ensures)
