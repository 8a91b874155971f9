use Rattle.std.proofs.Common.{◌≡◌, ◌++◌, length, map, take, drop}
use Rattle.range_locks.specs.Locks.{exchange_lock}
use Rattle.range_locks.proofs.locks.exchange_list.Given as goal

abbrev pub invariant-loop-place : goal.invariant-loop-place
invariant-loop-place l = (l.list.items ≡ map (exchange_lock l.a l.b) (take l.place l.initial.list.items) ++ drop l.place l.initial.list.items) × (length l.list.items ≡ length l.initial.list.items)
