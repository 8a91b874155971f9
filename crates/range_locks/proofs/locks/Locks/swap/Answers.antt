use Rattle.range_locks.proofs.Keeping.{exchange_kept, exchange_order}
use Rattle.range_locks.proofs.locks.Locks.swap.Goals as goal

pub invariant_of-self : goal.invariant_of-self
invariant_of-self c = exchange_kept c.args.a.now c.args.b.now c.self.invariant c.exchange_list.ensures (exchange_order c.args.a.now c.args.b.now c.self.inside.list.items c.self.invariant.order) c.exchange.ensures
