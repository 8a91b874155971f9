use Rattle.fork_table.proofs.Keeping.{table_exchanged}
use Rattle.fork_table.proofs.table.ForkTable.swap.Goals as goal

pub invariant_of-self : goal.invariant_of-self
invariant_of-self c = table_exchanged c.args.a.now c.args.b.now c.self.invariant c.exchange_rows.ensures c.swap.ensures c.swap-2.ensures
