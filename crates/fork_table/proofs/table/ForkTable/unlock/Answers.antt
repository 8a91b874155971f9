use Rattle.fork_table.proofs.Keeping.{table_unlocked}
use Rattle.fork_table.proofs.table.ForkTable.unlock.Goals as goal

pub invariant_of-self : goal.invariant_of-self
invariant_of-self c = table_unlocked c.in-Some.fork c.args.r.0 c.args.range c.unlock.result c.self.invariant c.unlock.ensures
