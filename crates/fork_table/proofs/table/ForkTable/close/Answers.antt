use Rattle.std.proofs.Common.{◌∙◌, ap, filter, not, ◌==◌}
use Rattle.fork_table.specs.ForkTable.{Table}
use Rattle.fork_table.proofs.Keeping.{table_closed, less_is}
use Rattle.fork_table.proofs.table.ForkTable.close.Goals as goal

pub invariant_of-self : goal.invariant_of-self
invariant_of-self c = table_closed c.args.r.0 c.self.invariant c.take_row.ensures.order c.take_row.ensures.rows c.take_row.ensures.own c.forget.ensures c.forget-2.ensures

pub returns-clause-opens : goal.returns-clause-opens
returns-clause-opens c = c.take_row.ensures.rows ∙ less_is c.self.inside.rows c.args.r.0 c.take_row.ensures.order ∙ ap (λ (t : Table). filter (λ row. not (row.0 == c.args.r.0)) t.opens) c.self.view_is
