use Rattle.std.proofs.Common.{◌∙◌, sym, ap}
use Rattle.std.specs.Prelude.{option_map}
use Rattle.std.specs.Ordering.{nat_cmp}
use Rattle.sorted_map.specs.map.Entries.{at}
use Rattle.fork_table.specs.ForkTable.{Table}
use Rattle.fork_table.proofs.Keeping.{table_locked}
use Rattle.fork_table.proofs.table.ForkTable.lock.Goals as goal

pub invariant_of-self : goal.invariant_of-self
invariant_of-self c =
    let found = sym c.in-Some.is ∙ c.fork_of.ensures ∙ ap (λ (t : Table). option_map (λ o. o.fork) (at nat_cmp t.opens c.args.r.0)) (sym c.self.view_is) in
    table_locked c.in-Some.fork c.args.r.0 c.args.range c.lock.result c.self.invariant found c.lock.ensures
