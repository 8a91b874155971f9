use Rattle.deny_modes.proofs.Counting.{exchange_shows, exchange_counted}
use Rattle.deny_modes.proofs.opens.Opens.swap.Goals as goal

pub invariant_of-self : goal.invariant_of-self
invariant_of-self c = exchange_counted c.args.a.now c.args.b.now c.self.invariant c.exchange_rows.ensures c.exchange.ensures

pub returns : goal.returns
returns c = exchange_shows c.self.inside.rows c.args.a.now c.args.b.now c.self.view_is c.exchange_rows.ensures
