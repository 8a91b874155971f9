use Rattle.deny_modes.proofs.Counting.{told_some, told_none}
use Rattle.deny_modes.proofs.opens.Opens.may_open.Goals as goal

pub returns-in-Some : goal.returns-in-Some
returns-in-Some c = told_some c.self.invariant c.args.fork.now c.args.mode.now c.in-Some.tally.now c.self.view_is c.in-Some.ensures c.clashes.result c.clashes.ensures

pub returns-in-None : goal.returns-in-None
returns-in-None c = told_none c.self.invariant c.args.fork.now c.args.mode.now c.self.view_is c.in-None.ensures
