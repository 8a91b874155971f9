use Rattle.once_across_breaks_live.proofs.LaneLemmas.{ended-where, goes-pulsed}
use Rattle.once_across_breaks_live.proofs.lane.Lane.end_where.Goals as goal

pub returns-then-not-ends : goal.returns-then-not-ends
returns-then-not-ends c = λ x is live. goes-pulsed c.args.self.now x c.args.ends is live c.if-not-ends.true

pub returns : goal.returns
returns c = λ x is live. ended-where c.args.self.now x c.args.ends is c.if-not-ends.false
