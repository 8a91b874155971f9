use Rattle.once_across_breaks.proofs.OfOnce.Examples.{runs-once}
use Rattle.once_across_breaks.proofs.once.laws.a_lost_reply_is_told_again.Goals as goal

pub returns : goal.returns
returns c = runs-once
