use Rattle.once_across_breaks.proofs.OfOnce.Effects.{effects-are, logins-are, written-is-read}
use Rattle.once_across_breaks.proofs.OfOnce.Wishes.{token-carried}
use Rattle.once_across_breaks.proofs.once.laws.effects_are_those_of_the_history.Goals as goal

pub returns-clause-same : goal.returns-clause-same
returns-clause-same c = effects-are c.what_is_written_is_read_again.ensures.again

pub returns-clause-read : goal.returns-clause-read
returns-clause-read c = written-is-read c.what_is_written_is_read_again.ensures.again

pub returns-clause-carried : goal.returns-clause-carried
returns-clause-carried c = token-carried

pub returns-clause-logins : goal.returns-clause-logins
returns-clause-logins c = logins-are c.what_is_written_is_read_again.ensures.again
