use Rattle.afp_replies.proofs.Steps.{never_stops}
use Rattle.afp_replies.proofs.answer.read_shape.Goals as goal

pub returns-in-Unlisted : goal.returns-in-Unlisted
returns-in-Unlisted c = rw (c.in-Unlisted.is, c.bad.ensures) (never_stops _)
