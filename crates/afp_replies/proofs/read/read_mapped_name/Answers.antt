use Rattle.afp_replies.proofs.Steps.{never_stops}
use Rattle.afp_replies.proofs.read.read_mapped_name.Goals as goal

pub returns-in-None : goal.returns-in-None
returns-in-None c = rw (← c.in-None.ensures, c.bad.ensures) (never_stops _)
