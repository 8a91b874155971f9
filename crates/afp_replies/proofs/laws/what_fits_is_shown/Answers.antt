use Rattle.afp_replies.proofs.Showing.{what_fits, what_is_shown}
use Rattle.afp_replies.proofs.laws.what_fits_is_shown.Goals as goal

pub returns : goal.returns
returns c = λ r. (what_is_shown r, what_fits r)
