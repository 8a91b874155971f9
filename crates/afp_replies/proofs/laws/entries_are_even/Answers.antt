use Rattle.afp_replies.proofs.Evenness.{even_entry}
use Rattle.afp_replies.proofs.laws.entries_are_even.Goals as goal

pub returns : goal.returns
returns c = λ wide fb db e f. even_entry wide fb db e f
