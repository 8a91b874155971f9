use Rattle.afp_serial.proofs.RefusedAnswers.{refuses-shown}
use Rattle.afp_serial.proofs.ShownAnswers.{tells-shown}
use Rattle.afp_serial.proofs.laws.what_is_told_is_shown.Goals as goal

pub returns-clause-told : goal.returns-clause-told
returns-clause-told c = tells-shown

pub returns-clause-refused : goal.returns-clause-refused
returns-clause-refused c = refuses-shown
