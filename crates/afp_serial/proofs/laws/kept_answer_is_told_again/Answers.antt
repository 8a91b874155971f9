use Rattle.afp_serial.proofs.CallLaws.{tells-kept}
use Rattle.afp_serial.proofs.laws.kept_answer_is_told_again.Goals as goal

pub returns : goal.returns
returns c = tells-kept
