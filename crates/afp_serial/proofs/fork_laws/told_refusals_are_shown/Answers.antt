use Rattle.afp_serial.proofs.ForkFacts.{denial-shown, end-shown}
use Rattle.afp_serial.proofs.RefusalsShown.{refusals-shown}
use Rattle.afp_serial.proofs.fork_laws.told_refusals_are_shown.Goals as goal

pub returns-clause-end : goal.returns-clause-end
returns-clause-end c = end-shown

pub returns-clause-denial : goal.returns-clause-denial
returns-clause-denial c = denial-shown

pub returns-clause-all : goal.returns-clause-all
returns-clause-all c = refusals-shown
