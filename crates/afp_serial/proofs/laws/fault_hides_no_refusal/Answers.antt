use Rattle.afp_serial.proofs.RowsSound.{row-sound}
use Rattle.afp_serial.proofs.CallLaws.{hides-no-refusal, may-fail}
use Rattle.afp_serial.proofs.laws.fault_hides_no_refusal.Goals as goal

pub returns-clause-hides : goal.returns-clause-hides
returns-clause-hides c = hides-no-refusal

pub returns-clause-may : goal.returns-clause-may
returns-clause-may c = may-fail

pub returns-clause-keeper : goal.returns-clause-keeper
returns-clause-keeper c = λ w s call index passes commits. (row-sound call).keeper w s index passes commits
