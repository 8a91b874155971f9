use Rattle.afp_serial.proofs.DisplacedLaws.{tells-displaced, leaves-displaced, only-sweeps}
use Rattle.afp_serial.proofs.laws.displaced_changes_nothing.Goals as goal

pub returns-clause-told : goal.returns-clause-told
returns-clause-told c = tells-displaced

pub returns-clause-left : goal.returns-clause-left
returns-clause-left c = leaves-displaced

pub returns-clause-swept : goal.returns-clause-swept
returns-clause-swept c = only-sweeps
