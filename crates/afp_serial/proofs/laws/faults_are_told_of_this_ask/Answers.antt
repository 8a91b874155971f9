use Rattle.afp_serial.proofs.FaultsTold.{faults-alone, never-no-memory}
use Rattle.afp_serial.proofs.laws.faults_are_told_of_this_ask.Goals as goal

pub returns-clause-faults : goal.returns-clause-faults
returns-clause-faults c = faults-alone

pub returns-clause-memory : goal.returns-clause-memory
returns-clause-memory c = never-no-memory
