use Rattle.afp_serial.proofs.FaultsTold.{keeps-none-new}
use Rattle.afp_serial.proofs.SessionsLeft.{leaves, leaves-marks, leaves-others, leaves-users}
use Rattle.afp_serial.proofs.laws.calls_leave_other_sessions.Goals as goal

pub returns-clause-leaves : goal.returns-clause-leaves
returns-clause-leaves c = leaves

pub returns-clause-others : goal.returns-clause-others
returns-clause-others c = leaves-others

pub returns-clause-marks : goal.returns-clause-marks
returns-clause-marks c = leaves-marks

pub returns-clause-users : goal.returns-clause-users
returns-clause-users c = leaves-users

pub returns-clause-new : goal.returns-clause-new
returns-clause-new c = keeps-none-new
