use Rattle.afp_serial.proofs.EndsOneByOne.{ends-none, one-by-one}
use Rattle.afp_serial.proofs.laws.sessions_that_are_gone_end_one_by_one.Goals as goal

pub returns-clause-one : goal.returns-clause-one
returns-clause-one c = one-by-one

pub returns-clause-none : goal.returns-clause-none
returns-clause-none c = ends-none
