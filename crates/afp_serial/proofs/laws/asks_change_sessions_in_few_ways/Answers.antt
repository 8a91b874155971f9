use Rattle.afp_serial.proofs.SessionLaw.{changes-views, holder-is-there}
use Rattle.afp_serial.proofs.laws.asks_change_sessions_in_few_ways.Goals as goal

pub returns-clause-changes : goal.returns-clause-changes
returns-clause-changes c = changes-views

pub returns-clause-there : goal.returns-clause-there
returns-clause-there c = holder-is-there
