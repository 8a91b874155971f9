use Rattle.std.proofs.Common.{refl}
use Rattle.afp_bitmap.specs.Bits.{is_asked}
use Rattle.afp_serial.proofs.session_laws.worked_sessions_hold.Goals as goal

pub returns-clause-logins : goal.returns-clause-logins
returns-clause-logins c = refl

pub returns-clause-users : goal.returns-clause-users
returns-clause-users c = refl

pub returns-clause-own : goal.returns-clause-own
unfolding is_asked
returns-clause-own c = refl

pub returns-clause-messages : goal.returns-clause-messages
unfolding is_asked
returns-clause-messages c = refl

pub returns-clause-closing : goal.returns-clause-closing
unfolding is_asked
returns-clause-closing c = refl

pub returns-clause-volumes : goal.returns-clause-volumes
returns-clause-volumes c = refl
