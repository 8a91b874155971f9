use Rattle.afp_serial.proofs.UserLaws.{ext-logs-in-by-password, logs-in-by-password, logs-in-without-name, users-are-known}
use Rattle.afp_serial.proofs.session_laws.users_log_in_by_their_passwords.Goals as goal

pub returns-clause-known : goal.returns-clause-known
returns-clause-known c = users-are-known

pub returns-clause-login : goal.returns-clause-login
returns-clause-login c = logs-in-by-password

pub returns-clause-login_ext : goal.returns-clause-login_ext
returns-clause-login_ext c = ext-logs-in-by-password

pub returns-clause-no_name : goal.returns-clause-no_name
returns-clause-no_name c = logs-in-without-name
