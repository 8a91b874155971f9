use Rattle.afp_serial.proofs.PlainSessions.{links-differ, counts-sessions, never-twice, opens-new, only-opens}
use Rattle.afp_serial.proofs.laws.session_numbers_are_given_once.Goals as goal

pub returns-clause-links : goal.returns-clause-links
returns-clause-links c = links-differ

pub returns-clause-counted : goal.returns-clause-counted
returns-clause-counted c = counts-sessions

pub returns-clause-once : goal.returns-clause-once
returns-clause-once c = never-twice

pub returns-clause-new : goal.returns-clause-new
returns-clause-new c = opens-new

pub returns-clause-only : goal.returns-clause-only
returns-clause-only c = only-opens
