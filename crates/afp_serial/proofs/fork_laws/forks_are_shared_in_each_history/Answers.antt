use Rattle.afp_serial.proofs.ForksInHistories.{never-byte-twice, never-two-conflict}
use Rattle.afp_serial.proofs.fork_laws.forks_are_shared_in_each_history.Goals as goal

pub returns-clause-opens : goal.returns-clause-opens
returns-clause-opens c = never-two-conflict

pub returns-clause-locks : goal.returns-clause-locks
returns-clause-locks c = never-byte-twice
