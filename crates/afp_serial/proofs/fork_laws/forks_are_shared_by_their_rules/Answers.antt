use Rattle.afp_serial.proofs.ForkFacts.{denies-conflicts, meets-none-behind, meets-up-to-top, no-byte-twice, no-two-conflict, ranges-count, ranges-end, ranges-to-top}
use Rattle.afp_serial.proofs.fork_laws.forks_are_shared_by_their_rules.Goals as goal

pub returns-clause-denied : goal.returns-clause-denied
returns-clause-denied c = denies-conflicts

pub returns-clause-opens : goal.returns-clause-opens
returns-clause-opens c = no-two-conflict

pub returns-clause-locks : goal.returns-clause-locks
returns-clause-locks c = no-byte-twice

pub returns-clause-counted : goal.returns-clause-counted
returns-clause-counted c = ranges-count

pub returns-clause-top : goal.returns-clause-top
returns-clause-top c = ranges-to-top

pub returns-clause-end : goal.returns-clause-end
returns-clause-end c = ranges-end

pub returns-clause-met : goal.returns-clause-met
returns-clause-met c = meets-up-to-top

pub returns-clause-behind : goal.returns-clause-behind
returns-clause-behind c = meets-none-behind
