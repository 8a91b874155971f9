use Rattle.afp_serial.proofs.EditCommits.{copies-committed, edits-committed, exchanges-committed}
use Rattle.afp_serial.proofs.laws.edits_are_committed.Goals as goal

pub returns-clause-edits : goal.returns-clause-edits
returns-clause-edits c = edits-committed

pub returns-clause-copies : goal.returns-clause-copies
returns-clause-copies c = copies-committed

pub returns-clause-exchanges : goal.returns-clause-exchanges
returns-clause-exchanges c = exchanges-committed
