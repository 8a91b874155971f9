use Rattle.volume_changes.proofs.records.laws.differences_are_exact.Goals as goal
use Rattle.volume_changes.proofs.OfRecords.Exact.{exact, makes}

pub returns-clause-made : goal.returns-clause-made
returns-clause-made c = λ keys before next. makes before next keys

pub returns-clause-exact : goal.returns-clause-exact
returns-clause-exact c = λ keys before next. exact before next keys
