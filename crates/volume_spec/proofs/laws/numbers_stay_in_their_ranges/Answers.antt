use Rattle.volume_spec.proofs.EditsTyped.{exchanged-typed}
use Rattle.volume_spec.proofs.TypedSteps.{call-typed, steps-typed, fresh-typed, put-typed}
use Rattle.volume_spec.proofs.laws.numbers_stay_in_their_ranges.Goals as goal

pub returns-clause-call : goal.returns-clause-call
returns-clause-call c = call-typed

pub returns-clause-calls : goal.returns-clause-calls
returns-clause-calls c = steps-typed

pub returns-clause-fresh : goal.returns-clause-fresh
returns-clause-fresh c = fresh-typed

pub returns-clause-put : goal.returns-clause-put
returns-clause-put c = put-typed

pub returns-clause-exchanged : goal.returns-clause-exchanged
returns-clause-exchanged c = exchanged-typed
