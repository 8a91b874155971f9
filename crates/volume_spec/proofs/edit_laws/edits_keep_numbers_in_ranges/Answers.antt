use Rattle.volume_spec.proofs.CallsBring.{calls-bring}
use Rattle.volume_spec.proofs.EditsTyped.{edit-typed, edits-of-call-typed}
use Rattle.volume_spec.proofs.edit_laws.edits_keep_numbers_in_ranges.Goals as goal

pub returns-clause-edit : goal.returns-clause-edit
returns-clause-edit c = edit-typed

pub returns-clause-call : goal.returns-clause-call
returns-clause-call c = edits-of-call-typed

pub returns-clause-calls : goal.returns-clause-calls
returns-clause-calls c = calls-bring
