use Rattle.volume_spec.proofs.OpenFiles.{calls-let, edit-lets-be, edit-named, edits-of-call-let-be, edits-of-call-named}
use Rattle.volume_spec.proofs.edit_laws.edits_let_open_files_be.Goals as goal

pub returns-clause-name : goal.returns-clause-name
returns-clause-name c = edit-named

pub returns-clause-call_name : goal.returns-clause-call_name
returns-clause-call_name c = edits-of-call-named

pub returns-clause-edit : goal.returns-clause-edit
returns-clause-edit c = edit-lets-be

pub returns-clause-call : goal.returns-clause-call
returns-clause-call c = edits-of-call-let-be

pub returns-clause-calls : goal.returns-clause-calls
returns-clause-calls c = calls-let
