use Rattle.volume_spec.proofs.edit_laws.calls_may_edit.Goals as goal
use Rattle.volume_spec.proofs.CallsMay.{call-may}

pub returns : goal.returns
returns c = call-may
