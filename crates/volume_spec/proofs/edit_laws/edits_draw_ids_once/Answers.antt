use Rattle.volume_spec.proofs.edit_laws.edits_draw_ids_once.Goals as goal
use Rattle.volume_spec.proofs.EditsLater.{call-later}

pub returns-clause-next : goal.returns-clause-next
returns-clause-next c = λ v now edits. (call-later v now edits).next

pub returns-clause-old : goal.returns-clause-old
returns-clause-old c = λ v now edits id drawn there. (call-later v now edits).old id drawn there
