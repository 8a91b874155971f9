use Rattle.volume_spec.proofs.edit_laws.edits_keep_volumes_sound.Goals as goal
use Rattle.volume_spec.proofs.EditsSound.{call-sound, edit-sound}

pub returns-clause-edit : goal.returns-clause-edit
returns-clause-edit c = edit-sound

pub returns-clause-call : goal.returns-clause-call
returns-clause-call c = call-sound
