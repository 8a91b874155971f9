use Rattle.volume_spec.proofs.Later.{steps-sound, never-again}
use Rattle.volume_spec.proofs.laws.calls_keep_volumes_sound_for_ever.Goals as goal

pub returns-clause-sound : goal.returns-clause-sound
returns-clause-sound c = steps-sound

pub returns-clause-once : goal.returns-clause-once
returns-clause-once c = never-again
