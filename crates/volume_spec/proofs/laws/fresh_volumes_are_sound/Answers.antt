use Rattle.volume_spec.proofs.Fresh.{fresh-sound}
use Rattle.volume_spec.proofs.laws.fresh_volumes_are_sound.Goals as goal

pub returns : goal.returns
returns c = fresh-sound
