use Rattle.once_across_breaks.proofs.OfOnce.SerialServer.{starts-under, stays-under}
use Rattle.once_across_breaks.proofs.once.laws.sound_worlds_keep_their_key.Goals as goal

pub returns-clause-starts : goal.returns-clause-starts
returns-clause-starts c = starts-under c.sound_worlds_stay_sound.ensures.starts

pub returns-clause-keeps : goal.returns-clause-keeps
returns-clause-keeps c = stays-under c.sound_worlds_stay_sound.ensures.keeps
