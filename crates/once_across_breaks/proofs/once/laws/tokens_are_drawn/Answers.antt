use Rattle.once_across_breaks.proofs.OfOnce.Drawn.{tokens-drawn}
use Rattle.once_across_breaks.proofs.OfOnce.SerialServer.{laws-of}
use Rattle.once_across_breaks.proofs.once.laws.tokens_are_drawn.Goals as goal

pub returns : goal.returns
returns c = tokens-drawn (laws-of c.asks_change_sessions_in_few_ways.ensures.changes c.asks_change_sessions_in_few_ways.ensures.there c.fault_hides_no_refusal.ensures.hides c.sound_worlds_stay_sound.ensures.keeps c.sound_worlds_stay_sound.ensures.fits c.tokens_tell_sessions_apart.ensures c.what_is_written_is_read_again.ensures.again)
