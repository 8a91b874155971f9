use Rattle.once_across_breaks.proofs.OfOnce.DsiDown.{reply-good}
use Rattle.once_across_breaks.proofs.OfOnce.Fitting.{net-fits, net-starts}
use Rattle.once_across_breaks.proofs.OfOnce.SerialServer.{laws-of, serial-server}
use Rattle.once_across_breaks.specs.once.Serial.{IsSoundUnder}
use Rattle.once_across_breaks.proofs.once.laws.what_is_under_way_fits.Goals as goal

pub returns-clause-starts : goal.returns-clause-starts
returns-clause-starts c = λ u w sound. net-starts (IsSoundUnder u.key) w sound

pub returns-clause-keeps : goal.returns-clause-keeps
returns-clause-keeps c = λ u net e token legal h. net-fits (serial-server (laws-of c.asks_change_sessions_in_few_ways.ensures.changes c.asks_change_sessions_in_few_ways.ensures.there c.fault_hides_no_refusal.ensures.hides c.sound_worlds_stay_sound.ensures.keeps c.sound_worlds_stay_sound.ensures.fits c.tokens_tell_sessions_apart.ensures c.what_is_written_is_read_again.ensures.again) u) net e token legal h

pub returns-clause-good : goal.returns-clause-good
returns-clause-good c = reply-good
