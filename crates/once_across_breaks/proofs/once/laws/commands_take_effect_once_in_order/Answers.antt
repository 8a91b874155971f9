use Rattle.once_across_breaks.proofs.OfOnce.Carried.{carried-once, one-frame}
use Rattle.once_across_breaks.proofs.OfOnce.SerialServer.{laws-of, serial-server}
use Rattle.once_across_breaks.proofs.OfOnce.Spelt.{bytes-once}
use Rattle.once_across_breaks.proofs.OfOnce.Theorem.{commands-once, none-without-token}
use Rattle.once_across_breaks.proofs.OfOnce.DsiDown.{dsi-codecs}
use Rattle.once_across_breaks.specs.once.Dsi.{dsi}
use Rattle.once_across_breaks.specs.once.Serial.{machine}
use Rattle.once_across_breaks.proofs.OfOnce.LastRequest.{only-the-waiting}
use Rattle.once_across_breaks.proofs.once.laws.commands_take_effect_once_in_order.Goals as goal

pub returns-clause-once : goal.returns-clause-once
returns-clause-once c = λ u. commands-once (serial-server (laws-of c.asks_change_sessions_in_few_ways.ensures.changes c.asks_change_sessions_in_few_ways.ensures.there c.fault_hides_no_refusal.ensures.hides c.sound_worlds_stay_sound.ensures.keeps c.sound_worlds_stay_sound.ensures.fits c.tokens_tell_sessions_apart.ensures c.what_is_written_is_read_again.ensures.again) u)

pub returns-clause-carried : goal.returns-clause-carried
returns-clause-carried c = λ u. carried-once (serial-server (laws-of c.asks_change_sessions_in_few_ways.ensures.changes c.asks_change_sessions_in_few_ways.ensures.there c.fault_hides_no_refusal.ensures.hides c.sound_worlds_stay_sound.ensures.keeps c.sound_worlds_stay_sound.ensures.fits c.tokens_tell_sessions_apart.ensures c.what_is_written_is_read_again.ensures.again) u)

pub returns-clause-bytes : goal.returns-clause-bytes
returns-clause-bytes c = λ u. bytes-once (serial-server (laws-of c.asks_change_sessions_in_few_ways.ensures.changes c.asks_change_sessions_in_few_ways.ensures.there c.fault_hides_no_refusal.ensures.hides c.sound_worlds_stay_sound.ensures.keeps c.sound_worlds_stay_sound.ensures.fits c.tokens_tell_sessions_apart.ensures c.what_is_written_is_read_again.ensures.again) u)

pub returns-clause-dsi : goal.returns-clause-dsi
returns-clause-dsi c = λ u. bytes-once (serial-server (laws-of c.asks_change_sessions_in_few_ways.ensures.changes c.asks_change_sessions_in_few_ways.ensures.there c.fault_hides_no_refusal.ensures.hides c.sound_worlds_stay_sound.ensures.keeps c.sound_worlds_stay_sound.ensures.fits c.tokens_tell_sessions_apart.ensures c.what_is_written_is_read_again.ensures.again) u) (dsi u) (dsi-codecs c.what_is_written_is_read_again.ensures.again u)

pub returns-clause-none : goal.returns-clause-none
returns-clause-none c = λ u. none-without-token (serial-server (laws-of c.asks_change_sessions_in_few_ways.ensures.changes c.asks_change_sessions_in_few_ways.ensures.there c.fault_hides_no_refusal.ensures.hides c.sound_worlds_stay_sound.ensures.keeps c.sound_worlds_stay_sound.ensures.fits c.tokens_tell_sessions_apart.ensures c.what_is_written_is_read_again.ensures.again) u)

pub returns-clause-frames : goal.returns-clause-frames
returns-clause-frames c = λ u. one-frame (machine u)

pub returns-clause-waiting : goal.returns-clause-waiting
returns-clause-waiting c = λ u. only-the-waiting (machine u)
