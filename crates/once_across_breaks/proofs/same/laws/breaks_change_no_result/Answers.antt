use Rattle.once_across_breaks.proofs.OfSame.Changing.{breaks-change-nothing}
use Rattle.once_across_breaks.proofs.OfSame.Opening.{behind-openings}
use Rattle.once_across_breaks.proofs.same.laws.breaks_change_no_result.Goals as goal

pub returns-clause-alone : goal.returns-clause-alone
returns-clause-alone c = breaks-change-nothing c.what_is_written_is_read_again.ensures.again c.last_answers_are_found.ensures.newest c.sessions_that_are_gone_end_one_by_one.ensures.none c.sound_worlds_stay_sound.ensures.keeps

pub returns-clause-opened : goal.returns-clause-opened
returns-clause-opened c =
    behind-openings c.what_is_written_is_read_again.ensures.again c.last_answers_are_found.ensures.newest c.sessions_that_are_gone_end_one_by_one.ensures.none c.sound_worlds_stay_sound.ensures.keeps c.sound_worlds_stay_sound.ensures.starts c.sound_worlds_stay_sound.ensures.fresh c.calls_leave_other_sessions.ensures.leaves
