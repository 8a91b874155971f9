use Rattle.once_across_breaks_live.proofs.Scheduling.{happenings-are}
use Rattle.once_across_breaks_live.proofs.laws.what_happens_is_a_schedule.Goals as goal

pub returns : goal.returns
returns c = happenings-are c.runs_are_schedules.ensures.runs c.runs_are_schedules.ensures.alone
