use Rattle.once_across_breaks_live.proofs.Scheduling.{happenings-once}
use Rattle.once_across_breaks_live.proofs.laws.what_happens_takes_effect_once.Goals as goal

pub returns : goal.returns
returns c = happenings-once c.runs_are_schedules.ensures.once c.runs_are_schedules.ensures.once_alone (record { runs = c.runs_are_schedules.ensures.tokens; sole = c.runs_are_schedules.ensures.tokens_alone })
