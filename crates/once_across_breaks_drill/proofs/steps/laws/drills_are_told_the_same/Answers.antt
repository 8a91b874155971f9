use Rattle.once_across_breaks_drill.proofs.OfSteps.DrawnSteps.{drills-are}
use Rattle.once_across_breaks_drill.proofs.steps.laws.drills_are_told_the_same.Goals as goal

pub returns : goal.returns
returns c = drills-are c.breaks_change_no_result.ensures.opened
