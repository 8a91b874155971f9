use Rattle.once_across_breaks_drill.proofs.OfRounds.Exchanging.{opening-taken, waiting-taken}
use Rattle.once_across_breaks_drill.proofs.rounds.laws.replies_are_taken.Goals as goal

pub returns-clause-waiting : goal.returns-clause-waiting
returns-clause-waiting c = waiting-taken

pub returns-clause-opening : goal.returns-clause-opening
returns-clause-opening c = opening-taken
