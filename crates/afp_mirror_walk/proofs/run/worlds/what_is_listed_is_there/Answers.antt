use Rattle.afp_mirror_walk.proofs.TreeSteps.{lists-run}
use Rattle.afp_mirror_walk.proofs.run.worlds.what_is_listed_is_there.Goals as goal

pub returns : goal.returns
returns c = lists-run
