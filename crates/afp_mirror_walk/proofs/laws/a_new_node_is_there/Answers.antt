use Rattle.afp_mirror_walk.proofs.NewNodes.{new-there, others-before}
use Rattle.afp_mirror_walk.proofs.laws.a_new_node_is_there.Goals as goal

pub returns-clause-there : goal.returns-clause-there
returns-clause-there c = new-there

pub returns-clause-others : goal.returns-clause-others
returns-clause-others c = others-before
