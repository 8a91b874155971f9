use Rattle.volume_spec.proofs.Owned.{new-is-told, others-are-told, owner-takes, others-are-denied, others-set-nothing}
use Rattle.volume_spec.proofs.laws.owners_are_told_apart.Goals as goal

pub returns-clause-new : goal.returns-clause-new
returns-clause-new c = new-is-told

pub returns-clause-others : goal.returns-clause-others
returns-clause-others c = others-are-told

pub returns-clause-takes : goal.returns-clause-takes
returns-clause-takes c = owner-takes

pub returns-clause-denied : goal.returns-clause-denied
returns-clause-denied c = others-are-denied

pub returns-clause-set : goal.returns-clause-set
returns-clause-set c = others-set-nothing
