use Rattle.volume_spec.proofs.ToldValues.{volume-told, node-told, found-told, dir-told-id}
use Rattle.volume_spec.proofs.laws.values_are_those_asked_for.Goals as goal

pub returns-clause-volume : goal.returns-clause-volume
returns-clause-volume c = volume-told

pub returns-clause-node : goal.returns-clause-node
returns-clause-node c = node-told

pub returns-clause-found : goal.returns-clause-found
returns-clause-found c = found-told

pub returns-clause-directory : goal.returns-clause-directory
returns-clause-directory c = dir-told-id
