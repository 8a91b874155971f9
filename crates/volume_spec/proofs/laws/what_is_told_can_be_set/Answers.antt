use Rattle.volume_spec.proofs.ToldIsSet.{file-told-is-set, dir-told-is-set}
use Rattle.volume_spec.proofs.laws.what_is_told_can_be_set.Goals as goal

pub returns-clause-file : goal.returns-clause-file
returns-clause-file c = file-told-is-set

pub returns-clause-directory : goal.returns-clause-directory
returns-clause-directory c = dir-told-is-set
