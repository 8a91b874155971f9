use Rattle.afp_mirror_walk.proofs.TailSettings.{settings-settle, tail-settings, told-has-set}
use Rattle.afp_mirror_walk.proofs.laws.what_is_told_is_set.Goals as goal

pub returns-clause-tail : goal.returns-clause-tail
returns-clause-tail c = tail-settings

pub returns-clause-settles : goal.returns-clause-settles
returns-clause-settles c = settings-settle

pub returns-clause-told : goal.returns-clause-told
returns-clause-told c = told-has-set
