use Rattle.afp_mirror_walk.proofs.TreeSteps.{dirs-made, dirs-set, files-made, files-set}
use Rattle.afp_mirror_walk.proofs.run.worlds.trees_are_changed.Goals as goal

pub returns-clause-dirs : goal.returns-clause-dirs
returns-clause-dirs c = dirs-made

pub returns-clause-files : goal.returns-clause-files
returns-clause-files c = files-made

pub returns-clause-set_files : goal.returns-clause-set_files
returns-clause-set_files c = files-set

pub returns-clause-set_dirs : goal.returns-clause-set_dirs
returns-clause-set_dirs c = dirs-set
