use Rattle.afp_mirror_walk.proofs.Paths.{dir-created, dir-found, file-created, name-step, none-step}
use Rattle.afp_mirror_walk.proofs.laws.names_are_places.Goals as goal

pub returns-clause-steps : goal.returns-clause-steps
returns-clause-steps c = name-step

pub returns-clause-none : goal.returns-clause-none
returns-clause-none c = none-step

pub returns-clause-dirs : goal.returns-clause-dirs
returns-clause-dirs c = dir-created

pub returns-clause-files : goal.returns-clause-files
returns-clause-files c = file-created

pub returns-clause-found : goal.returns-clause-found
returns-clause-found c = dir-found
