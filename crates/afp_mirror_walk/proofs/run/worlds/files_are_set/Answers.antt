use Rattle.afp_mirror_walk.proofs.SetFiles.{file-set}
use Rattle.afp_mirror_walk.proofs.run.worlds.files_are_set.Goals as goal

pub returns : goal.returns
returns c = file-set
