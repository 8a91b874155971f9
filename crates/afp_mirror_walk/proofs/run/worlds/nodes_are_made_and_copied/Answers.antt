use Rattle.afp_mirror_walk.proofs.NodesMade.{copies-piece, dir-made, file-made}
use Rattle.afp_mirror_walk.proofs.run.worlds.nodes_are_made_and_copied.Goals as goal

pub returns-clause-dirs : goal.returns-clause-dirs
returns-clause-dirs c = dir-made

pub returns-clause-files : goal.returns-clause-files
returns-clause-files c = file-made

pub returns-clause-pieces : goal.returns-clause-pieces
returns-clause-pieces c = copies-piece
