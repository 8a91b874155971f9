use Rattle.afp_mirror_walk.proofs.Copied.{piece-copied, piece-counted, short-last}
use Rattle.afp_mirror_walk.proofs.laws.pieces_are_copied.Goals as goal

pub returns-clause-copied : goal.returns-clause-copied
returns-clause-copied c = piece-copied

pub returns-clause-last : goal.returns-clause-last
returns-clause-last c = short-last

pub returns-clause-counted : goal.returns-clause-counted
returns-clause-counted c = piece-counted
