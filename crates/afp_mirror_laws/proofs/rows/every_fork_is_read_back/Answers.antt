use Rattle.afp_mirror_laws.proofs.ReadBackLemmas.{done-has-read-back}
use Rattle.afp_mirror_laws.proofs.rows.every_fork_is_read_back.Goals as goal

pub returns : goal.returns
returns c = done-has-read-back
