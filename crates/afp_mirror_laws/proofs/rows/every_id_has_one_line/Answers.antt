use Rattle.afp_mirror_laws.proofs.ReachedLemmas.{each-has-one-line}
use Rattle.afp_mirror_laws.proofs.rows.every_id_has_one_line.Goals as goal

pub returns : goal.returns
returns c = each-has-one-line
