use Rattle.afp_mirror_laws.proofs.SweptLemmas.{done-has-swept}
use Rattle.afp_mirror_laws.proofs.rows.every_directory_is_listed.Goals as goal

pub returns : goal.returns
returns c = done-has-swept
