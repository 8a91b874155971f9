use Rattle.afp_mirror_laws.proofs.PairedLemmas.{done-pairs}
use Rattle.afp_mirror_laws.proofs.rows.every_node_is_paired.Goals as goal

pub returns : goal.returns
returns c = done-pairs
