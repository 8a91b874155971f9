use Rattle.afp_mirror_walk.proofs.TableRows.{refusals-end}
use Rattle.afp_mirror_walk.proofs.walk.table.refusals_end.Goals as goal

pub returns : goal.returns
returns c = refusals-end
