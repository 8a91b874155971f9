use Rattle.dsi_session.proofs.IdLemmas.{counts}
use Rattle.dsi_session.proofs.laws.ids_count_in_rounds.Goals as goal

pub returns : goal.returns
returns c = counts
