use Rattle.afp_mirror_laws.proofs.ReachedLemmas.{reached-is-fit, too-many-is-one-more}
use Rattle.afp_mirror_laws.proofs.rows.rows_are_exact_where_it_comes.Goals as goal

pub returns-clause-fit : goal.returns-clause-fit
returns-clause-fit c = reached-is-fit

pub returns-clause-too_many : goal.returns-clause-too_many
returns-clause-too_many c = too-many-is-one-more
