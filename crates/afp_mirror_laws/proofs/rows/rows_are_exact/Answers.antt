use Rattle.afp_mirror_laws.proofs.RowLemmas.{bad-is-exact, changed-is-exact, not-empty-is-exact, refused-is-exact, too-many-is-exact}
use Rattle.afp_mirror_laws.proofs.rows.rows_are_exact.Goals as goal

pub returns-clause-refused : goal.returns-clause-refused
returns-clause-refused c = refused-is-exact c.refusals_end.ensures

pub returns-clause-not_empty : goal.returns-clause-not_empty
returns-clause-not_empty c = not-empty-is-exact

pub returns-clause-too_many : goal.returns-clause-too_many
returns-clause-too_many c = too-many-is-exact

pub returns-clause-bad : goal.returns-clause-bad
returns-clause-bad c = bad-is-exact

pub returns-clause-changed : goal.returns-clause-changed
returns-clause-changed c = changed-is-exact
