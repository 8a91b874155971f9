use Rattle.volume_spec.proofs.ByIndex.{below-by-parent, taken-by-key}
use Rattle.volume_spec.proofs.laws.tables_tell_the_tree.Goals as goal

pub returns-clause-below : goal.returns-clause-below
returns-clause-below c = below-by-parent

pub returns-clause-taken : goal.returns-clause-taken
returns-clause-taken c = taken-by-key
