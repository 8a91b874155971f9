use Rattle.volume_spec.proofs.BareRows.{finds-bare, parents-bare, keys-bare, long-names-bare, walks-bare, closed-bare, lacks-bare, owner-bare, lists-bare, taken-bare, below-bare, changes-bare, gone-bare}
use Rattle.volume_spec.proofs.laws.forks_do_not_matter.Goals as goal

pub returns-clause-found : goal.returns-clause-found
returns-clause-found c = finds-bare

pub returns-clause-parents : goal.returns-clause-parents
returns-clause-parents c = parents-bare

pub returns-clause-keys : goal.returns-clause-keys
returns-clause-keys c = keys-bare

pub returns-clause-long_names : goal.returns-clause-long_names
returns-clause-long_names c = long-names-bare

pub returns-clause-walks : goal.returns-clause-walks
returns-clause-walks c = walks-bare

pub returns-clause-closed : goal.returns-clause-closed
returns-clause-closed c = closed-bare

pub returns-clause-lacks : goal.returns-clause-lacks
returns-clause-lacks c = lacks-bare

pub returns-clause-owners : goal.returns-clause-owners
returns-clause-owners c = owner-bare

pub returns-clause-taken : goal.returns-clause-taken
returns-clause-taken c = taken-bare

pub returns-clause-below : goal.returns-clause-below
returns-clause-below c = below-bare

pub returns-clause-changed : goal.returns-clause-changed
returns-clause-changed c = changes-bare

pub returns-clause-gone : goal.returns-clause-gone
returns-clause-gone c = gone-bare

pub returns-clause-lists : goal.returns-clause-lists
returns-clause-lists c = lists-bare
