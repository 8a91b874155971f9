use Rattle.volume_spec.proofs.Counted.{counts-all, listed-is-there, entries-are-there, counts-bare, offspring-bare}
use Rattle.volume_spec.proofs.laws.what_counts_is_listed.Goals as goal

pub returns-clause-all : goal.returns-clause-all
returns-clause-all c = counts-all

pub returns-clause-there : goal.returns-clause-there
returns-clause-there c = listed-is-there

pub returns-clause-bare : goal.returns-clause-bare
returns-clause-bare c = counts-bare

pub returns-clause-offspring : goal.returns-clause-offspring
returns-clause-offspring c = offspring-bare

pub returns-clause-entries : goal.returns-clause-entries
returns-clause-entries c = entries-are-there
