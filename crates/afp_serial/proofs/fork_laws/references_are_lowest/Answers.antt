use Rattle.afp_serial.proofs.FreeReferences.{lowest-free, lowest-lower, lowest-within, opens-few}
use Rattle.afp_serial.proofs.fork_laws.references_are_lowest.Goals as goal

pub returns-clause-free : goal.returns-clause-free
returns-clause-free c = lowest-free

pub returns-clause-lowest : goal.returns-clause-lowest
returns-clause-lowest c = lowest-lower

pub returns-clause-counts : goal.returns-clause-counts
returns-clause-counts c = lowest-within

pub returns-clause-few : goal.returns-clause-few
returns-clause-few c = opens-few
