use Rattle.afp_names.proofs.NameLemmas.{name_fault-IsName}
use Rattle.afp_names.proofs.name.Name.as_str.Goals as goal

pub returns-clause-name : goal.returns-clause-name
returns-clause-name c = (name_fault-IsName c.args.self.now).0 (rw c.self.view_is at c.self.invariant)
