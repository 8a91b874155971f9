use Rattle.afp_names.proofs.NameLemmas.{name_fault-IsName}
use Rattle.afp_names.proofs.name.Name.new.Goals as goal

pub invariant_of-result : goal.invariant_of-result
invariant_of-result c = rw (c.in-Ok.ensures.ok, c.in_ok-text.ensures.text) c.in_ok-text.ensures.good

pub returns-in_err-text-clause-faultless : goal.returns-in_err-text-clause-faultless
returns-in_err-text-clause-faultless c = name_fault-IsName c.args.bytes.now

pub returns-in-Ok-clause-faultless : goal.returns-in-Ok-clause-faultless
returns-in-Ok-clause-faultless c = name_fault-IsName c.args.bytes.now

pub returns-in-Err-clause-faultless : goal.returns-in-Err-clause-faultless
returns-in-Err-clause-faultless c = name_fault-IsName c.args.bytes.now
