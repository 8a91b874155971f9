use Rattle.fork_bytes.proofs.PlanBytes.{plans_say}
use Rattle.fork_bytes.proofs.laws.plans_say_bytes.Goals as goal

pub returns : goal.returns
returns c = plans_say
