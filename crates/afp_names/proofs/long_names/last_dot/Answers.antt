use Rattle.std.proofs.Common.{arith}
use Rattle.afp_names.proofs.LongNameLemmas.{last_dot-none, last_dot-some}
use Rattle.afp_names.proofs.long_names.last_dot.Goals as goal

pub returns-clause-none : goal.returns-clause-none
returns-clause-none c = last_dot-none c.args.text.now c.loop-i.i c.loop-i.dot (omega arith) c.loop-i.invariant

pub returns-clause-some : goal.returns-clause-some
returns-clause-some c = last_dot-some c.args.text.now c.loop-i.i c.loop-i.dot (omega arith) c.loop-i.invariant
