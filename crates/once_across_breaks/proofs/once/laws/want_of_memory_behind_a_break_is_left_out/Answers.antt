use Rattle.once_across_breaks.proofs.OfOnce.Examples.{runs-twice}
use Rattle.once_across_breaks.proofs.once.laws.want_of_memory_behind_a_break_is_left_out.Goals as goal

pub returns : goal.returns
returns c = runs-twice
