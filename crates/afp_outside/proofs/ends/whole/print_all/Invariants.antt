use Rattle.std.proofs.Common.{◌≡◌, ℕ, List, ◌++◌, length}
use Rattle.afp_outside.specs.ends.Whole.{Prints}
use Rattle.afp_outside.proofs.ends.whole.print_all.Given as goal

abbrev pub invariant-loop-left : goal.invariant-loop-left
invariant-loop-left g l =
    (sent : List ℕ) × (l.text ≡ sent ++ l.left) × Prints (g.O.Sink.sink_state l.initial.out) sent (g.O.Sink.sink_state l.out)

abbrev pub decreases-loop-left : goal.decreases-loop-left
decreases-loop-left g l = length l.left
