use Rattle.std.proofs.Common.{◌<◌, ◌^◌}
use Rattle.client_files.specs.Gets.{Moves}
use Rattle.client_files.proofs.get.get_fork.Given as goal

abbrev pub invariant-loop-n : goal.invariant-loop-n
invariant-loop-n g l =
    (l.at < 2 ^ 63) × Moves l.reference l.count l.from (g.A.Asker.exchanges l.initial.asker) (g.O.Sink.sink_state l.initial.out) l.at (g.A.Asker.exchanges l.asker) (g.O.Sink.sink_state l.out)

abbrev pub decreases-loop-n : goal.decreases-loop-n
decreases-loop-n g l = g.A.Asker.left l.asker
