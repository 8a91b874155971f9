use Rattle.std.proofs.Common.{◌≡◌, ◌<◌, ◌^◌, length}
use Rattle.client_files.specs.Verifies.{Agrees}
use Rattle.client_files.proofs.verify.verify_fork.Given as goal

abbrev pub invariant-loop-n : goal.invariant-loop-n
invariant-loop-n g l =
    (l.at < 2 ^ 63) × (length l.room ≡ length l.initial.room)
    × Agrees l.reference l.count l.from (g.A.Asker.exchanges l.initial.asker) (g.S.Source.source_state l.initial.source) l.at (g.A.Asker.exchanges l.asker) (g.S.Source.source_state l.source)

abbrev pub decreases-loop-n : goal.decreases-loop-n
decreases-loop-n g l = g.A.Asker.left l.asker
