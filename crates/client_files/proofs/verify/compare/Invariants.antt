use Rattle.std.proofs.Common.{◌≡◌, ◌≤◌, List, ℕ, ◌++◌, length}
use Rattle.client_files.specs.Sources.{Gives}
use Rattle.client_files.proofs.verify.compare.Given as goal

abbrev pub invariant-loop-left : goal.invariant-loop-left
invariant-loop-left g l =
    (sent : List ℕ) × (l.piece ≡ sent ++ l.left) × (length l.room ≡ length l.initial.room) × Gives (g.S.Source.source_state l.initial.source) sent (g.S.Source.source_state l.source)
    × (length l.left ≤ length l.piece)

abbrev pub decreases-loop-left : goal.decreases-loop-left
decreases-loop-left g l = length l.left
