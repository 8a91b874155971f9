use Rattle.std.proofs.Common.{◌≡◌, ℕ, List, ◌++◌, length}
use Rattle.afp_outside.specs.ends.Whole.{Sends}
use Rattle.afp_server.proofs.connection.sending.send_some.Given as goal

abbrev pub invariant-loop-left : goal.invariant-loop-left
invariant-loop-left g l =
    (sent : List ℕ) × (l.piece ≡ sent ++ l.left) × Sends (g.L.ReadyLink.link_state l.initial.link) sent 0 (g.L.ReadyLink.link_state l.link)

abbrev pub decreases-loop-left : goal.decreases-loop-left
decreases-loop-left g l = length l.left
