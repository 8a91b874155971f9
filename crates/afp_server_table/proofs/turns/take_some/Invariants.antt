use Rattle.std.proofs.Common.{ℕ, List, None}
use Rattle.afp_serial.specs.Shown.{Shown}
use Rattle.afp_server_table.specs.lemma.Links.{TakesOn}
use Rattle.afp_server_table.proofs.turns.take_some.Given as goal

abbrev pub invariant-loop : goal.invariant-loop
invariant-loop g l =
    (block : List ℕ) (turns : ℕ) (shown : Shown) → TakesOn g.P.Link.ReadyLink.link_state g.G.Gate.passed block turns l.initial.links (g.P.Readiness.door_state l.initial.poll) shown None None l.links (g.P.Readiness.door_state l.poll)
