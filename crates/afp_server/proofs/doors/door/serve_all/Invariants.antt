use Rattle.std.proofs.Common.{◌≡◌}
use Rattle.afp_server.specs.doors.lemma.Next.{ServedSoFar}
use Rattle.afp_server.proofs.doors.door.serve_all.Given as goal

abbrev pub invariant-loop : goal.invariant-loop
invariant-loop g l = record {
  fixed : g.T.Teller.fixed l.teller ≡ g.T.Teller.fixed l.initial.teller;
  so_far : ServedSoFar g.N.Link.Link.link_state g.G.Gate.passed l.house l.turns (g.N.Listener.door_state l.initial.door) (g.T.Teller.shown l.initial.teller) (g.N.Listener.door_state l.door) (g.T.Teller.shown l.teller);
}
