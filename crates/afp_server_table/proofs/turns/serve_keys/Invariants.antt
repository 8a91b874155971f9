use Rattle.std.proofs.Common.{◌≡◌}
use Rattle.afp_server_table.specs.lemma.Links.{KeepsLinks}
use Rattle.afp_server_table.proofs.turns.serve_keys.Given as goal

abbrev pub invariant-loop-i : goal.invariant-loop-i
invariant-loop-i g l = record {
  fixed : g.T.Teller.fixed l.teller ≡ g.T.Teller.fixed l.initial.teller;
  room : l.room ≡ l.initial.room;
  keeps : KeepsLinks g.P.Link.ReadyLink.link_state g.G.Gate.passed l.initial.room l.round.turn.turns l.initial.links (g.P.Readiness.door_state l.initial.poll) (g.T.Teller.shown l.initial.teller) l.links (g.P.Readiness.door_state l.poll) (g.T.Teller.shown l.teller);
}
