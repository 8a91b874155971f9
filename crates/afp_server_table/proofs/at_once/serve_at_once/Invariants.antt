use Rattle.std.proofs.Common.{◌≡◌}
use Rattle.afp_serial.specs.StatusBlock.{status_block}
use Rattle.afp_server_table.specs.lemma.Links.{LinksStand}
use Rattle.afp_server_table.proofs.at_once.serve_at_once.Given as goal

abbrev pub invariant-loop : goal.invariant-loop
invariant-loop g l = record {
  fixed : g.T.Teller.fixed l.teller ≡ g.T.Teller.fixed l.initial.teller;
  room : l.room ≡ status_block l.house;
  stands : LinksStand g.P.Link.ReadyLink.link_state g.G.Gate.passed l.house l.turns (g.P.Readiness.door_state l.initial.poll) (g.T.Teller.shown l.initial.teller) l.end l.links.seats.slots l.links.taken
      (g.P.Readiness.door_state l.poll) (g.T.Teller.shown l.teller);
}
