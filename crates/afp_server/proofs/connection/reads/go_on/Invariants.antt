use Rattle.std.proofs.Common.{◌≡◌, ◌≢◌, ◌≤◌, ◌+◌, ◌-◌, ℕ, length}
use Rattle.afp_server.specs.connection.Turn.{InTurn}
use Rattle.afp_server.specs.connection.lemma.Begun.{StandsAt}
use Rattle.afp_server.specs.declared.link.stage.Stage.TheVariants as stages
use Rattle.afp_server.proofs.connection.reads.go_on.Given as goal

abbrev pub invariant-loop-standing : goal.invariant-loop-standing
invariant-loop-standing g l = record {
  fixed : g.T.Teller.fixed l.teller ≡ g.T.Teller.fixed l.initial.teller;
  block : l.session.block ≡ l.initial.session.block;
  live : l.session.stage ≢ stages.Closing;
  total : l.deframer.place + length l.deframer.rest ≤ l.cost;
  turns : InTurn (g.T.Teller.shown l.initial.teller) (g.T.Teller.shown l.teller)
      (StandsAt l.initial.session.block l.turn.turns l.initial.cost l.initial.deframer l.initial.session.stage l.initial.requests (g.L.ReadyLink.link_state l.initial.link) (g.G.Gate.passed l.initial.log))
      (StandsAt l.initial.session.block l.turn.turns l.cost l.deframer l.session.stage l.requests (g.L.ReadyLink.link_state l.link) (g.G.Gate.passed l.log));
}

abbrev pub decreases-loop-standing : goal.decreases-loop-standing
decreases-loop-standing g l = l.frames + (l.turn.turns - l.cost)
