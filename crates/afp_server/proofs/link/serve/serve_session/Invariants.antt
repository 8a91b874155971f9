use Rattle.std.proofs.Common.{◌≡◌, ◌≢◌, ◌-◌}
use Rattle.afp_server.specs.link.Progress.{SoFar, point}
use Rattle.afp_server.specs.declared.link.stage.Stage.TheVariants as stages
use Rattle.afp_server.proofs.link.serve.serve_session.Given as goal

abbrev pub invariant-loop-end : goal.invariant-loop-end
invariant-loop-end g l = record {
  fixed : g.T.Teller.fixed l.teller ≡ g.T.Teller.fixed l.initial.teller;
  block : l.session.block ≡ l.initial.session.block;
  live : l.session.stage ≢ stages.Closing;
  so_far : SoFar (record { block = l.initial.session.block; turns = l.turns; link = g.L.Link.link_state l.initial.link; shown = g.T.Teller.shown l.initial.teller })
      (point l.deframer l.session.stage l.requests (g.L.Link.link_state l.link) (g.T.Teller.shown l.teller) (g.G.Gate.passed l.log)) l.cost;
}

abbrev pub decreases-loop-end : goal.decreases-loop-end
decreases-loop-end g l = l.turns - l.cost
