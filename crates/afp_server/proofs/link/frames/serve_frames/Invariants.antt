use Rattle.std.proofs.Common.{◌≡◌, ◌≢◌, ℕ, length}
use Rattle.afp_server.specs.link.Progress.{Start, SoFar, point}
use Rattle.afp_server.specs.declared.link.stage.Stage.TheVariants as stages
use Rattle.afp_server.proofs.link.frames.serve_frames.Given as goal

abbrev pub invariant-loop-bad : goal.invariant-loop-bad
invariant-loop-bad g l = record {
  fixed : g.T.Teller.fixed l.teller ≡ g.T.Teller.fixed l.initial.teller;
  block : l.session.block ≡ l.initial.session.block;
  live : l.session.stage ≢ stages.Closing;
  serves : (start : Start) (cost : ℕ) → start.block ≡ l.initial.session.block
      → SoFar start (point l.initial.deframer l.initial.session.stage l.initial.requests (g.L.Link.link_state l.initial.link) (g.T.Teller.shown l.initial.teller) (g.G.Gate.passed l.initial.log)) cost
      → SoFar start (point l.deframer l.session.stage l.requests (g.L.Link.link_state l.link) (g.T.Teller.shown l.teller) (g.G.Gate.passed l.log)) cost;
}

abbrev pub decreases-loop-bad : goal.decreases-loop-bad
decreases-loop-bad g l = length l.deframer.rest
