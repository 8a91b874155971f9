use Rattle.std.proofs.Common.{◌≡◌, ◌≢◌, ℕ, ◌+◌, List, length}
use Rattle.afp_server.specs.link.Wire.{FeedStart, FedSoFar}
use Rattle.afp_server.specs.link.Wire.{feed_point}
use Rattle.afp_server.specs.declared.link.stage.Stage.TheVariants as stages
use Rattle.afp_server.proofs.link.wire.handle_frames.Given as goal

abbrev pub invariant-loop-bad : goal.invariant-loop-bad
invariant-loop-bad g l = record {
  fixed : g.T.Teller.fixed l.teller ≡ g.T.Teller.fixed l.initial.teller;
  block : l.session.block ≡ l.initial.session.block;
  live : l.session.stage ≢ stages.Closing;
  total : l.deframer.place + length l.deframer.rest ≡ l.initial.deframer.place + length l.initial.deframer.rest;
  feeds : (start : FeedStart) (bytes : List ℕ) → start.block ≡ l.initial.session.block → start.now ≡ l.now
      → FedSoFar start bytes l.initial.deframer (feed_point l.initial.session.stage l.initial.session.tally l.initial.out (g.T.Teller.shown l.initial.teller))
      → FedSoFar start bytes l.deframer (feed_point l.session.stage l.session.tally l.out (g.T.Teller.shown l.teller));
}

abbrev pub decreases-loop-bad : goal.decreases-loop-bad
decreases-loop-bad g l = length l.deframer.rest
