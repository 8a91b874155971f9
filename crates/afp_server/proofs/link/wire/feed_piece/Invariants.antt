use Rattle.std.proofs.Common.{◌≡◌, ◌≢◌, ℕ, ◌+◌, List, ◌++◌, length}
use Rattle.afp_server.specs.link.Wire.{FeedStart, FedSoFar}
use Rattle.afp_server.specs.link.Wire.{feed_point}
use Rattle.afp_server.specs.declared.link.stage.Stage.TheVariants as stages
use Rattle.afp_server.proofs.link.wire.feed_piece.Given as goal

abbrev pub invariant-loop-end : goal.invariant-loop-end
invariant-loop-end g l = record {
  fixed : g.T.Teller.fixed l.teller ≡ g.T.Teller.fixed l.initial.teller;
  block : l.session.block ≡ l.initial.session.block;
  live : l.session.stage ≢ stages.Closing;
  total : l.deframer.place + length l.deframer.rest + length l.left ≡ l.initial.deframer.place + length l.initial.deframer.rest + length l.piece;
  feeds : (done : List ℕ) × (l.piece ≡ done ++ l.left) × ((start : FeedStart) → start.block ≡ l.initial.session.block → start.now ≡ l.now
      → FedSoFar start start.bytes l.initial.deframer (feed_point l.initial.session.stage l.initial.session.tally l.initial.out (g.T.Teller.shown l.initial.teller))
      → FedSoFar start (start.bytes ++ done) l.deframer (feed_point l.session.stage l.session.tally l.out (g.T.Teller.shown l.teller)));
}

abbrev pub decreases-loop-end : goal.decreases-loop-end
decreases-loop-end g l = length l.left
