use Rattle.std.proofs.Common.{length}
use Rattle.dsi_frame.proofs.StreamLemmas.{Fed}
use Rattle.dsi_frame.proofs.stream.take_piece.Given as goal

abbrev pub invariant-loop-left : goal.invariant-loop-left
invariant-loop-left l = Fed l.fn.frames l.fn.deframer l.piece l.left l.frames l.deframer

abbrev pub decreases-loop-left : goal.decreases-loop-left
decreases-loop-left l = length l.left
