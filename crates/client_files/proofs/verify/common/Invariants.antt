use Rattle.std.proofs.Common.{length}
use Rattle.client_files.proofs.VerifyLemmas.{SharesSo}
use Rattle.client_files.proofs.verify.common.Given as goal

abbrev pub invariant-loop-more : goal.invariant-loop-more
invariant-loop-more l = SharesSo l.given l.piece l.more l.left l.n

abbrev pub decreases-loop-more : goal.decreases-loop-more
decreases-loop-more l = length l.more
