use Rattle.std.proofs.Common.{ℕ, List, length}
use Rattle.afp_outside.specs.ends.Sink.{SinkState}
use Rattle.afptool_lib.specs.tool.lemma.Checking.{PrintsFrames}
use Rattle.afptool_lib.proofs.tool.checking.print_frames.Given as goal

abbrev pub invariant-loop-header : goal.invariant-loop-header
invariant-loop-header g l =
    (start : SinkState) (bytes : List ℕ) → PrintsFrames start bytes l.fn.deframer (g.O.Sink.sink_state l.fn.out) → PrintsFrames start bytes l.deframer (g.O.Sink.sink_state l.out)

abbrev pub decreases-loop-header : goal.decreases-loop-header
decreases-loop-header g l = length l.deframer.rest
