use Rattle.std.proofs.Common.{◌≡◌, ℕ, ◌+◌, List, length}
use Rattle.dsi_frame.specs.Deframe.{GivenOut}
use Rattle.dsi_frame.proofs.stream.take_frames.Given as goal

abbrev pub invariant-loop-header : goal.invariant-loop-header
invariant-loop-header l =
    ((bytes : List ℕ) → GivenOut bytes l.fn.frames l.fn.deframer → GivenOut bytes l.frames l.deframer)
    × (l.deframer.place + length l.deframer.rest ≡ l.fn.deframer.place + length l.fn.deframer.rest)

abbrev pub decreases-loop-header : goal.decreases-loop-header
decreases-loop-header l = length l.deframer.rest
