use Rattle.std.proofs.Common.{arith}
use Rattle.std.proofs.lemmas.List.{take_rest}
use Rattle.dsi_frame.proofs.StreamLemmas.{fed-stopped, fed-more}
use Rattle.dsi_frame.proofs.stream.take_piece.Goals as goal

pub returns-in-Some-clause-frames : goal.returns-in-Some-clause-frames
returns-in-Some-clause-frames c = λ bytes g.
    fed-stopped c.args.frames.now c.loop-left.frames c.take_frames.new.frames c.args.deframer.now c.loop-left.deframer c.feed-taken.new.self
    c.args.piece.now c.loop-left.left.now c.feed-taken.result c.in-Some.bad.at c.in-Some.bad.reason c.loop-left.invariant
    c.feed-taken.ensures.rest c.feed-taken.ensures.place (rw c.in-Some.is at c.in_ok-bad.ensures.frames) bytes g

pub loop-left-preserved : goal.loop-left-preserved
loop-left-preserved c =
    fed-more c.args.frames.now c.loop-left.frames c.take_frames.new.frames c.args.deframer.now c.loop-left.deframer c.feed-taken.new.self c.take_frames.new.deframer
    c.args.piece.now c.loop-left.left.now _ c.feed-taken.result c.loop-left.invariant
    (omega arith) c.feed-taken.ensures.rest c.feed-taken.ensures.place (take_rest c.loop-left.left.now c.feed-taken.result)
    (rw c.in_default.is at c.in_ok-bad.ensures.frames) c.in_ok-bad.ensures.end
    (rw c.in_default.is at c.in_ok-bad.ensures.room) (rw c.in_default.is at c.in_ok-bad.ensures.unfinished)
