use Rattle.std.proofs.Common.{◌∙◌, ◌+◌, ap, subst, arith, length, length-append, take, List, ℕ}
use Rattle.dsi_frame.specs.Stream.{Framed}
use Rattle.dsi_frame.proofs.StreamLemmas.{given-end, given-framed, joined, joined-more, joined-front, joined-all, stopped-joined, read-more}
use Rattle.dsi_frame.proofs.stream.read_stream.Goals as goal

pub take_piece-requires-clause-total : goal.take_piece-requires-clause-total
take_piece-requires-clause-total c =
    let read = c.loop-piece.invariant in
    let before = joined (take c.loop-piece.piece-index c.args.pieces.now) in
    let end = given-end before c.loop-piece.frames c.loop-piece.deframer read.given in
    let more = ap length (joined-more c.args.pieces.now c.loop-piece.piece-index c.piece-item.result c.loop-piece-test.true c.piece-item.is) ∙ length-append before c.piece-item.result in
    let front = joined-front c.args.pieces.now (c.loop-piece.piece-index + 1) in
    let lent = ap length c.as_slice.ensures in
    omega (arith, end, more, front, lent)

pub returns-in-Some : goal.returns-in-Some
returns-in-Some c =
    stopped-joined c.args.pieces.now c.loop-piece.piece-index c.piece-item.result c.as_slice.result.now c.take_piece.new.frames c.in-Some.bad.at c.in-Some.bad.reason
    c.loop-piece-test.true c.piece-item.is c.as_slice.ensures
    ((rw c.in-Some.is at c.in_ok-end.ensures.frames) (joined (take c.loop-piece.piece-index c.args.pieces.now)) c.loop-piece.invariant.given)

pub loop-piece-preserved : goal.loop-piece-preserved
loop-piece-preserved c =
    read-more c.args.pieces.now c.loop-piece.piece-index c.piece-item.result c.as_slice.result.now c.take_piece.new.frames c.take_piece.new.deframer
    c.loop-piece-test.true c.piece-item.is c.as_slice.ensures
    ((rw c.in_default.is at c.in_ok-end.ensures.frames) (joined (take c.loop-piece.piece-index c.args.pieces.now)) c.loop-piece.invariant.given)
    (rw c.in_default.is at c.in_ok-end.ensures.room) (rw c.in_default.is at c.in_ok-end.ensures.unfinished)

pub returns : goal.returns
returns c =
    let read = c.loop-piece.invariant in
    let P : List ℕ → Type 0 = λ l. Framed l c.loop-piece.frames c.loop-piece.deframer.rest in (
      c.loop-piece.deframer.rest,
      subst P (joined-all c.args.pieces.now c.loop-piece.piece-index (omega arith))
          (given-framed (joined (take c.loop-piece.piece-index c.args.pieces.now)) c.loop-piece.frames c.loop-piece.deframer read.given read.unfinished),
      c.rest.ensures.rest,
    )
