use Rattle.std.proofs.Common.{◌∙◌, ◌++◌, ◌∷◌, [], sym, ap, subst, List, length}
use Rattle.dsi_frame.specs.declared.frame.Header.{Header}
use Rattle.dsi_frame.specs.Frame.{Frame}
use Rattle.dsi_frame.specs.Deframe.{GivenOut}
use Rattle.dsi_frame.proofs.FrameLemmas.{frame_of-header_of}
use Rattle.dsi_frame.proofs.StreamLemmas.{given-frame, given-stop, advanced-end, advanced-shorter}
use Rattle.dsi_frame.proofs.stream.take_frames.Goals as goal

pub push-requires : goal.push-requires
push-requires c =
    let found = c.in-Whole.ensures.head in
    ap (λ (h : Header). h.length) found.2 ∙ ap length (sym (c.payload.ensures found.0 found.1))

pub loop-header-smaller : goal.loop-header-smaller
loop-header-smaller c =
    let found = c.in-Whole.ensures.head in
    advanced-shorter c.loop-header.deframer c.advance.new.self found.0 found.1
    (c.advance.ensures found.0 found.1.first found.1.more found.1.spelling found.1.whole)

pub loop-header-preserved : goal.loop-header-preserved
loop-header-preserved c =
    let found = c.in-Whole.ensures.head in
    let step = c.advance.ensures found.0 found.1.first found.1.more found.1.spelling found.1.whole in
    let pushed = c.in_ok-push-in-Whole.ensures.ok
    ∙ ap (λ (f : Frame). c.loop-header.frames ++ f ∷ []) (frame_of-header_of c.in-Whole.header c.payload.result.now found.0 found.2 (c.payload.ensures found.0 found.1)) in (
      (λ bytes g.
          let P : List Frame → Type 0 = λ frames. GivenOut bytes frames c.advance.new.self in
          subst P (sym pushed) (given-frame bytes c.loop-header.frames c.loop-header.deframer c.advance.new.self found.0 found.1 (c.loop-header.invariant.0 bytes g) step)),
      advanced-end c.loop-header.deframer c.advance.new.self found.0 found.1 step ∙ c.loop-header.invariant.1,
    )

pub returns-in-Bad-clause-frames : goal.returns-in-Bad-clause-frames
returns-in-Bad-clause-frames c = λ bytes g.
    let bad = c.in-Bad.ensures.head in
    given-stop bytes c.loop-header.frames c.loop-header.deframer c.in-Bad.bad.at c.in-Bad.bad.reason (c.loop-header.invariant.0 bytes g) bad.0 bad.1
