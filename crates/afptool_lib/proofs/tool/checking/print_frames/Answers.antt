use Rattle.std.proofs.Common.{ℕ, subst}
use Rattle.afp_outside.specs.ends.Whole.{Prints, PrintsPart}
use Rattle.dsi_frame.proofs.StreamLemmas.{advanced-shorter}
use Rattle.afptool_lib.specs.tool.Lines.{frame_line}
use Rattle.afptool_lib.proofs.OfTool.CheckLemmas.{prints-frame, prints-part, prints-bad, all-written, part-written}
use Rattle.afptool_lib.proofs.tool.checking.print_frames.Goals as goal

pub returns-then-not-report_frame : goal.returns-then-not-report_frame
returns-then-not-report_frame g c = λ start bytes p.
    let found = c.in-Whole.ensures.head in
    let now = g.O.Sink.sink_state c.loop-header.out in
    let new = g.O.Sink.sink_state c.report_frame.new.out in
    prints-part start bytes c.loop-header.deframer now new found.0 c.in-Whole.header found.1 (c.loop-header.invariant start bytes p) found.2
    (subst (λ (n : ℕ). PrintsPart now (frame_line n c.in-Whole.header) new) c.place.ensures.place (part-written now new _ c.report_frame.result c.if-not-report_frame.true c.report_frame.ensures))

pub loop-header-smaller : goal.loop-header-smaller
loop-header-smaller g c =
    let found = c.in-Whole.ensures.head in
    advanced-shorter c.loop-header.deframer c.advance.new.self found.0 found.1
    (c.advance.ensures found.0 found.1.first found.1.more found.1.spelling found.1.whole)

pub loop-header-preserved : goal.loop-header-preserved
loop-header-preserved g c = λ start bytes p.
    let found = c.in-Whole.ensures.head in
    let now = g.O.Sink.sink_state c.loop-header.out in
    let new = g.O.Sink.sink_state c.report_frame.new.out in
    prints-frame start bytes c.loop-header.deframer c.advance.new.self now new found.0 c.in-Whole.header found.1 (c.loop-header.invariant start bytes p) found.2
    (subst (λ (n : ℕ). Prints now (frame_line n c.in-Whole.header) new) c.place.ensures.place (all-written now new _ c.report_frame.result c.if-not-report_frame.false c.report_frame.ensures))
    (c.advance.ensures found.0 found.1.first found.1.more found.1.spelling found.1.whole)

pub returns-in-Bad : goal.returns-in-Bad
returns-in-Bad g c = λ start bytes p.
    let bad = c.in-Bad.ensures.head in
    prints-bad start bytes c.loop-header.deframer (g.O.Sink.sink_state c.loop-header.out) c.in-Bad.bad (c.loop-header.invariant start bytes p) bad.0 bad.1
