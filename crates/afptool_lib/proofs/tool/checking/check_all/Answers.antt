use Rattle.std.proofs.Common.{ℕ, List, ◌++◌, subst}
use Rattle.std.proofs.lemmas.List.{take-append-le}
use Rattle.afptool_lib.specs.tool.lemma.Checking.{PrintsTo}
use Rattle.afptool_lib.specs.declared.tool.checking.FramesEnd.TheVariants as frames_ends
use Rattle.afptool_lib.proofs.OfTool.CheckLemmas.{checked-none, checked-more, checked-bad, checked-part}
use Rattle.afptool_lib.proofs.tool.checking.check_all.Goals as goal

pub loop-taken-init : goal.loop-taken-init
loop-taken-init g c = checked-none c.args.turns (g.S.Source.source_state c.args.source.now) (g.O.Sink.sink_state c.args.out.now) c.args.deframer.now c.requires.new

pub loop-taken-preserved : goal.loop-taken-preserved
loop-taken-preserved g c =
    let x = c.loop-taken.invariant in
    let start = g.O.Sink.sink_state c.args.out.now in
    checked-more c.args.turns _ start _ c.take_piece.new.deframer _ c.in-Got.n _ _ _ _ c.read.new.room x c.in-Got.ensures c.loop-taken-test.true
    (subst (λ (l : List ℕ). PrintsTo start (x.read ++ l) frames_ends.More c.take_piece.new.deframer (g.O.Sink.sink_state c.take_piece.new.out))
    (take-append-le c.in-Got.n c.read.new.room _ c.in-Got.ensures.most) (c.in-More.ensures start x.read x.prints))

pub returns-in-Bad : goal.returns-in-Bad
returns-in-Bad g c =
    let x = c.loop-taken.invariant in
    let start = g.O.Sink.sink_state c.args.out.now in
    checked-bad c.args.turns _ start _ c.take_piece.new.deframer _ c.in-Got.n _ _ _ _ c.read.new.room c.in-Bad.bad x c.in-Got.ensures c.loop-taken-test.true
    (subst (λ (l : List ℕ). PrintsTo start (x.read ++ l) (frames_ends.Bad c.in-Bad.bad) c.take_piece.new.deframer (g.O.Sink.sink_state c.take_piece.new.out))
    (take-append-le c.in-Got.n c.read.new.room _ c.in-Got.ensures.most) (c.in-Bad.ensures start x.read x.prints))

pub returns-in-WriteFault : goal.returns-in-WriteFault
returns-in-WriteFault g c =
    let x = c.loop-taken.invariant in
    let start = g.O.Sink.sink_state c.args.out.now in
    checked-part c.args.turns _ start _ c.take_piece.new.deframer _ c.in-Got.n _ _ _ _ c.read.new.room x c.in-Got.ensures c.loop-taken-test.true
    (subst (λ (l : List ℕ). PrintsTo start (x.read ++ l) frames_ends.WriteFault c.take_piece.new.deframer (g.O.Sink.sink_state c.take_piece.new.out))
    (take-append-le c.in-Got.n c.read.new.room _ c.in-Got.ensures.most) (c.in-WriteFault.ensures start x.read x.prints))
