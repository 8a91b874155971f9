use Rattle.std.proofs.Common.{subst, Bool, false, ◌++◌}
use Rattle.client_script_lines.specs.texts.Texts.{newline}
use Rattle.afp_outside.specs.ends.Whole.{PrintsAll}
use Rattle.afp_outside.proofs.OfEnds.Whole.{prints-both, prints-cut}
use Rattle.client_script_run.proofs.run.print.print_worded.Goals as goal

pub returns-then-not-print_all : goal.returns-then-not-print_all
returns-then-not-print_all g c =
    let s = g.O.Sink.sink_state in
    prints-cut (s c.args.out.now) (s c.print_all.new.out) c.args.word.now (c.args.rest.now ++ newline)
    (subst (λ (all : Bool). PrintsAll (s c.args.out.now) c.args.word.now all (s c.print_all.new.out)) c.if-not-print_all.true c.print_all.ensures)

pub returns-then-not-print_all-2 : goal.returns-then-not-print_all-2
returns-then-not-print_all-2 g c =
    let s = g.O.Sink.sink_state in
    prints-both (s c.args.out.now) (s c.print_all.new.out) (s c.print_all-2.new.out) c.args.word.now (c.args.rest.now ++ newline) false
    (subst (λ (all : Bool). PrintsAll (s c.args.out.now) c.args.word.now all (s c.print_all.new.out)) c.if-not-print_all.false c.print_all.ensures)
    (prints-cut (s c.print_all.new.out) (s c.print_all-2.new.out) c.args.rest.now newline
    (subst (λ (all : Bool). PrintsAll (s c.print_all.new.out) c.args.rest.now all (s c.print_all-2.new.out)) c.if-not-print_all-2.true c.print_all-2.ensures))

pub returns : goal.returns
returns g c =
    let s = g.O.Sink.sink_state in
    prints-both (s c.args.out.now) (s c.print_all.new.out) (s c.print_all-3.new.out) c.args.word.now (c.args.rest.now ++ newline) c.print_all-3.result
    (subst (λ (all : Bool). PrintsAll (s c.args.out.now) c.args.word.now all (s c.print_all.new.out)) c.if-not-print_all.false c.print_all.ensures)
    (prints-both (s c.print_all.new.out) (s c.print_all-2.new.out) (s c.print_all-3.new.out) c.args.rest.now newline c.print_all-3.result
    (subst (λ (all : Bool). PrintsAll (s c.print_all.new.out) c.args.rest.now all (s c.print_all-2.new.out)) c.if-not-print_all-2.false c.print_all-2.ensures)
    c.print_all-3.ensures)
