use Rattle.std.proofs.Common.{subst, codes, Bool, false, ◌++◌, List, ℕ}
use Rattle.afp_outside.specs.ends.Whole.{PrintsAll}
use Rattle.afp_outside.proofs.OfEnds.Whole.{prints-both, prints-cut}
use Rattle.afpd_lib.specs.server.Reporting.{load_text, reason_text}
use Rattle.afpd_lib.proofs.server.report.report_bad.Goals as goal

pub returns-then-not-report_load : goal.returns-then-not-report_load
returns-then-not-report_load g c =
    let s = g.O.Sink.sink_state in
    prints-cut (s c.args.report.now) (s c.report_load.new.report) (load_text c.args.index) (codes " bad " ++ (c.args.key.now ++ reason_text c.args.reason))
    (subst (λ (all : Bool). PrintsAll (s c.args.report.now) (load_text c.args.index) all (s c.report_load.new.report)) c.if-not-report_load.true c.report_load.ensures)

pub returns-then-not-print_all : goal.returns-then-not-print_all
returns-then-not-print_all g c =
    let s = g.O.Sink.sink_state in
    prints-both (s c.args.report.now) (s c.report_load.new.report) (s c.print_all.new.out) (load_text c.args.index) (codes " bad " ++ (c.args.key.now ++ reason_text c.args.reason)) false
    (subst (λ (all : Bool). PrintsAll (s c.args.report.now) (load_text c.args.index) all (s c.report_load.new.report)) c.if-not-report_load.false c.report_load.ensures)
    (prints-cut (s c.report_load.new.report) (s c.print_all.new.out) (codes " bad ") (c.args.key.now ++ reason_text c.args.reason)
    (subst (λ (all : Bool). PrintsAll (s c.report_load.new.report) (codes " bad ") all (s c.print_all.new.out)) c.if-not-print_all.true c.print_all.ensures))

pub returns-then-not-print_all-2 : goal.returns-then-not-print_all-2
returns-then-not-print_all-2 g c =
    let s = g.O.Sink.sink_state in
    prints-both (s c.args.report.now) (s c.report_load.new.report) (s c.print_all-2.new.out) (load_text c.args.index) (codes " bad " ++ (c.args.key.now ++ reason_text c.args.reason)) false
    (subst (λ (all : Bool). PrintsAll (s c.args.report.now) (load_text c.args.index) all (s c.report_load.new.report)) c.if-not-report_load.false c.report_load.ensures)
    (prints-both (s c.report_load.new.report) (s c.print_all.new.out) (s c.print_all-2.new.out) (codes " bad ") (c.args.key.now ++ reason_text c.args.reason) false
    (subst (λ (all : Bool). PrintsAll (s c.report_load.new.report) (codes " bad ") all (s c.print_all.new.out)) c.if-not-print_all.false c.print_all.ensures)
    (prints-cut (s c.print_all.new.out) (s c.print_all-2.new.out) c.args.key.now (reason_text c.args.reason)
    (subst (λ (all : Bool). PrintsAll (s c.print_all.new.out) c.args.key.now all (s c.print_all-2.new.out)) c.if-not-print_all-2.true c.print_all-2.ensures)))

pub returns : goal.returns
returns g c =
    let s = g.O.Sink.sink_state in
    prints-both (s c.args.report.now) (s c.report_load.new.report) (s c.print_all-3.new.out) (load_text c.args.index) (codes " bad " ++ (c.args.key.now ++ reason_text c.args.reason)) c.print_all-3.result
    (subst (λ (all : Bool). PrintsAll (s c.args.report.now) (load_text c.args.index) all (s c.report_load.new.report)) c.if-not-report_load.false c.report_load.ensures)
    (prints-both (s c.report_load.new.report) (s c.print_all.new.out) (s c.print_all-3.new.out) (codes " bad ") (c.args.key.now ++ reason_text c.args.reason) c.print_all-3.result
    (subst (λ (all : Bool). PrintsAll (s c.report_load.new.report) (codes " bad ") all (s c.print_all.new.out)) c.if-not-print_all.false c.print_all.ensures)
    (prints-both (s c.print_all.new.out) (s c.print_all-2.new.out) (s c.print_all-3.new.out) c.args.key.now (reason_text c.args.reason) c.print_all-3.result
    (subst (λ (all : Bool). PrintsAll (s c.print_all.new.out) c.args.key.now all (s c.print_all-2.new.out)) c.if-not-print_all-2.false c.print_all-2.ensures)
    (subst (λ (l : List ℕ). PrintsAll (s c.print_all-2.new.out) l c.print_all-3.result (s c.print_all-3.new.out)) c.reason_text.ensures c.print_all-3.ensures)))
