use Rattle.std.proofs.Common.{subst, codes, Bool}
use Rattle.afp_outside.specs.ends.Whole.{PrintsAll}
use Rattle.afp_outside.proofs.OfEnds.Whole.{prints-both, prints-cut}
use Rattle.afpd_lib.specs.server.Reporting.{load_text}
use Rattle.afpd_lib.proofs.server.report.report_fault.Goals as goal

pub returns-then-not-report_load : goal.returns-then-not-report_load
returns-then-not-report_load g c =
    let s = g.O.Sink.sink_state in
    prints-cut (s c.args.report.now) (s c.report_load.new.report) (load_text c.args.index) (codes " fault\n")
    (subst (λ (all : Bool). PrintsAll (s c.args.report.now) (load_text c.args.index) all (s c.report_load.new.report)) c.if-not-report_load.true c.report_load.ensures)

pub returns : goal.returns
returns g c =
    let s = g.O.Sink.sink_state in
    prints-both (s c.args.report.now) (s c.report_load.new.report) (s c.print_all.new.out) (load_text c.args.index) (codes " fault\n") c.print_all.result
    (subst (λ (all : Bool). PrintsAll (s c.args.report.now) (load_text c.args.index) all (s c.report_load.new.report)) c.if-not-report_load.false c.report_load.ensures) c.print_all.ensures
