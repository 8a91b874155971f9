use Rattle.std.proofs.Common.{Bool, subst}
use Rattle.client_script_run.specs.run.Ends.{last_line}
use Rattle.afp_outside.specs.ends.Whole.{PrintsAll}
use Rattle.client_script_run.proofs.OfRun.StopLemmas.{prints-end, prints-part}
use Rattle.client_script_run.proofs.run.run.run_whole.Goals as goal

pub returns-then-print_end : goal.returns-then-print_end
returns-then-print_end g c =
    let snk = g.O.Sink.sink_state in
    let ran = c.run_script-ran in
    let printed = c.print_end in
    record {
      why = ran.result.end;
      text = ran.ensures.text;
      last = ran.ensures.last;
      runs = ran.ensures.runs;
      prints = prints-end (snk c.args.out.now) (snk ran.new.out) (snk printed.new.out) ran.ensures.text ran.ensures.last ran.result.end ran.ensures.prints
          (subst (λ (b : Bool). PrintsAll (snk ran.new.out) (last_line ran.result.end) b (snk printed.new.out)) c.if-print_end.true printed.ensures);
    }

pub returns : goal.returns
returns g c =
    let snk = g.O.Sink.sink_state in
    let ran = c.run_script-ran in
    let printed = c.print_end in
    record {
      why = ran.result.end;
      text = ran.ensures.text;
      last = ran.ensures.last;
      runs = ran.ensures.runs;
      prints = prints-part (snk c.args.out.now) (snk ran.new.out) (snk printed.new.out) ran.ensures.text ran.ensures.last ran.result.end ran.ensures.prints
          (subst (λ (b : Bool). PrintsAll (snk ran.new.out) (last_line ran.result.end) b (snk printed.new.out)) c.if-print_end.false printed.ensures);
    }
