use Rattle.std.proofs.Common.{ℕ, List, ◌∙◌, subst, Bool}
use Rattle.afp_outside.specs.ends.Whole.{Prints, PrintsPart, PrintsAll}
use Rattle.capture_log_lines.specs.made.Lines.{end_line}
use Rattle.capture_made.proofs.OfMade.AddingLemmas.{good-line}
use Rattle.capture_made.proofs.made.making.finish.Goals as goal

pub returns-then-print_all : goal.returns-then-print_all
returns-then-print_all g c = λ s is.
    let a = c.in-Ok.ensures.adds s is in (
      a.after,
      good-line s a.after end_line a.leads,
      subst (λ (t : List ℕ). Prints (g.O.Sink.sink_state c.args.out.now) t (g.O.Sink.sink_state c.print_all.new.out)) (c.as_slice.ensures ∙ a.text_is)
          (subst (λ (b : Bool). PrintsAll (g.O.Sink.sink_state c.args.out.now) c.as_slice.result.now b (g.O.Sink.sink_state c.print_all.new.out)) c.if-print_all.true c.print_all.ensures),
    )

pub returns-else-print_all : goal.returns-else-print_all
returns-else-print_all g c = λ s is.
    let a = c.in-Ok.ensures.adds s is in
    record {
      after = a.after;
      good = good-line s a.after end_line a.leads;
      part = subst (λ (t : List ℕ). PrintsPart (g.O.Sink.sink_state c.args.out.now) t (g.O.Sink.sink_state c.print_all.new.out)) (c.as_slice.ensures ∙ a.text_is)
          (subst (λ (b : Bool). PrintsAll (g.O.Sink.sink_state c.args.out.now) c.as_slice.result.now b (g.O.Sink.sink_state c.print_all.new.out)) c.if-print_all.false c.print_all.ensures);
    }
