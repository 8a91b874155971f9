use Rattle.std.proofs.Common.{◌++◌, ◌∷◌, []}
use Rattle.std.proofs.lemmas.Result.{IfOk-weaker}
use Rattle.capture_log_lines.specs.made.Lines.{end_line, house_lines}
use Rattle.capture_made.proofs.OfMade.AddingLemmas.{good-line, made}
use Rattle.capture_made.proofs.made.counting.tally_all.Goals as goal

pub run_steps-requires-clause-made : goal.run_steps-requires-clause-made
run_steps-requires-clause-made g c = c.in_ok-begin.ensures c.new-text.ensures c.args.number

pub add_end-requires : goal.add_end-requires
add_end-requires g c = let r = c.in_ok-run_steps.ensures.1 in (r.now, r.is)

pub returns : goal.returns
returns g c =
    let lines = c.in_ok-run_steps.ensures.0 in
    let r = c.in_ok-run_steps.ensures.1 in
    let e = c.in_ok-add_end.ensures.adds r.now r.is in
    IfOk-weaker c.counts_of.result _ _
    (λ tallied k.
    let counted = k e.after e.is in
    record {
      lines = house_lines ++ (lines ++ end_line ∷ []);
      standing = e.after;
      made = made c.args.number c.args.steps r.opened r.now e.after lines r.house r.exchanges (good-line r.now e.after end_line e.leads);
      counts = counted.0;
      nodes = counted.1;
    })
    c.counts_of.ensures
