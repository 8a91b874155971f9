use Rattle.std.proofs.Common.{ℕ, List, arith, subst, ◌≡◌}
use Rattle.capture_made.specs.made.lemma.Adding.{HasRun}
use Rattle.capture_made.proofs.OfMade.AddingLemmas.{more-left, run-on, step-on}
use Rattle.capture_made.proofs.made.counting.run_steps.Goals as goal

pub loop-step-init : goal.loop-step-init
loop-step-init g c = record { most = omega arith; runs = (c.requires.made.lines, c.requires.made.runs); steps_are = c.new-steps.ensures }

pub add_step-requires-clause-more : goal.add_step-requires-clause-more
add_step-requires-clause-more g c = more-left c.args.number c.loop-step._step c.args.count _ c.loop-step.invariant.steps_are c.loop-step-test.true c.requires.most

pub add_step-requires-clause-is : goal.add_step-requires-clause-is
add_step-requires-clause-is g c = let r = c.loop-step.invariant.runs.1 in (r.now, r.is)

pub loop-step-preserved : goal.loop-step-preserved
loop-step-preserved g c =
    let i = c.loop-step.invariant in
    record {
      most = omega (arith, c.loop-step-test.true);
      runs = run-on c.args.number c.loop-step._step _ _ i.runs.0 _ _ _ i.runs.1 i.steps_are c.in_ok-add_step.ensures.exchanged;
      steps_are = step-on c.args.number c.loop-step._step _ _ i.steps_are c.in_ok-add_step.ensures.after;
    }

pub returns : goal.returns
returns g c =
    let same : c.loop-step._step ≡ c.args.count = omega (arith, c.loop-step-test.false, c.loop-step.invariant.most) in
    subst (λ (n : ℕ). (lines : List (List ℕ)) × HasRun c.args.number n c.loop-step.capture lines) same c.loop-step.invariant.runs
