use Rattle.std.proofs.Common.{arith}
use Rattle.capture_made.proofs.OfMade.AddingLemmas.{more-left, step-on}
use Rattle.capture_made.proofs.OfMade.MakingLemmas.{part-written, some-written, written-all, written-none, written-on}
use Rattle.capture_made.proofs.made.making.make_steps.Goals as goal

pub loop-step-init : goal.loop-step-init
loop-step-init g c = record {
  most = omega arith;
  written = written-none c.args.number (g.O.Sink.sink_state c.args.out.now) c.args.capture.now c.args.text.now c.requires.made;
  steps_are = c.new-steps.ensures;
}

pub make_step-requires-clause-more : goal.make_step-requires-clause-more
make_step-requires-clause-more g c = more-left c.args.number c.loop-step._step c.args.count _ c.loop-step.invariant.steps_are c.loop-step-test.true c.requires.most

pub make_step-requires-clause-is : goal.make_step-requires-clause-is
make_step-requires-clause-is g c = let r = c.loop-step.invariant.written.made.runs in (r.now, r.is)

pub loop-step-preserved : goal.loop-step-preserved
loop-step-preserved g c =
    let i = c.loop-step.invariant in
    record {
      most = omega (arith, c.loop-step-test.true);
      written = written-on c.args.number c.loop-step._step _ _ _ _ _ _ _ _ _ i.written i.steps_are c.in-Done.ensures;
      steps_are = step-on c.args.number c.loop-step._step _ _ i.steps_are c.in-Done.ensures.next;
    }

pub returns-in-WriteFault : goal.returns-in-WriteFault
returns-in-WriteFault g c = let i = c.loop-step.invariant in part-written c.args.number c.loop-step._step c.args.count _ _ _ _ _ _ _ c.loop-step-test.true i.written i.steps_are c.in-WriteFault.ensures

pub returns-in-Memory : goal.returns-in-Memory
returns-in-Memory g c =
    let i = c.loop-step.invariant in
    some-written c.args.number c.loop-step._step c.args.count _ _ _ _ _ (omega (arith, c.loop-step-test.true)) i.written c.in-Memory.ensures

pub returns : goal.returns
returns g c = written-all c.args.number c.loop-step._step c.args.count _ _ _ _ (omega (arith, c.loop-step-test.false, c.loop-step.invariant.most)) c.loop-step.invariant.written
