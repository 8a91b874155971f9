use Rattle.std.proofs.Common.{◌≡◌, ◌≤◌}
use Rattle.capture_made.specs.requests.Requests.{first_state}
use Rattle.capture_made.specs.made.lemma.Adding.{HasWritten, after_steps}
use Rattle.capture_made.proofs.made.making.make_steps.Given as goal

abbrev pub invariant-loop-step : goal.invariant-loop-step
invariant-loop-step g l = record {
  most : l._step ≤ l.count;
  written : HasWritten l.number l._step (g.O.Sink.sink_state l.initial.out) l.capture l.text (g.O.Sink.sink_state l.out);
  steps_are : l.steps ≡ after_steps (first_state l.number) l._step;
}
