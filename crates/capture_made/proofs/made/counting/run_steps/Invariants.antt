use Rattle.std.proofs.Common.{◌≡◌, ◌≤◌, List, ℕ}
use Rattle.capture_made.specs.requests.Requests.{first_state}
use Rattle.capture_made.specs.made.lemma.Adding.{HasRun, after_steps}
use Rattle.capture_made.proofs.made.counting.run_steps.Given as goal

abbrev pub invariant-loop-step : goal.invariant-loop-step
invariant-loop-step g l = record {
  most : l._step ≤ l.count;
  runs : (lines : List (List ℕ)) × HasRun l.number l._step l.capture lines;
  steps_are : l.steps ≡ after_steps (first_state l.number) l._step;
}
