use Rattle.std.proofs.Common.{◌≡◌, ◌≤◌, ◌-◌, ◌++◌, drop, length}
use Rattle.afp_names.specs.Path.{path_steps, has_bad_element}
use Rattle.afp_names.proofs.path.read_steps.Given as goal

abbrev pub invariant-loop-place : goal.invariant-loop-place
invariant-loop-place l = record {
  within : l.place ≤ length l.bytes;
  steps : l.steps.items ++ path_steps l.kind (drop l.place l.bytes) ≡ path_steps l.kind l.bytes;
  bad : has_bad_element l.kind (drop l.place l.bytes) ≡ has_bad_element l.kind l.bytes;
}

abbrev pub decreases-loop-place : goal.decreases-loop-place
decreases-loop-place l = length l.initial.bytes - l.place
