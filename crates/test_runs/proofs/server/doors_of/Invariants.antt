use Rattle.std.specs.Prelude.{◌≡◌, All, false}
use Rattle.test_runs.proofs.server.doors_of.Given as goal

abbrev pub invariant-loop-door : goal.invariant-loop-door
invariant-loop-door l = All (λ door. door.closed ≡ false) l.made.items
