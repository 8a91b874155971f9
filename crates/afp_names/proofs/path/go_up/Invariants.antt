use Rattle.std.proofs.Common.{◌≡◌, ◌++◌, replicate}
use Rattle.afp_names.specs.declared.path.Step.TheVariants.{Up}
use Rattle.afp_names.proofs.path.go_up.Given as goal

abbrev pub invariant-loop-time : goal.invariant-loop-time
invariant-loop-time l = l.steps.items ≡ l.initial.steps.items ++ replicate l._time Up
