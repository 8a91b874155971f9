use Rattle.std.proofs.Common.{◌≡◌, true, take}
use Rattle.std.specs.List.{list_all}
use Rattle.volume_spec.specs.Walk.{is_named_step}
use Rattle.volume_tree.proofs.places.steps_are_named.Given as goal

abbrev pub invariant-loop-i : goal.invariant-loop-i
invariant-loop-i l = list_all is_named_step (take l.i l.path.steps) ≡ true
