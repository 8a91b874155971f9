use Rattle.std.proofs.Common.{◌≡◌, true, subst, arith}
use Rattle.std.specs.List.{list_all}
use Rattle.std.proofs.lemmas.List.{take_all}
use Rattle.volume_spec.specs.Walk.{is_named_step}
use Rattle.volume_tree.proofs.Paths.{all-next}
use Rattle.volume_tree.proofs.places.steps_are_named.Goals as goal

pub loop-i-preserved : goal.loop-i-preserved
loop-i-preserved c = all-next is_named_step c.args.path.now.steps c.loop-i.i c.step.result.now c.step.ensures c.is_named.ensures c.loop-i.invariant

pub returns : goal.returns
returns c = subst (λ l. list_all is_named_step l ≡ true) (take_all c.loop-i.i c.args.path.now.steps (omega arith)) c.loop-i.invariant
