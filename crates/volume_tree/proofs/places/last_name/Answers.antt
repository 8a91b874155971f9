use Rattle.std.proofs.Common.{◌∙◌, ap, sym, Some, arith, ◌-◌}
use Rattle.std.specs.Prelude.{slice_get}
use Rattle.volume_tree.proofs.Paths.{last-down-is, last-up-is, none-last}
use Rattle.volume_tree.proofs.places.last_name.Goals as goal

pub returns-in-Up : goal.returns-in-Up
returns-in-Up c =
    last-up-is c.args.path.now.steps (omega (arith, c.if-len-eq0.false)) (ap (λ n. slice_get c.args.path.now.steps (n - 1)) (sym c.len-2.ensures.len) ∙ c.step.ensures ∙ ap Some c.in-Up.is)

pub returns-in-Down : goal.returns-in-Down
returns-in-Down c =
    last-down-is c.args.path.now.steps c.in-Down.name (omega (arith, c.if-len-eq0.false)) (ap (λ n. slice_get c.args.path.now.steps (n - 1)) (sym c.len-2.ensures.len) ∙ c.step.ensures ∙ ap Some c.in-Down.is)

pub returns-then-len-eq0 : goal.returns-then-len-eq0
returns-then-len-eq0 c = none-last c.args.path.now.steps (omega arith)
