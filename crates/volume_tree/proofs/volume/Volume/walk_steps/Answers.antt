use Rattle.std.proofs.Common.{◌≡◌, ◌∙◌, ap, sym, subst, take, Some, None, arith}
use Rattle.std.proofs.lemmas.List.{length-take-le}
use Rattle.volume_spec.specs.Walk.{child, parent_at}
use Rattle.volume_tree.proofs.Steps.{step-in, goes-up, stops-up, stops-closed, goes-down, stops-down, stops-early, no-steps}
use Rattle.volume_tree.proofs.volume.Volume.walk_steps.Goals as goal
use Rattle.volume_tree.proofs.volume.Volume.walk_steps.Goals.{in-Up+in-Some, in-Down+else-is_closed+in-Ok-Some}

pub returns-in-None : goal.returns-in-None
returns-in-None c =
    let steps = take c.args.count c.args.path.now.steps in
    c.loop-i.invariant
    ∙ stops-up c.args.self.now.state.rows c.args.user c.args.path.now.kind c.args.missing steps c.loop-i.i c.loop-i.here.0 (step-in c.args.count c.args.path.now.steps c.loop-i.i (omega arith) ∙ c.step.ensures ∙ ap Some c.in-Up.is) c.in-None.ensures

pub returns-then-is_closed : goal.returns-then-is_closed
returns-then-is_closed c =
    let steps = take c.args.count c.args.path.now.steps in
    c.loop-i.invariant
    ∙ stops-closed c.args.self.now.state.rows c.args.user c.args.path.now.kind c.args.missing steps c.loop-i.i c.loop-i.here.0 c.in-Down.name (step-in c.args.count c.args.path.now.steps c.loop-i.i (omega arith) ∙ c.step.ensures ∙ ap Some c.in-Down.is)
    (sym c.is_closed.ensures ∙ c.if-is_closed.true)

pub returns-then-i-count : goal.returns-then-i-count
returns-then-i-count c =
    let steps = take c.args.count c.args.path.now.steps in
    c.loop-i.invariant
    ∙ stops-early c.args.self.now.state.rows c.args.user c.args.path.now.kind c.args.missing steps c.loop-i.i c.loop-i.here.0 c.in-Down.name (step-in c.args.count c.args.path.now.steps c.loop-i.i (omega arith) ∙ c.step.ensures ∙ ap Some c.in-Down.is) (sym c.is_closed.ensures ∙ c.if-is_closed.false)
    (subst (λ k. child c.args.self.now.state.rows k c.loop-i.here.0 c.in-Down.name ≡ None) c.kind.ensures.kind (rw c.in-Ok-None.field-0-is at c.in-Ok-None.ensures)) (omega (arith, length-take-le c.args.count c.args.path.now.steps c.requires))

pub returns-else-i-count : goal.returns-else-i-count
returns-else-i-count c =
    let steps = take c.args.count c.args.path.now.steps in
    c.loop-i.invariant
    ∙ stops-down c.args.self.now.state.rows c.args.user c.args.path.now.kind c.args.missing steps c.loop-i.i c.loop-i.here.0 c.in-Down.name (step-in c.args.count c.args.path.now.steps c.loop-i.i (omega arith) ∙ c.step.ensures ∙ ap Some c.in-Down.is) (sym c.is_closed.ensures ∙ c.if-is_closed.false)
    (subst (λ k. child c.args.self.now.state.rows k c.loop-i.here.0 c.in-Down.name ≡ None) c.kind.ensures.kind (rw c.in-Ok-None.field-0-is at c.in-Ok-None.ensures)) (omega (arith, length-take-le c.args.count c.args.path.now.steps c.requires))

pub loop-i-preserved : goal.loop-i-preserved
loop-i-preserved c =
    let steps = take c.args.count c.args.path.now.steps in
    c.loop-i.invariant ∙ elim c.match-step.branch [
      | in-Up+in-Some w ↦ goes-up c.args.self.now.state.rows c.args.user c.args.path.now.kind c.args.missing steps c.loop-i.i c.loop-i.here.0 c.match-step.here.0 (step-in c.args.count c.args.path.now.steps c.loop-i.i (omega arith) ∙ c.step.ensures ∙ ap Some w.in-Up.is)
          (subst (λ h. parent_at c.args.self.now.state.rows c.loop-i.here.0 ≡ Some h.0) (sym w.here-is) w.in-Some.ensures)
      | in-Down+else-is_closed+in-Ok-Some w ↦ goes-down c.args.self.now.state.rows c.args.user c.args.path.now.kind c.args.missing steps c.loop-i.i c.loop-i.here.0 w.in-Down.name c.match-step.here.0 (step-in c.args.count c.args.path.now.steps c.loop-i.i (omega arith) ∙ c.step.ensures ∙ ap Some w.in-Down.is) (sym w.is_closed.ensures ∙ w.if-is_closed.false)
          (subst (λ h. child c.args.self.now.state.rows c.args.path.now.kind c.loop-i.here.0 w.in-Down.name ≡ Some h.0) (sym w.here-is)
          (subst (λ k. child c.args.self.now.state.rows k c.loop-i.here.0 w.in-Down.name ≡ Some w.in-Ok-Some.down.0) w.kind.ensures.kind (rw w.in-Ok-Some.field-0-is at w.in-Ok-Some.ensures)))
    ]

pub returns : goal.returns
returns c =
    c.loop-i.invariant ∙ no-steps c.args.self.now.state.rows c.args.user c.args.path.now.kind c.args.missing (take c.args.count c.args.path.now.steps) c.loop-i.i c.loop-i.here.0 (omega (arith, length-take-le c.args.count c.args.path.now.steps c.requires))
