use Rattle.std.proofs.Common.{◌≡◌, ◌%◌, ◌/◌, ℕ, List, sym, subst, arith, rules}
use Rattle.volume_keeper_records.specs.lemma.Climb.{through, Climbs}
use Rattle.volume_keeper_records.proofs.Climbing.{even_step, odd_step}
use Rattle.volume_keeper_records.proofs.climb.all_through.Goals as goal
use Rattle.volume_keeper_records.proofs.climb.all_through.Goals.{then-left-eq1+in_ok-ends, else-left-eq1}

pub loop-left-preserved : goal.loop-left-preserved
loop-left-preserved c =
    let squared : c.in_ok-up.up.items ≡ through c.loop-left.up.items c.loop-left.up.items = search rules in
    elim c.if-left-eq1.branch [
      | then-left-eq1+in_ok-ends w ↦
          let moved : c.if-left-eq1.ends.items ≡ through c.loop-left.ends.items c.loop-left.up.items = search rules in
          subst (λ (u : List ℕ). Climbs c.args.steps.items c.args.count u c.if-left-eq1.ends.items (c.loop-left.left / 2)) (sym squared)
          (subst (λ (e : List ℕ). Climbs c.args.steps.items c.args.count (through c.loop-left.up.items c.loop-left.up.items) e (c.loop-left.left / 2)) (sym moved)
          (odd_step _ _ _ _ _ c.loop-left.invariant (let y : c.loop-left.left % 2 ≡ 1 = omega (arith, w.if-left-eq1.true) in y)))
      | else-left-eq1 w ↦
          subst (λ (u : List ℕ). Climbs c.args.steps.items c.args.count u c.if-left-eq1.ends.items (c.loop-left.left / 2)) (sym squared)
          (subst (λ (e : List ℕ). Climbs c.args.steps.items c.args.count (through c.loop-left.up.items c.loop-left.up.items) e (c.loop-left.left / 2)) (search rules)
          (even_step _ _ _ _ _ c.loop-left.invariant (let y : c.loop-left.left % 2 ≡ 0 = omega (arith, w.if-left-eq1.false) in y)))
    ]
