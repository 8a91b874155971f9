use Rattle.std.proofs.Common.{◌≡◌, ◌∙◌, length, sym, ap, subst, arith, IfOk}
use Rattle.std.proofs.lemmas.Bool.{eqb-true, eqb-false}
use Rattle.std.proofs.lemmas.List.{nil_from_length}
use Rattle.afp_base.specs.ForkBytes.{splice}
use Rattle.fork_bytes.specs.Plan.{IsForkPlan, added_by}
use Rattle.fork_bytes.proofs.Applies.{if_plan, no_changes}
use Rattle.fork_bytes.proofs.Blocks.{length-bytes}
use Rattle.fork_bytes.proofs.fork.Fork.plan_write.Goals as goal

pub returns-then-is_empty-clause-plan : goal.returns-then-is_empty-clause-plan
returns-then-is_empty-clause-plan c =
    let len : c.self.inside.len ≡ length c.args.self.now = sym (length-bytes c.self.inside.len c.self.inside.blocks.items) ∙ ap length c.self.view_is in
    let none = nil_from_length c.args.piece.now (eqb-true _ _ (sym c.if-is_empty.ensures)) in
    subst (λ l. IfOk c.planned.result (λ p. IsForkPlan c.args.self.now (splice c.args.self.now c.args.from l) p)) (sym none)
    (if_plan c.planned.result c.args.self.now c.args.self.now c.self.inside.len _ _ c.planned.ensures.len c.planned.ensures.changes c.planned.ensures.room len
    (c.new.ensures.list ∙ no_changes c.args.self.now) (c.new.ensures.added ∙ sym (ap (added_by c.args.self.now) c.new.ensures.list)))

pub returns-clause-plan : goal.returns-clause-plan
returns-clause-plan c =
    let len : c.self.inside.len ≡ length c.args.self.now = sym (length-bytes c.self.inside.len c.self.inside.blocks.items) ∙ ap length c.self.view_is in
    let some = eqb-false _ _ (sym c.if-is_empty.ensures) in
    if_plan c.planned-2.result c.args.self.now (splice c.args.self.now c.args.from c.args.piece.now) c.max.result _ _ c.planned-2.ensures.len c.planned-2.ensures.changes c.planned-2.ensures.room
    (omega (arith, c.max.ensures, len, c.splice_puts_between.ensures.reaches c.args.self.now c.args.piece.now c.args.from (omega (arith, some))))
    c.in_ok-changes.ensures.changes c.in_ok-changes.ensures.added
