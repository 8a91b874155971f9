use Rattle.std.proofs.Common.{◌≡◌, ◌∙◌, ◌≤◌, length, vec_capacity, sym, ap, subst}
use Rattle.afp_base.specs.Limits.{most_fork_bytes}
use Rattle.fork_bytes.specs.Kept.{bytes_of}
use Rattle.fork_bytes.specs.lemma.Kept.{IsForkKept, Fits, with_puts}
use Rattle.fork_bytes.specs.Plan.{ForkPlanState}
use Rattle.fork_bytes.proofs.Applies.{given_by, given_fits, given_kept, given_after}
use Rattle.fork_bytes.proofs.fork.Fork.apply.Goals as goal

pub put_all-requires-clause-room : goal.put_all-requires-clause-room
put_all-requires-clause-room c =
    let given = given_by c.self.invariant c.self.view_is c.requires.1 (sym (ap (λ (s : ForkPlanState). s.changes) c.plan.view_is)) (sym (ap (λ (s : ForkPlanState). s.room) c.plan.view_is)) c.move_to.ensures.more c.move_to.ensures.brought in
    subst (λ l. Fits (vec_capacity c.move_to.new.blocks) c.plan.inside.changes.items l) (sym c.move_to.ensures.items) (given_fits given)

pub invariant_of-self : goal.invariant_of-self
invariant_of-self c =
    let p = c.requires.1 in
    let given = given_by c.self.invariant c.self.view_is p (sym (ap (λ (s : ForkPlanState). s.changes) c.plan.view_is)) (sym (ap (λ (s : ForkPlanState). s.room) c.plan.view_is)) c.move_to.ensures.more c.move_to.ensures.brought in
    let len : c.plan.inside.len ≡ length c.requires.0 = ap (λ (s : ForkPlanState). s.len) c.plan.view_is ∙ p.len in
    let items = c.put_all.ensures.items ∙ ap (with_puts c.plan.inside.changes.items) c.move_to.ensures.items in
    subst (λ n. IsForkKept n c.put_all.new.blocks.items (vec_capacity c.put_all.new.blocks)) (sym len)
    (subst (λ l. IsForkKept (length c.requires.0) l (vec_capacity c.put_all.new.blocks)) (sym items)
    (given_kept given (vec_capacity c.put_all.new.blocks) c.put_all.ensures.room (subst (λ n. n ≤ most_fork_bytes) len c.plan.invariant.1)))

pub returns : goal.returns
returns c after p =
    let given = given_by c.self.invariant c.self.view_is p (sym (ap (λ (s : ForkPlanState). s.changes) c.plan.view_is)) (sym (ap (λ (s : ForkPlanState). s.room) c.plan.view_is)) c.move_to.ensures.more c.move_to.ensures.brought in
    let len : c.plan.inside.len ≡ length after = ap (λ (s : ForkPlanState). s.len) c.plan.view_is ∙ p.len in
    let items = c.put_all.ensures.items ∙ ap (with_puts c.plan.inside.changes.items) c.move_to.ensures.items in
    (λ i. bytes_of (len i) (items i)) ∙ given_after given
