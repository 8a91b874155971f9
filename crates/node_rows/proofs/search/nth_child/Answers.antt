use Rattle.std.proofs.Common.{◌≡◌, ◌∙◌, ap, sym, true, false, cond, Some, None, arith}
use Rattle.std.specs.Prelude.{option_map}
use Rattle.std.proofs.lemmas.Bool.{eq-eqb, ne_eqb}
use Rattle.node_rows.specs.declared.child.Child.{Child}
use Rattle.node_rows.proofs.Siblings.{is_of, nth-past, nth-at}
use Rattle.node_rows.proofs.search.nth_child.Goals as goal

pub returns-then-i-children : goal.returns-then-i-children
returns-then-i-children c =
    sym (ap (λ o. option_map (λ (child : Child). child.id) o)
    (nth-past c.args.parent.0 c.args.children.now c.child_place-first.result c.args.i c.requires c.child_place-first.ensures.place (omega arith)))

pub returns-then-child-parent : goal.returns-then-child-parent
returns-then-child-parent c =
    let x : Child = c.index-children-first.result in
    let other : is_of c.args.parent.0 x ≡ false = ne_eqb x.parent.0 c.args.parent.0 c.if-child-parent.true in
    sym (ap (λ o. option_map (λ (child : Child). child.id) o)
    (nth-at c.args.parent.0 c.args.children.now c.child_place-first.result c.args.i x c.requires c.child_place-first.ensures.place (omega arith) c.index-children-first.is
    ∙ ap (λ t. cond t (Some x) None) other))

pub returns : goal.returns
returns c =
    let x : Child = c.index-children-first.result in
    let here : is_of c.args.parent.0 x ≡ true = eq-eqb x.parent.0 c.args.parent.0 c.if-child-parent.false in
    sym (ap (λ o. option_map (λ (child : Child). child.id) o)
    (nth-at c.args.parent.0 c.args.children.now c.child_place-first.result c.args.i x c.requires c.child_place-first.ensures.place (omega arith) c.index-children-first.is
    ∙ ap (λ t. cond t (Some x) None) here))
