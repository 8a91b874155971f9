use Rattle.std.proofs.Common.{◌∙◌, ap, sym, ◌∷◌, cond, Some, None, arith}
use Rattle.std.specs.Prelude.{option_map}
use Rattle.node_rows.specs.Children.{child_order}
use Rattle.node_rows.specs.declared.child.Child.{Child}
use Rattle.node_rows.proofs.Sorting.{key-past, key-at}
use Rattle.node_rows.proofs.search.find_child.Goals as goal

pub returns-then-place-children : goal.returns-then-place-children
returns-then-place-children c =
    sym (ap (λ o. option_map (λ (child : Child). child.id) o)
    (key-past child_order (c.args.parent.0 ∷ c.args.key.now) c.args.children.now c.child_place-place.result c.requires c.child_place-place.ensures.place (omega arith)))

pub returns-then-not-is_at : goal.returns-then-not-is_at
returns-then-not-is_at c =
    let x : Child = c.index-children-place.result in
    sym (ap (λ o. option_map (λ (child : Child). child.id) o)
    (key-at child_order (c.args.parent.0 ∷ c.args.key.now) c.args.children.now c.child_place-place.result x c.requires c.child_place-place.ensures.place (omega arith) c.index-children-place.is
    ∙ ap (λ t. cond t (Some x) None) (sym c.is_at.ensures ∙ c.if-not-is_at.true)))

pub returns : goal.returns
returns c =
    let x : Child = c.index-children-place.result in
    sym (ap (λ o. option_map (λ (child : Child). child.id) o)
    (key-at child_order (c.args.parent.0 ∷ c.args.key.now) c.args.children.now c.child_place-place.result x c.requires c.child_place-place.ensures.place (omega arith) c.index-children-place.is
    ∙ ap (λ t. cond t (Some x) None) (sym c.is_at.ensures ∙ c.if-not-is_at.false)))
