use Rattle.std.proofs.Common.{◌∙◌, ap, ◌∷◌, not, cond}
use Rattle.std.specs.Prelude.{insert}
use Rattle.std.specs.List.{position_or_len}
use Rattle.volume_spec.specs.Order.{stands_before}
use Rattle.node_rows.specs.Children.{child_order}
use Rattle.node_rows.specs.declared.child.Child.{Child}
use Rattle.node_rows.proofs.Sorting.{put-at}
use Rattle.node_rows.proofs.edit.put_child.Goals as goal

pub returns-clause-items : goal.returns-clause-items
returns-clause-items c =
    c.insert.ensures.items ∙ ap (λ t. cond t (insert c.args.children.now.items c.child_place-place.result c.args.child) c.args.children.now.items) (c.insert.ensures.succeeds c.requires.room)
    ∙ ap (λ n. insert c.args.children.now.items n c.args.child)
    (c.child_place-place.ensures.place ∙ (λ i. position_or_len (λ (child : Child). not (stands_before (child_order child) (c.args.child.parent.0 ∷ c.as_slice-2.ensures i))) (c.as_slice.ensures.value i)))
    ∙ put-at child_order c.args.child c.args.children.now.items c.requires.new
