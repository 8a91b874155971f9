use Rattle.std.proofs.Common.{◌∙◌, ap, ◌∷◌}
use Rattle.std.specs.Prelude.{option_map, bytes_eq}
use Rattle.std.specs.List.{find}
use Rattle.volume_spec.specs.Walk.{child_by_key}
use Rattle.node_rows.proofs.Asked.{child-is, answered-child}
use Rattle.node_rows.specs.Children.{child_order, node_id}
use Rattle.node_rows.specs.Kept.{RowsValue}
use Rattle.node_rows.specs.declared.child.Child.{Child}
use Rattle.node_rows.proofs.rows.Rows.child.Goals as goal

pub returns : goal.returns
returns c =
    answered-child c.find_child.result (child_by_key c.args.self.now.rows c.args.dir.0 c.args.key.now) (
    c.find_child.ensures
    ∙ ap (λ l. option_map (λ (child : Child). child.id) (find (λ child. bytes_eq (child_order child) (c.args.dir.0 ∷ c.args.key.now)) l)) c.as_slice.ensures.value
    ∙ child-is c.self.inside.nodes.items c.self.inside.children.items c.self.inside.next c.args.dir.0 c.args.key.now c.self.invariant.kept
    ∙ ap (λ (v : RowsValue). option_map node_id (child_by_key v.rows c.args.dir.0 c.args.key.now)) c.self.view_is)
