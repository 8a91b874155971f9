use Rattle.std.proofs.Common.{◌∙◌, ap}
use Rattle.std.specs.Prelude.{option_map, slice_get}
use Rattle.std.specs.List.{filter}
use Rattle.volume_spec.specs.Listing.{listed}
use Rattle.volume_spec.specs.VolumeState.{Row}
use Rattle.node_rows.proofs.Asked.{nth-is, answered-nth}
use Rattle.node_rows.proofs.Siblings.{is_of}
use Rattle.node_rows.specs.Children.{node_id}
use Rattle.node_rows.specs.Kept.{RowsValue}
use Rattle.node_rows.specs.declared.child.Child.{Child}
use Rattle.node_rows.proofs.rows.Rows.nth.Goals as goal

pub returns : goal.returns
returns c =
    answered-nth c.nth_child.result (slice_get (listed c.args.self.now.rows c.args.dir.0) c.args.i) (
    c.nth_child.ensures
    ∙ ap (λ l. option_map (λ (child : Child). child.id) (slice_get (filter (is_of c.args.dir.0) l) c.args.i)) c.as_slice.ensures.value
    ∙ nth-is c.self.inside.nodes.items c.self.inside.children.items c.self.inside.next c.args.dir.0 c.args.i c.self.invariant.kept
    ∙ ap (λ (v : RowsValue). option_map (λ (row : Row). node_id row.id) (slice_get (listed v.rows c.args.dir.0) c.args.i)) c.self.view_is)
