use Rattle.std.proofs.Common.{◌∙◌, ap, map}
use Rattle.std.specs.List.{filter}
use Rattle.volume_spec.specs.Listing.{listed}
use Rattle.node_rows.proofs.Asked.{siblings-are}
use Rattle.node_rows.proofs.Siblings.{is_of}
use Rattle.node_rows.specs.Children.{child_of}
use Rattle.node_rows.specs.Kept.{RowsValue}
use Rattle.node_rows.proofs.rows.Rows.siblings.Goals as goal

pub returns : goal.returns
returns c =
    c.siblings.ensures
    ∙ ap (λ l. filter (is_of c.args.dir.0) l) c.as_slice.ensures.value
    ∙ siblings-are c.self.inside.nodes.items c.self.inside.children.items c.self.inside.next c.args.dir.0 c.self.invariant.kept
    ∙ ap (λ (v : RowsValue). map child_of (listed v.rows c.args.dir.0)) c.self.view_is
