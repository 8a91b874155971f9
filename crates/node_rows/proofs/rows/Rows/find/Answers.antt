use Rattle.std.proofs.Common.{subst, ap, ◌∙◌}
use Rattle.node_rows.specs.Kept.{IsPlaceOf, RowsValue}
use Rattle.node_rows.proofs.rows.Rows.find.Goals as goal

pub returns : goal.returns
returns c = subst (λ l. IsPlaceOf l c.args.id.0 c.find_node.result) (c.as_slice.ensures.value ∙ ap (λ (v : RowsValue). v.rows) c.self.view_is) c.find_node.ensures
