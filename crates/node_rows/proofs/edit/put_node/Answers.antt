use Rattle.std.proofs.Common.{◌≡◌, ◌∙◌, ap, not, true, cond, List}
use Rattle.std.specs.Prelude.{insert, nat_lt, ◌==◌}
use Rattle.std.specs.List.{position_or_len, list_all}
use Rattle.volume_spec.specs.VolumeState.{Row}
use Rattle.node_rows.proofs.Keeping.{admitted-at, none-there}
use Rattle.node_rows.proofs.edit.put_node.Goals as goal

pub returns-clause-items : goal.returns-clause-items
returns-clause-items c =
    let rows : List Row = c.args.nodes.now.items in
    let others : list_all (λ (row : Row). not (row.id == c.args.node.id)) rows ≡ true = none-there rows c.args.node.id c.requires.new in
    c.insert.ensures.items ∙ ap (λ t. cond t (insert rows c.node_place-place.result c.args.node) rows) (c.insert.ensures.succeeds c.requires.room)
    ∙ ap (λ n. insert rows n c.args.node)
    (c.node_place-place.ensures.place ∙ (λ i. position_or_len (λ (row : Row). not (nat_lt row.id (ap (λ (q : Row). q.id) c.node.view_is i))) (c.as_slice.ensures.value i)))
    ∙ admitted-at c.args.node rows others
