use Rattle.std.proofs.Common.{◌∙◌, ap, ◌+◌}
use Rattle.node_rows.proofs.Parents.{parents_from, part-is}
use Rattle.node_rows.proofs.search.sibling_places.Goals as goal

pub returns : goal.returns
returns c =
    part-is c.args.parent.0 c.parent_place-first.result c.parent_place-behind.result c.args.children.now c.requires
    (c.parent_place-first.ensures.place ∙ ap (λ n. parents_from n c.args.children.now) c.from.ensures)
    (c.parent_place-behind.ensures.place ∙ ap (λ n. parents_from (n + 1) c.args.children.now) c.from-2.ensures)
    c.parent_place-behind.ensures.within
