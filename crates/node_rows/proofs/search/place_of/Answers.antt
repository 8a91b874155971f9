use Rattle.std.proofs.Common.{◌∙◌, ap, ◌∷◌, take}
use Rattle.std.specs.List.{list_any}
use Rattle.volume_spec.specs.VolumeState.{Row}
use Rattle.node_rows.specs.Children.{child_of, child_order}
use Rattle.node_rows.specs.lemma.Places.{is_child_at}
use Rattle.node_rows.proofs.Leaving.{among, found-by-key}
use Rattle.node_rows.proofs.search.place_of.Goals as goal

pub place_among-requires-clause-there : goal.place_among-requires-clause-there
place_among-requires-clause-there c =
    ap (λ (row : Row). list_any (is_child_at row.parent row.id) c.args.children.now) c.node.view_is ∙ among c.args.node.now c.args.children.now c.requires.there

pub returns-in-Some-clause-within : goal.returns-in-Some-clause-within
returns-in-Some-clause-within c =
    (found-by-key c.args.node.now c.args.children.now (c.node.inside.parent.0 ∷ take c.in-Some.len c.ascii_key.new.room) c.child_place.result c.child_place.ensures.place
    (ap (λ k. c.node.inside.parent.0 ∷ k) c.in-Some.ensures.key ∙ ap (λ (row : Row). child_order (child_of row)) c.node.view_is) c.requires.order c.requires.one c.requires.there).0

pub returns-in-Some-clause-others : goal.returns-in-Some-clause-others
returns-in-Some-clause-others c =
    (found-by-key c.args.node.now c.args.children.now (c.node.inside.parent.0 ∷ take c.in-Some.len c.ascii_key.new.room) c.child_place.result c.child_place.ensures.place
    (ap (λ k. c.node.inside.parent.0 ∷ k) c.in-Some.ensures.key ∙ ap (λ (row : Row). child_order (child_of row)) c.node.view_is) c.requires.order c.requires.one c.requires.there).1
