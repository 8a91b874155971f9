use Rattle.std.proofs.Common.{◌∙◌, ap, sym, refl, cond, Some, None, length, arith}
use Rattle.std.proofs.lemmas.Option.{slice_get_read}
use Rattle.volume_spec.specs.SoundVolume.{has_rising_ids}
use Rattle.volume_spec.specs.VolumeState.{Row}
use Rattle.volume_spec.specs.Walk.{row_at}
use Rattle.node_rows.proofs.Sorting.{number-past, number-at}
use Rattle.node_rows.proofs.search.search_node.Goals as goal

pub returns-then-place-nodes : goal.returns-then-place-nodes
unfolding has_rising_ids row_at
returns-then-place-nodes c =
    number-past (λ (row : Row). row.id) c.args.id.0 c.args.nodes.now c.node_place-place.result c.requires c.node_place-place.ensures.place (omega arith)

pub returns-then-not-has_id : goal.returns-then-not-has_id
unfolding has_rising_ids row_at
returns-then-not-has_id c =
    let x : Row = c.index-nodes-place.result in
    number-at (λ (row : Row). row.id) c.args.id.0 c.args.nodes.now c.node_place-place.result x c.requires c.node_place-place.ensures.place (omega arith) c.index-nodes-place.is
    ∙ ap (λ t. cond t (Some x) None) (sym c.has_id.ensures ∙ c.if-not-has_id.true)

pub returns : goal.returns
unfolding has_rising_ids row_at
returns c =
    let x : Row = c.index-nodes-place.result in (
      omega arith,
      number-at (λ (row : Row). row.id) c.args.id.0 c.args.nodes.now c.node_place-place.result x c.requires c.node_place-place.ensures.place (omega arith) c.index-nodes-place.is
          ∙ ap (λ t. cond t (Some x) None) (sym c.has_id.ensures ∙ c.if-not-has_id.false)
          ∙ sym (slice_get_read c.args.nodes.now (length c.args.nodes.now) c.node_place-place.result x refl (omega arith) c.index-nodes-place.is),
    )
