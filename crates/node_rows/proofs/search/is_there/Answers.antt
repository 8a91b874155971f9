use Rattle.std.proofs.Common.{◌∙◌, sym, refl, length}
use Rattle.std.proofs.lemmas.Option.{slice_get_read}
use Rattle.volume_spec.specs.SoundVolume.{has_rising_ids}
use Rattle.volume_spec.specs.VolumeState.{Row}
use Rattle.volume_spec.specs.Walk.{row_at}
use Rattle.node_rows.proofs.Sorting.{number-there}
use Rattle.node_rows.proofs.search.is_there.Goals as goal

pub returns-then-place-nodes : goal.returns-then-place-nodes
unfolding has_rising_ids row_at
returns-then-place-nodes c same =
    let x : Row = c.index-nodes-place.result in (
      c.if-place-nodes.true,
      number-there (λ (row : Row). row.id) c.args.id.0 0 c.args.nodes.now c.args.place x c.requires c.if-place-nodes.true c.index-nodes-place.is (sym c.has_id.ensures ∙ same)
          ∙ sym (slice_get_read c.args.nodes.now (length c.args.nodes.now) c.args.place x refl c.if-place-nodes.true c.index-nodes-place.is),
    )
