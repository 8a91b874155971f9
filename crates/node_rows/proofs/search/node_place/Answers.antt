use Rattle.std.proofs.Common.{◌∙◌, ◌-◌, sym, length, arith}
use Rattle.volume_spec.specs.SoundVolume.{has_rising_ids}
use Rattle.volume_spec.specs.VolumeState.{Row}
use Rattle.node_rows.proofs.Sorting.{number-behind}
use Rattle.node_rows.proofs.search.node_place.Goals as goal

pub returns-then-is_below-clause-place : goal.returns-then-is_below-clause-place
unfolding has_rising_ids
returns-then-is_below-clause-place c =
    number-behind (λ (row : Row). row.id) c.args.id.0 0 c.args.nodes.now (length c.args.nodes.now - 1) c.index-nodes-count.result c.requires (omega arith) c.index-nodes-count.is (sym c.is_below.ensures ∙ c.if-is_below.true)
