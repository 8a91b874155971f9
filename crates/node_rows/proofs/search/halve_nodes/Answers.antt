use Rattle.std.proofs.Common.{rules}
use Rattle.std.specs.Prelude.{nat_lt}
use Rattle.std.proofs.lemmas.List.Sorted.{IsPartitionPoint-from_clause}
use Rattle.volume_spec.specs.SoundVolume.{has_rising_ids}
use Rattle.volume_spec.specs.VolumeState.{Row}
use Rattle.node_rows.proofs.Halving.{partition-place, numbers-partition}
use Rattle.node_rows.proofs.search.halve_nodes.Goals as goal

pub returns-clause-place : goal.returns-clause-place
unfolding has_rising_ids
returns-clause-place c =
    partition-place (λ (row : Row). nat_lt row.id c.args.id.0) c.args.nodes.now c.partition_point.result c.partition_point.ensures.bound
    (IsPartitionPoint-from_clause (λ (row : Row). nat_lt row.id c.args.id.0) c.args.nodes.now c.partition_point.result c.partition_point.ensures.partitioned
    (numbers-partition (λ (row : Row). row.id) c.args.id.0 0 c.args.nodes.now c.requires) (λ x r f k. search rules))
