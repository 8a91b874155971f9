use Rattle.std.proofs.Common.{rules, ◌∷◌}
use Rattle.std.proofs.lemmas.List.Sorted.{IsPartitionPoint-from_clause}
use Rattle.volume_spec.specs.Order.{stands_before}
use Rattle.node_rows.specs.Children.{child_order}
use Rattle.node_rows.proofs.Halving.{partition-place, keys-partition}
use Rattle.node_rows.proofs.search.child_place.Goals as goal

pub returns-clause-place : goal.returns-clause-place
returns-clause-place c =
    partition-place (λ child. stands_before (child_order child) (c.args.parent.0 ∷ c.args.key.now)) c.args.children.now c.partition_point.result c.partition_point.ensures.bound
    (IsPartitionPoint-from_clause (λ child. stands_before (child_order child) (c.args.parent.0 ∷ c.args.key.now)) c.args.children.now c.partition_point.result c.partition_point.ensures.partitioned
    (keys-partition child_order (c.args.parent.0 ∷ c.args.key.now) c.args.children.now c.requires) (λ x r f k. search rules))
