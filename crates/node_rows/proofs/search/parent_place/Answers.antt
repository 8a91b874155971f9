use Rattle.std.proofs.Common.{rules}
use Rattle.std.specs.Prelude.{nat_lt}
use Rattle.std.proofs.lemmas.List.Sorted.{IsPartitionPoint-from_clause}
use Rattle.node_rows.specs.declared.child.Child.{Child}
use Rattle.node_rows.proofs.Halving.{partition-place}
use Rattle.node_rows.proofs.Parents.{parents-partition}
use Rattle.node_rows.proofs.search.parent_place.Goals as goal

pub returns-clause-place : goal.returns-clause-place
returns-clause-place c =
    partition-place (λ (child : Child). nat_lt child.parent.0 c.args.bound) c.args.children.now c.partition_point.result c.partition_point.ensures.bound
    (IsPartitionPoint-from_clause (λ (child : Child). nat_lt child.parent.0 c.args.bound) c.args.children.now c.partition_point.result c.partition_point.ensures.partitioned
    (parents-partition c.args.bound c.args.children.now c.requires) (λ x r f k. search rules))
