use Rattle.std.proofs.Common.{nat_lt, rules}
use Rattle.std.proofs.lemmas.List.Sorted.{IsPartitionPoint-from_clause}
use Rattle.fork_bytes.proofs.Places.{is_partitioned}
use Rattle.fork_bytes.proofs.fork.place_among.Goals as goal

pub returns-clause-place : goal.returns-clause-place
returns-clause-place c rising =
    IsPartitionPoint-from_clause (λ b. nat_lt b.index c.args.index) c.args.blocks.now _ c.partition_point.ensures.partitioned
    (is_partitioned c.args.blocks.now c.args.index rising) (λ x b f' k. search rules)
