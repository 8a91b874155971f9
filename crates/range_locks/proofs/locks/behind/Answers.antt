use Rattle.std.proofs.Common.{rules, arith}
use Rattle.std.specs.Prelude.{nat_le}
use Rattle.std.proofs.lemmas.List.Sorted.{IsPartitionPoint-from_clause, IsPartitionedBy-leb}
use Rattle.range_locks.specs.lemma.Kept.{holder_of}
use Rattle.range_locks.specs.Locks.{ForkLock}
use Rattle.range_locks.proofs.locks.behind.Goals as goal

pub returns : goal.returns
returns c =
    let parted = IsPartitionPoint-from_clause (λ (l : ForkLock). nat_le (holder_of l) c.args.r) c.args.list.now c.partition_point.result c.partition_point.ensures.partitioned (IsPartitionedBy-leb holder_of c.args.list.now c.args.r c.requires) (λ a r g called. search rules) in
    record { within = c.partition_point.ensures.bound; front = λ k d less. parted.0 k d (omega arith) less; rest = λ k d low high. parted.1 k d low high }
