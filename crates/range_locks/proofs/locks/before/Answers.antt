use Rattle.std.proofs.Common.{rules, arith}
use Rattle.std.specs.Prelude.{nat_lt}
use Rattle.std.proofs.lemmas.List.Sorted.{IsPartitionPoint-from_clause, IsPartitionedBy-ltb}
use Rattle.range_locks.specs.lemma.Kept.{holder_of}
use Rattle.range_locks.specs.Locks.{ForkLock}
use Rattle.range_locks.proofs.locks.before.Goals as goal

pub returns : goal.returns
returns c =
    let parted = IsPartitionPoint-from_clause (λ (l : ForkLock). nat_lt (holder_of l) c.args.r) c.args.list.now c.partition_point.result c.partition_point.ensures.partitioned (IsPartitionedBy-ltb holder_of c.args.list.now c.args.r c.requires) (λ a r g called. search rules) in
    record { within = c.partition_point.ensures.bound; front = λ k d less. parted.0 k d (omega arith) less; rest = λ k d low high. parted.1 k d low high }
