use Rattle.std.proofs.Common.{rules, arith}
use Rattle.std.specs.Prelude.{nat_le}
use Rattle.std.proofs.lemmas.List.Sorted.{IsPartitionPoint-from_clause, IsPartitionedBy-leb}
use Rattle.fork_table.specs.lemma.Own.{session_of}
use Rattle.fork_table.specs.declared.own.OwnRef.{OwnRef}
use Rattle.fork_table.proofs.own.behind.Goals as goal

pub returns : goal.returns
returns c =
    let parted = IsPartitionPoint-from_clause (λ (e : OwnRef × Unit {0}). nat_le (session_of e) c.args.s.0) c.args.own.now c.partition_point.result c.partition_point.ensures.partitioned (IsPartitionedBy-leb session_of c.args.own.now c.args.s.0 c.requires) (λ a r g called. search rules) in
    record { within = c.partition_point.ensures.bound; front = λ k d less. parted.0 k d (omega arith) less; rest = λ k d low high. parted.1 k d low high }
