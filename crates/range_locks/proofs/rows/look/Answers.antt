use Rattle.std.proofs.Common.{rules, ap, not}
use Rattle.std.specs.Prelude.{nat_lt, nat_le}
use Rattle.std.proofs.lemmas.List.Sorted.{IsPartitionPoint-from_clause}
use Rattle.range_locks.specs.declared.rows.LockRow.{LockRow}
use Rattle.range_locks.proofs.Looking.{parted_ends, parted_starts, in_turn, seen_is}
use Rattle.range_locks.proofs.rows.look.Goals as goal

pub rows_between-met-requires-clause-low : goal.rows_between-met-requires-clause-low
rows_between-met-requires-clause-low c =
    let ends = IsPartitionPoint-from_clause (λ (row : LockRow). nat_lt row.range.to c.args.range.now.from) c.args.rows.now c.partition_point-from.result c.partition_point-from.ensures.partitioned (parted_ends c.args.rows.now c.requires c.args.range.now.from) (λ a r g called. search rules) in
    let starts = IsPartitionPoint-from_clause (λ (row : LockRow). nat_le row.range.from c.args.range.now.to) c.args.rows.now c.partition_point-to.result c.partition_point-to.ensures.partitioned (parted_starts c.args.rows.now c.requires c.args.range.now.to) (λ a r g called. search rules) in
    in_turn c.args.rows.now c.requires c.args.range.now c.first-first.ensures.order c.partition_point-from.result c.partition_point-to.result c.partition_point-from.ensures.bound c.partition_point-to.ensures.bound ends starts (record { range = c.args.range.now; reference = c.args.r })

pub returns : goal.returns
returns c =
    let ends = IsPartitionPoint-from_clause (λ (row : LockRow). nat_lt row.range.to c.args.range.now.from) c.args.rows.now c.partition_point-from.result c.partition_point-from.ensures.partitioned (parted_ends c.args.rows.now c.requires c.args.range.now.from) (λ a r g called. search rules) in
    let starts = IsPartitionPoint-from_clause (λ (row : LockRow). nat_le row.range.from c.args.range.now.to) c.args.rows.now c.partition_point-to.result c.partition_point-to.ensures.partitioned (parted_starts c.args.rows.now c.requires c.args.range.now.to) (λ a r g called. search rules) in
    seen_is c.args.rows.now c.requires c.args.range.now c.first-first.ensures.order c.partition_point-from.result c.partition_point-to.result c.partition_point-from.ensures.bound c.partition_point-to.ensures.bound ends starts c.args.r.0 c.has_other.result _ c.rows_between-met.ensures c.has_other.ensures (ap not c.is_empty.ensures)
