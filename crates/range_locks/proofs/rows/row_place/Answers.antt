use Rattle.std.proofs.Common.{◌∙◌, sym, rules, arith}
use Rattle.std.specs.Prelude.{nat_lt}
use Rattle.std.proofs.lemmas.List.Sorted.{IsPartitionPoint-from_clause}
use Rattle.range_locks.specs.declared.rows.LockRow.{LockRow}
use Rattle.range_locks.proofs.Looking.{parted_ends, row_some, row_none}
use Rattle.range_locks.proofs.rows.row_place.Goals as goal
use Rattle.range_locks.proofs.rows.row_place.Goals.{else-place-rows-via-then-place-rows+else-is, else-place-rows-via-else-place-rows}

pub returns-else-place-rows : goal.returns-else-place-rows
returns-else-place-rows c =
    let row = c.args.row.now in
    let ends = IsPartitionPoint-from_clause (λ (x : LockRow). nat_lt x.range.to row.range.from) c.args.rows.now c.partition_point-place.result c.partition_point-place.ensures.partitioned (parted_ends c.args.rows.now c.requires row.range.from) (λ a r g called. search rules) in
    elim c.else-place-rows.branch [
      | else-place-rows-via-then-place-rows+else-is w ↦ sym (sym w.if-is.false ∙ w.is.ensures ∙ row_some c.args.rows.now c.requires row c.first-first.ensures.order c.partition_point-place.result ends w.index-rows-place.result w.if-place-rows.true w.index-rows-place.is)
      | else-place-rows-via-else-place-rows w ↦ sym (row_none c.args.rows.now c.requires row c.first-first.ensures.order c.partition_point-place.result ends (λ less. absurd (omega (arith, w.if-place-rows.false, less))))
    ]
