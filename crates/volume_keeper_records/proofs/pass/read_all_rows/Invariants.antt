use Rattle.std.proofs.Common.{◌≡◌, take, map}
use Rattle.volume_keeper_records.specs.Shape.{row_in}
use Rattle.volume_keeper_records.proofs.pass.read_all_rows.Given as goal

abbrev pub invariant-loop-kept : goal.invariant-loop-kept
invariant-loop-kept l = l.rows.items ≡ map (row_in (record { version = l.version; name = l.name })) (take l.kept-index l.records)
