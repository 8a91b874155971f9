use Rattle.std.proofs.Common.{◌≡◌, take}
use Rattle.std.specs.Prelude.{flat_map}
use Rattle.volume_keeper_records.specs.lemma.Raising.{puts_of}
use Rattle.volume_keeper_records.proofs.migration.all_puts.Given as goal

abbrev pub invariant-loop-row : goal.invariant-loop-row
invariant-loop-row l = l.changes.items ≡ flat_map puts_of (take l.row-index l.rows)
