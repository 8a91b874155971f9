use Rattle.std.proofs.Common.{◌≡◌}
use Rattle.volume_keeper_records.specs.lemma.Judged.{said_rows}
use Rattle.volume_keeper_records.proofs.load.collect.Given as goal

abbrev pub invariant-loop-row : goal.invariant-loop-row
invariant-loop-row l = l.list.items ≡ said_rows l.yielded
