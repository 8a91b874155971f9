use Rattle.std.proofs.Common.{◌≡◌, drop}
use Rattle.volume_keeper_records.specs.lemma.Judged.{next_in}
use Rattle.volume_keeper_records.proofs.pass.next_of.Given as goal

abbrev pub invariant-loop-row : goal.invariant-loop-row
invariant-loop-row l = next_in l.rows ≡ next_in (drop l.row-index l.rows)
