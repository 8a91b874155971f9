use Rattle.std.proofs.Common.{◌≡◌, ◌++◌, map, take, drop}
use Rattle.volume_keeper_records.specs.lemma.Raising.{raised}
use Rattle.volume_keeper_records.proofs.migration.raise_all.Given as goal

abbrev pub invariant-loop-i : goal.invariant-loop-i
invariant-loop-i l = l.rows ≡ map raised (take l.i l.fn.rows) ++ drop l.i l.fn.rows
