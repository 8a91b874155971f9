use Rattle.std.proofs.Common.{◌≡◌, ◌++◌, drop}
use Rattle.record_keeper.specs.lemma.Rows.{removals}
use Rattle.record_keeper.proofs.rows.removals_of.Given as goal

abbrev pub invariant-loop-change : goal.invariant-loop-change
invariant-loop-change l = l.removed.items ++ removals (drop l.change-index l.changes) ≡ removals l.changes
