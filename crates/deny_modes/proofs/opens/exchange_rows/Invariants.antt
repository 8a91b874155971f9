use Rattle.std.proofs.Common.{◌≡◌, ◌++◌, length, map, take, drop}
use Rattle.deny_modes.specs.lemma.Counters.{exchange_row}
use Rattle.deny_modes.proofs.opens.exchange_rows.Given as goal

abbrev pub invariant-loop-place : goal.invariant-loop-place
invariant-loop-place l = (l.rows ≡ map (exchange_row l.a l.b) (take l.place l.initial.rows) ++ drop l.place l.initial.rows) × (l.place-end ≡ length l.initial.rows) × (length l.rows ≡ length l.initial.rows)
