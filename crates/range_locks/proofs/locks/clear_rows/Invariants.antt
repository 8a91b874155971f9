use Rattle.std.proofs.Common.{◌≡◌, ◌==◌, not, filter, take, if◌then◌else◌}
use Rattle.afp_base.specs.DenyMode.{Fork}
use Rattle.range_locks.specs.lemma.Kept.{is_among, rows_at}
use Rattle.range_locks.proofs.locks.clear_rows.Given as goal

abbrev pub invariant-loop-place : goal.invariant-loop-place
invariant-loop-place l = (q : Fork) → rows_at l.forks q ≡ (if is_among (take l.place l.list) q then filter (λ x. not (x.reference.0 == l.r)) (rows_at l.initial.forks q) else rows_at l.initial.forks q)
