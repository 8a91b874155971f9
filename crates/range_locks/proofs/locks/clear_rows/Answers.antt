use Rattle.std.proofs.Common.{ap, ◌∙◌}
use Rattle.range_locks.specs.lemma.Kept.{rows_at}
use Rattle.range_locks.proofs.Keeping.{clear_step, clear_skip}
use Rattle.range_locks.proofs.locks.clear_rows.Goals as goal
use Rattle.range_locks.proofs.locks.clear_rows.Goals.{then-not-is_cleared, else-not-is_cleared}

pub loop-place-preserved : goal.loop-place-preserved
loop-place-preserved c = λ q.
    elim c.if-not-is_cleared.branch [
      | then-not-is_cleared w ↦ ap (λ f. rows_at f q) w.forks-is ∙ clear_step c.args.list.now c.loop-place.place c.index-list-place.result c.args.r c.args.forks.now c.loop-place.forks w.take_holder.new.forks c.fork-fork.result c.loop-place-test.true c.index-list-place.is c.fork-fork.ensures c.loop-place.invariant w.take_holder.ensures q
      | else-not-is_cleared w ↦ ap (λ f. rows_at f q) w.forks-is ∙ clear_skip c.args.list.now c.loop-place.place c.index-list-place.result c.args.r c.args.forks.now c.loop-place.forks c.fork-fork.result c.loop-place-test.true c.index-list-place.is c.fork-fork.ensures (c.is_cleared.ensures w.if-not-is_cleared.false) c.loop-place.invariant q
    ]
