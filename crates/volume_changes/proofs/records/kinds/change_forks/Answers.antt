use Rattle.volume_keeper_records.specs.Image.{kept_image}
use Rattle.volume_changes.specs.records.Touched.{fork_keys}
use Rattle.volume_changes.proofs.OfRecords.Gathering.{next-keys}
use Rattle.volume_changes.proofs.records.kinds.change_forks.Goals as goal

pub loop-i-preserved : goal.loop-i-preserved
loop-i-preserved g c =
    next-keys fork_keys c.args.forks.now c.loop-i.i (kept_image (g.S.Transition.before c.args.step.now)) (kept_image (g.S.Transition.after c.args.step.now)) c.args.changes.now.items c.loop-i.changes.items c.change_fork.new.changes.items
    _ c.loop-i-test.true c.loop-i.invariant c.in_ok-change_fork.ensures
