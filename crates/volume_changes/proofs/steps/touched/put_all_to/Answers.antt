use Rattle.volume_changes.proofs.OfSteps.Gathered.{with-more}
use Rattle.volume_changes.proofs.steps.touched.put_all_to.Goals as goal

pub loop-i-preserved : goal.loop-i-preserved
loop-i-preserved c =
    with-more c.args.node.0 c.args.appls.now c.loop-i.i c.index-appls-i.result c.args.mappings.now.items c.loop-i.mappings.items c.put_if_to.new.mappings.items c.loop-i-test.true c.index-appls-i.is c.loop-i.invariant c.in-Ok.ensures
