use Rattle.volume_keeper_records.specs.Image.{kept_image}
use Rattle.volume_keeper_records.specs.Records as records
use Rattle.volume_changes.proofs.OfRecords.Gathering.{next-one}
use Rattle.volume_changes.proofs.records.kinds.change_nodes.Goals as goal

pub loop-i-preserved : goal.loop-i-preserved
loop-i-preserved g c =
    next-one records.node_key c.args.ids.now c.loop-i.i (kept_image (g.S.Transition.before c.args.step.now)) (kept_image (g.S.Transition.after c.args.step.now)) c.args.changes.now.items c.loop-i.changes.items c.change_node.new.changes.items
    c.loop-i-test.true c.loop-i.invariant c.in_ok-change_node.ensures
