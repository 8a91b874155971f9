use Rattle.std.proofs.Common.{◌-◌, length}
use Rattle.volume_keeper.proofs.OfReplies.Filled.{SoFar}
use Rattle.volume_tree.specs.Shown.{opened}
use Rattle.volume_keeper.proofs.replies.lists.fill.Given as goal

-- what is left of the list stands behind what was put
abbrev pub invariant-loop-i : goal.invariant-loop-i
invariant-loop-i l = SoFar l.fn.volume.state.rows (opened l.fn.opens) l.fn.asked l.fn.dir.0 l.fn.first l.fn.out l.out l.i l.used l.count

abbrev pub decreases-loop-i : goal.decreases-loop-i
decreases-loop-i l = length l.siblings - l.i
