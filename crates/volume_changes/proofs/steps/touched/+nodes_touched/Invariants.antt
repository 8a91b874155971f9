use Rattle.volume_changes.proofs.steps.touched.+nodes_touched.Given as goal

abbrev pub decreases-nodes_touched : goal.decreases-nodes_touched
decreases-nodes_touched l = l.count
