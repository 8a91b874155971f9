use Rattle.volume_edits.proofs.edits.whole.WholeVolume.+node_behind.Given as goal

abbrev pub decreases-node_behind : goal.decreases-node_behind
decreases-node_behind l = l.count
