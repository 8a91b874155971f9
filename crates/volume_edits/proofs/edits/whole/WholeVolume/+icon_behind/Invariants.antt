use Rattle.volume_edits.proofs.edits.whole.WholeVolume.+icon_behind.Given as goal

abbrev pub decreases-icon_behind : goal.decreases-icon_behind
decreases-icon_behind l = l.count
