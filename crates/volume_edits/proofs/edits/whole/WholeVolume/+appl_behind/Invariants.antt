use Rattle.volume_edits.proofs.edits.whole.WholeVolume.+appl_behind.Given as goal

abbrev pub decreases-appl_behind : goal.decreases-appl_behind
decreases-appl_behind l = l.count
