use Rattle.volume_edits.proofs.edits.whole.WholeVolume.+next_behind.Given as goal

abbrev pub decreases-next_behind : goal.decreases-next_behind
decreases-next_behind l = l.count
