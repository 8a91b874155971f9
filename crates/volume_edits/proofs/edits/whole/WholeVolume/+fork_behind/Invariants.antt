use Rattle.volume_edits.proofs.edits.whole.WholeVolume.+fork_behind.Given as goal

abbrev pub decreases-fork_behind : goal.decreases-fork_behind
decreases-fork_behind l = l.count
