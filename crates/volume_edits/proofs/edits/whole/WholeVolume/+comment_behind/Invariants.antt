use Rattle.volume_edits.proofs.edits.whole.WholeVolume.+comment_behind.Given as goal

abbrev pub decreases-comment_behind : goal.decreases-comment_behind
decreases-comment_behind l = l.count
