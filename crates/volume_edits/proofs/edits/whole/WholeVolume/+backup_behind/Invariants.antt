use Rattle.volume_edits.proofs.edits.whole.WholeVolume.+backup_behind.Given as goal

abbrev pub decreases-backup_behind : goal.decreases-backup_behind
decreases-backup_behind l = l.count
