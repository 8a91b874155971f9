use Rattle.volume_changes.proofs.steps.touched.+appls_touched.Given as goal

abbrev pub decreases-appls_touched : goal.decreases-appls_touched
decreases-appls_touched l = l.count
