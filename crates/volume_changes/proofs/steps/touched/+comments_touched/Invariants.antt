use Rattle.volume_changes.proofs.steps.touched.+comments_touched.Given as goal

abbrev pub decreases-comments_touched : goal.decreases-comments_touched
decreases-comments_touched l = l.count
