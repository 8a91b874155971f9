use Rattle.volume_changes.proofs.steps.touched.+icons_touched.Given as goal

abbrev pub decreases-icons_touched : goal.decreases-icons_touched
decreases-icons_touched l = l.count
