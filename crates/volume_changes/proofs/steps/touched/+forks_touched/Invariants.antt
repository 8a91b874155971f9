use Rattle.volume_changes.proofs.steps.touched.+forks_touched.Given as goal

abbrev pub decreases-forks_touched : goal.decreases-forks_touched
decreases-forks_touched l = l.count
