use Rattle.test_scripts.proofs.run.given.Given as goal

abbrev pub decreases-loop-place : goal.decreases-loop-place
decreases-loop-place l = l.place
