use Rattle.std.proofs.Common.{◌≡◌, ◌≤◌, length}
use Rattle.afp_mirror_walk.specs.Follows.{last_dir}
use Rattle.afp_mirror_walk.proofs.walk.sets.last_dir.Given as goal

abbrev pub invariant-loop-index : goal.invariant-loop-index
invariant-loop-index l = record { within : l.index ≤ length l.nodes; same : last_dir l.nodes l.before ≡ last_dir l.nodes l.index }

abbrev pub decreases-loop-index : goal.decreases-loop-index
decreases-loop-index l = l.index
