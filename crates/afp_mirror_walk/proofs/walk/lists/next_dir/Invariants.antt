use Rattle.std.proofs.Common.{◌≡◌, drop, length, ◌-◌}
use Rattle.afp_mirror_walk.specs.Follows.{next_dir}
use Rattle.afp_mirror_walk.proofs.walk.lists.next_dir.Given as goal

abbrev pub invariant-loop-index : goal.invariant-loop-index
invariant-loop-index l = next_dir (drop l.from l.nodes) l.from ≡ next_dir (drop l.index l.nodes) l.index

abbrev pub decreases-loop-index : goal.decreases-loop-index
decreases-loop-index l = length l.nodes - l.index
