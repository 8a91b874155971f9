use Rattle.std.proofs.Common.{◌≡◌, ◌≤◌, ◌+◌, drop, length, ◌-◌}
use Rattle.afp_mirror_walk.specs.Follows.{first_difference}
use Rattle.afp_mirror_walk.proofs.walk.checks.first_difference.Given as goal

abbrev pub invariant-loop-index : goal.invariant-loop-index
invariant-loop-index l = record {
  within : l.index ≤ length l.a;
  also : l.index ≤ length l.b;
  same : first_difference l.a l.b ≡ l.index + first_difference (drop l.index l.a) (drop l.index l.b);
}

abbrev pub decreases-loop-index : goal.decreases-loop-index
decreases-loop-index l = length l.a - l.index
