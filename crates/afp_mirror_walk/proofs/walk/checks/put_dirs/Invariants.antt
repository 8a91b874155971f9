use Rattle.std.proofs.Common.{◌≡◌, ◌≤◌, ◌+◌, ◌++◌, drop, length, ◌-◌}
use Rattle.afp_mirror_walk.specs.Follows.{dirs_before}
use Rattle.afp_mirror_walk.proofs.walk.checks.put_dirs.Given as goal

abbrev pub invariant-loop-index : goal.invariant-loop-index
invariant-loop-index l = record {
  within : l.index ≤ length l.nodes;
  lines : l.lines.items ++ dirs_before (drop l.index l.nodes) ≡ l.initial.lines.items ++ dirs_before (drop l.from l.nodes);
  count : l.index + length (dirs_before (drop l.index l.nodes)) ≡ l.from + length (dirs_before (drop l.from l.nodes));
}

abbrev pub decreases-loop-index : goal.decreases-loop-index
decreases-loop-index l = length l.nodes - l.index
