use Rattle.std.proofs.Common.{◌≡◌, ◌≤◌, [], drop, length, ◌-◌}
use Rattle.afp_mirror_walk.specs.Follows.{page_from}
use Rattle.afp_mirror_walk.proofs.walk.found.page_of.Given as goal

abbrev pub invariant-loop-index : goal.invariant-loop-index
invariant-loop-index l = record {
  same : page_from l.nodes [] l.rows ≡ page_from l.nodes l.page.items (drop l.index l.rows);
  longer : l.index ≤ length l.page.items;
}

abbrev pub decreases-loop-index : goal.decreases-loop-index
decreases-loop-index l = length l.rows - l.index
