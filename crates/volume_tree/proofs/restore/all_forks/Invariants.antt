use Rattle.std.proofs.Common.{◌≡◌, ℕ, take}
use Rattle.std.specs.Ordering.{nat_cmp}
use Rattle.sorted_map.specs.map.Entries.{at}
use Rattle.volume_tree.specs.lemma.Restored.{forks_in}
use Rattle.volume_tree.proofs.restore.all_forks.Given as goal

abbrev pub invariant-loop-loaded : goal.invariant-loop-loaded
invariant-loop-loaded l = (q : ℕ) → at nat_cmp l.forks q ≡ forks_in (take l.loaded-index l.nodes) q
