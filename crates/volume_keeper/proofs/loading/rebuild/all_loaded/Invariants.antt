use Rattle.std.proofs.Common.{◌≡◌, take}
use Rattle.std.specs.Prelude.{flat_map}
use Rattle.volume_keeper.specs.loading.lemma.Rebuilt.{nodes_said}
use Rattle.volume_keeper.proofs.loading.rebuild.all_loaded.Given as goal

abbrev pub invariant-loop-row : goal.invariant-loop-row
invariant-loop-row l = l.nodes.items ≡ flat_map nodes_said (take l.row-index l.rows)
