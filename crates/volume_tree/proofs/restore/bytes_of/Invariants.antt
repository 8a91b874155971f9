use Rattle.std.proofs.Common.{◌≡◌, take}
use Rattle.std.specs.Prelude.{sum_by}
use Rattle.volume_tree.specs.lemma.Restored.{loaded_bytes}
use Rattle.volume_tree.proofs.restore.bytes_of.Given as goal

abbrev pub invariant-loop-loaded : goal.invariant-loop-loaded
invariant-loop-loaded l = l.bytes ≡ sum_by loaded_bytes (take l.loaded-index l.nodes)
