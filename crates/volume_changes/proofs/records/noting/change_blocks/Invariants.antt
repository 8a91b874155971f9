use Rattle.std.proofs.Common.{◌≡◌, ◌++◌, map}
use Rattle.volume_changes.specs.records.Values.{block_change}
use Rattle.volume_changes.proofs.records.noting.change_blocks.Given as goal

abbrev pub invariant-loop-block : goal.invariant-loop-block
invariant-loop-block l = l.changes.items ++ map (block_change l.id l.resource) l.block-iterator.rest.items ≡ l.fn.changes.items ++ map (block_change l.id l.resource) l.fn.blocks.items
