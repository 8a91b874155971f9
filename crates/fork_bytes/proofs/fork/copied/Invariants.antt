use Rattle.std.proofs.Common.{◌≡◌, ◌≤◌, take, length, vec_capacity}
use Rattle.fork_bytes.specs.Kept.{room_of}
use Rattle.fork_bytes.proofs.fork.copied.Given as goal

abbrev pub invariant-loop-block : goal.invariant-loop-block
invariant-loop-block l = record { items : l.list.items ≡ take l.block-index l.blocks; room : room_of (length l.blocks) ≤ vec_capacity l.list }
