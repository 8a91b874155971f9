use Rattle.std.proofs.Common.{◌≡◌, ◌≤◌, ◌+◌, length, vec_capacity, reverse}
use Rattle.fork_bytes.specs.lemma.Kept.{with_puts}
use Rattle.fork_bytes.proofs.Applies.{Left}
use Rattle.fork_bytes.proofs.apply.put_all.Given as goal

abbrev pub invariant-loop-turn : goal.invariant-loop-turn
invariant-loop-turn l = record {
  left : Left (vec_capacity l.initial.blocks) l.rest.items l.blocks.items (with_puts (reverse l.initial.rest.items) l.initial.blocks.items);
  capacity : vec_capacity l.initial.blocks ≤ vec_capacity l.blocks;
  count : length l.rest.items + l._turn ≡ length l.initial.rest.items;
}
