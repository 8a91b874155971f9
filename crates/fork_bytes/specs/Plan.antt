-- What a change of a fork's bytes will do (this profile).
use Rattle.std.specs.Prelude.{◌≡◌, ◌⊎◌, ℕ, zero, suc, ◌+◌, ◌/◌, ◌%◌, ◌==◌, ◌≤◌, Bool, nat_eq, max, if◌then◌else◌, List, [], ◌∷◌, length, slice_index}
use Rattle.std.specs.Cmp.Lexicographic.{pointwise}
use Rattle.afp_base.specs.Limits.{block_size}
use Rattle.fork_bytes.specs.declared.block.Block.{Block}
use Rattle.fork_bytes.specs.Blocks.{block_at, block_count, blocks_of}
use Rattle.fork_bytes.specs.Kept.{each_of, is_empty, room_of}

-- a block's new bytes in front of other changes, where they differ from the old ones
abbrev pub with_change : ℕ → List ℕ → List ℕ → List Block → List Block
with_change index old new changes = if pointwise nat_eq old new then changes else record { index = index; bytes = new } ∷ changes

-- those of so many blocks from an index on that differ, as they are afterwards
abbrev pub changes_from : List ℕ → List ℕ → ℕ → ℕ → List Block
changes_from before after index zero = []
changes_from before after index (suc count) = with_change index (block_at before index) (block_at after index) (changes_from before after (index + 1) count)

-- exactly the blocks that differ, by rising index, as they are afterwards without the zeros at their end
abbrev pub changes_of : List ℕ → List ℕ → List Block
changes_of before after = changes_from before after 0 (max (block_count (length before)) (block_count (length after)))

-- how many of the changes are of blocks that were all zeros
abbrev pub added_by : List ℕ → List Block → ℕ
added_by before [] = 0
added_by before (c ∷ cs) = (if is_empty (block_at before c.index) then 1 else 0) + added_by before cs

-- the length afterwards, the blocks that differ, whether a byte is written or the length changes, and for how many blocks it brings room
pub record ForkPlanState : Type 0 where
  pub len : ℕ
  pub changes : List Block
  pub writes : Bool
  pub room : ℕ

-- There is room for the blocks afterwards where the fork is kept, or the plan brings it.
abbrev pub HasRoom : ℕ → ℕ → ℕ → Type 0
HasRoom kept added room = (kept + added ≤ room_of kept) ⊎ (room_of (kept + added) ≤ room)

-- a plan that turns some bytes into others
pub record IsForkPlan (before after : List ℕ) (plan : ForkPlanState) : Type 0 where
  pub len : plan.len ≡ length after
  pub changes : plan.changes ≡ changes_of before after
  pub room : HasRoom (length (blocks_of before)) (added_by before plan.changes) plan.room

-- the bytes of a block after changes: those of the change of its index, and else as they were
abbrev pub block_after : List ℕ → List Block → ℕ → List ℕ
block_after before [] index = block_at before index
block_after before (c ∷ cs) index = if c.index == index then c.bytes else block_after before cs index

-- the bytes that a plan leaves of some bytes, each by its place
abbrev pub bytes_after : List ℕ → ForkPlanState → List ℕ
bytes_after before plan = each_of plan.len (λ k. slice_index (block_after before plan.changes (k / block_size)) (k % block_size))

-- a fork's bytes before a plan of it and afterwards
pub record ForkWriteState : Type 0 where
  pub before : List ℕ
  pub after : List ℕ
