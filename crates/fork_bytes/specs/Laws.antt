-- The laws of a fork's blocks, in the subject's own words (this profile).
use Rattle.std.specs.Prelude.{◌≡◌, ◌≤◌, ℕ, true, List, length}
use Rattle.std.specs.List.{list_all}
use Rattle.fork_bytes.specs.declared.block.Block.{Block}
use Rattle.fork_bytes.specs.Blocks.{block_count, blocks_of}
use Rattle.fork_bytes.specs.Kept.{bytes_of, are_rising, is_kept}
use Rattle.fork_bytes.specs.Plan.{bytes_after, ForkPlanState, IsForkPlan}

-- bytes are those that their length and their blocks stand for
abbrev pub BytesFromBlocks : Type 0
BytesFromBlocks = (bytes : List ℕ) → bytes_of (length bytes) (blocks_of bytes) ≡ bytes

-- blocks by rising index that can be kept are those of the bytes for which they stand
abbrev pub BlocksFromBytes : Type 0
BlocksFromBytes = (len : ℕ) (blocks : List Block) → are_rising blocks ≡ true → list_all (is_kept len) blocks ≡ true → blocks_of (bytes_of len blocks) ≡ blocks

abbrev pub HasItsLength : Type 0
HasItsLength = (len : ℕ) (blocks : List Block) → length (bytes_of len blocks) ≡ len

-- the blocks of bytes rise by index and can be kept, and there are no more than the bytes reach into
abbrev pub BlocksRise : Type 0
BlocksRise = (bytes : List ℕ) → are_rising (blocks_of bytes) ≡ true

abbrev pub BlocksAreKept : Type 0
BlocksAreKept = (bytes : List ℕ) → list_all (is_kept (length bytes)) (blocks_of bytes) ≡ true

abbrev pub BlocksAreFew : Type 0
BlocksAreFew = (bytes : List ℕ) → length (blocks_of bytes) ≤ block_count (length bytes)

-- a plan that turns some bytes into others says these others
abbrev pub PlansSayBytes : Type 0
PlansSayBytes = (before after : List ℕ) (plan : ForkPlanState) → IsForkPlan before after plan → bytes_after before plan ≡ after
