-- What the code and the proofs go by beside Kept; no public contract cites it.
use Rattle.std.specs.Prelude.{ℕ, ◌≤◌, ◌==◌, ◌≡◌, true, false, nat_lt, if◌then◌else◌, List, [], ◌∷◌, length}
use Rattle.std.specs.List.{list_all}
use Rattle.std.specs.List.Sorted.{IsPartitionPoint}
use Rattle.fork_bytes.specs.declared.block.Block.{Block}
use Rattle.afp_base.specs.Limits.{most_fork_bytes}
use Rattle.fork_bytes.specs.Kept.{is_empty, are_rising, is_kept, room_of}

-- what holds of a fork's length, its blocks and its room for blocks
pub record IsForkKept (len : ℕ) (blocks : List Block) (capacity : ℕ) : Type 0 where
  pub few : len ≤ most_fork_bytes
  pub rising : are_rising blocks ≡ true
  pub kept : list_all (is_kept len) blocks ≡ true
  pub room : room_of (length blocks) ≤ capacity

-- From here on: what the code does with the blocks, for private contracts.

-- how many of the blocks have an index below one
abbrev pub IsPlace : List Block → ℕ → ℕ → Type 0
IsPlace blocks index place = IsPartitionPoint (λ b. nat_lt b.index index ≡ true) (λ b. nat_lt b.index index ≡ false) blocks place

-- a block in front of others, where it has bytes
abbrev pub in_front : Block → List Block → List Block
in_front c blocks = if is_empty c.bytes then blocks else c ∷ blocks

-- others without the first, where that has this index
abbrev pub behind : ℕ → Block → List Block → List Block
behind index b blocks = if b.index == index then blocks else b ∷ blocks

-- blocks by rising index with a block in its place: in place of one with its index, or none there where it has no bytes
abbrev pub with_put : Block → List Block → List Block
with_put c [] = in_front c []
with_put c (b ∷ bs) = if nat_lt b.index c.index then b ∷ with_put c bs else in_front c (behind c.index b bs)

-- blocks with others put in their places, one after the other
abbrev pub with_puts : List Block → List Block → List Block
with_puts [] blocks = blocks
with_puts (c ∷ cs) blocks = with_puts cs (with_put c blocks)

-- there is room for so many blocks at each step of that
abbrev pub Fits : ℕ → List Block → List Block → Type 0
Fits capacity [] blocks = length blocks ≤ capacity
Fits capacity (c ∷ cs) blocks = (length (with_put c blocks) ≤ capacity) × Fits capacity cs (with_put c blocks)
