-- How a fork keeps its bytes (this profile).
use Rattle.std.specs.Prelude.{ℕ, zero, suc, ◌+◌, ◌*◌, ◌/◌, ◌%◌, ◌==◌, Bool, true, false, ◌&&◌, not, nat_le, nat_lt, nat_eq, if◌then◌else◌, List, [], ◌∷◌, length, slice_index}
use Rattle.std.specs.List.{list_all}
use Rattle.std.specs.Cmp.Lexicographic.{pointwise}
use Rattle.fork_bytes.specs.declared.block.Block.{Block}
use Rattle.afp_base.specs.Limits.{block_size}
use Rattle.fork_bytes.specs.Blocks.{trimmed}

-- the bytes of the block with an index, none where there is no such block
abbrev pub bytes_in : List Block → ℕ → List ℕ
bytes_in [] index = []
bytes_in (b ∷ bs) index = if b.index == index then b.bytes else bytes_in bs index

-- the byte at a place: that of its block there, 0 where the block ends before it
abbrev pub byte_at : List Block → ℕ → ℕ
byte_at blocks k = slice_index (bytes_in blocks (k / block_size)) (k % block_size)

-- so many bytes, each by its place
abbrev pub each_of : ℕ → (ℕ → ℕ) → List ℕ
each_of zero byte = []
each_of (suc n) byte = byte 0 ∷ each_of n (λ k. byte (suc k))

-- the bytes that a length and blocks stand for
abbrev pub bytes_of : ℕ → List Block → List ℕ
bytes_of len blocks = each_of len (byte_at blocks)

-- there are no bytes
abbrev pub is_empty : List ℕ → Bool
is_empty [] = true
is_empty (b ∷ bs) = false

-- blocks that have bytes, by rising index
abbrev pub are_rising : List Block → Bool
are_rising [] = true
are_rising (b ∷ bs) = not (is_empty b.bytes) && (list_all (λ c. nat_lt b.index c.index) bs && are_rising bs)

-- a block without a zero at its end, that has no more than a block's bytes and lies within the fork
abbrev pub is_kept : ℕ → Block → Bool
is_kept len b = pointwise nat_eq (trimmed b.bytes) b.bytes && (nat_le (length b.bytes) block_size && nat_le (block_size * b.index + length b.bytes) len)

-- For how many blocks there is room where so many are kept, so that a fork which grows block by block is not moved at each.
abbrev pub room_of : ℕ → ℕ
room_of n = if nat_lt n 64 then n else 256 * ((n + 255) / 256)
