-- The bytes of a fork as blocks of one size (this profile).
use Rattle.afp_base.specs.Limits.{block_size}
use Rattle.std.specs.Prelude.{ℕ, zero, suc, ◌+◌, ◌*◌, ◌/◌, List, [], ◌∷◌, length}
use Rattle.afp_base.specs.ForkBytes.{taken}
use Rattle.fork_bytes.specs.declared.block.Block.{Block}

-- a byte alone, none where it is 0
abbrev pub unless_zero : ℕ → List ℕ
unless_zero zero = []
unless_zero (suc b) = suc b ∷ []

-- a byte in front of others, unless it is 0 and the only one
abbrev pub before_zeros : ℕ → List ℕ → List ℕ
before_zeros b [] = unless_zero b
before_zeros b (c ∷ cs) = b ∷ c ∷ cs

-- bytes without the zeros at their end
abbrev pub trimmed : List ℕ → List ℕ
trimmed [] = []
trimmed (b ∷ bs) = before_zeros b (trimmed bs)

-- the bytes of the block with an index, without the zeros at its end; behind the end of the bytes there are zeros
abbrev pub block_at : List ℕ → ℕ → List ℕ
block_at bytes index = trimmed (taken bytes (block_size * index) block_size)

-- how many blocks some bytes reach into
abbrev pub block_count : ℕ → ℕ
block_count len = (len + 4095) / block_size

-- a block in front of others, where a byte of it is not 0
abbrev pub with_block : ℕ → List ℕ → List Block → List Block
with_block index [] blocks = blocks
with_block index (b ∷ bs) blocks = record { index = index; bytes = b ∷ bs } ∷ blocks

-- those of so many blocks from an index on that are not all zeros
abbrev pub blocks_from : List ℕ → ℕ → ℕ → List Block
blocks_from bytes index zero = []
blocks_from bytes index (suc count) = with_block index (block_at bytes index) (blocks_from bytes (index + 1) count)

-- the blocks that are not all zeros, by rising index
abbrev pub blocks_of : List ℕ → List Block
blocks_of bytes = blocks_from bytes 0 (block_count (length bytes))
