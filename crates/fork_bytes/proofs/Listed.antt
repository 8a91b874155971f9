-- A fork's kept blocks are the blocks of its bytes.
use Rattle.std.proofs.Common.{◌≡◌, ◌∙◌, ◌==◌, refl, sym, ap, add-one, ℕ, zero, suc, ◌+◌, ◌*◌, ◌<◌, ◌≤◌, true, false, List, [], ◌∷◌, length, arith, nat_lt, nat_le, nat_eq, ◌&&◌}
use Rattle.std.proofs.lemmas.Bool.{cond-true, cond-false, eqb-true, ne_eqb, eqb-false, ltb-true, lt-ltb, leb-true}
use Rattle.std.specs.List.{list_all}
use Rattle.std.specs.Cmp.Lexicographic.{pointwise}
use Rattle.fork_bytes.specs.declared.block.Block.{Block}
use Rattle.fork_bytes.specs.Blocks.{trimmed, block_at, block_count, with_block, blocks_from, blocks_of}
use Rattle.fork_bytes.specs.Kept.{bytes_in, bytes_of, is_empty, are_rising, is_kept}
use Rattle.fork_bytes.proofs.Blocks.{parts, whole, block_is, length-bytes}
use Rattle.fork_bytes.proofs.Places.{rises, none-above}
use Rattle.afp_base.proofs.Facts.{cases}

-- the first of some blocks, where there is one, stands at an index or behind it
abbrev pub Starts : ℕ → List Block → Type 0
Starts low [] = Unit {0}
Starts low (b ∷ bs) = low ≤ b.index

starts-above : (low : ℕ) (bs : List Block) → list_all (λ c. nat_lt low c.index) bs ≡ true → Starts (suc low) bs
starts-above low [] all = tt
starts-above low (b ∷ bs) all = omega (arith, ltb-true low b.index (parts (nat_lt low b.index) (list_all (λ c. nat_lt low c.index) bs) all).0)

filled : (index : ℕ) (bytes : List ℕ) (blocks : List Block) → is_empty bytes ≡ false → with_block index bytes blocks ≡ record { index = index; bytes = bytes } ∷ blocks
filled index [] blocks some = absurd (cc some)
filled index (b ∷ bs) blocks some = refl

pub listed : (bytes : List ℕ) (blocks : List Block) (end i n : ℕ) → end ≡ i + n → are_rising blocks ≡ true → Starts i blocks → list_all (λ b. nat_lt b.index end) blocks ≡ true
    → ((k : ℕ) → i ≤ k → block_at bytes k ≡ bytes_in blocks k) → blocks_from bytes i n ≡ blocks
listed bytes [] end i zero e rising low high same = refl
listed bytes (b ∷ bs) end i zero e rising low high same =
    absurd (omega (arith, e, low, ltb-true b.index end (parts (nat_lt b.index end) (list_all (λ c. nat_lt c.index end) bs) high).0))
listed bytes [] end i (suc n) e rising low high same =
    ap (λ l. with_block i l (blocks_from bytes (i + 1) n)) (same i (omega arith))
    ∙ listed bytes [] end (i + 1) n (omega (arith, e)) refl tt refl (λ k past. same k (omega arith))
listed bytes (b ∷ bs) end i (suc n) e rising low high same =
    let r = rises b bs rising in
    let tops = parts (nat_lt b.index end) (list_all (λ c. nat_lt c.index end) bs) high in
    cases (b.index == i)
    (λ is.
    let at : b.index ≡ i = eqb-true b.index i is in
    let rest : blocks_from bytes (i + 1) n ≡ bs =
    listed bytes bs end (i + 1) n (omega (arith, e)) r.rest (rw (← at) (rw add-one (starts-above b.index bs r.above))) tops.1
    (λ k past. same k (omega arith) ∙ cond-false (b.index == k) b.bytes (bytes_in bs k) (ne_eqb b.index k (λ here. omega (arith, here, at)))) in
    ap (λ l. with_block i l (blocks_from bytes (i + 1) n)) (same i (omega arith) ∙ cond-true (b.index == i) b.bytes (bytes_in bs i) is)
    ∙ filled i b.bytes (blocks_from bytes (i + 1) n) r.filled
    ∙ (λ j. record { index = sym at j; bytes = b.bytes } ∷ rest j))
    (λ other.
    let over : i < b.index = omega (arith, low, eqb-false b.index i other) in
    ap (λ l. with_block i l (blocks_from bytes (i + 1) n))
    (same i (omega arith) ∙ cond-false (b.index == i) b.bytes (bytes_in bs i) other ∙ none-above bs i b.index (omega arith) r.above)
    ∙ listed bytes (b ∷ bs) end (i + 1) n (omega (arith, e)) rising (omega (arith, over)) high (λ k past. same k (omega arith)))

pub some-length : (bytes : List ℕ) → is_empty bytes ≡ false → 0 < length bytes
some-length [] some = absurd (cc some)
some-length (b ∷ bs) some = omega arith

-- each kept block lies among those that the fork reaches into
below-count : (len : ℕ) (blocks : List Block) → are_rising blocks ≡ true → list_all (is_kept len) blocks ≡ true → list_all (λ b. nat_lt b.index (block_count len)) blocks ≡ true
below-count len [] rising kept = refl
below-count len (b ∷ bs) rising kept =
    let r = rises b bs rising in
    let both = parts (is_kept len b) (list_all (is_kept len) bs) kept in
    let sizes = (parts (pointwise nat_eq (trimmed b.bytes) b.bytes) (nat_le (length b.bytes) 4096 && nat_le (4096 * b.index + length b.bytes) len) both.0).1 in
    let within = leb-true (4096 * b.index + length b.bytes) len (parts (nat_le (length b.bytes) 4096) (nat_le (4096 * b.index + length b.bytes) len) sizes).1 in
    whole (nat_lt b.index (block_count len)) (list_all (λ c. nat_lt c.index (block_count len)) bs)
    (lt-ltb b.index (block_count len) (omega (arith, within, some-length b.bytes r.filled))) (below-count len bs r.rest both.1)

any-start : (blocks : List Block) → Starts 0 blocks
any-start [] = tt
any-start (b ∷ bs) = omega arith

pub blocks_are : (len : ℕ) (blocks : List Block) → are_rising blocks ≡ true → list_all (is_kept len) blocks ≡ true → blocks_of (bytes_of len blocks) ≡ blocks
blocks_are len blocks rising kept =
    ap (λ n. blocks_from (bytes_of len blocks) 0 (block_count n)) (length-bytes len blocks)
    ∙ listed (bytes_of len blocks) blocks (block_count len) 0 (block_count len) (omega arith) rising (any-start blocks) (below-count len blocks rising kept) (λ k past. block_is len blocks k kept)
