-- The blocks of bytes: they rise, they can be kept, and the bytes are told by them.
use Rattle.std.proofs.Common.{◌≡◌, ◌∙◌, ◌==◌, refl, sym, ap, ℕ, zero, suc, ◌+◌, ◌*◌, ◌<◌, ◌≤◌, true, List, [], ◌∷◌, length, drop, inl, inr, arith, nat_lt}
use Rattle.std.proofs.lemmas.Bool.{cases_eq, cases_lt, cond-true, cond-false, eq-eqb, ne_eqb, lt-ltb}
use Rattle.std.proofs.lemmas.List.{get_or_past, length-take, length-drop}
use Rattle.std.specs.List.{list_all}
use Rattle.afp_base.specs.ForkBytes.{taken}
use Rattle.fork_bytes.specs.declared.block.Block.{Block}
use Rattle.fork_bytes.specs.Blocks.{block_at, block_count, with_block, blocks_from, blocks_of}
use Rattle.fork_bytes.specs.Kept.{bytes_in, bytes_of, are_rising, is_kept}
use Rattle.fork_bytes.proofs.Blocks.{whole}
use Rattle.fork_bytes.proofs.Places.{none-above}
use Rattle.fork_bytes.proofs.Trimmed.{none_trimmed}
use Rattle.fork_bytes.proofs.Applies.{bytes-told, kept-told}

above_with : (low index : ℕ) (bytes : List ℕ) (rest : List Block) → low < index → list_all (λ c. nat_lt low c.index) rest ≡ true → list_all (λ c. nat_lt low c.index) (with_block index bytes rest) ≡ true
above_with low index [] rest h all = all
above_with low index (b ∷ bs) rest h all = whole (nat_lt low index) (list_all (λ c. nat_lt low c.index) rest) (lt-ltb low index h) all

above : (bytes : List ℕ) (low index n : ℕ) → low < index → list_all (λ c. nat_lt low c.index) (blocks_from bytes index n) ≡ true
above bytes low index zero h = refl
above bytes low index (suc n) h = above_with low index (block_at bytes index) (blocks_from bytes (index + 1) n) h (above bytes low (index + 1) n (omega arith))

rising_with : (index : ℕ) (bytes : List ℕ) (rest : List Block) → list_all (λ c. nat_lt index c.index) rest ≡ true → are_rising rest ≡ true → are_rising (with_block index bytes rest) ≡ true
rising_with index [] rest all up = up
rising_with index (b ∷ bs) rest all up = whole (list_all (λ c. nat_lt index c.index) rest) (are_rising rest) all up

rising_from : (bytes : List ℕ) (index n : ℕ) → are_rising (blocks_from bytes index n) ≡ true
rising_from bytes index zero = refl
rising_from bytes index (suc n) = rising_with index (block_at bytes index) (blocks_from bytes (index + 1) n) (above bytes index (index + 1) n (omega arith)) (rising_from bytes (index + 1) n)

pub blocks_rise : (bytes : List ℕ) → are_rising (blocks_of bytes) ≡ true
blocks_rise bytes = rising_from bytes 0 (block_count (length bytes))

in_same : (index : ℕ) (bytes : List ℕ) (rest : List Block) → list_all (λ c. nat_lt index c.index) rest ≡ true → bytes_in (with_block index bytes rest) index ≡ bytes
in_same index [] rest all = none-above rest index index (omega arith) all
in_same index (b ∷ bs) rest all = cond-true (index == index) (b ∷ bs) (bytes_in rest index) (eq-eqb index index refl)

in_other : (index : ℕ) (bytes : List ℕ) (rest : List Block) (k : ℕ) → (index ≡ k → ⊥) → bytes_in (with_block index bytes rest) k ≡ bytes_in rest k
in_other index [] rest k other = refl
in_other index (b ∷ bs) rest k other = cond-false (index == k) (b ∷ bs) (bytes_in rest k) (ne_eqb index k other)

told : (bytes : List ℕ) (index n k : ℕ) → index ≤ k → k < index + n → bytes_in (blocks_from bytes index n) k ≡ block_at bytes k
told bytes index zero k low high = absurd (omega arith)
told bytes index (suc n) k low high = elim (cases_eq index k) [
  | inl same ↦ ap (bytes_in (with_block index (block_at bytes index) (blocks_from bytes (index + 1) n))) (sym same)
      ∙ in_same index (block_at bytes index) (blocks_from bytes (index + 1) n) (above bytes index (index + 1) n (omega arith)) ∙ ap (block_at bytes) same
  | inr other ↦ in_other index (block_at bytes index) (blocks_from bytes (index + 1) n) k other ∙ told bytes (index + 1) n k (omega arith) (omega arith)
]

untold : (bytes : List ℕ) (index n k : ℕ) → index + n ≤ k → bytes_in (blocks_from bytes index n) k ≡ []
untold bytes index zero k high = refl
untold bytes index (suc n) k high = in_other index (block_at bytes index) (blocks_from bytes (index + 1) n) k (λ e. absurd (omega arith)) ∙ untold bytes (index + 1) n k (omega arith)

past : (bytes : List ℕ) (k : ℕ) → length bytes ≤ 4096 * k → [] ≡ block_at bytes k
past bytes k h = none_trimmed (taken bytes (4096 * k) 4096) (λ j. get_or_past (taken bytes (4096 * k) 4096) j 0 (omega (arith, length-take 4096 (drop (4096 * k) bytes), length-drop (4096 * k) bytes)))

pub blocks_tell : (bytes : List ℕ) (k : ℕ) → bytes_in (blocks_of bytes) k ≡ block_at bytes k
blocks_tell bytes k = elim (cases_lt k (block_count (length bytes))) [
  | inl below ↦ told bytes 0 (block_count (length bytes)) k (omega arith) (omega arith)
  | inr high ↦ untold bytes 0 (block_count (length bytes)) k (omega arith) ∙ past bytes k (omega (arith, high))
]

pub bytes_back : (bytes : List ℕ) → bytes_of (length bytes) (blocks_of bytes) ≡ bytes
bytes_back bytes = bytes-told bytes (blocks_of bytes) (blocks_tell bytes)

pub blocks_kept : (bytes : List ℕ) → list_all (is_kept (length bytes)) (blocks_of bytes) ≡ true
blocks_kept bytes = kept-told bytes (blocks_of bytes) (blocks_rise bytes) (λ k some. blocks_tell bytes k)

few_with : (index : ℕ) (bytes : List ℕ) (rest : List Block) → length (with_block index bytes rest) ≤ suc (length rest)
few_with index [] rest = omega arith
few_with index (b ∷ bs) rest = omega arith

few_from : (bytes : List ℕ) (index n : ℕ) → length (blocks_from bytes index n) ≤ n
few_from bytes index zero = omega arith
few_from bytes index (suc n) = omega (arith, few_with index (block_at bytes index) (blocks_from bytes (index + 1) n), few_from bytes (index + 1) n)

pub blocks_few : (bytes : List ℕ) → length (blocks_of bytes) ≤ block_count (length bytes)
blocks_few bytes = few_from bytes 0 (block_count (length bytes))
