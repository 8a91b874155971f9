-- What a fork's blocks say of its bytes.
use Rattle.std.proofs.Common.{◌≡◌, ◌∙◌, ◌==◌, refl, sym, ap, subst, ℕ, zero, suc, ◌+◌, ◌*◌, ◌/◌, ◌%◌, ◌<◌, ◌≤◌, Bool, true, false, ◌&&◌, List, [], ◌∷◌, length, get_or, inl, inr, arith, nat_le, nat_eq}
use Rattle.std.proofs.lemmas.Bool.{cases_lt, cond-true, cond-false, eqb-true, leb-true}
use Rattle.std.proofs.lemmas.List.{get_or_past}
use Rattle.std.specs.List.{list_all}
use Rattle.std.specs.Cmp.Lexicographic.{pointwise, same_text}
use Rattle.fork_bytes.specs.declared.block.Block.{Block}
use Rattle.fork_bytes.specs.Blocks.{trimmed, block_at}
use Rattle.fork_bytes.specs.Kept.{bytes_in, byte_at, each_of, bytes_of, is_kept}
use Rattle.fork_bytes.proofs.Trimmed.{is_block}
use Rattle.afp_base.proofs.Facts.{cases}

-- each byte of a list that is told by places
pub get_or-each : (n : ℕ) (byte : ℕ → ℕ) (k : ℕ) → k < n → get_or (each_of n byte) k 0 ≡ byte k
get_or-each zero byte k within = absurd (omega arith)
get_or-each (suc n) byte zero within = refl
get_or-each (suc n) byte (suc k) within = get_or-each n (λ j. byte (suc j)) k (omega arith)

pub length-each : (n : ℕ) (byte : ℕ → ℕ) → length (each_of n byte) ≡ n
length-each zero byte = refl
length-each (suc n) byte = ap suc (length-each n (λ j. byte (suc j)))

pub length-bytes : (len : ℕ) (blocks : List Block) → length (bytes_of len blocks) ≡ len
length-bytes len blocks = length-each len (byte_at blocks)

-- the two parts of what both hold
pub parts : (a b : Bool) → a && b ≡ true → (a ≡ true) × (b ≡ true)
parts true b h = (refl, h)
parts false b h = absurd (cc h)

pub whole : (a b : Bool) → a ≡ true → b ≡ true → a && b ≡ true
whole a b x y = rw x y

-- a place by its block and its place there
pub place_in : (i j : ℕ) → j < 4096 → ((4096 * i + j) / 4096 ≡ i) × ((4096 * i + j) % 4096 ≡ j)
place_in i j within = (omega arith, omega arith)

pub get_or-bytes : (len : ℕ) (blocks : List Block) (i j : ℕ) → j < 4096 → 4096 * i + j < len → get_or (bytes_of len blocks) (4096 * i + j) 0 ≡ get_or (bytes_in blocks i) j 0
get_or-bytes len blocks i j small within =
    get_or-each len (byte_at blocks) (4096 * i + j) within
    ∙ (λ t. get_or (bytes_in blocks ((place_in i j small).0 t)) ((place_in i j small).1 t) 0)

-- what is known of the bytes of a kept block: no zero at their end, no more than a block's, within the fork
pub record IsBlockIn (len i : ℕ) (bytes : List ℕ) : Type 0 where
  pub trim : trimmed bytes ≡ bytes
  pub small : length bytes ≤ 4096
  pub within : (j : ℕ) → len ≤ 4096 * i + j → get_or bytes j 0 ≡ 0

none-in : (len i : ℕ) → IsBlockIn len i []
none-in len i = record { trim = refl; small = omega arith; within = λ j past. refl }

pub kept-in : (len : ℕ) (blocks : List Block) (i : ℕ) → list_all (is_kept len) blocks ≡ true → IsBlockIn len i (bytes_in blocks i)
kept-in len [] i kept = none-in len i
kept-in len (b ∷ bs) i kept =
    let first = (parts (is_kept len b) (list_all (is_kept len) bs) kept).0 in
    let rest = (parts (is_kept len b) (list_all (is_kept len) bs) kept).1 in
    let trim = (parts (pointwise nat_eq (trimmed b.bytes) b.bytes) (nat_le (length b.bytes) 4096 && nat_le (4096 * b.index + length b.bytes) len) first).0 in
    let sizes = (parts (pointwise nat_eq (trimmed b.bytes) b.bytes) (nat_le (length b.bytes) 4096 && nat_le (4096 * b.index + length b.bytes) len) first).1 in
    let small = leb-true (length b.bytes) 4096 (parts (nat_le (length b.bytes) 4096) (nat_le (4096 * b.index + length b.bytes) len) sizes).0 in
    let within = leb-true (4096 * b.index + length b.bytes) len (parts (nat_le (length b.bytes) 4096) (nat_le (4096 * b.index + length b.bytes) len) sizes).1 in
    cases (b.index == i) (λ is.
    subst (IsBlockIn len i) (sym (cond-true (b.index == i) b.bytes (bytes_in bs i) is))
    (record { trim = same_text (trimmed b.bytes) b.bytes (sym trim); small = small; within = λ j past. get_or_past b.bytes j 0 (omega (arith, eqb-true b.index i is, within)) }))
    (λ other. subst (IsBlockIn len i) (sym (cond-false (b.index == i) b.bytes (bytes_in bs i) other)) (kept-in len bs i rest))

-- the blocks that a fork keeps are the blocks of its bytes
pub block_is : (len : ℕ) (blocks : List Block) (i : ℕ) → list_all (is_kept len) blocks ≡ true → block_at (bytes_of len blocks) i ≡ bytes_in blocks i
block_is len blocks i kept =
    let in_ = kept-in len blocks i kept in
    sym (is_block (bytes_of len blocks) i (bytes_in blocks i) in_.small (λ j small. elim (cases_lt (4096 * i + j) len) [
      | inl within ↦ sym (get_or-bytes len blocks i j small within)
      | inr past ↦ in_.within j past ∙ sym (get_or_past (bytes_of len blocks) (4096 * i + j) 0 (omega (arith, length-bytes len blocks)))
    ])) ∙ in_.trim
