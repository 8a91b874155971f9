-- The blocks of all forks, fork by fork, and the rows of a volume that tables say.
use Rattle.std.proofs.Common.{◌≡◌, ◌∙◌, ℕ, ◌+◌, ◌*◌, ◌<◌, Bool, true, false, not, List, [], ◌∷◌, ◌++◌, map, length, refl, sym, ap, arith}
use Rattle.std.specs.Prelude.{nat_le, nat_lt, ◌&&◌, ◌==◌, bytes_eq}
use Rattle.std.specs.List.{list_all, list_any}
use Rattle.std.proofs.lemmas.Bool.{and_from, eqb-true, le-leb, ltb-true}
use Rattle.std.proofs.lemmas.List.{append-nil}
use Rattle.std.proofs.lemmas.List.Folds.{list_all-map}
use Rattle.fork_bytes.specs.declared.block.Block.{Block}
use Rattle.afp_base.specs.Limits.{block_size}
use Rattle.fork_bytes.specs.Blocks.{blocks_of, trimmed}
use Rattle.fork_bytes.specs.Kept.{bytes_of, are_rising, is_kept, is_empty}
use Rattle.fork_bytes.specs.Laws.{BytesFromBlocks, BlocksFromBytes, HasItsLength, BlocksRise, BlocksAreKept, BlocksAreFew}
use Rattle.volume_spec.specs.TypedVolume.{is_long, are_bytes}
use Rattle.volume_keeper_records.specs.declared.rows.Node.{Node}
use Rattle.volume_keeper_records.specs.declared.rows.ForkBlock.{ForkBlock}
use Rattle.volume_keeper_records.specs.Records.{flag_byte}
use Rattle.volume_keeper_records.specs.Shape.{is_formed_block}
use Rattle.volume_keeper_records.specs.Image.{fork_block_of, fork_blocks}
use Rattle.volume_keeper_records.specs.FirstBad.{fork_length}
pub use Rattle.volume_keeper_records.specs.FromTables.{piece_of, own, fork_part, pieces, row_from, volume_of}
use Rattle.volume_keeper_records.proofs.Chains.{Chain, chain-more, chain-filter, all-filter}
use Rattle.volume_keeper_records.proofs.Parted.{parted}
use Rattle.volume_keeper_records.proofs.RowOrder.{block_before, fork_before}
use Rattle.afp_base.proofs.Facts.{either, left_true, right_true}
use Rattle.afp_base.proofs.ListFacts.{all-always, all-kept, all-weaker}

-- what is known of forks and their blocks
pub record ForkLaw : Type 0 where
  pub back : BytesFromBlocks
  pub forth : BlocksFromBytes
  pub size : HasItsLength
  pub rising : BlocksRise
  pub kept : BlocksAreKept
  pub few : BlocksAreFew

-- ---- a fork's blocks rise and can be kept

some_bytes : (bytes : List ℕ) → nat_le 1 (length bytes) ≡ true → not (is_empty bytes) ≡ true
some_bytes [] e = absurd (cc)
some_bytes (b ∷ bs) e = refl

pub rising_pieces : (bs : List ForkBlock) → Chain (λ (a : ForkBlock) b. nat_lt a.index b.index) bs → list_all (λ b. nat_le 1 (length b.bytes)) bs ≡ true → are_rising (map piece_of bs) ≡ true
rising_pieces [] c e = refl
rising_pieces (b ∷ bs) c e =
    and_from (not (is_empty b.bytes)) (list_all (λ c. nat_lt b.index c.index) (map piece_of bs) && are_rising (map piece_of bs))
    (some_bytes b.bytes (left_true (nat_le 1 (length b.bytes)) (list_all (λ b. nat_le 1 (length b.bytes)) bs) e))
    (and_from (list_all (λ c. nat_lt b.index c.index) (map piece_of bs)) (are_rising (map piece_of bs)) (list_all-map (λ (c : Block). nat_lt b.index c.index) piece_of bs ∙ c.0)
    (rising_pieces bs c.1 (right_true (nat_le 1 (length b.bytes)) (list_all (λ b. nat_le 1 (length b.bytes)) bs) e)))

-- blocks of one node climb by fork, and those of one fork rise by index
pub by_node : (a b : ForkBlock) → block_before a b ≡ true → nat_le a.node b.node ≡ true
by_node a b e = either (nat_lt a.node b.node) ((a.node == b.node) && fork_before a b) e
    (λ l. let h : a.node < b.node = ltb-true _ _ l in le-leb _ _ (omega arith))
    (λ r. let h : a.node ≡ b.node = eqb-true _ _ (left_true (a.node == b.node) (fork_before a b) r) in le-leb _ _ (omega arith))

by_fork : (id : ℕ) (a b : ForkBlock) → (id == a.node) ≡ true → (id == b.node) ≡ true → block_before a b ≡ true → fork_before a b ≡ true
by_fork id a b p q e = either (nat_lt a.node b.node) ((a.node == b.node) && fork_before a b) e
    (λ l. absurd (let h : a.node < b.node = ltb-true _ _ l in let i : id ≡ a.node = eqb-true _ _ p in let j : id ≡ b.node = eqb-true _ _ q in omega arith))
    (λ r. right_true (a.node == b.node) (fork_before a b) r)

climbs_fork : (a b : ForkBlock) → fork_before a b ≡ true → nat_le (flag_byte a.is_resource) (flag_byte b.is_resource) ≡ true
climbs_fork a b e = either (nat_lt (flag_byte a.is_resource) (flag_byte b.is_resource)) ((flag_byte a.is_resource == flag_byte b.is_resource) && nat_lt a.index b.index) e
    (λ l. let h : flag_byte a.is_resource < flag_byte b.is_resource = ltb-true _ _ l in le-leb _ _ (omega arith))
    (λ r. let h : flag_byte a.is_resource ≡ flag_byte b.is_resource = eqb-true _ _ (left_true (flag_byte a.is_resource == flag_byte b.is_resource) (nat_lt a.index b.index) r) in le-leb _ _ (omega arith))

by_index : (fork : ℕ) (a b : ForkBlock) → (fork == flag_byte a.is_resource) ≡ true → (fork == flag_byte b.is_resource) ≡ true → fork_before a b ≡ true → nat_lt a.index b.index ≡ true
by_index fork a b p q e = either (nat_lt (flag_byte a.is_resource) (flag_byte b.is_resource)) ((flag_byte a.is_resource == flag_byte b.is_resource) && nat_lt a.index b.index) e
    (λ l. absurd (let h : flag_byte a.is_resource < flag_byte b.is_resource = ltb-true _ _ l in let i : fork ≡ flag_byte a.is_resource = eqb-true _ _ p in let j : fork ≡ flag_byte b.is_resource = eqb-true _ _ q in omega arith))
    (λ r. right_true (flag_byte a.is_resource == flag_byte b.is_resource) (nat_lt a.index b.index) r)

own_chain : (id : ℕ) (bs : List ForkBlock) → Chain block_before bs → Chain fork_before (own bs id)
own_chain id bs c = chain-more block_before fork_before (λ b. id == b.node) (own bs id) (by_fork id) (all-kept (λ b. id == b.node) bs) (chain-filter block_before (λ b. id == b.node) bs c)

part_chain : (fork : ℕ) (bs : List ForkBlock) → Chain fork_before bs → Chain (λ (a : ForkBlock) b. nat_lt a.index b.index) (fork_part bs fork)
part_chain fork bs c =
    chain-more fork_before (λ a b. nat_lt a.index b.index) (λ b. fork == flag_byte b.is_resource) (fork_part bs fork) (by_index fork) (all-kept (λ b. fork == flag_byte b.is_resource) bs)
    (chain-filter fork_before (λ b. fork == flag_byte b.is_resource) bs c)

is_fork : (b : ForkBlock) → list_any (λ n. n == flag_byte b.is_resource) (0 ∷ 1 ∷ []) ≡ true
is_fork b = elim b.is_resource as (λ r. list_any (λ n. n == flag_byte r) (0 ∷ 1 ∷ []) ≡ true) [ true ↦ refl | false ↦ refl ]

are_forks : (bs : List ForkBlock) → list_all (λ b. list_any (λ n. n == flag_byte b.is_resource) (0 ∷ 1 ∷ [])) bs ≡ true
are_forks [] = refl
are_forks (b ∷ bs) = and_from _ (list_all (λ b. list_any (λ n. n == flag_byte b.is_resource) (0 ∷ 1 ∷ [])) bs) (is_fork b) (are_forks bs)

both_forks : (bs : List ForkBlock) → Chain fork_before bs → fork_part bs 0 ++ fork_part bs 1 ≡ bs
both_forks bs c =
    ap (λ l. fork_part bs 0 ++ l) (sym (append-nil (fork_part bs 1)))
    ∙ parted (λ (b : ForkBlock). flag_byte b.is_resource) (λ (n : ℕ). n) (0 ∷ 1 ∷ []) bs
    (chain-more fork_before (λ a b. nat_le (flag_byte a.is_resource) (flag_byte b.is_resource)) (λ b. true) bs (λ a b p q e. climbs_fork a b e) (all-always bs) c)
    (refl, (refl, tt)) (are_forks bs)

-- a block of a node's fork, taken to pieces and put together again
same_flag : (r s : Bool) → (flag_byte s == flag_byte r) ≡ true → s ≡ r
same_flag true true e = refl
same_flag false false e = refl
same_flag true false e = absurd (cc)
same_flag false true e = absurd (cc)

back_again : (id : ℕ) (r : Bool) (bs : List ForkBlock) → list_all (λ b. id == b.node) bs ≡ true → list_all (λ b. flag_byte r == flag_byte b.is_resource) bs ≡ true → map (fork_block_of id r) (map piece_of bs) ≡ bs
back_again id r [] p q = refl
back_again id r (b ∷ bs) p q =
    let i : id ≡ b.node = eqb-true _ _ (left_true (id == b.node) (list_all (λ b. id == b.node) bs) p) in
    let f = same_flag b.is_resource r (left_true (flag_byte r == flag_byte b.is_resource) (list_all (λ b. flag_byte r == flag_byte b.is_resource) bs) q) in
    let rest = back_again id r bs (right_true (id == b.node) (list_all (λ b. id == b.node) bs) p) (right_true (flag_byte r == flag_byte b.is_resource) (list_all (λ b. flag_byte r == flag_byte b.is_resource) bs) q) in
    λ k. record { node = i k; is_resource = f k; index = b.index; bytes = b.bytes } ∷ rest k

-- what is known of a block of a node: its shape, and that it lies within its fork
abbrev pub is_good_block : Node → ForkBlock → Bool
is_good_block n b = is_formed_block b && nat_le (block_size * b.index + length b.bytes) (fork_length b.is_resource n)

kept_piece : (len : ℕ) (b : ForkBlock) → is_formed_block b ≡ true → nat_le (block_size * b.index + length b.bytes) len ≡ true → is_kept len (piece_of b) ≡ true
kept_piece len b f w =
    let numbers = is_long b.node && (is_long b.index && are_bytes b.bytes) in
    let rest = right_true numbers (nat_le 1 (length b.bytes) && (nat_le (length b.bytes) block_size && bytes_eq (trimmed b.bytes) b.bytes)) f in
    let size = right_true (nat_le 1 (length b.bytes)) (nat_le (length b.bytes) block_size && bytes_eq (trimmed b.bytes) b.bytes) rest in
    and_from (bytes_eq (trimmed b.bytes) b.bytes) (nat_le (length b.bytes) block_size && nat_le (block_size * b.index + length b.bytes) len)
    (right_true (nat_le (length b.bytes) block_size) (bytes_eq (trimmed b.bytes) b.bytes) size)
    (and_from (nat_le (length b.bytes) block_size) (nat_le (block_size * b.index + length b.bytes) len) (left_true (nat_le (length b.bytes) block_size) (bytes_eq (trimmed b.bytes) b.bytes) size) w)

kept_pieces : (n : Node) (r : Bool) (bs : List ForkBlock) → list_all (is_good_block n) bs ≡ true → list_all (λ b. flag_byte r == flag_byte b.is_resource) bs ≡ true → list_all (is_kept (fork_length r n)) (map piece_of bs) ≡ true
kept_pieces n r [] g f = refl
kept_pieces n r (b ∷ bs) g f =
    let good = left_true (is_good_block n b) (list_all (is_good_block n) bs) g in
    let flag = same_flag b.is_resource r (left_true (flag_byte r == flag_byte b.is_resource) (list_all (λ b. flag_byte r == flag_byte b.is_resource) bs) f) in
    let within = right_true (is_formed_block b) (nat_le (block_size * b.index + length b.bytes) (fork_length b.is_resource n)) good in
    and_from (is_kept (fork_length r n) (piece_of b)) (list_all (is_kept (fork_length r n)) (map piece_of bs))
    (kept_piece (fork_length r n) b (left_true (is_formed_block b) (nat_le (block_size * b.index + length b.bytes) (fork_length b.is_resource n)) good)
    (ap (λ s. nat_le (block_size * b.index + length b.bytes) (fork_length s n)) flag ∙ within))
    (kept_pieces n r bs (right_true (is_good_block n b) (list_all (is_good_block n) bs) g) (right_true (flag_byte r == flag_byte b.is_resource) (list_all (λ b. flag_byte r == flag_byte b.is_resource) bs) f))

has_bytes : (n : Node) (b : ForkBlock) → is_good_block n b ≡ true → nat_le 1 (length b.bytes) ≡ true
has_bytes n b g =
    left_true (nat_le 1 (length b.bytes)) (nat_le (length b.bytes) block_size && bytes_eq (trimmed b.bytes) b.bytes)
    (right_true (is_long b.node && (is_long b.index && are_bytes b.bytes)) _ (left_true (is_formed_block b) (nat_le (block_size * b.index + length b.bytes) (fork_length b.is_resource n)) g))

-- the blocks of a fork are those of the bytes that they tell
one_fork : ForkLaw → (n : Node) (r : Bool) (bs : List ForkBlock) → Chain fork_before bs → list_all (is_good_block n) bs ≡ true → list_all (λ b. n.id == b.node) bs ≡ true
    → map (fork_block_of n.id r) (blocks_of (bytes_of (fork_length r n) (map piece_of (fork_part bs (flag_byte r))))) ≡ fork_part bs (flag_byte r)
one_fork law n r bs c g i =
    let test : ForkBlock → Bool = λ b. flag_byte r == flag_byte b.is_resource in
    let good = all-filter (λ (b : ForkBlock). flag_byte r == flag_byte b.is_resource) (is_good_block n) bs g in
    let flags = all-kept (λ (b : ForkBlock). flag_byte r == flag_byte b.is_resource) bs in
    ap (map (fork_block_of n.id r)) (law.forth (fork_length r n) (map piece_of (fork_part bs (flag_byte r)))
    (rising_pieces (fork_part bs (flag_byte r)) (part_chain (flag_byte r) bs c) (all-weaker (is_good_block n) (λ b. nat_le 1 (length b.bytes)) (fork_part bs (flag_byte r)) (has_bytes n) good))
    (kept_pieces n r (fork_part bs (flag_byte r)) good flags))
    ∙ back_again n.id r (fork_part bs (flag_byte r)) (all-filter (λ (b : ForkBlock). flag_byte r == flag_byte b.is_resource) (λ b. n.id == b.node) bs i) flags

pub blocks_of_node : ForkLaw → (n : Node) (blocks : List ForkBlock) → Chain block_before blocks → list_all (is_good_block n) (own blocks n.id) ≡ true → fork_blocks (row_from blocks n) ≡ own blocks n.id
blocks_of_node law n blocks c g =
    let chain = own_chain n.id blocks c in
    let ids = all-kept (λ (b : ForkBlock). n.id == b.node) blocks in
    (λ k. one_fork law n false (own blocks n.id) chain g ids k ++ one_fork law n true (own blocks n.id) chain g ids k) ∙ both_forks (own blocks n.id) chain
