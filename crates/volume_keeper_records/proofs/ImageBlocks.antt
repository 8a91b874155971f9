-- The blocks of a volume's forks: their shape, their order, and the forks that they tell.
use Rattle.std.proofs.Common.{◌≡◌, ◌∙◌, ℕ, zero, suc, ◌+◌, ◌*◌, ◌<◌, ◌≤◌, Bool, true, false, cond, not, List, [], ◌∷◌, ◌++◌, map, length, drop, refl, sym, ap, subst, arith, append_assoc, length-append}
use Rattle.std.specs.Prelude.{nat_le, nat_lt, ◌&&◌, ◌==◌, bytes_eq, flat_map, unwrap_or, Some, None}
use Rattle.std.specs.List.{list_all}
use Rattle.std.proofs.lemmas.Bool.{and_from, and_parts, eq-eqb, eqb-true, le-leb, leb-true, lt-ltb, ltb-true, ne_eqb, or_left, or_right}
use Rattle.std.proofs.lemmas.List.{append-nil}
use Rattle.std.proofs.lemmas.List.Elements.{filter-append}
use Rattle.std.proofs.lemmas.List.Folds.{list_all-map}
use Rattle.afp_base.specs.ForkBytes.{taken}
use Rattle.fork_bytes.specs.declared.block.Block.{Block}
use Rattle.afp_base.specs.Limits.{block_size}
use Rattle.fork_bytes.specs.Blocks.{block_at, block_count, before_zeros, trimmed, with_block, blocks_from, blocks_of}
use Rattle.fork_bytes.specs.Kept.{bytes_of, are_rising, is_kept, is_empty}
use Rattle.volume_spec.specs.VolumeState.{Row as VolumeRow, Privileges, guest, new_privileges}
use Rattle.volume_spec.specs.TypedVolume.{is_byte, is_long, are_bytes}
use Rattle.volume_keeper_records.specs.declared.rows.ForkBlock.{ForkBlock}
use Rattle.volume_keeper_records.specs.Records.{flag_byte, old_version}
use Rattle.volume_keeper_records.specs.Shape.{is_formed_block}
use Rattle.volume_keeper_records.specs.Image.{node_of, fork_block_of, fork_blocks}
use Rattle.volume_keeper_records.proofs.Chains.{Chain, chain-map, chain-more}
use Rattle.volume_keeper_records.proofs.RowOrder.{block_before, fork_before}
use Rattle.volume_keeper_records.proofs.ForkParts.{ForkLaw, piece_of, own, fork_part, row_from}
use Rattle.afp_base.proofs.Facts.{left_true, right_true}
use Rattle.afp_base.proofs.ListFacts.{all-always, all-and, all-append, all-weaker, filter-all, filter-none, length-mapped}
use Rattle.volume_spec.proofs.TypedEdits.{drop-bytes, take-bytes}

-- ---- bytes of blocks

pub trimmed_typed : (bs : List ℕ) → are_bytes bs ≡ true → are_bytes (trimmed bs) ≡ true
trimmed_typed [] e = refl
trimmed_typed (b ∷ bs) e = before b (trimmed bs) (left_true (is_byte b) (are_bytes bs) e) (trimmed_typed bs (right_true (is_byte b) (are_bytes bs) e))
  where
    before : (b : ℕ) (bs : List ℕ) → is_byte b ≡ true → are_bytes bs ≡ true → are_bytes (before_zeros b bs) ≡ true
    before zero [] p q = refl
    before (suc b) [] p q = and_from (is_byte (suc b)) true p refl
    before b (c ∷ cs) p q = and_from (is_byte b) (are_bytes (c ∷ cs)) p q

with_typed : (index : ℕ) (bytes : List ℕ) (rest : List Block) → are_bytes bytes ≡ true → list_all (λ (b : Block). are_bytes b.bytes) rest ≡ true → list_all (λ (b : Block). are_bytes b.bytes) (with_block index bytes rest) ≡ true
with_typed index [] rest p q = q
with_typed index (b ∷ bs) rest p q = and_from (are_bytes (b ∷ bs)) (list_all (λ (b : Block). are_bytes b.bytes) rest) p q

from_typed : (bytes : List ℕ) (index n : ℕ) → are_bytes bytes ≡ true → list_all (λ (b : Block). are_bytes b.bytes) (blocks_from bytes index n) ≡ true
from_typed bytes index zero e = refl
from_typed bytes index (suc n) e = with_typed index (block_at bytes index) (blocks_from bytes (index + 1) n)
    (trimmed_typed (taken bytes (block_size * index) block_size) (take-bytes block_size (drop (block_size * index) bytes) (drop-bytes (block_size * index) bytes e))) (from_typed bytes (index + 1) n e)

some_each : (bs : List Block) → are_rising bs ≡ true → list_all (λ (b : Block). not (is_empty b.bytes)) bs ≡ true
some_each [] e = refl
some_each (b ∷ bs) e =
    let two = and_parts (not (is_empty b.bytes)) (list_all (λ c. nat_lt b.index c.index) bs && are_rising bs) e in
    and_from (not (is_empty b.bytes)) (list_all (λ (b : Block). not (is_empty b.bytes)) bs) two.0 (some_each bs (right_true (list_all (λ c. nat_lt b.index c.index) bs) (are_rising bs) two.1))

index_chain : (bs : List Block) → are_rising bs ≡ true → Chain (λ (a : Block) b. nat_lt a.index b.index) bs
index_chain [] e = tt
index_chain (b ∷ bs) e =
    let two = right_true (not (is_empty b.bytes)) (list_all (λ c. nat_lt b.index c.index) bs && are_rising bs) e in
    (left_true (list_all (λ c. nat_lt b.index c.index) bs) (are_rising bs) two, index_chain bs (right_true (list_all (λ c. nat_lt b.index c.index) bs) (are_rising bs) two))

not_empty : (bytes : List ℕ) → not (is_empty bytes) ≡ true → nat_le 1 (length bytes) ≡ true
not_empty [] e = absurd (cc)
not_empty (b ∷ bs) e = le-leb 1 (length (b ∷ bs)) (omega arith)

-- what each block of some bytes is
abbrev pub is_whole_block : ℕ → Block → Bool
is_whole_block len b = is_kept len b && (not (is_empty b.bytes) && are_bytes b.bytes)

pub whole_blocks : ForkLaw → (bytes : List ℕ) → are_bytes bytes ≡ true → list_all (is_whole_block (length bytes)) (blocks_of bytes) ≡ true
whole_blocks law bytes e =
    all-and (is_kept (length bytes)) (λ b. not (is_empty b.bytes) && are_bytes b.bytes) (blocks_of bytes) (law.kept bytes)
    (all-and (λ (b : Block). not (is_empty b.bytes)) (λ b. are_bytes b.bytes) (blocks_of bytes) (some_each (blocks_of bytes) (law.rising bytes)) (from_typed bytes 0 (block_count (length bytes)) e))

pub one_formed : (id len : ℕ) (r : Bool) (b : Block) → is_long id ≡ true → len ≤ 268435456 → is_whole_block len b ≡ true → is_formed_block (fork_block_of id r b) ≡ true
one_formed id len r b i small w =
    let kept = left_true (is_kept len b) (not (is_empty b.bytes) && are_bytes b.bytes) w in
    let rest = right_true (is_kept len b) (not (is_empty b.bytes) && are_bytes b.bytes) w in
    let trim = left_true (bytes_eq (trimmed b.bytes) b.bytes) (nat_le (length b.bytes) block_size && nat_le (block_size * b.index + length b.bytes) len) kept in
    let sizes = right_true (bytes_eq (trimmed b.bytes) b.bytes) (nat_le (length b.bytes) block_size && nat_le (block_size * b.index + length b.bytes) len) kept in
    let short = left_true (nat_le (length b.bytes) block_size) (nat_le (block_size * b.index + length b.bytes) len) sizes in
    let within : 4096 * b.index + length b.bytes ≤ len = leb-true _ _ (right_true (nat_le (length b.bytes) block_size) (nat_le (block_size * b.index + length b.bytes) len) sizes) in
    let index : is_long b.index ≡ true = lt-ltb b.index 4294967296 (omega (arith, within, small)) in
    let some = not_empty b.bytes (left_true (not (is_empty b.bytes)) (are_bytes b.bytes) rest) in
    let typed = right_true (not (is_empty b.bytes)) (are_bytes b.bytes) rest in
    λ k. (i k && (index k && typed k)) && (some k && (short k && trim k))

-- ---- their order

pub chain-append : {A : Type 0} (R : A → A → Bool) (xs ys : List A) → Chain R xs → Chain R ys → list_all (λ x. list_all (R x) ys) xs ≡ true → Chain R (xs ++ ys)
chain-append R [] ys c d e = d
chain-append R (x ∷ xs) ys c d e =
    (all-append (R x) xs ys c.0 (left_true (list_all (R x) ys) (list_all (λ x. list_all (R x) ys) xs) e), chain-append R xs ys c.1 d (right_true (list_all (R x) ys) (list_all (λ x. list_all (R x) ys) xs) e))

later_index : (id : ℕ) (r : Bool) (a b : Block) → nat_lt a.index b.index ≡ true → block_before (fork_block_of id r a) (fork_block_of id r b) ≡ true
later_index id r a b e = or_right (nat_lt id id) ((id == id) && fork_before (fork_block_of id r a) (fork_block_of id r b))
    (and_from (id == id) (fork_before (fork_block_of id r a) (fork_block_of id r b)) (eq-eqb id id refl)
    (or_right (nat_lt (flag_byte r) (flag_byte r)) ((flag_byte r == flag_byte r) && nat_lt a.index b.index) (and_from (flag_byte r == flag_byte r) (nat_lt a.index b.index) (eq-eqb (flag_byte r) (flag_byte r) refl) e)))

fork_chain : ForkLaw → (id : ℕ) (r : Bool) (bytes : List ℕ) → Chain block_before (map (fork_block_of id r) (blocks_of bytes))
fork_chain law id r bytes = chain-map block_before (fork_block_of id r) (blocks_of bytes)
    (chain-more (λ (a : Block) b. nat_lt a.index b.index) (λ a b. block_before (fork_block_of id r a) (fork_block_of id r b)) (λ b. true) (blocks_of bytes) (λ a b p q e. later_index id r a b e) (all-always (blocks_of bytes)) (index_chain (blocks_of bytes) (law.rising bytes)))

-- a test that all elements pass
pub all-pass : {A : Type 0} (p : A → Bool) → ((x : A) → p x ≡ true) → (xs : List A) → list_all p xs ≡ true
all-pass p h [] = refl
all-pass p h (x ∷ xs) = and_from (p x) (list_all p xs) (h x) (all-pass p h xs)

data_first : (id : ℕ) (a b : Block) → block_before (fork_block_of id false a) (fork_block_of id true b) ≡ true
data_first id a b = or_right (nat_lt id id) (id == id && true) (and_from (id == id) true (eq-eqb id id refl) refl)

pub row_chain : ForkLaw → (r : VolumeRow) → Chain block_before (fork_blocks r)
row_chain law r = chain-append block_before (map (fork_block_of r.id false) (blocks_of r.data_fork)) (map (fork_block_of r.id true) (blocks_of r.resource_fork)) (fork_chain law r.id false r.data_fork) (fork_chain law r.id true r.resource_fork)
    (list_all-map (λ x. list_all (block_before x) (map (fork_block_of r.id true) (blocks_of r.resource_fork))) (fork_block_of r.id false) (blocks_of r.data_fork)
    ∙ all-pass (λ a. list_all (block_before (fork_block_of r.id false a)) (map (fork_block_of r.id true) (blocks_of r.resource_fork)))
    (λ a. list_all-map (block_before (fork_block_of r.id false a)) (fork_block_of r.id true) (blocks_of r.resource_fork) ∙ all-pass (λ b. block_before (fork_block_of r.id false a) (fork_block_of r.id true b)) (data_first r.id a) (blocks_of r.resource_fork)) (blocks_of r.data_fork))

-- each block of a row has its id
pub ids_of : (r : VolumeRow) → list_all (λ (b : ForkBlock). r.id == b.node) (fork_blocks r) ≡ true
ids_of r = all-append (λ (b : ForkBlock). r.id == b.node) (map (fork_block_of r.id false) (blocks_of r.data_fork)) (map (fork_block_of r.id true) (blocks_of r.resource_fork))
    (list_all-map (λ (b : ForkBlock). r.id == b.node) (fork_block_of r.id false) (blocks_of r.data_fork) ∙ all-pass (λ b. r.id == r.id) (λ b. eq-eqb r.id r.id refl) (blocks_of r.data_fork))
    (list_all-map (λ (b : ForkBlock). r.id == b.node) (fork_block_of r.id true) (blocks_of r.resource_fork) ∙ all-pass (λ b. r.id == r.id) (λ b. eq-eqb r.id r.id refl) (blocks_of r.resource_fork))

-- the blocks of rows above an id have nodes above it
pub ids_above : (low : ℕ) (rs : List VolumeRow) → list_all (λ (r : VolumeRow). nat_lt low r.id) rs ≡ true → list_all (λ (b : ForkBlock). nat_lt low b.node) (flat_map fork_blocks rs) ≡ true
ids_above low [] e = refl
ids_above low (r ∷ rs) e =
    let here : low < r.id = ltb-true _ _ (left_true (nat_lt low r.id) (list_all (λ (r : VolumeRow). nat_lt low r.id) rs) e) in
    all-append (λ (b : ForkBlock). nat_lt low b.node) (fork_blocks r) (flat_map fork_blocks rs)
    (all-weaker (λ (b : ForkBlock). r.id == b.node) (λ (b : ForkBlock). nat_lt low b.node) (fork_blocks r) (λ b h. let s : r.id ≡ b.node = eqb-true _ _ h in lt-ltb _ _ (omega arith)) (ids_of r))
    (ids_above low rs (right_true (nat_lt low r.id) (list_all (λ (r : VolumeRow). nat_lt low r.id) rs) e))

pub all_chain : ForkLaw → (rs : List VolumeRow) → Chain (λ (a : VolumeRow) b. nat_lt a.id b.id) rs → Chain block_before (flat_map fork_blocks rs)
all_chain law [] c = tt
all_chain law (r ∷ rs) c = chain-append block_before (fork_blocks r) (flat_map fork_blocks rs) (row_chain law r) (all_chain law rs c.1)
    (all-weaker (λ (b : ForkBlock). r.id == b.node) (λ b. list_all (block_before b) (flat_map fork_blocks rs)) (fork_blocks r)
    (λ b h. let s : r.id ≡ b.node = eqb-true _ _ h in all-weaker (λ (c : ForkBlock). nat_lt r.id c.node) (block_before b) (flat_map fork_blocks rs)
    (λ c e. or_left (nat_lt b.node c.node) ((b.node == c.node) && fork_before b c) (ap (λ k. nat_lt k c.node) (sym s) ∙ e)) (ids_above r.id rs c.0)) (ids_of r))

-- ---- the forks that they tell

-- each row owns just its blocks
abbrev pub Owns : List ForkBlock → List VolumeRow → Type 0
Owns blocks [] = Unit {0}
Owns blocks (r ∷ rs) = (own blocks r.id ≡ fork_blocks r) × Owns blocks rs

differs : (a b : ℕ) → (a ≡ b → ⊥) → not (a == b) ≡ true
differs a b h = ap not (ne_eqb a b h)

own_here : (before : List ForkBlock) (r : VolumeRow) (rs : List VolumeRow) → list_all (λ (b : ForkBlock). nat_lt b.node r.id) before ≡ true → list_all (λ (s : VolumeRow). nat_lt r.id s.id) rs ≡ true → own (before ++ (fork_blocks r ++ flat_map fork_blocks rs)) r.id ≡ fork_blocks r
own_here before r rs low high =
    filter-append (λ (b : ForkBlock). r.id == b.node) before (fork_blocks r ++ flat_map fork_blocks rs)
    ∙ (λ i. filter-none (λ (b : ForkBlock). r.id == b.node) before (all-weaker (λ (b : ForkBlock). nat_lt b.node r.id) (λ b. not (r.id == b.node)) before (λ b e. differs r.id b.node (λ h. absurd (let l : b.node < r.id = ltb-true _ _ e in omega arith))) low) i
    ++ (filter-append (λ (b : ForkBlock). r.id == b.node) (fork_blocks r) (flat_map fork_blocks rs)
    ∙ (λ j. filter-all (λ (b : ForkBlock). r.id == b.node) (fork_blocks r) (ids_of r) j
    ++ filter-none (λ (b : ForkBlock). r.id == b.node) (flat_map fork_blocks rs) (all-weaker (λ (b : ForkBlock). nat_lt r.id b.node) (λ b. not (r.id == b.node)) (flat_map fork_blocks rs) (λ b e. differs r.id b.node (λ h. absurd (let l : r.id < b.node = ltb-true _ _ e in omega arith))) (ids_above r.id rs high)) j)
    ∙ append-nil (fork_blocks r)) i)

lower_all : (r : VolumeRow) (rs : List VolumeRow) (before : List ForkBlock) → list_all (λ (s : VolumeRow). nat_lt r.id s.id) rs ≡ true → list_all (λ (s : VolumeRow). list_all (λ (b : ForkBlock). nat_lt b.node s.id) before) rs ≡ true
    → list_all (λ (s : VolumeRow). list_all (λ (b : ForkBlock). nat_lt b.node s.id) (before ++ fork_blocks r)) rs ≡ true
lower_all r rs before high low = all-weaker (λ (s : VolumeRow). nat_lt r.id s.id && list_all (λ (b : ForkBlock). nat_lt b.node s.id) before) (λ (s : VolumeRow). list_all (λ (b : ForkBlock). nat_lt b.node s.id) (before ++ fork_blocks r)) rs
    (λ s e. all-append (λ (b : ForkBlock). nat_lt b.node s.id) before (fork_blocks r) (right_true (nat_lt r.id s.id) (list_all (λ (b : ForkBlock). nat_lt b.node s.id) before) e)
    (all-weaker (λ (b : ForkBlock). r.id == b.node) (λ (b : ForkBlock). nat_lt b.node s.id) (fork_blocks r) (λ b h. ap (λ k. nat_lt k s.id) (sym (eqb-true r.id b.node h)) ∙ left_true (nat_lt r.id s.id) (list_all (λ (b : ForkBlock). nat_lt b.node s.id) before) e) (ids_of r)))
    (all-and (λ (s : VolumeRow). nat_lt r.id s.id) (λ (s : VolumeRow). list_all (λ (b : ForkBlock). nat_lt b.node s.id) before) rs high low)

pub owns_from : (before : List ForkBlock) (rs : List VolumeRow) → Chain (λ (a : VolumeRow) b. nat_lt a.id b.id) rs → list_all (λ (s : VolumeRow). list_all (λ (b : ForkBlock). nat_lt b.node s.id) before) rs ≡ true → Owns (before ++ flat_map fork_blocks rs) rs
owns_from before [] c low = tt
owns_from before (r ∷ rs) c low = (
  own_here before r rs (left_true (list_all (λ (b : ForkBlock). nat_lt b.node r.id) before) (list_all (λ (s : VolumeRow). list_all (λ (b : ForkBlock). nat_lt b.node s.id) before) rs) low) c.0,
  subst (λ l. Owns l rs) (append_assoc before (fork_blocks r) (flat_map fork_blocks rs))
      (owns_from (before ++ fork_blocks r) rs c.1 (lower_all r rs before c.0 (right_true (list_all (λ (b : ForkBlock). nat_lt b.node r.id) before) (list_all (λ (s : VolumeRow). list_all (λ (b : ForkBlock). nat_lt b.node s.id) before) rs) low))),
)

to_pieces : (id : ℕ) (r : Bool) (bs : List Block) → map piece_of (map (fork_block_of id r) bs) ≡ bs
to_pieces id r [] = refl
to_pieces id r (b ∷ bs) = ap (λ l. b ∷ l) (to_pieces id r bs)

data_pieces : (r : VolumeRow) → map piece_of (fork_part (fork_blocks r) 0) ≡ blocks_of r.data_fork
data_pieces r =
    ap (map piece_of) (filter-append (λ (b : ForkBlock). 0 == flag_byte b.is_resource) (map (fork_block_of r.id false) (blocks_of r.data_fork)) (map (fork_block_of r.id true) (blocks_of r.resource_fork))
    ∙ (λ i. filter-all (λ (b : ForkBlock). 0 == flag_byte b.is_resource) (map (fork_block_of r.id false) (blocks_of r.data_fork)) (list_all-map (λ (b : ForkBlock). 0 == flag_byte b.is_resource) (fork_block_of r.id false) (blocks_of r.data_fork) ∙ all-always (blocks_of r.data_fork)) i
    ++ filter-none (λ (b : ForkBlock). 0 == flag_byte b.is_resource) (map (fork_block_of r.id true) (blocks_of r.resource_fork)) (list_all-map (λ (b : ForkBlock). not (0 == flag_byte b.is_resource)) (fork_block_of r.id true) (blocks_of r.resource_fork) ∙ all-always (blocks_of r.resource_fork)) i)
    ∙ append-nil (map (fork_block_of r.id false) (blocks_of r.data_fork)))
    ∙ to_pieces r.id false (blocks_of r.data_fork)

resource_pieces : (r : VolumeRow) → map piece_of (fork_part (fork_blocks r) 1) ≡ blocks_of r.resource_fork
resource_pieces r =
    ap (map piece_of) (filter-append (λ (b : ForkBlock). 1 == flag_byte b.is_resource) (map (fork_block_of r.id false) (blocks_of r.data_fork)) (map (fork_block_of r.id true) (blocks_of r.resource_fork))
    ∙ (λ i. filter-none (λ (b : ForkBlock). 1 == flag_byte b.is_resource) (map (fork_block_of r.id false) (blocks_of r.data_fork)) (list_all-map (λ (b : ForkBlock). not (1 == flag_byte b.is_resource)) (fork_block_of r.id false) (blocks_of r.data_fork) ∙ all-always (blocks_of r.data_fork)) i
    ++ filter-all (λ (b : ForkBlock). 1 == flag_byte b.is_resource) (map (fork_block_of r.id true) (blocks_of r.resource_fork)) (list_all-map (λ (b : ForkBlock). 1 == flag_byte b.is_resource) (fork_block_of r.id true) (blocks_of r.resource_fork) ∙ all-always (blocks_of r.resource_fork)) i))
    ∙ to_pieces r.id true (blocks_of r.resource_fork)

row_again : (version : ℕ) → ForkLaw → (blocks : List ForkBlock) (r : VolumeRow) → own blocks r.id ≡ fork_blocks r → unwrap_or (cond (version == old_version) None (Some r.privileges)) (new_privileges r.dir guest) ≡ r.privileges → row_from blocks (node_of version r) ≡ r
row_again version law blocks r e said =
    let data_fork = ap (λ l. bytes_of (length r.data_fork) (map piece_of (fork_part l 0))) e ∙ ap (bytes_of (length r.data_fork)) (data_pieces r) ∙ law.back r.data_fork in
    let resource_fork = ap (λ l. bytes_of (length r.resource_fork) (map piece_of (fork_part l 1))) e ∙ ap (bytes_of (length r.resource_fork)) (resource_pieces r) ∙ law.back r.resource_fork in
    λ i. record r { privileges = said i; data_fork = data_fork i; resource_fork = resource_fork i }

abbrev head_or : Privileges → List Privileges → Privileges
head_or p [] = p
head_or p (q ∷ qs) = q

abbrev rest_of : List Privileges → List Privileges
rest_of [] = []
rest_of (q ∷ qs) = qs

pub rows_again : (version : ℕ) → ForkLaw → (blocks : List ForkBlock) (rs : List VolumeRow) → Owns blocks rs
    → map (λ (r : VolumeRow). unwrap_or (cond (version == old_version) None (Some r.privileges)) (new_privileges r.dir guest)) rs ≡ map (λ (r : VolumeRow). r.privileges) rs → map (row_from blocks) (map (node_of version) rs) ≡ rs
rows_again version law blocks [] o said = refl
rows_again version law blocks (r ∷ rs) o said = λ i. row_again version law blocks r o.0 (ap (head_or r.privileges) said) i ∷ rows_again version law blocks rs o.1 (ap rest_of said) i

-- ---- how many there are

few_one : (len n : ℕ) → n ≤ block_count len → 4096 * n ≤ len + 4095
few_one len n h = omega (arith, h)

pub few_of_row : ForkLaw → (r : VolumeRow) → 4096 * length (fork_blocks r) ≤ (length r.data_fork + length r.resource_fork) + 8190
few_of_row law r =
    let a = few_one (length r.data_fork) (length (blocks_of r.data_fork)) (law.few r.data_fork) in
    let b = few_one (length r.resource_fork) (length (blocks_of r.resource_fork)) (law.few r.resource_fork) in
    let s = length-append (map (fork_block_of r.id false) (blocks_of r.data_fork)) (map (fork_block_of r.id true) (blocks_of r.resource_fork)) in
    let i = length-mapped (fork_block_of r.id false) (blocks_of r.data_fork) in
    let j = length-mapped (fork_block_of r.id true) (blocks_of r.resource_fork) in
    omega (arith, a, b, s, i, j)
