-- What stands at a key in the records of a volume.
use Rattle.std.proofs.Common.{◌≡◌, ◌∙◌, ℕ, zero, suc, ◌+◌, ◌<◌, ◌≤◌, ◌^◌, Bool, true, false, cond, not, List, [], ◌∷◌, ◌++◌, ◌||◌, map, take, drop, length, refl, sym, ap, arith, ◌*◌}
use Rattle.std.specs.Prelude.{Option, Some, None, option_map, flat_map, ◌&&◌, ◌==◌, nat_le, nat_lt}
use Rattle.std.specs.List.{find, list_all, list_any}
use Rattle.std.specs.Int.{from_be_bytes, w32}
use Rattle.std.proofs.lemmas.Bool.{and_parts, eqb-true}
use Rattle.std.proofs.lemmas.Nat.{from_be_bytes-to_be_bytes_4}
use Rattle.afp_base.specs.Apart.{are_apart}
use Rattle.volume_spec.specs.ForkEffect.{fork_of}
use Rattle.volume_spec.specs.TypedVolume.{is_long}
use Rattle.volume_spec.specs.VolumeState.{Row as VolumeRow}
use Rattle.fork_bytes.specs.declared.block.Block.{Block}
use Rattle.fork_bytes.specs.Blocks.{block_at, block_count, blocks_from, blocks_of, trimmed, with_block}
use Rattle.volume_keeper_records.specs.declared.rows.TableRow.{TableRow}
use Rattle.volume_keeper_records.specs.declared.rows.TableRow.TheVariants as row
use Rattle.volume_keeper_records.specs.Records.{node_record, node_key, block_record, block_key, flag_byte, long_bytes, version}
use Rattle.volume_keeper_records.specs.Image.{fork_block_of, fork_blocks, node_of}
use Rattle.volume_changes.specs.records.Values.{unless_empty}
use Rattle.volume_changes.proofs.OfRecords.LookUps.{are_one, found, found-append, itself, one_of, or_then}

-- a key is another just where what it is of is
pub same_key : (q k : List ℕ) (b : Bool) → (b ≡ true → q ≡ k) → (q ≡ k → b ≡ true) → are_one q k ≡ b
same_key q k true to from = ap (λ j. are_one q j) (sym (to refl)) ∙ itself q
same_key q k false to from = elim (are_one q k) as (λ t. are_one q k ≡ t → t ≡ false) [
  | true ↦ λ e. sym (from (one_of q k e))
  | false ↦ λ e. refl
] refl

pub long_same : (a b : ℕ) → a < 2 ^ 32 → b < 2 ^ 32 → long_bytes a ≡ long_bytes b → a ≡ b
long_same a b la lb e = sym (from_be_bytes-to_be_bytes_4 a la) ∙ ap (from_be_bytes w32) e ∙ from_be_bytes-to_be_bytes_4 b lb

eqb-refl : (n : ℕ) → (n == n) ≡ true
eqb-refl n = grind arith

pub eqb-is : (a b : ℕ) → a ≡ b → (a == b) ≡ true
eqb-is a b e = ap (λ n. a == n) (sym e) ∙ eqb-refl a

-- nodes

abbrev pub value_of_node : VolumeRow → List ℕ
value_of_node r = (node_record (node_of version r)).value

abbrev pub rest_of : List ℕ → List ℕ
rest_of [] = []
rest_of (x ∷ xs) = xs

node_keys : (id other : ℕ) → id < 2 ^ 32 → other < 2 ^ 32 → are_one (node_key id) (node_key other) ≡ (other == id)
node_keys id other l m = same_key (node_key id) (node_key other) (other == id) (λ e. ap node_key (sym (eqb-true other id e))) (λ e. eqb-is other id (sym (long_same id other l m (ap rest_of e))))

pub nodes_found : (rows : List VolumeRow) (id : ℕ) → id < 2 ^ 32 → list_all (λ (r : VolumeRow). is_long r.id) rows ≡ true
    → found (map (λ n. row.Node n) (map (node_of version) rows)) (node_key id) ≡ option_map value_of_node (find (λ (r : VolumeRow). r.id == id) rows)
unfolding node_record
nodes_found [] id l longs = refl
nodes_found (r ∷ rows) id l longs =
    let e = and_parts (is_long r.id) (list_all (λ (r : VolumeRow). is_long r.id) rows) longs in
    let few : r.id < 2 ^ 32 = grind (arith, e.0) in
    ap (λ b. cond b (Some (value_of_node r)) (found (map (λ n. row.Node n) (map (node_of version) rows)) (node_key id))) (node_keys id r.id l few)
    ∙ elim (r.id == id) as (λ b. cond b (Some (value_of_node r)) (found (map (λ n. row.Node n) (map (node_of version) rows)) (node_key id)) ≡ option_map value_of_node (cond b (Some r) (find (λ (r : VolumeRow). r.id == id) rows))) [
      | true ↦ refl
      | false ↦ nodes_found rows id l e.1
    ]

-- blocks

key_node : (id other : ℕ) (f g : Bool) (i j : ℕ) → block_key id f i ≡ block_key other g j → long_bytes id ≡ long_bytes other
key_node id other f g i j e = ap (λ k. take 4 (rest_of k)) e

key_fork : (id other : ℕ) (f g : Bool) (i j : ℕ) → block_key id f i ≡ block_key other g j → flag_byte f ∷ long_bytes i ≡ flag_byte g ∷ long_bytes j
key_fork id other f g i j e = ap (λ k. drop 4 (rest_of k)) e

flag_same : (f g : Bool) (xs ys : List ℕ) → flag_byte f ∷ xs ≡ flag_byte g ∷ ys → (f ≡ g) × (xs ≡ ys)
flag_same true true xs ys e = (refl, ap rest_of e)
flag_same false false xs ys e = (refl, ap rest_of e)
flag_same true false xs ys e = absurd (cc e)
flag_same false true xs ys e = absurd (cc e)

abbrev block_rows : ℕ → Bool → List Block → List TableRow
block_rows id f bs = map (λ b. row.Block b) (map (fork_block_of id f) bs)

-- those of another fork
others_missed : (id other : ℕ) (f g : Bool) (i : ℕ) (bs : List Block) → ((j : ℕ) → block_key id f i ≡ block_key other g j → ⊥) → found (block_rows other g bs) (block_key id f i) ≡ None
unfolding block_record
others_missed id other f g i [] apart = refl
others_missed id other f g i (b ∷ bs) apart =
    ap (λ t. cond t (Some b.bytes) (found (block_rows other g bs) (block_key id f i))) (same_key (block_key id f i) (block_key other g b.index) false (λ e. absurd (cc e)) (λ e. absurd (apart b.index e)))
    ∙ others_missed id other f g i bs apart

block_keys : (id : ℕ) (f : Bool) (i j : ℕ) → i < 2 ^ 32 → j < 2 ^ 32 → are_one (block_key id f i) (block_key id f j) ≡ (j == i)
block_keys id f i j l m = same_key (block_key id f i) (block_key id f j) (j == i) (λ e. ap (block_key id f) (sym (eqb-true j i e)))
    (λ e. eqb-is j i (sym (long_same i j l m (flag_same f f (long_bytes i) (long_bytes j) (key_fork id id f f i j e)).1)))

-- those of the fork, from an index on
below_missed : (id : ℕ) (f : Bool) (bytes : List ℕ) (i index n : ℕ) → i < index → index + n ≤ 2 ^ 32 → found (block_rows id f (blocks_from bytes index n)) (block_key id f i) ≡ None
unfolding block_record
below_missed id f bytes i index zero low few = refl
below_missed id f bytes i index (suc n) low few = by (below_missed id f bytes i (index + 1) n (omega arith) (omega arith)) (block_at bytes index)
  where
    by : (found (block_rows id f (blocks_from bytes (index + 1) n)) (block_key id f i) ≡ None) → (l : List ℕ) → found (block_rows id f (with_block index l (blocks_from bytes (index + 1) n))) (block_key id f i) ≡ None
    by rest [] = rest
    by rest (b ∷ l) =
        let apart : (index == i) ≡ false = grind (arith, low) in
        ap (λ t. cond t (Some (b ∷ l)) (found (block_rows id f (blocks_from bytes (index + 1) n)) (block_key id f i))) (block_keys id f i index (omega arith) (omega arith) ∙ apart)
        ∙ rest

within_found : (id : ℕ) (f : Bool) (bytes : List ℕ) (i index n : ℕ) → index ≤ i → i < index + n → index + n ≤ 2 ^ 32 → found (block_rows id f (blocks_from bytes index n)) (block_key id f i) ≡ unless_empty (block_at bytes i)
unfolding block_record
within_found id f bytes i index zero from to few = absurd (omega arith)
within_found id f bytes i index (suc n) from to few = at (λ h. within_found id f bytes i (index + 1) n h (omega arith) (omega arith)) (index == i) refl
  where
    here : (l : List ℕ) → index ≡ i → found (block_rows id f (with_block index l (blocks_from bytes (index + 1) n))) (block_key id f i) ≡ unless_empty l
    here [] same = below_missed id f bytes i (index + 1) n (omega (arith, same)) (omega arith)
    here (b ∷ l) same = ap (λ t. cond t (Some (b ∷ l)) (found (block_rows id f (blocks_from bytes (index + 1) n)) (block_key id f i))) (block_keys id f i index (omega (arith, same)) (omega arith) ∙ eqb-is index i same)

    later : (found (block_rows id f (blocks_from bytes (index + 1) n)) (block_key id f i) ≡ unless_empty (block_at bytes i)) → (l : List ℕ) → (index == i) ≡ false → found (block_rows id f (with_block index l (blocks_from bytes (index + 1) n))) (block_key id f i) ≡ unless_empty (block_at bytes i)
    later rest [] other = rest
    later rest (b ∷ l) other =
        ap (λ t. cond t (Some (b ∷ l)) (found (block_rows id f (blocks_from bytes (index + 1) n)) (block_key id f i))) (block_keys id f i index (omega arith) (omega arith) ∙ other)
        ∙ rest

    at : (index + 1 ≤ i → found (block_rows id f (blocks_from bytes (index + 1) n)) (block_key id f i) ≡ unless_empty (block_at bytes i)) → (t : Bool) → (index == i) ≡ t → found (block_rows id f (with_block index (block_at bytes index) (blocks_from bytes (index + 1) n))) (block_key id f i) ≡ unless_empty (block_at bytes i)
    at rest true same = let is = eqb-true index i same in here (block_at bytes index) is ∙ ap (λ k. unless_empty (block_at bytes k)) is
    at rest false other = later (rest (grind (arith, other))) (block_at bytes index) other

-- blocks behind the end are none
drop_past : (n : ℕ) (bytes : List ℕ) → length bytes ≤ n → drop n bytes ≡ []
drop_past zero [] h = refl
drop_past zero (b ∷ bytes) h = absurd (omega arith)
drop_past (suc n) [] h = refl
drop_past (suc n) (b ∷ bytes) h = drop_past n bytes (omega arith)

pub past : (bytes : List ℕ) (k : ℕ) → block_count (length bytes) ≤ k → block_at bytes k ≡ []
past bytes k h = ap (λ l. trimmed (take 4096 l)) (drop_past (4096 * k) bytes (omega (arith, h)))

above_missed : (id : ℕ) (f : Bool) (bytes : List ℕ) (i index n : ℕ) → index + n ≤ i → i < 2 ^ 32 → found (block_rows id f (blocks_from bytes index n)) (block_key id f i) ≡ None
unfolding block_record
above_missed id f bytes i index zero high few = refl
above_missed id f bytes i index (suc n) high few = by (above_missed id f bytes i (index + 1) n (omega arith) few) (block_at bytes index)
  where
    by : (found (block_rows id f (blocks_from bytes (index + 1) n)) (block_key id f i) ≡ None) → (l : List ℕ) → found (block_rows id f (with_block index l (blocks_from bytes (index + 1) n))) (block_key id f i) ≡ None
    by rest [] = rest
    by rest (b ∷ l) =
        let apart : (index == i) ≡ false = grind (arith, high) in
        ap (λ t. cond t (Some (b ∷ l)) (found (block_rows id f (blocks_from bytes (index + 1) n)) (block_key id f i))) (block_keys id f i index few (omega arith) ∙ apart)
        ∙ rest

-- the block of an index of a fork
fork_found : (id : ℕ) (f : Bool) (bytes : List ℕ) (i : ℕ) → i < 2 ^ 32 → length bytes ≤ 268435456 → found (block_rows id f (blocks_of bytes)) (block_key id f i) ≡ unless_empty (block_at bytes i)
fork_found id f bytes i l few = elim (nat_lt i (block_count (length bytes))) as (λ t. nat_lt i (block_count (length bytes)) ≡ t → found (block_rows id f (blocks_of bytes)) (block_key id f i) ≡ unless_empty (block_at bytes i)) [
  | true ↦ λ e. let in' : i < block_count (length bytes) = grind (arith, e) in within_found id f bytes i 0 (block_count (length bytes)) (omega arith) (omega (arith, in')) (omega (arith, few))
  | false ↦ λ e. let out : block_count (length bytes) ≤ i = grind (arith, e) in above_missed id f bytes i 0 (block_count (length bytes)) (omega (arith, out)) l ∙ sym (ap unless_empty (past bytes i out))
] refl

-- the block of an index of a fork of a row
abbrev pub block_value : Bool → ℕ → VolumeRow → Option (List ℕ)
block_value f i r = unless_empty (block_at (fork_of f r) i)

abbrev pub blocks_in_row : VolumeRow → List TableRow
blocks_in_row r = map (λ b. row.Block b) (fork_blocks r)

map-append : {A B : Type 0} (f : A → B) (xs ys : List A) → map f (xs ++ ys) ≡ map f xs ++ map f ys
map-append f [] ys = refl
map-append f (x ∷ xs) ys = ap (λ l. f x ∷ l) (map-append f xs ys)

or_none : (o : Option (List ℕ)) → or_then o None ≡ o
or_none None = refl
or_none (Some v) = refl

other_flag : (id : ℕ) (i j : ℕ) → block_key id true i ≡ block_key id false j → ⊥
other_flag id i j e = absurd (cc (flag_same true false (long_bytes i) (long_bytes j) (key_fork id id true false i j e)).0)

other_flag' : (id : ℕ) (i j : ℕ) → block_key id false i ≡ block_key id true j → ⊥
other_flag' id i j e = absurd (cc (flag_same false true (long_bytes i) (long_bytes j) (key_fork id id false true i j e)).0)

row_found : (r : VolumeRow) (f : Bool) (i : ℕ) → i < 2 ^ 32 → length r.data_fork + length r.resource_fork ≤ 268435456 → found (blocks_in_row r) (block_key r.id f i) ≡ block_value f i r
row_found r f i l few =
    ap (λ xs. found xs (block_key r.id f i)) (map-append (λ b. row.Block b) (map (fork_block_of r.id false) (blocks_of r.data_fork)) (map (fork_block_of r.id true) (blocks_of r.resource_fork)))
    ∙ found-append (block_rows r.id false (blocks_of r.data_fork)) (block_rows r.id true (blocks_of r.resource_fork)) (block_key r.id f i)
    ∙ by f
  where
    by : (f : Bool) → or_then (found (block_rows r.id false (blocks_of r.data_fork)) (block_key r.id f i)) (found (block_rows r.id true (blocks_of r.resource_fork)) (block_key r.id f i)) ≡ block_value f i r
    by true = ap (λ o. or_then o (found (block_rows r.id true (blocks_of r.resource_fork)) (block_key r.id true i))) (others_missed r.id r.id true false i (blocks_of r.data_fork) (λ j. other_flag r.id i j)) ∙ fork_found r.id true r.resource_fork i l (omega (arith, few))
    by false = ap (or_then (found (block_rows r.id false (blocks_of r.data_fork)) (block_key r.id false i))) (others_missed r.id r.id false true i (blocks_of r.resource_fork) (λ j. other_flag' r.id i j)) ∙ or_none (found (block_rows r.id false (blocks_of r.data_fork)) (block_key r.id false i)) ∙ fork_found r.id false r.data_fork i l (omega (arith, few))

row_missed : (r : VolumeRow) (id : ℕ) (f : Bool) (i : ℕ) → (r.id == id) ≡ false → id < 2 ^ 32 → r.id < 2 ^ 32 → found (blocks_in_row r) (block_key id f i) ≡ None
row_missed r id f i other l m =
    let apart : (g : Bool) (j : ℕ) → block_key id f i ≡ block_key r.id g j → ⊥ = λ g j e. absurd (let is : r.id ≡ id = sym (long_same id r.id l m (key_node id r.id f g i j e)) in let b : true ≡ false = sym (eqb-is r.id id is) ∙ other in cc b) in
    ap (λ xs. found xs (block_key id f i)) (map-append (λ b. row.Block b) (map (fork_block_of r.id false) (blocks_of r.data_fork)) (map (fork_block_of r.id true) (blocks_of r.resource_fork)))
    ∙ found-append (block_rows r.id false (blocks_of r.data_fork)) (block_rows r.id true (blocks_of r.resource_fork)) (block_key id f i)
    ∙ ap (λ o. or_then o (found (block_rows r.id true (blocks_of r.resource_fork)) (block_key id f i))) (others_missed id r.id f false i (blocks_of r.data_fork) (apart false))
    ∙ others_missed id r.id f true i (blocks_of r.resource_fork) (apart true)

-- of all rows: the first row of the id has it, and others have no block of it
abbrev pub and_then : {A B : Type 0} → Option A → (A → Option B) → Option B
and_then None f = None
and_then (Some a) f = f a

abbrev pub is_small : VolumeRow → Bool
is_small r = is_long r.id && nat_le (length r.data_fork + length r.resource_fork) 268435456

none_of : (rows : List VolumeRow) (id : ℕ) (f : Bool) (i : ℕ) → id < 2 ^ 32 → list_all is_small rows ≡ true → find (λ (r : VolumeRow). r.id == id) rows ≡ None → found (map (λ b. row.Block b) (flat_map fork_blocks rows)) (block_key id f i) ≡ None
none_of [] id f i l small none = refl
none_of (r ∷ rows) id f i l small none =
    let e = and_parts (is_small r) (list_all is_small rows) small in
    let s = and_parts (is_long r.id) (nat_le (length r.data_fork + length r.resource_fork) 268435456) e.0 in
    let few : r.id < 2 ^ 32 = grind (arith, s.0) in
    ap (λ xs. found xs (block_key id f i)) (map-append (λ b. row.Block b) (fork_blocks r) (flat_map fork_blocks rows))
    ∙ found-append (blocks_in_row r) (map (λ b. row.Block b) (flat_map fork_blocks rows)) (block_key id f i)
    ∙ elim (r.id == id) as (λ t. (r.id == id) ≡ t → cond t (Some r) (find (λ (r : VolumeRow). r.id == id) rows) ≡ None → or_then (found (blocks_in_row r) (block_key id f i)) (found (map (λ b. row.Block b) (flat_map fork_blocks rows)) (block_key id f i)) ≡ None) [
      | true ↦ λ is h. absurd (cc h)
      | false ↦ λ other h. ap (λ o. or_then o (found (map (λ b. row.Block b) (flat_map fork_blocks rows)) (block_key id f i))) (row_missed r id f i other l few) ∙ none_of rows id f i l e.1 h
    ] refl none

no_more : (n id : ℕ) (rows : List VolumeRow) → n ≡ id → not (list_any (λ (b : VolumeRow). n == b.id) rows) ≡ true → find (λ (r : VolumeRow). r.id == id) rows ≡ None
no_more n id [] is h = refl
no_more n id (r ∷ rows) is h = elim (n == r.id) as (λ t. (n == r.id) ≡ t → not (t || list_any (λ (b : VolumeRow). n == b.id) rows) ≡ true → cond (r.id == id) (Some r) (find (λ (r : VolumeRow). r.id == id) rows) ≡ None) [
  | true ↦ λ same k. absurd (cc k)
  | false ↦ λ other k.
      let apart : (r.id == id) ≡ false = grind (arith, other, is) in
      ap (λ t. cond t (Some r) (find (λ (r : VolumeRow). r.id == id) rows)) apart ∙ no_more n id rows is k
] refl h

pub blocks_found : (rows : List VolumeRow) (id : ℕ) (f : Bool) (i : ℕ) → id < 2 ^ 32 → i < 2 ^ 32 → are_apart (λ (a : VolumeRow) b. a.id == b.id) rows ≡ true → list_all is_small rows ≡ true
    → found (map (λ b. row.Block b) (flat_map fork_blocks rows)) (block_key id f i) ≡ and_then (find (λ (r : VolumeRow). r.id == id) rows) (block_value f i)
blocks_found [] id f i l m apart small = refl
blocks_found (r ∷ rows) id f i l m apart small =
    let e = and_parts (is_small r) (list_all is_small rows) small in
    let s = and_parts (is_long r.id) (nat_le (length r.data_fork + length r.resource_fork) 268435456) e.0 in
    let few : r.id < 2 ^ 32 = grind (arith, s.0) in
    let bytes : length r.data_fork + length r.resource_fork ≤ 268435456 = grind (arith, s.1) in
    let a = and_parts (not (list_any (λ (b : VolumeRow). r.id == b.id) rows)) (are_apart (λ (a : VolumeRow) b. a.id == b.id) rows) apart in
    ap (λ xs. found xs (block_key id f i)) (map-append (λ b. row.Block b) (fork_blocks r) (flat_map fork_blocks rows))
    ∙ found-append (blocks_in_row r) (map (λ b. row.Block b) (flat_map fork_blocks rows)) (block_key id f i)
    ∙ elim (r.id == id) as (λ t. (r.id == id) ≡ t → or_then (found (blocks_in_row r) (block_key id f i)) (found (map (λ b. row.Block b) (flat_map fork_blocks rows)) (block_key id f i)) ≡ and_then (cond t (Some r) (find (λ (r : VolumeRow). r.id == id) rows)) (block_value f i)) [
      | true ↦ λ same.
          let is : r.id ≡ id = eqb-true r.id id same in
          ap (or_then (found (blocks_in_row r) (block_key id f i))) (none_of rows id f i l e.1 (no_more r.id id rows is a.0))
          ∙ or_none (found (blocks_in_row r) (block_key id f i))
          ∙ ap (λ n. found (blocks_in_row r) (block_key n f i)) (sym is)
          ∙ row_found r f i m bytes
      | false ↦ λ other. ap (λ o. or_then o (found (map (λ b. row.Block b) (flat_map fork_blocks rows)) (block_key id f i))) (row_missed r id f i other l few) ∙ blocks_found rows id f i l m a.1 e.1
    ] refl
