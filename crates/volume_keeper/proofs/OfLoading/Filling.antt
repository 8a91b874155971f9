-- Forks that are filled block by block have their bytes.
use Rattle.std.proofs.Common.{◌≡◌, ◌∙◌, ℕ, zero, suc, ◌+◌, ◌-◌, ◌*◌, ◌/◌, ◌%◌, ◌<◌, ◌≤◌, Bool, true, false, cond, not, List, [], ◌∷◌, ◌++◌, ◌||◌, map, length, refl, sym, ap, subst, arith, append_assoc, ⊎_elim}
use Rattle.std.specs.Prelude.{Some, None, option_map, max, nat_le, nat_lt, ◌&&◌, ◌==◌, flat_map, replicate, slice_index}
use Rattle.std.specs.List.{find, list_all, list_any}
use Rattle.std.specs.Cmp.{tied_itself}
use Rattle.std.specs.Cmp.Lexicographic.{pointwise, slice_cmp, nat_list_cmp_total}
use Rattle.std.specs.Ordering.{nat_cmp, is_lt}
use Rattle.std.specs.declared.cmp.Ordering.TheVariants.{Less}
use Rattle.std.proofs.lemmas.Bool.{cases_lt, eqb-true, leb-true, and_from}
use Rattle.std.proofs.lemmas.List.{append-nil}
use Rattle.afp_base.specs.ForkBytes.{splice, LeavesBefore, PutsBetween, LeavesBehind, Reaches}
use Rattle.fork_bytes.specs.declared.block.Block.{Block}
use Rattle.afp_base.specs.Limits.{block_size}
use Rattle.fork_bytes.specs.Blocks.{blocks_of, trimmed}
use Rattle.fork_bytes.specs.Kept.{are_rising, byte_at, bytes_in, bytes_of, each_of, is_empty, is_kept}
use Rattle.fork_bytes.specs.Laws.{BytesFromBlocks, HasItsLength, BlocksRise, BlocksAreKept}
use Rattle.volume_spec.specs.VolumeState.{Row as VolumeRow, VolumeState}
use Rattle.volume_spec.specs.Edits.{change_at, with_changed}
use Rattle.volume_spec.specs.Order.{rises_from}
use Rattle.volume_spec.specs.SoundVolume.{IsSoundVolume, is_formed}
use Rattle.volume_spec.specs.Walk.{row_at}
use Rattle.record_keeper.specs.Reading.{IsBelow, RisesByKey}
use Rattle.volume_keeper_records.specs.declared.rows.ForkBlock.{ForkBlock}
use Rattle.volume_keeper_records.specs.declared.rows.TableRow.{TableRow}
use Rattle.volume_keeper_records.specs.declared.rows.TableRow.TheVariants as row
use Rattle.volume_keeper_records.specs.Records.{version, record_of, block_record, block_tag, flag_byte, long_bytes}
use Rattle.volume_keeper_records.specs.Laws.{ImagesRise, TablesSayVolumes}
use Rattle.volume_keeper_records.specs.Image.{fork_block_of, fork_blocks, node_of, rows_of, tables_of}
use Rattle.volume_keeper_records.specs.FromTables.{own, fork_part, piece_of, pieces, row_from}
use Rattle.volume_tree.specs.Filled.{filled, filled_row, FitsFork}
use Rattle.volume_spec.specs.OpenFork.{file_of}
use Rattle.volume_spec.specs.ForkEffect.{fork_of}
use Rattle.volume_tree.specs.Shown.{fork_at}
use Rattle.volume_keeper.specs.loading.lemma.Rebuilt.{FitRows, FitsRow, with_block, with_blocks, without_desktop}
use Rattle.volume_keeper.proofs.OfLoading.SoundRows.{HasFitForks, fit_forks, ids_rise, rows_formed}
use Rattle.volume_keeper.proofs.OfLoading.Zeroed.{find-map, start, zeroed}
use Rattle.afp_base.proofs.Facts.{eqb-itself, left_false, left_true, right_false, right_true}
use Rattle.afp_base.proofs.ListFacts.{all-snoc, any-none}
use Rattle.volume_keeper_records.proofs.RowOrder.{rows_ends}

pub record Laws : Type 0 where
  pub say : TablesSayVolumes
  pub size : HasItsLength
  pub back : BytesFromBlocks
  pub rising : BlocksRise
  pub kept : BlocksAreKept
  pub before : LeavesBefore
  pub between : PutsBetween
  pub behind : LeavesBehind
  pub reaches : Reaches
  pub image : ImagesRise

-- ---- bytes by their places

same_lists : (xs ys : List ℕ) → length xs ≡ length ys → ((k : ℕ) → k < length xs → slice_index xs k ≡ slice_index ys k) → xs ≡ ys
same_lists [] [] l h = refl
same_lists [] (y ∷ ys) l h = absurd (omega arith)
same_lists (x ∷ xs) [] l h = absurd (omega arith)
same_lists (x ∷ xs) (y ∷ ys) l h =
    let rest : length xs ≡ length ys = omega arith in
    λ i. h 0 (omega arith) i ∷ same_lists xs ys rest (λ k b. h (suc k) (omega arith)) i

each_at : (n : ℕ) (f : ℕ → ℕ) (k : ℕ) → k < n → slice_index (each_of n f) k ≡ f k
each_at zero f k h = absurd (omega arith)
each_at (suc n) f zero h = refl
each_at (suc n) f (suc k) h = each_at n (λ j. f (suc j)) k (omega arith)

past_end : (xs : List ℕ) (k : ℕ) → length xs ≤ k → slice_index xs k ≡ 0
past_end [] k h = refl
past_end (x ∷ xs) zero h = absurd (omega arith)
past_end (x ∷ xs) (suc k) h = past_end xs k (omega arith)

zeros : (n : ℕ) (f : ℕ → ℕ) → ((k : ℕ) → f k ≡ 0) → each_of n f ≡ replicate n 0
zeros zero f h = refl
zeros (suc n) f h = λ i. h 0 i ∷ zeros n (λ k. f (suc k)) (λ k. h (suc k)) i

-- ---- one block more

in_absent : (bs : List Block) (i : ℕ) → list_any (λ (c : Block). c.index == i) bs ≡ false → bytes_in bs i ≡ []
in_absent [] i e = refl
in_absent (c ∷ bs) i e = ap (λ b. cond b c.bytes (bytes_in bs i)) (left_false (c.index == i) _ e) ∙ in_absent bs i (right_false (c.index == i) _ e)

in_last : (bs : List Block) (b : Block) → list_any (λ (c : Block). c.index == b.index) bs ≡ false → bytes_in (bs ++ b ∷ []) b.index ≡ b.bytes
in_last [] b e = ap (λ t. cond t b.bytes []) (eqb-itself b.index)
in_last (c ∷ bs) b e = ap (λ t. cond t c.bytes (bytes_in (bs ++ b ∷ []) b.index)) (left_false (c.index == b.index) _ e) ∙ in_last bs b (right_false (c.index == b.index) _ e)

in_other : (bs : List Block) (b : Block) (j : ℕ) → (b.index == j) ≡ false → bytes_in (bs ++ b ∷ []) j ≡ bytes_in bs j
in_other [] b j e = ap (λ t. cond t b.bytes []) e
in_other (c ∷ bs) b j e = elim (c.index == j) as (λ t. cond t c.bytes (bytes_in (bs ++ b ∷ []) j) ≡ cond t c.bytes (bytes_in bs j)) [ true ↦ refl | false ↦ in_other bs b j e ]

max_first : (a b : ℕ) → b ≤ a → max a b ≡ a
max_first a b h = grind (arith, h)

not_same : (a b : ℕ) → a < b → (b == a) ≡ false
not_same a b h = grind (arith, h)

module _ (laws : Laws) (n : ℕ) (bs : List Block) (b : Block) (new : list_any (λ (c : Block). c.index == b.index) bs ≡ false) (within : 4096 * b.index + length b.bytes ≤ n) (short : length b.bytes ≤ 4096) (some : 0 < length b.bytes) where
  at_before : (k : ℕ) → k < n → k < 4096 * b.index → slice_index (splice (bytes_of n bs) (4096 * b.index) b.bytes) k ≡ slice_index (bytes_of n (bs ++ b ∷ [])) k
  at_before k h l =
      let lower : k / 4096 < b.index = omega (arith, l) in
      laws.before (bytes_of n bs) b.bytes (4096 * b.index) k l
      ∙ each_at n (byte_at bs) k h
      ∙ sym (each_at n (byte_at (bs ++ b ∷ [])) k h ∙ ap (λ x. slice_index x (k % 4096)) (in_other bs b (k / 4096) (not_same (k / 4096) b.index lower)))

  at_between : (k : ℕ) → k < n → 4096 * b.index ≤ k → k < 4096 * b.index + length b.bytes → slice_index (splice (bytes_of n bs) (4096 * b.index) b.bytes) k ≡ slice_index (bytes_of n (bs ++ b ∷ [])) k
  at_between k h l m =
      let j : ℕ = k - 4096 * b.index in
      let place : 4096 * b.index + j ≡ k = omega (arith, l) in
      let inside : j < length b.bytes = omega (arith, l, m) in
      let block : k / 4096 ≡ b.index = omega (arith, l, m, short) in
      let rest : k % 4096 ≡ j = omega (arith, l, m, short) in
      ap (slice_index (splice (bytes_of n bs) (4096 * b.index) b.bytes)) (sym place)
      ∙ laws.between (bytes_of n bs) b.bytes (4096 * b.index) j inside
      ∙ sym (each_at n (byte_at (bs ++ b ∷ [])) k h ∙ (λ i. slice_index ((ap (bytes_in (bs ++ b ∷ [])) block ∙ in_last bs b new) i) (rest i)))

  at_behind : (k : ℕ) → k < n → 4096 * b.index + length b.bytes ≤ k → slice_index (splice (bytes_of n bs) (4096 * b.index) b.bytes) k ≡ slice_index (bytes_of n (bs ++ b ∷ [])) k
  at_behind k h l =
      laws.behind (bytes_of n bs) b.bytes (4096 * b.index) k l
      ∙ each_at n (byte_at bs) k h
      ∙ sym (each_at n (byte_at (bs ++ b ∷ [])) k h
      ∙ elim (b.index == k / 4096) as (λ t. b.index == k / 4096 ≡ t → byte_at (bs ++ b ∷ []) k ≡ byte_at bs k) [
        | true ↦ λ e.
            let is : b.index ≡ k / 4096 = eqb-true b.index (k / 4096) e in
            let past : length b.bytes ≤ k % 4096 = omega (arith, is, l) in
            ap (λ x. slice_index x (k % 4096)) (ap (bytes_in (bs ++ b ∷ [])) (sym is) ∙ in_last bs b new)
            ∙ past_end b.bytes (k % 4096) past
            ∙ sym (ap (λ x. slice_index x (k % 4096)) (ap (bytes_in bs) (sym is) ∙ in_absent bs b.index new))
        | false ↦ λ e. ap (λ x. slice_index x (k % 4096)) (in_other bs b (k / 4096) e)
      ] refl)

  pub splice_one : splice (bytes_of n bs) (block_size * b.index) b.bytes ≡ bytes_of n (bs ++ b ∷ [])
  splice_one =
      let old = laws.size n bs in
      let len : length (splice (bytes_of n bs) (4096 * b.index) b.bytes) ≡ n =
      laws.reaches (bytes_of n bs) b.bytes (4096 * b.index) some ∙ ap (λ m. max m (4096 * b.index + length b.bytes)) old ∙ max_first n (4096 * b.index + length b.bytes) within in
      same_lists (splice (bytes_of n bs) (4096 * b.index) b.bytes) (bytes_of n (bs ++ b ∷ [])) (len ∙ sym (laws.size n (bs ++ b ∷ [])))
      (λ k h. let inside : k < n = omega (arith, h, len) in
      ⊎_elim (λ (l : k < 4096 * b.index). at_before k inside l)
      (λ (g : 4096 * b.index ≤ k). ⊎_elim (λ (l : k < 4096 * b.index + length b.bytes). at_between k inside g l) (λ (m : 4096 * b.index + length b.bytes ≤ k). at_behind k inside m) (cases_lt k (4096 * b.index + length b.bytes)))
      (cases_lt k (4096 * b.index)))

-- ---- the blocks of one fork among all

abbrev same_place : ForkBlock → ForkBlock → Bool
same_place b c = ((b.node == c.node) && (flag_byte b.is_resource == flag_byte c.is_resource)) && (c.index == b.index)

pieces_same : (bs : List ForkBlock) (b : ForkBlock) (id k : ℕ) → ((id == b.node) && (k == flag_byte b.is_resource)) ≡ false → pieces (bs ++ b ∷ []) id k ≡ pieces bs id k
pieces_same [] b id k h = elim (id == b.node) as (λ t. (t && (k == flag_byte b.is_resource)) ≡ false → map piece_of (fork_part (cond t (b ∷ []) []) k) ≡ []) [
  | true ↦ λ g. ap (λ t. map piece_of (cond t (b ∷ []) [])) g
  | false ↦ λ g. refl
] h
pieces_same (c ∷ bs) b id k h = elim (id == c.node) as (λ t. map piece_of (fork_part (cond t (c ∷ own (bs ++ b ∷ []) id) (own (bs ++ b ∷ []) id)) k) ≡ map piece_of (fork_part (cond t (c ∷ own bs id) (own bs id)) k)) [
  | true ↦ elim (k == flag_byte c.is_resource) as (λ t. map piece_of (cond t (c ∷ fork_part (own (bs ++ b ∷ []) id) k) (fork_part (own (bs ++ b ∷ []) id) k)) ≡ map piece_of (cond t (c ∷ fork_part (own bs id) k) (fork_part (own bs id) k))) [
    | true ↦ ap (λ l. piece_of c ∷ l) (pieces_same bs b id k h)
    | false ↦ pieces_same bs b id k h
  ]
  | false ↦ pieces_same bs b id k h
]

pieces_put : (bs : List ForkBlock) (b : ForkBlock) (id k : ℕ) → (id == b.node) ≡ true → (k == flag_byte b.is_resource) ≡ true → pieces (bs ++ b ∷ []) id k ≡ pieces bs id k ++ piece_of b ∷ []
pieces_put [] b id k h g = ap (λ t. map piece_of (fork_part (cond t (b ∷ []) []) k)) h ∙ ap (λ t. map piece_of (cond t (b ∷ []) [])) g
pieces_put (c ∷ bs) b id k h g = elim (id == c.node) as (λ t. map piece_of (fork_part (cond t (c ∷ own (bs ++ b ∷ []) id) (own (bs ++ b ∷ []) id)) k) ≡ map piece_of (fork_part (cond t (c ∷ own bs id) (own bs id)) k) ++ piece_of b ∷ []) [
  | true ↦ elim (k == flag_byte c.is_resource) as (λ t. map piece_of (cond t (c ∷ fork_part (own (bs ++ b ∷ []) id) k) (fork_part (own (bs ++ b ∷ []) id) k)) ≡ map piece_of (cond t (c ∷ fork_part (own bs id) k) (fork_part (own bs id) k)) ++ piece_of b ∷ []) [
    | true ↦ ap (λ l. piece_of c ∷ l) (pieces_put bs b id k h g)
    | false ↦ pieces_put bs b id k h g
  ]
  | false ↦ pieces_put bs b id k h g
]

pieces_new : (bs : List ForkBlock) (b : ForkBlock) → list_any (same_place b) bs ≡ false → list_any (λ (c : Block). c.index == b.index) (pieces bs b.node (flag_byte b.is_resource)) ≡ false
pieces_new [] b e = refl
pieces_new (c ∷ bs) b e =
    let rest = pieces_new bs b (right_false (same_place b c) _ e) in
    elim (b.node == c.node) as (λ t. ((t && (flag_byte b.is_resource == flag_byte c.is_resource)) && (c.index == b.index)) ≡ false → list_any (λ (c : Block). c.index == b.index) (map piece_of (fork_part (cond t (c ∷ own bs b.node) (own bs b.node)) (flag_byte b.is_resource))) ≡ false) [
      | true ↦ elim (flag_byte b.is_resource == flag_byte c.is_resource) as (λ t. (t && (c.index == b.index)) ≡ false → list_any (λ (c : Block). c.index == b.index) (map piece_of (cond t (c ∷ fork_part (own bs b.node) (flag_byte b.is_resource)) (fork_part (own bs b.node) (flag_byte b.is_resource)))) ≡ false) [
        | true ↦ λ h. ap (λ t. t || list_any (λ (c : Block). c.index == b.index) (pieces bs b.node (flag_byte b.is_resource))) h ∙ rest
        | false ↦ λ h. rest
      ]
      | false ↦ λ h. rest
    ] (left_false (same_place b c) _ e)

-- ---- one block more of a volume

-- a volume's tree with some of the blocks of its forks
abbrev with_some : VolumeState → List ForkBlock → VolumeState
with_some v bs = record v { rows = map (row_from bs) (map (node_of version) v.rows); comments = []; icons = []; appls = [] }

-- each row of the block's id has room for it
abbrev RowsFit : ForkBlock → List VolumeRow → Type 0
RowsFit b [] = Unit {0}
RowsFit b (x ∷ rows) = ((x.id == b.node) ≡ true → 4096 * b.index + length b.bytes ≤ length (fork_of b.is_resource x)) × RowsFit b rows

record HasPlace (v : VolumeState) (b : ForkBlock) : Type 0 where
  found : VolumeRow
  here : row_at v.rows b.node ≡ Some found
  file : found.dir ≡ false
  within : 4096 * b.index + length b.bytes ≤ length (fork_of b.is_resource found)
  rows : RowsFit b v.rows
  short : length b.bytes ≤ 4096
  some : 0 < length b.bytes

module _ (laws : Laws) (bs : List ForkBlock) (b : ForkBlock) (new : list_any (same_place b) bs ≡ false) (short : length b.bytes ≤ 4096) (some : 0 < length b.bytes) where
  data_more : (x : VolumeRow) → (x.id == b.node) ≡ true → b.is_resource ≡ false → 4096 * b.index + length b.bytes ≤ length x.data_fork
      → splice (bytes_of (length x.data_fork) (pieces bs x.id 0)) (block_size * b.index) b.bytes ≡ bytes_of (length x.data_fork) (pieces (bs ++ b ∷ []) x.id 0)
  data_more x e f w =
      let is : x.id ≡ b.node = eqb-true x.id b.node e in
      let flag : flag_byte b.is_resource ≡ 0 = ap flag_byte f in
      let free : list_any (λ (c : Block). c.index == b.index) (pieces bs x.id 0) ≡ false = (λ i. list_any (λ (c : Block). c.index == b.index) (pieces bs (is i) (sym flag i))) ∙ pieces_new bs b new in
      splice_one laws (length x.data_fork) (pieces bs x.id 0) (piece_of b) free w short some
      ∙ ap (bytes_of (length x.data_fork)) (sym (pieces_put bs b x.id 0 e (ap (λ n. 0 == n) flag)))

  resource_more : (x : VolumeRow) → (x.id == b.node) ≡ true → b.is_resource ≡ true → 4096 * b.index + length b.bytes ≤ length x.resource_fork
      → splice (bytes_of (length x.resource_fork) (pieces bs x.id 1)) (block_size * b.index) b.bytes ≡ bytes_of (length x.resource_fork) (pieces (bs ++ b ∷ []) x.id 1)
  resource_more x e f w =
      let is : x.id ≡ b.node = eqb-true x.id b.node e in
      let flag : flag_byte b.is_resource ≡ 1 = ap flag_byte f in
      let free : list_any (λ (c : Block). c.index == b.index) (pieces bs x.id 1) ≡ false = (λ i. list_any (λ (c : Block). c.index == b.index) (pieces bs (is i) (sym flag i))) ∙ pieces_new bs b new in
      splice_one laws (length x.resource_fork) (pieces bs x.id 1) (piece_of b) free w short some
      ∙ ap (bytes_of (length x.resource_fork)) (sym (pieces_put bs b x.id 1 e (ap (λ n. 1 == n) flag)))

  file_more : (x : VolumeRow) (f : Bool) → b.is_resource ≡ f → (x.id == b.node) ≡ true → 4096 * b.index + length b.bytes ≤ length (fork_of f x) → filled_row f b.index b.bytes (row_from bs (node_of version x)) ≡ row_from (bs ++ b ∷ []) (node_of version x)
  file_more x true f e w =
      let other = pieces_same bs b x.id 0 (ap (λ t. t && (0 == flag_byte b.is_resource)) e ∙ ap (λ r. 0 == flag_byte r) f) in
      λ i. record (row_from bs (node_of version x)) { data_fork = bytes_of (length x.data_fork) (sym other i); resource_fork = resource_more x e f w i }
  file_more x false f e w =
      let other = pieces_same bs b x.id 1 (ap (λ t. t && (1 == flag_byte b.is_resource)) e ∙ ap (λ r. 1 == flag_byte r) f) in
      λ i. record (row_from bs (node_of version x)) { data_fork = data_more x e f w i; resource_fork = bytes_of (length x.resource_fork) (sym other i) }

  row_more : (x : VolumeRow) → ((x.id == b.node) ≡ true → 4096 * b.index + length b.bytes ≤ length (fork_of b.is_resource x)) → change_at b.node (filled_row b.is_resource b.index b.bytes) (row_from bs (node_of version x)) ≡ row_from (bs ++ b ∷ []) (node_of version x)
  row_more x w = elim (x.id == b.node) as (λ t. x.id == b.node ≡ t → cond t (filled_row b.is_resource b.index b.bytes (row_from bs (node_of version x))) (row_from bs (node_of version x)) ≡ row_from (bs ++ b ∷ []) (node_of version x)) [
    | true ↦ λ e. file_more x b.is_resource refl e (w e)
    | false ↦ λ e.
        let zero_same = pieces_same bs b x.id 0 (ap (λ t. t && (0 == flag_byte b.is_resource)) e) in
        let one_same = pieces_same bs b x.id 1 (ap (λ t. t && (1 == flag_byte b.is_resource)) e) in
        λ i. record (row_from bs (node_of version x)) { data_fork = bytes_of (length x.data_fork) (sym zero_same i); resource_fork = bytes_of (length x.resource_fork) (sym one_same i) }
  ] refl

  rows_more : (rows : List VolumeRow) → RowsFit b rows → with_changed b.node (filled_row b.is_resource b.index b.bytes) (map (row_from bs) (map (node_of version) rows)) ≡ map (row_from (bs ++ b ∷ [])) (map (node_of version) rows)
  unfolding with_changed
  rows_more [] w = refl
  rows_more (x ∷ rows) w = λ i. row_more x w.0 i ∷ rows_more rows w.1 i

  block_more : (v : VolumeState) → RowsFit b v.rows → filled b.node b.is_resource b.index b.bytes (with_some v bs) ≡ with_some v (bs ++ b ∷ [])
  unfolding filled
  block_more v w = λ i. record (with_some v bs) { rows = rows_more v.rows w i }

length_from : (laws : Laws) (bs : List ForkBlock) (f : Bool) (x : VolumeRow) → length (fork_of f (row_from bs (node_of version x))) ≡ length (fork_of f x)
length_from laws bs true x = laws.size (length x.resource_fork) (pieces bs x.id 1)
length_from laws bs false x = laws.size (length x.data_fork) (pieces bs x.id 0)

fork_there : (v : VolumeState) (bs : List ForkBlock) (id : ℕ) (f : Bool) (x : VolumeRow) → row_at v.rows id ≡ Some x → x.dir ≡ false → fork_at (with_some v bs).rows id f ≡ Some (fork_of f (row_from bs (node_of version x)))
unfolding fork_at row_at
fork_there v bs id f x e d =
    ap (λ o. option_map (fork_of f) (file_of o))
    (find-map (λ (r : VolumeRow). r.id == id) (row_from bs) (map (node_of version) v.rows)
    ∙ ap (option_map (row_from bs)) (find-map (λ n. (row_from bs n).id == id) (node_of version) v.rows)
    ∙ ap (λ o. option_map (row_from bs) (option_map (node_of version) o)) e)
    ∙ ap (λ t. option_map (fork_of f) (cond t None (Some (row_from bs (node_of version x))))) d

fits_more : (laws : Laws) (v : VolumeState) (bs : List ForkBlock) (b : ForkBlock) → HasPlace v b → FitsFork (with_some v bs) b.node b.is_resource b.index b.bytes
fits_more laws v bs b place = record {
  bytes = fork_of b.is_resource (row_from bs (node_of version place.found));
  there = fork_there v bs b.node b.is_resource place.found place.here place.file;
  short = place.short;
  within = subst (λ n. 4096 * b.index + length b.bytes ≤ n) (sym (length_from laws bs b.is_resource place.found)) place.within;
}

-- ---- all blocks, one after the other

abbrev EachPlace : VolumeState → List ForkBlock → Type 0
EachPlace v [] = Unit {0}
EachPlace v (b ∷ bs) = HasPlace v b × EachPlace v bs

abbrev AllNew : List ForkBlock → List ForkBlock → Type 0
AllNew done [] = Unit {0}
AllNew done (b ∷ bs) = (list_any (same_place b) done ≡ false) × AllNew (done ++ b ∷ []) bs

fill_from : (laws : Laws) (v : VolumeState) (done bs : List ForkBlock) → EachPlace v bs → AllNew done bs
    → FitRows (map (λ b. row.Block b) bs) (with_some v done) × (with_blocks (map (λ b. row.Block b) bs) (with_some v done) ≡ with_some v (done ++ bs))
fill_from laws v done [] p n = (tt, ap (with_some v) (sym (append-nil done)))
fill_from laws v done (b ∷ bs) p n =
    let step = block_more laws done b n.0 p.0.short p.0.some v p.0.rows in
    let rest = fill_from laws v (done ++ b ∷ []) bs p.1 n.1 in (
      (fits_more laws v done b p.0, subst (FitRows (map (λ b. row.Block b) bs)) (sym step) rest.0),
      ap (with_blocks (map (λ b. row.Block b) bs)) step ∙ rest.1 ∙ ap (with_some v) (append_assoc done (b ∷ []) bs),
    )

-- ---- no block stands twice

abbrev Apart : List ForkBlock → Type 0
Apart [] = Unit {0}
Apart (b ∷ bs) = (list_all (λ c. not (same_place c b)) bs ≡ true) × Apart bs

key_same : (b c : ForkBlock) → same_place c b ≡ true → (record_of (row.Block b)).key ≡ (record_of (row.Block c)).key
unfolding block_record
key_same b c e =
    let two = left_true ((c.node == b.node) && (flag_byte c.is_resource == flag_byte b.is_resource)) _ e in
    let node : c.node ≡ b.node = eqb-true _ _ (left_true (c.node == b.node) _ two) in
    let flag : flag_byte c.is_resource ≡ flag_byte b.is_resource = eqb-true _ _ (right_true (c.node == b.node) _ two) in
    let index : b.index ≡ c.index = eqb-true _ _ (right_true ((c.node == b.node) && (flag_byte c.is_resource == flag_byte b.is_resource)) _ e) in
    λ i. block_tag ∷ (long_bytes (sym node i) ++ (sym flag i ∷ long_bytes (index i)))

not_there : (b c : ForkBlock) → slice_cmp nat_cmp (record_of (row.Block b)).key (record_of (row.Block c)).key ≡ Less → not (same_place c b) ≡ true
not_there b c less = elim (same_place c b) as (λ t. same_place c b ≡ t → not t ≡ true) [
  | true ↦ λ e. absurd (let k : true ≡ false = sym (ap is_lt less) ∙ ap (λ x. is_lt (slice_cmp nat_cmp x (record_of (row.Block c)).key)) (key_same b c e) ∙ ap is_lt (tied_itself nat_list_cmp_total (record_of (row.Block c)).key) in cc k)
  | false ↦ λ e. refl
] refl

all_later : (b : ForkBlock) (bs : List ForkBlock) → IsBelow (record_of (row.Block b)).key (map record_of (map (λ b. row.Block b) bs)) → list_all (λ c. not (same_place c b)) bs ≡ true
all_later b [] s = refl
all_later b (c ∷ bs) s = and_from (not (same_place c b)) _ (not_there b c s.0) (all_later b bs s.1)

apart_blocks : (bs : List ForkBlock) → RisesByKey (map record_of (map (λ b. row.Block b) bs)) → Apart bs
apart_blocks [] s = tt
apart_blocks (b ∷ bs) s = (all_later b bs s.0, apart_blocks bs s.1)

abbrev free_of : List ForkBlock → ForkBlock → Bool
free_of done c = list_all (λ d. not (same_place c d)) done

later_free : (b : ForkBlock) (done bs : List ForkBlock) → list_all (free_of done) bs ≡ true → list_all (λ c. not (same_place c b)) bs ≡ true → list_all (free_of (done ++ b ∷ [])) bs ≡ true
later_free b done [] e h = refl
later_free b done (c ∷ bs) e h = and_from _ _ (all-snoc (λ d. not (same_place c d)) done b (left_true (free_of done c) _ e) (left_true (not (same_place c b)) _ h)) (later_free b done bs (right_true (free_of done c) _ e) (right_true (not (same_place c b)) _ h))

all_new : (done bs : List ForkBlock) → list_all (free_of done) bs ≡ true → Apart bs → AllNew done bs
all_new done [] e a = tt
all_new done (b ∷ bs) e a = (any-none (same_place b) done (left_true (free_of done b) _ e), all_new (done ++ b ∷ []) bs (later_free b done bs (right_true (free_of done b) _ e) a.0) a.1)

none_done : (bs : List ForkBlock) → list_all (free_of []) bs ≡ true
none_done [] = refl
none_done (b ∷ bs) = none_done bs

-- ---- each block has its place

abbrev OnlyAt : VolumeRow → List VolumeRow → Type 0
OnlyAt r [] = Unit {0}
OnlyAt r (x ∷ rows) = ((x.id == r.id) ≡ true → x ≡ r) × OnlyAt r rows

abbrev EachOne : List VolumeRow → List VolumeRow → Type 0
EachOne all [] = Unit {0}
EachOne all (r ∷ rows) = (find (λ (x : VolumeRow). x.id == r.id) all ≡ Some r) × OnlyAt r all × EachOne all rows

only_low : (r : VolumeRow) (low : ℕ) (rows : List VolumeRow) → r.id ≤ low → rises_from (λ (x : VolumeRow). x.id) low rows ≡ true → OnlyAt r rows
only_low r low [] h e = tt
only_low r low (x ∷ rows) h e =
    let up : nat_lt low x.id ≡ true = left_true (nat_lt low x.id) _ e in
    let far : r.id < x.id = grind (arith, h, up) in
    (λ t. absurd (let same = eqb-true x.id r.id t in omega (arith, far, same)), only_low r x.id rows (omega (arith, far)) (right_true (nat_lt low x.id) _ e))

one_behind : (x : VolumeRow) (all : List VolumeRow) (low : ℕ) (rows : List VolumeRow) → x.id ≤ low → rises_from (λ (y : VolumeRow). y.id) low rows ≡ true → EachOne all rows → EachOne (x ∷ all) rows
one_behind x all low [] h e o = tt
one_behind x all low (r ∷ rows) h e o =
    let up : nat_lt low r.id ≡ true = left_true (nat_lt low r.id) _ e in
    let far : x.id < r.id = grind (arith, h, up) in
    let differs : (x.id == r.id) ≡ false = grind (arith, far) in (
      ap (λ b. cond b (Some x) (find (λ (y : VolumeRow). y.id == r.id) all)) differs ∙ o.0,
      (λ t. absurd (let same = eqb-true x.id r.id t in omega (arith, far, same)), o.1),
      one_behind x all r.id rows (omega (arith, far)) (right_true (nat_lt low r.id) _ e) o.2,
    )

each_one : (low : ℕ) (rows : List VolumeRow) → rises_from (λ (x : VolumeRow). x.id) low rows ≡ true → EachOne rows rows
each_one low [] e = tt
each_one low (r ∷ rows) e =
    let rest = right_true (nat_lt low r.id) _ e in (
      ap (λ b. cond b (Some r) (find (λ (x : VolumeRow). x.id == r.id) rows)) (eqb-itself r.id),
      (λ t. refl, only_low r r.id rows (omega arith) rest),
      one_behind r rows r.id rows (omega arith) rest (each_one r.id rows rest),
    )

rows_fit : (r : VolumeRow) (b : ForkBlock) → b.node ≡ r.id → 4096 * b.index + length b.bytes ≤ length (fork_of b.is_resource r) → (rows : List VolumeRow) → OnlyAt r rows → RowsFit b rows
rows_fit r b e w [] o = tt
rows_fit r b e w (x ∷ rows) o = (λ t. subst (λ (y : VolumeRow). 4096 * b.index + length b.bytes ≤ length (fork_of b.is_resource y)) (sym (o.0 (ap (λ n. x.id == n) (sym e) ∙ t))) w, rows_fit r b e w rows o.1)

some_bytes : (bytes : List ℕ) → not (is_empty bytes) ≡ true → 0 < length bytes
some_bytes [] e = absurd (cc)
some_bytes (b ∷ bs) e = omega arith

module _ (v : VolumeState) (r : VolumeRow) (here : row_at v.rows r.id ≡ Some r) (only : OnlyAt r v.rows) (file : r.dir ≡ false) where
  one_place : (f : Bool) (b : Block) → not (is_empty b.bytes) ≡ true → is_kept (length (fork_of f r)) b ≡ true → HasPlace v (fork_block_of r.id f b)
  one_place f b some kept =
      let sizes = right_true (pointwise (λ m n. m == n) (trimmed b.bytes) b.bytes) _ kept in
      let short : nat_le (length b.bytes) block_size ≡ true = left_true (nat_le (length b.bytes) block_size) _ sizes in
      let inside : nat_le (block_size * b.index + length b.bytes) (length (fork_of f r)) ≡ true = right_true (nat_le (length b.bytes) block_size) _ sizes in
      let within : 4096 * b.index + length b.bytes ≤ length (fork_of f r) = leb-true _ _ inside in
      record {
        found = r;
        here = here;
        file = file;
        within = within;
        rows = rows_fit r (fork_block_of r.id f b) refl within v.rows only;
        short = leb-true _ _ short;
        some = some_bytes b.bytes some;
      }

  fork_places : (f : Bool) (bs : List Block) → are_rising bs ≡ true → list_all (is_kept (length (fork_of f r))) bs ≡ true → (rest : List ForkBlock) → EachPlace v rest → EachPlace v (map (fork_block_of r.id f) bs ++ rest)
  fork_places f [] s k rest p = p
  fork_places f (b ∷ bs) s k rest p = (
    one_place f b (left_true (not (is_empty b.bytes)) _ s) (left_true (is_kept (length (fork_of f r)) b) _ k),
    fork_places f bs (right_true (list_all (λ (c : Block). nat_lt b.index c.index) bs) _ (right_true (not (is_empty b.bytes)) _ s)) (right_true (is_kept (length (fork_of f r)) b) _ k) rest p,
  )

row_places : (laws : Laws) (v : VolumeState) (r : VolumeRow) → row_at v.rows r.id ≡ Some r → OnlyAt r v.rows → HasFitForks r → (rest : List ForkBlock) → EachPlace v rest → EachPlace v (fork_blocks r ++ rest)
row_places laws v r here only fit rest p = elim r.dir as (λ d. r.dir ≡ d → EachPlace v (fork_blocks r ++ rest)) [
  | true ↦ λ d. let none = fit d in subst (λ l. EachPlace v (l ++ rest)) (sym (λ i. map (fork_block_of r.id false) (blocks_of (none.0 i)) ++ map (fork_block_of r.id true) (blocks_of (none.1 i)))) p
  | false ↦ λ d. subst (EachPlace v) (sym (append_assoc (map (fork_block_of r.id false) (blocks_of r.data_fork)) (map (fork_block_of r.id true) (blocks_of r.resource_fork)) rest))
      (fork_places v r here only d false (blocks_of r.data_fork) (laws.rising r.data_fork) (laws.kept r.data_fork) (map (fork_block_of r.id true) (blocks_of r.resource_fork) ++ rest)
      (fork_places v r here only d true (blocks_of r.resource_fork) (laws.rising r.resource_fork) (laws.kept r.resource_fork) rest p))
] refl

all_places : (laws : Laws) (v : VolumeState) (rows : List VolumeRow) → EachOne v.rows rows → list_all is_formed rows ≡ true → EachPlace v (flat_map fork_blocks rows)
unfolding row_at
all_places laws v [] o f = tt
all_places laws v (r ∷ rows) o f = row_places laws v r o.0 o.1 (fit_forks r (left_true (is_formed r) _ f)) (flat_map fork_blocks rows) (all_places laws v rows o.2 (right_true (is_formed r) _ f))

-- ---- all rows

fit-append : (xs ys : List TableRow) (v : VolumeState) → FitRows xs v → FitRows ys (with_blocks xs v) → FitRows (xs ++ ys) v
fit-append [] ys v f g = g
fit-append (x ∷ xs) ys v f g = (f.0, fit-append xs ys (with_block x v) f.1 g)

with-append : (xs ys : List TableRow) (v : VolumeState) → with_blocks (xs ++ ys) v ≡ with_blocks ys (with_blocks xs v)
with-append [] ys v = refl
with-append (x ∷ xs) ys v = with-append xs ys (with_block x v)

module _ {A : Type 0} (make : A → TableRow) (fits : (a : A) (w : VolumeState) → FitsRow (make a) w) (same : (a : A) (w : VolumeState) → with_block (make a) w ≡ w) where
  with-none : (xs : List A) (w : VolumeState) → with_blocks (map make xs) w ≡ w
  with-none [] w = refl
  with-none (x ∷ xs) w = ap (with_blocks (map make xs)) (same x w) ∙ with-none xs w

  fit-none : (xs : List A) (w : VolumeState) → FitRows (map make xs) w
  fit-none [] w = tt
  fit-none (x ∷ xs) w = (fits x w, fit-none xs (with_block (make x) w))

begun : (v : VolumeState) → start v ≡ with_some v []
begun v = λ i. record (start v) { rows = each v.rows i }
  where
    each : (rows : List VolumeRow) → map zeroed rows ≡ map (row_from []) (map (node_of version) rows)
    each [] = refl
    each (r ∷ rows) = λ i. record r { data_fork = sym (zeros (length r.data_fork) (byte_at []) (λ k. refl)) i; resource_fork = sym (zeros (length r.resource_fork) (byte_at []) (λ k. refl)) i } ∷ each rows i

ended : (laws : Laws) (v : VolumeState) → IsSoundVolume v → with_some v (flat_map fork_blocks v.rows) ≡ without_desktop v
ended laws v sound = ap without_desktop (laws.say v sound)

module _ (laws : Laws) (v : VolumeState) (sound : IsSoundVolume v) where
  abbrev blocks : List ForkBlock
  blocks = flat_map fork_blocks v.rows

  abbrev nodes_rows : List TableRow
  nodes_rows = map (λ n. row.Node n) (map (node_of version) v.rows)

  abbrev block_rows : List TableRow
  block_rows = map (λ b. row.Block b) (flat_map fork_blocks v.rows)

  abbrev others : List TableRow
  others = map (λ c. row.Comment c) v.comments ++ (map (λ i. row.Icon i) v.icons ++ map (λ a. row.Appl a) v.appls)

  rising_blocks : RisesByKey (map record_of block_rows)
  rising_blocks = (rows_ends block_rows others (rows_ends nodes_rows (block_rows ++ others) (laws.image v version sound).1).1).0

  pub filled_from : FitRows block_rows (with_some v []) × (with_blocks block_rows (with_some v []) ≡ with_some v blocks)
  filled_from = fill_from laws v [] blocks (all_places laws v v.rows (each_one 0 v.rows (ids_rise v sound)) (rows_formed v sound)) (all_new [] blocks (none_done blocks) (apart_blocks blocks rising_blocks))

  nodes_none : (w : VolumeState) → with_blocks nodes_rows w ≡ w
  nodes_none w = with-none (λ n. row.Node n) (λ n w. tt) (λ n w. refl) (map (node_of version) v.rows) w

  others_none : (w : VolumeState) → with_blocks others w ≡ w
  others_none w =
      with-append (map (λ c. row.Comment c) v.comments) (map (λ i. row.Icon i) v.icons ++ map (λ a. row.Appl a) v.appls) w
      ∙ ap (with_blocks (map (λ i. row.Icon i) v.icons ++ map (λ a. row.Appl a) v.appls)) (with-none (λ c. row.Comment c) (λ c w. tt) (λ c w. refl) v.comments w)
      ∙ with-append (map (λ i. row.Icon i) v.icons) (map (λ a. row.Appl a) v.appls) w
      ∙ ap (with_blocks (map (λ a. row.Appl a) v.appls)) (with-none (λ i. row.Icon i) (λ i w. tt) (λ i w. refl) v.icons w)
      ∙ with-none (λ a. row.Appl a) (λ a w. tt) (λ a w. refl) v.appls w

  others_fit : (w : VolumeState) → FitRows others w
  others_fit w =
      fit-append (map (λ c. row.Comment c) v.comments) (map (λ i. row.Icon i) v.icons ++ map (λ a. row.Appl a) v.appls) w (fit-none (λ c. row.Comment c) (λ c w. tt) (λ c w. refl) v.comments w)
      (fit-append (map (λ i. row.Icon i) v.icons) (map (λ a. row.Appl a) v.appls) _ (fit-none (λ i. row.Icon i) (λ i w. tt) (λ i w. refl) v.icons _) (fit-none (λ a. row.Appl a) (λ a w. tt) (λ a w. refl) v.appls _))

  pub all_fit : FitRows (rows_of (tables_of version v)) (start v)
  all_fit = subst (FitRows (rows_of (tables_of version v))) (sym (begun v)) (
    tt,
    fit-append nodes_rows (block_rows ++ others) (with_some v []) (fit-none (λ n. row.Node n) (λ n w. tt) (λ n w. refl) (map (node_of version) v.rows) (with_some v []))
        (subst (FitRows (block_rows ++ others)) (sym (nodes_none (with_some v []))) (fit-append block_rows others (with_some v []) filled_from.0 (others_fit (with_blocks block_rows (with_some v []))))),
  )

  pub all_filled : with_blocks (rows_of (tables_of version v)) (start v) ≡ without_desktop v
  all_filled =
      ap (with_blocks (nodes_rows ++ (block_rows ++ others))) (begun v)
      ∙ with-append nodes_rows (block_rows ++ others) (with_some v [])
      ∙ ap (with_blocks (block_rows ++ others)) (nodes_none (with_some v []))
      ∙ with-append block_rows others (with_some v [])
      ∙ others_none (with_blocks block_rows (with_some v []))
      ∙ filled_from.1 ∙ ended laws v sound
