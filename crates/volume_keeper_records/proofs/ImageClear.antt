-- The tables of a sound volume are whole: its blocks, its other rows, their order and their number.
use Rattle.std.proofs.Common.{◌≡◌, ◌∙◌, ℕ, ◌+◌, ◌*◌, ◌≤◌, Bool, true, false, cond, not, List, [], ◌∷◌, ◌++◌, map, length, refl, sym, ap, arith, length-append}
use Rattle.std.specs.Prelude.{nat_le, nat_lt, ◌&&◌, ◌||◌, ◌==◌, bytes_eq, bit_and, flat_map, unwrap_or, Some, None}
use Rattle.std.specs.List.{list_all, filter}
use Rattle.std.proofs.lemmas.Bool.{and_from, eq-eqb, eqb-true, le-ltb, leb-true}
use Rattle.std.proofs.lemmas.List.Folds.{list_all-map}
use Rattle.fork_bytes.specs.declared.block.Block.{Block}
use Rattle.afp_base.specs.Limits.{block_size, most_fork_bytes}
use Rattle.fork_bytes.specs.Blocks.{blocks_of, trimmed}
use Rattle.fork_bytes.specs.Kept.{is_kept, is_empty}
use Rattle.volume_spec.specs.VolumeState.{Comment, Icon, Appl, VolumeState, root_id, Row as VolumeRow, guest, new_privileges}
use Rattle.volume_spec.specs.Order.{stands_before}
use Rattle.volume_spec.specs.SoundVolume.{IsSoundVolume, is_named, file_attributes, dir_attributes, is_in_place, has_node, has_file, is_comment, is_icon, icon_key, appl_key, most_icons, most_appls, code_size, is_formed as is_formed_row, has_fit_privileges}
use Rattle.volume_spec.specs.TypedVolume.{is_word, are_bytes, is_typed_row, is_typed_comment, is_typed_icon, is_typed_appl, is_typed_volume}
use Rattle.volume_keeper_records.specs.declared.rows.Node.{Node}
use Rattle.volume_keeper_records.specs.declared.rows.ForkBlock.{ForkBlock}
use Rattle.volume_keeper_records.specs.declared.rows.TableRow.{TableRow}
use Rattle.volume_keeper_records.specs.declared.rows.TableRow.TheVariants as row
use Rattle.volume_keeper_records.specs.Shape.{is_formed_record, is_formed_node, is_formed_block, is_sound_head}
use Rattle.volume_keeper_records.specs.Image.{Tables, rows_of, tables_of, node_of, fork_block_of, fork_blocks}
use Rattle.record_keeper.specs.Reading.{most_records}
use Rattle.volume_keeper_records.specs.FirstBad.{fork_length, is_out_of_range}
use Rattle.volume_keeper_records.proofs.Chains.{chain-map}
use Rattle.volume_keeper_records.proofs.Counts.{no_more, sum_each, length-flat}
use Rattle.volume_keeper_records.proofs.Whole.{IsWhole, is_clear}
use Rattle.volume_keeper_records.proofs.Facts.{EachKind, all_kinds, free_clear}
use Rattle.volume_keeper_records.proofs.ForkParts.{ForkLaw, volume_of}
use Rattle.volume_keeper_records.proofs.VolumeTables.{reaches_past}
use Rattle.volume_keeper_records.proofs.VolumeSound.{alike, no_twins}
use Rattle.volume_keeper_records.proofs.ReadBack.{node_parts}
use Rattle.volume_keeper_records.proofs.SoundFacts.{SoundFacts, sound_facts, TypedFacts, typed_facts}
use Rattle.volume_keeper_records.proofs.ImageBlocks.{is_whole_block, whole_blocks, one_formed, all-pass, owns_from, rows_again, few_of_row}
use Rattle.volume_keeper_records.proofs.ImageRises.{image_rises}
use Rattle.volume_keeper_records.proofs.ImageWhole.{is_good_row, is_known_row, same_forks, fork_of, node_formed, nodes_same, files_same, node_placed, node_inside, node_few, no_twins_apart, apart_nodes, one_row, each_there, node_labelled}
use Rattle.afp_base.proofs.Facts.{cases, left_true, right_true}
use Rattle.afp_base.proofs.ListFacts.{all-always, all-and, all-append, all-weaker, any-map, any-none, length-filter-le, length-mapped, nil_from_no_length}
use Rattle.volume_keeper_records.specs.Records.{old_version}
use Rattle.volume_spec.proofs.TypedEdits.{TypedRow, row-parts}

-- ---- each row is known

pub known_rows : (v : VolumeState) → SoundFacts v → TypedFacts v → list_all (is_known_row v) v.rows ≡ true
known_rows v s t =
    all-and (is_good_row v) (λ r. list_all (same_forks r) v.rows && (r.dir || has_file v.rows r.id)) v.rows
    (all-and (λ r. is_typed_row r && is_formed_row r) (λ r. is_in_place v r && nat_le (length r.data_fork + length r.resource_fork) most_fork_bytes) v.rows
    (all-and is_typed_row is_formed_row v.rows t.rows s.formed)
    (all-and (is_in_place v) (λ r. nat_le (length r.data_fork + length r.resource_fork) most_fork_bytes) v.rows s.places (sum_each (λ (r : VolumeRow). length r.data_fork + length r.resource_fork) v.rows most_fork_bytes s.few_bytes)))
    (all-and (λ r. list_all (same_forks r) v.rows) (λ r. r.dir || has_file v.rows r.id) v.rows (one_row v.rows s.ids) (each_there v.rows))

-- ---- the blocks of a row

-- what is wanted of each block: its shape, and that no rule holds of it
abbrev pub is_fine_block : Tables → ForkBlock → Bool
is_fine_block t b = is_formed_block b && is_clear t (row.Block b)

long_as : (version : ℕ) (b : Bool) (r o : VolumeRow) → same_forks r o ≡ true → (o.id == r.id) ≡ true → fork_length b (node_of version o) ≡ length (fork_of b r)
long_as version b r o s e =
    let both : ((length o.data_fork == length r.data_fork) && (length o.resource_fork == length r.resource_fork)) ≡ true = ap (λ t. not t || ((length o.data_fork == length r.data_fork) && (length o.resource_fork == length r.resource_fork))) (sym e) ∙ s in
    elim b as (λ b. fork_length b (node_of version o) ≡ length (fork_of b r)) [
      | true ↦ eqb-true _ _ (right_true (length o.data_fork == length r.data_fork) (length o.resource_fork == length r.resource_fork) both)
      | false ↦ eqb-true _ _ (left_true (length o.data_fork == length r.data_fork) (length o.resource_fork == length r.resource_fork) both)
    ]

fork_typed : (r : VolumeRow) (f : Bool) → is_typed_row r ≡ true → are_bytes (fork_of f r) ≡ true
fork_typed r f t =
    let p : TypedRow r = row-parts r t in
    elim f as (λ f. are_bytes (fork_of f r) ≡ true) [ true ↦ p.resource_fork | false ↦ p.data_fork ]

pub formed_none : (d named attr_d attr_f filed x y : Bool) → d ≡ true → (named && cond d (attr_d && (x && (y && not filed))) attr_f) ≡ true → (x ≡ true) × (y ≡ true)
formed_none true true true attr_f filed true true d e = (refl, refl)
formed_none true true true attr_f filed true false d e = absurd (cc)
formed_none true true true attr_f filed false y d e = absurd (cc)
formed_none true true false attr_f filed x y d e = absurd (cc)
formed_none true false attr_d attr_f filed x y d e = absurd (cc)
formed_none false named attr_d attr_f filed x y d e = absurd (cc)

no_bytes : (r : VolumeRow) → r.dir ≡ true → is_formed_row r ≡ true → (r.data_fork ≡ []) × (r.resource_fork ≡ [])
no_bytes r d f =
    let two = formed_none r.dir (is_named r) (bit_and r.attributes dir_attributes == r.attributes) (bit_and r.attributes file_attributes == r.attributes) r.filed (length r.data_fork == 0) (length r.resource_fork == 0) d (right_true (has_fit_privileges r.dir r.privileges) _ f) in
    (nil_from_no_length r.data_fork two.0, nil_from_no_length r.resource_fork two.1)

module _ (version : ℕ) (v : VolumeState) where
  block_inside : (r : VolumeRow) (f : Bool) (b : Block) → list_all (same_forks r) v.rows ≡ true → 4096 * b.index + length b.bytes ≤ length (fork_of f r) → is_out_of_range (tables_of version v) (row.Block (fork_block_of r.id f b)) ≡ false
  block_inside r f b s w = any-map (λ (n : Node). (n.id == r.id) && reaches_past n (fork_block_of r.id f b)) (node_of version) v.rows
      ∙ any-none (λ (o : VolumeRow). (o.id == r.id) && reaches_past (node_of version o) (fork_block_of r.id f b)) v.rows
      (all-weaker (same_forks r) (λ (o : VolumeRow). not ((o.id == r.id) && reaches_past (node_of version o) (fork_block_of r.id f b))) v.rows
      (λ o e. cases (o.id == r.id)
      (λ i.
      let len = long_as version f r o e i in
      let past : reaches_past (node_of version o) (fork_block_of r.id f b) ≡ false = le-ltb (fork_length f (node_of version o)) (block_size * b.index + length b.bytes) (omega (arith, len, w)) in
      λ k. not (i k && past k))
      (λ i. ap (λ t. not (t && reaches_past (node_of version o) (fork_block_of r.id f b))) i)) s)

  one_fine : (r : VolumeRow) (f : Bool) (b : Block) → is_known_row v r ≡ true → r.dir ≡ false → is_whole_block (length (fork_of f r)) b ≡ true → is_fine_block (tables_of version v) (fork_block_of r.id f b) ≡ true
  one_fine r f b k d w =
      let good = left_true (is_good_row v r) (list_all (same_forks r) v.rows && (r.dir || has_file v.rows r.id)) k in
      let rest = right_true (is_good_row v r) (list_all (same_forks r) v.rows && (r.dir || has_file v.rows r.id)) k in
      let same = left_true (list_all (same_forks r) v.rows) (r.dir || has_file v.rows r.id) rest in
      let there : has_file v.rows r.id ≡ true = ap (λ t. t || has_file v.rows r.id) (sym d) ∙ right_true (list_all (same_forks r) v.rows) (r.dir || has_file v.rows r.id) rest in
      let id = (node_parts v.name (node_of version r) (node_formed version v r good)).id in
      let small : length r.data_fork + length r.resource_fork ≤ 268435456 = leb-true _ _ (right_true (is_in_place v r) (nat_le (length r.data_fork + length r.resource_fork) most_fork_bytes) (right_true (is_typed_row r && is_formed_row r) (is_in_place v r && nat_le (length r.data_fork + length r.resource_fork) most_fork_bytes) good)) in
      let fits : length (fork_of f r) ≤ 268435456 = elim f as (λ f. length (fork_of f r) ≤ 268435456) [ true ↦ omega (arith, small) | false ↦ omega (arith, small) ] in
      let kept = left_true (is_kept (length (fork_of f r)) b) (not (is_empty b.bytes) && are_bytes b.bytes) w in
      let sizes = right_true (bytes_eq (trimmed b.bytes) b.bytes) (nat_le (length b.bytes) block_size && nat_le (block_size * b.index + length b.bytes) (length (fork_of f r))) kept in
      let within = leb-true _ _ (right_true (nat_le (length b.bytes) block_size) (nat_le (block_size * b.index + length b.bytes) (length (fork_of f r))) sizes) in
      and_from (is_formed_block (fork_block_of r.id f b)) (is_clear (tables_of version v) (row.Block (fork_block_of r.id f b))) (one_formed r.id (length (fork_of f r)) f b id fits w)
      (free_clear (tables_of version v) (row.Block (fork_block_of r.id f b)) (record { placed = ap not (files_same version v.rows r.id ∙ there); lone = refl; inside = block_inside r f b same within; few = refl }))

  fork_fine : ForkLaw → (r : VolumeRow) (f : Bool) → is_known_row v r ≡ true → r.dir ≡ false → list_all (is_fine_block (tables_of version v)) (map (fork_block_of r.id f) (blocks_of (fork_of f r))) ≡ true
  fork_fine law r f k d =
      let good = left_true (is_good_row v r) (list_all (same_forks r) v.rows && (r.dir || has_file v.rows r.id)) k in
      let typed = left_true (is_typed_row r) (is_formed_row r) (left_true (is_typed_row r && is_formed_row r) (is_in_place v r && nat_le (length r.data_fork + length r.resource_fork) most_fork_bytes) good) in
      let bytes = fork_typed r f typed in
      list_all-map (is_fine_block (tables_of version v)) (fork_block_of r.id f) (blocks_of (fork_of f r))
      ∙ all-weaker (is_whole_block (length (fork_of f r))) (λ b. is_fine_block (tables_of version v) (fork_block_of r.id f b)) (blocks_of (fork_of f r)) (λ b w. one_fine r f b k d w) (whole_blocks law (fork_of f r) bytes)

  -- a directory has no bytes, so no blocks
  pub row_fine : ForkLaw → (r : VolumeRow) → is_known_row v r ≡ true → list_all (is_fine_block (tables_of version v)) (fork_blocks r) ≡ true
  row_fine law r k = cases r.dir
      (λ d.
      let good = left_true (is_good_row v r) (list_all (same_forks r) v.rows && (r.dir || has_file v.rows r.id)) k in
      let formed = right_true (is_typed_row r) (is_formed_row r) (left_true (is_typed_row r && is_formed_row r) (is_in_place v r && nat_le (length r.data_fork + length r.resource_fork) most_fork_bytes) good) in
      let none = no_bytes r d formed in
      ap (list_all (is_fine_block (tables_of version v))) (λ i. map (fork_block_of r.id false) (blocks_of (none.0 i)) ++ map (fork_block_of r.id true) (blocks_of (none.1 i))))
      (λ d. all-append (is_fine_block (tables_of version v)) (map (fork_block_of r.id false) (blocks_of r.data_fork)) (map (fork_block_of r.id true) (blocks_of r.resource_fork)) (fork_fine law r false k d) (fork_fine law r true k d))

  pub all_fine : ForkLaw → (rs : List VolumeRow) → list_all (is_known_row v) rs ≡ true → list_all (is_fine_block (tables_of version v)) (flat_map fork_blocks rs) ≡ true
  all_fine law [] e = refl
  all_fine law (r ∷ rs) e = all-append (is_fine_block (tables_of version v)) (fork_blocks r) (flat_map fork_blocks rs) (row_fine law r (left_true (is_known_row v r) (list_all (is_known_row v) rs) e)) (all_fine law rs (right_true (is_known_row v r) (list_all (is_known_row v) rs) e))

-- ---- all rows

node_names : (version : ℕ) (v : VolumeState) → SoundFacts v → no_twins (map (node_of version) v.rows) (map (node_of version) v.rows) ≡ true
node_names version v s = no_twins_apart (map (node_of version) v.rows) (chain-map (λ (a : Node) b. nat_lt a.id b.id) (node_of version) v.rows s.ids) (apart_nodes version v.rows ∙ s.names)

node_free : (version : ℕ) (v : VolumeState) → SoundFacts v → (r : VolumeRow) → (is_good_row v r && list_all (λ (o : Node). not (nat_lt o.id r.id && alike o (node_of version r))) (map (node_of version) v.rows)) ≡ true → is_clear (tables_of version v) (row.Node (node_of version r)) ≡ true
node_free version v s r g =
    let good = left_true (is_good_row v r) (list_all (λ (o : Node). not (nat_lt o.id r.id && alike o (node_of version r))) (map (node_of version) v.rows)) g in
    let place = left_true (is_in_place v r) (nat_le (length r.data_fork + length r.resource_fork) most_fork_bytes) (right_true (is_typed_row r && is_formed_row r) (is_in_place v r && nat_le (length r.data_fork + length r.resource_fork) most_fork_bytes) good) in
    free_clear (tables_of version v) (row.Node (node_of version r)) (record {
      placed = node_placed version v s r place;
      lone = any-none (λ (o : Node). nat_lt o.id r.id && alike o (node_of version r)) (map (node_of version) v.rows) (right_true (is_good_row v r) (list_all (λ (o : Node). not (nat_lt o.id r.id && alike o (node_of version r))) (map (node_of version) v.rows)) g);
      inside = node_inside version v s r place;
      few = node_few version v s r;
    })

few_to : {A : Type 0} (p : A → Bool) (xs : List A) (most : ℕ) → length xs ≤ most → nat_lt most (length (filter p xs)) ≡ false
few_to p xs most h = let a = length-filter-le p xs in le-ltb most (length (filter p xs)) (omega (arith, a, h))

rows_formed : (version : ℕ) → is_word version ≡ true → (v : VolumeState) → SoundFacts v → TypedFacts v → ForkLaw → EachKind (is_formed_record (record { version = version; name = v.name })) (tables_of version v)
rows_formed version word v s t law =
    let known = known_rows v s t in
    let fine = all_fine version v law v.rows known in
    record {
      head = and_from ((version == version) && is_word version) (is_sound_head (tables_of version v).head) (and_from (version == version) (is_word version) (eq-eqb version version refl) word) (λ i. (t.created i && (t.modified i && t.backup i)) && s.next i);
      nodes = list_all-map (is_formed_node (record { version = version; name = v.name })) (node_of version) v.rows
          ∙ all-weaker (is_known_row v) (λ r. is_formed_node (record { version = version; name = v.name }) (node_of version r)) v.rows (λ r e. node_labelled version v r (left_true (is_good_row v r) (list_all (same_forks r) v.rows && (r.dir || has_file v.rows r.id)) e)) known;
      blocks = all-weaker (is_fine_block (tables_of version v)) is_formed_block (flat_map fork_blocks v.rows) (λ b e. left_true (is_formed_block b) (is_clear (tables_of version v) (row.Block b)) e) fine;
      comments = all-and is_typed_comment is_comment v.comments t.comments s.texts;
      icons = all-and is_typed_icon is_icon v.icons t.icons s.icons;
      appls = all-and is_typed_appl (λ (a : Appl). length a.creator == code_size) v.appls t.appls s.creators;
    }

rows_clear : (version : ℕ) (v : VolumeState) → SoundFacts v → TypedFacts v → ForkLaw → EachKind (is_clear (tables_of version v)) (tables_of version v)
rows_clear version v s t law =
    let known = known_rows v s t in
    let fine = all_fine version v law v.rows known in
    let twins = sym (list_all-map (λ (n : Node). list_all (λ (o : Node). not (nat_lt o.id n.id && alike o n)) (map (node_of version) v.rows)) (node_of version) v.rows) ∙ node_names version v s in
    record {
      head = refl;
      nodes = list_all-map (λ n. is_clear (tables_of version v) (row.Node n)) (node_of version) v.rows
          ∙ all-weaker (λ r. is_good_row v r && list_all (λ (o : Node). not (nat_lt o.id r.id && alike o (node_of version r))) (map (node_of version) v.rows)) (λ r. is_clear (tables_of version v) (row.Node (node_of version r))) v.rows (node_free version v s)
          (all-and (is_good_row v) (λ r. list_all (λ (o : Node). not (nat_lt o.id r.id && alike o (node_of version r))) (map (node_of version) v.rows)) v.rows
          (all-weaker (is_known_row v) (is_good_row v) v.rows (λ r e. left_true (is_good_row v r) (list_all (same_forks r) v.rows && (r.dir || has_file v.rows r.id)) e) known) twins);
      blocks = all-weaker (is_fine_block (tables_of version v)) (λ b. is_clear (tables_of version v) (row.Block b)) (flat_map fork_blocks v.rows) (λ b e. right_true (is_formed_block b) (is_clear (tables_of version v) (row.Block b)) e) fine;
      comments = all-weaker (λ (c : Comment). has_node v.rows c.node) (λ c. is_clear (tables_of version v) (row.Comment c)) v.comments
          (λ c e. free_clear (tables_of version v) (row.Comment c) (record { placed = ap not (nodes_same version v.rows c.node ∙ e); lone = refl; inside = refl; few = refl })) s.commented;
      icons = all-weaker (λ x. true) (λ c. is_clear (tables_of version v) (row.Icon c)) v.icons
          (λ c e. free_clear (tables_of version v) (row.Icon c) (record { placed = refl; lone = refl; inside = refl; few = few_to (λ (o : Icon). not (stands_before (icon_key c) (icon_key o))) v.icons most_icons s.few_icons })) (all-always v.icons);
      appls = all-weaker (λ (a : Appl). has_file v.rows a.node) (λ c. is_clear (tables_of version v) (row.Appl c)) v.appls
          (λ c e. free_clear (tables_of version v) (row.Appl c) (record { placed = ap not (files_same version v.rows c.node ∙ e); lone = refl; inside = refl; few = few_to (λ (o : Appl). not (stands_before (appl_key c) (appl_key o))) v.appls most_appls s.few_appls })) s.filed;
    }

-- ---- the whole

pub image_whole : (version : ℕ) → is_word version ≡ true → ForkLaw → (v : VolumeState) → IsSoundVolume v → is_typed_volume v ≡ true → IsWhole (record { version = version; name = v.name }) (tables_of version v)
image_whole version word law v sound typed =
    let s = sound_facts v sound in
    let t = typed_facts v typed in
    let formed = rows_formed version word v s t law in
    record {
      formed = all_kinds (is_formed_record (record { version = version; name = v.name })) (tables_of version v) formed;
      clear = all_kinds (is_clear (tables_of version v)) (tables_of version v) (rows_clear version v s t law);
      rises = image_rises version law v sound;
      root = nodes_same version v.rows root_id ∙ s.root;
    }

-- ---- their number, and the volume from them

pub image_few : (version : ℕ) → ForkLaw → (v : VolumeState) → IsSoundVolume v → length (rows_of (tables_of version v)) ≤ most_records
image_few version law v sound =
    let s = sound_facts v sound in
    let rows = s.few_rows in
    let bytes = s.few_bytes in
    let icons = s.few_icons in
    let appls = s.few_appls in
    let comments = no_more (λ (c : Comment). c.node) (λ (r : VolumeRow). r.id) v.rows v.comments s.ids s.comment_order s.commented in
    let blocks = length-flat fork_blocks (λ (r : VolumeRow). length r.data_fork + length r.resource_fork) (few_of_row law) v.rows in
    let t : Tables = tables_of version v in
    let a_rows : List TableRow = map (λ x. row.Appl x) v.appls in
    let i_rows : List TableRow = map (λ x. row.Icon x) v.icons in
    let c_rows : List TableRow = map (λ x. row.Comment x) v.comments in
    let b_rows : List TableRow = map (λ x. row.Block x) (flat_map fork_blocks v.rows) in
    let n_rows : List TableRow = map (λ x. row.Node x) (map (node_of version) v.rows) in
    let one = length-append n_rows (b_rows ++ (c_rows ++ (i_rows ++ a_rows))) in
    let two = length-append b_rows (c_rows ++ (i_rows ++ a_rows)) in
    let three = length-append c_rows (i_rows ++ a_rows) in
    let four = length-append i_rows a_rows in
    let n = length-mapped (λ x. row.Node x) (map (node_of version) v.rows) in
    let m = length-mapped (node_of version) v.rows in
    let b = length-mapped (λ x. row.Block x) (flat_map fork_blocks v.rows) in
    let c = length-mapped (λ x. row.Comment x) v.comments in
    let i = length-mapped (λ x. row.Icon x) v.icons in
    let a = length-mapped (λ x. row.Appl x) v.appls in
    omega (arith, rows, bytes, icons, appls, comments, blocks, one, two, three, four, n, m, b, c, i, a)

-- the rows whose privileges records of a version say
abbrev pub Said : ℕ → List VolumeRow → Type 0
Said version rs = map (λ (r : VolumeRow). unwrap_or (cond (version == old_version) None (Some r.privileges)) (new_privileges r.dir guest)) rs ≡ map (λ (r : VolumeRow). r.privileges) rs

pub volume_again : (version : ℕ) → ForkLaw → (v : VolumeState) → IsSoundVolume v → Said version v.rows → volume_of v.name (tables_of version v) ≡ v
volume_again version law v sound said =
    let s = sound_facts v sound in
    let rows = rows_again version law (flat_map fork_blocks v.rows) v.rows (owns_from [] v.rows s.ids (all-pass (λ (r : VolumeRow). list_all (λ (b : ForkBlock). nat_lt b.node r.id) []) (λ r. refl) v.rows)) said in
    λ i. record v { rows = rows i }
