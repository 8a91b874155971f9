-- Records of which none is bad are those of whole tables, and those of whole tables have none that is bad.
use Rattle.std.proofs.Common.{◌≡◌, ◌∙◌, ℕ, ◌<◌, ◌≤◌, Bool, true, false, cond, List, [], ◌∷◌, ◌++◌, map, length, drop, refl, sym, ap, subst, arith, Option, inl, inr}
use Rattle.std.specs.Prelude.{Some, None, is_none, nat_lt, ◌||◌, ◌==◌, bytes_eq, ◌&&◌}
use Rattle.std.specs.List.{list_all, filter_map, cons_option}
use Rattle.std.proofs.lemmas.Bool.{and_from, eq-eqb, eqb-true, le-ltb, ltb-true, or_left, or_right, cases_Bool, cond-true, cond-false}
use Rattle.byteorder.specs.Endian.{big_number}
use Rattle.volume_spec.specs.VolumeState.{root_id}
use Rattle.volume_spec.specs.SoundVolume.{has_node}
use Rattle.record_keeper.specs.declared.record.Record.{Record}
use Rattle.volume_keeper_records.specs.declared.rows.BadRecord.{BadRecord}
use Rattle.volume_keeper_records.specs.declared.rows.Node.{Node}
use Rattle.volume_keeper_records.specs.declared.rows.Reason.{Reason}
use Rattle.volume_keeper_records.specs.declared.rows.TableRow.{TableRow}
use Rattle.volume_keeper_records.specs.declared.rows.TableRow.TheVariants as row
use Rattle.volume_keeper_records.specs.Records.{record_of, head_record, node_record, block_record, comment_record, icon_record, appl_record, long_bytes, head_key, old_version, version}
use Rattle.volume_keeper_records.specs.Shape.{row_in, is_formed_record, bare_row, Label, is_formed_head, is_sound_head}
use Rattle.volume_keeper_records.specs.Image.{Tables, rows_of, tables_in, as_node}
use Rattle.volume_keeper_records.specs.KeyOrder.{RisesByKey, with_key, with_head_and_root, root_key}
use Rattle.volume_keeper_records.specs.lemma.KeyOrder.{has_key}
use Rattle.record_keeper.specs.Reading.{most_records}
use Rattle.volume_keeper_records.specs.FirstBad.{rows_in, tree_of, reason_of, bad_or, first_in, first_bad_among, first_bad_record, too_many, version_in, label_of}
use Rattle.volume_keeper_records.proofs.ReadBack.{row_is, read_back, node_parts, number_back_4, sound_node, word_back}
use Rattle.volume_keeper_records.proofs.RowKinds.{rows_are}
use Rattle.volume_keeper_records.proofs.TablesBack.{tables_back}
use Rattle.volume_keeper_records.proofs.MissingKeys.{AllShaped, rises_with, has_with, still_has, none_missing, empty_head, empty_root, present_same}
use Rattle.afp_base.proofs.Facts.{bytes_same, cases, left_true, or_without, right_true}
use Rattle.afp_base.proofs.ListFacts.{length-mapped}
use Rattle.volume_spec.specs.TypedVolume.{is_word}

-- no rule refuses a row
abbrev pub is_clear : Tables → TableRow → Bool
is_clear t x = is_none (reason_of t (Some x))

-- tables whose rows are formed, none refused, by rising key, the root among them
pub record IsWhole (label : Label) (t : Tables) : Type 0 where
  pub formed : list_all (is_formed_record label) (rows_of t) ≡ true
  pub clear : list_all (is_clear t) (rows_of t) ≡ true
  pub rises : RisesByKey (map record_of (rows_of t))
  pub root : has_node (tree_of t) root_id ≡ true

-- ---- from records

pub record IsRead (label : Label) (t : Tables) (records : List Record) : Type 0 where
  pub same : map record_of (rows_in label records) ≡ records
  pub formed : list_all (is_formed_record label) (rows_in label records) ≡ true
  pub clear : list_all (is_clear t) (rows_in label records) ≡ true
  pub shaped : AllShaped label records

no_reason : (o : Option Reason) (key : List ℕ) (rest : Option BadRecord) → bad_or key o rest ≡ None → (is_none o ≡ true) × (rest ≡ None)
no_reason None key rest e = (refl, e)
no_reason (Some reason) key rest e = absurd (cc)

module _ (label : Label) (t : Tables) where
  read_one : (r : Record) (records : List Record) (o : Option TableRow) → row_in label r ≡ o → is_none (reason_of t o) ≡ true → IsRead label t records → IsRead label t (r ∷ records)
  read_one r records None e c s = absurd (cc)
  read_one r records (Some x) e c s =
      let is = row_is label r x e in
      record {
        same = ap (λ o. map record_of (cons_option o (rows_in label records))) e ∙ (λ i. is.1 i ∷ s.same i);
        formed = ap (λ o. list_all (is_formed_record label) (cons_option o (rows_in label records))) e ∙ and_from _ _ is.0 s.formed;
        clear = ap (λ o. list_all (is_clear t) (cons_option o (rows_in label records))) e ∙ and_from _ _ c s.clear;
        shaped = (λ n. absurd (let k : None ≡ Some x = sym n ∙ e in cc), s.shaped);
      }

  pub all_read : (records : List Record) → first_in label t records ≡ None → IsRead label t records
  all_read [] e = record { same = refl; formed = refl; clear = refl; shaped = tt }
  all_read (r ∷ records) e =
      let two = no_reason (reason_of t (row_in label r)) r.key (first_in label t records) e in
      read_one r records (row_in label r) refl two.0 (all_read records two.1)

-- a formed row with the root's key is a node with the root's id
is_root : (label : Label) (x : TableRow) → is_formed_record label x ≡ true → bytes_eq (record_of x).key root_key ≡ true → (n : Node) × (as_node x ≡ Some n) × (n.id ≡ root_id)
unfolding head_record node_record block_record comment_record icon_record appl_record
is_root label (row.Head h) f e = absurd (cc)
is_root label (row.Node n) f e =
    let k : 1 ∷ long_bytes n.id ≡ root_key = bytes_same (1 ∷ long_bytes n.id) root_key e in
    let small : n.id < 4294967296 = ltb-true _ _ (node_parts label.name n (sound_node label n f)).id in
    (n, refl, sym (number_back_4 n.id (omega (arith, small))) ∙ ap (λ bytes. big_number 4 (drop 1 bytes)) k)
is_root label (row.Block b) f e = absurd (cc)
is_root label (row.Comment c) f e = absurd (cc)
is_root label (row.Icon i) f e = absurd (cc)
is_root label (row.Appl a) f e = absurd (cc)

one_more : (o : Option Node) (rest : List Node) → has_node (map bare_row rest) root_id ≡ true → has_node (map bare_row (cons_option o rest)) root_id ≡ true
one_more None rest e = e
one_more (Some n) rest e = or_right (n.id == root_id) _ e

rooted : (label : Label) (xs : List TableRow) → list_all (is_formed_record label) xs ≡ true → has_key root_key (map record_of xs) ≡ true → has_node (map bare_row (filter_map as_node xs)) root_id ≡ true
rooted label [] f e = absurd (cc)
rooted label (x ∷ xs) f e = cases (bytes_eq (record_of x).key root_key)
    (λ t.
    let n = is_root label x (left_true _ _ f) t in
    ap (λ o. has_node (map bare_row (cons_option o (filter_map as_node xs))) root_id) n.1 ∙ or_left (n.0.id == root_id) _ (eq-eqb _ _ n.2))
    (λ t. one_more (as_node x) (filter_map as_node xs) (rooted label xs (right_true _ _ f) (ap (λ b. b || has_key root_key (map record_of xs)) (sym t) ∙ e)))

pub whole_made : (label : Label) (records : List Record) → RisesByKey records → has_key head_key records ≡ true → has_key root_key records ≡ true → first_bad_among label records ≡ None
    → IsWhole label (tables_in (rows_in label records)) × (map record_of (rows_of (tables_in (rows_in label records))) ≡ records) × (rows_of (tables_in (rows_in label records)) ≡ rows_in label records)
whole_made label records s h r e =
    let t : Tables = tables_in (rows_in label records) in
    let read = all_read label (tables_in (rows_in label records)) records e in
    let back = sym read.same in
    let rises : RisesByKey (map record_of (rows_in label records)) = subst RisesByKey back s in
    let are = rows_are (rows_in label records) rises (subst (λ (x : List Record). has_key head_key x ≡ true) back h) in (
      record {
        formed = ap (list_all (is_formed_record label)) are ∙ read.formed;
        clear = ap (list_all (is_clear (tables_in (rows_in label records)))) are ∙ read.clear;
        rises = subst (λ (x : List TableRow). RisesByKey (map record_of x)) (sym are) rises;
        root = rooted label (rows_in label records) read.formed (subst (λ (x : List Record). has_key root_key x ≡ true) back r);
      },
      ap (map record_of) are ∙ read.same,
      are,
    )

-- where nothing is bad, nothing counted as there that is not
pub counted_made : (label : Label) (records : List Record) → RisesByKey records → first_bad_among label (with_head_and_root records) ≡ None
    → IsWhole label (tables_in (rows_in label (with_head_and_root records))) × (map record_of (rows_of (tables_in (rows_in label (with_head_and_root records)))) ≡ records) × (rows_of (tables_in (rows_in label (with_head_and_root records))) ≡ rows_in label (with_head_and_root records))
counted_made label records s e =
    let inner = rises_with root_key records s in
    let rises = rises_with head_key (with_key root_key records) inner in
    let made = whole_made label (with_head_and_root records) rises (has_with head_key (with_key root_key records)) (still_has root_key head_key (with_key root_key records) (has_with root_key records)) e in
    let shapes = (all_read label (tables_in (rows_in label (with_head_and_root records))) (with_head_and_root records) e).shaped in
    let first = none_missing label head_key (empty_head label) (with_key root_key records) shapes in
    let second = none_missing label root_key (empty_root label) records (subst (AllShaped label) first shapes) in
    (made.0, made.1 ∙ first ∙ second, made.2)

-- ---- from tables

pub rows_back : (label : Label) (xs : List TableRow) → list_all (is_formed_record label) xs ≡ true → rows_in label (map record_of xs) ≡ xs
rows_back label [] f = refl
rows_back label (x ∷ xs) f = λ i. cons_option (read_back label x (left_true _ _ f) i) (rows_back label xs (right_true _ _ f) i)

none_here : (o : Option Reason) (key : List ℕ) (rest : Option BadRecord) → is_none o ≡ true → rest ≡ None → bad_or key o rest ≡ None
none_here None key rest n e = e
none_here (Some reason) key rest n e = absurd (cc)

none_in : (label : Label) (t : Tables) (xs : List TableRow) → list_all (is_formed_record label) xs ≡ true → list_all (is_clear t) xs ≡ true → first_in label t (map record_of xs) ≡ None
none_in label t [] f c = refl
none_in label t (x ∷ xs) f c = none_here (reason_of t (row_in label (record_of x))) (record_of x).key _
    (ap (λ o. is_none (reason_of t o)) (read_back label x (left_true _ _ f)) ∙ left_true _ _ c)
    (none_in label t xs (right_true _ _ f) (right_true _ _ c))

pub whole_clear : (label : Label) (t : Tables) → IsWhole label t → first_bad_among label (map record_of (rows_of t)) ≡ None
whole_clear label t w =
    ap (λ (u : Tables). first_in label u (map record_of (rows_of t))) (ap tables_in (rows_back label (rows_of t) w.formed) ∙ tables_back t)
    ∙ none_in label t (rows_of t) w.formed w.clear

pub tables_read : (label : Label) (t : Tables) → IsWhole label t → tables_in (rows_in label (map record_of (rows_of t))) ≡ t
tables_read label t w = ap tables_in (rows_back label (rows_of t) w.formed) ∙ tables_back t

has_head_key : (t : Tables) → has_key head_key (map record_of (rows_of t)) ≡ true
unfolding head_record
has_head_key t = refl

root_bytes : (n : Node) → (n.id == root_id) ≡ true → bytes_eq (node_record n).key root_key ≡ true
unfolding node_record
root_bytes n e = let i : n.id ≡ root_id = eqb-true _ _ e in ap (λ id. bytes_eq (1 ∷ long_bytes id) root_key) i

nodes_have_root : (ns : List Node) (xs : List TableRow) → has_node (map bare_row ns) root_id ≡ true → has_key root_key (map record_of (map (λ n. row.Node n) ns ++ xs)) ≡ true
nodes_have_root [] xs e = absurd (cc)
nodes_have_root (n ∷ ns) xs e = cases (n.id == root_id)
    (λ t. or_left (bytes_eq (node_record n).key root_key) _ (root_bytes n t))
    (λ t. or_right (bytes_eq (node_record n).key root_key) _ (nodes_have_root ns xs (ap (λ b. b || has_node (map bare_row ns) root_id) (sym t) ∙ e)))

has_root_key : (label : Label) (t : Tables) → IsWhole label t → has_key root_key (map record_of (rows_of t)) ≡ true
has_root_key label t w = or_right (bytes_eq (head_record t.head).key root_key) _ (nodes_have_root t.nodes _ w.root)

-- the records of tables say their version
pub said_version : (t : Tables) → is_word t.head.version ≡ true → version_in (map record_of (rows_of t)) ≡ cond (t.head.version == old_version) old_version version
unfolding head_record
said_version t word = ap (λ n. cond (n == old_version) old_version version) (word_back t.head.version word)

pub version_read : (n : ℕ) (t : Tables) → is_formed_head n t.head ≡ true → ((n == version) || (n == old_version)) ≡ true → version_in (map record_of (rows_of t)) ≡ n
version_read n t f known =
    let first = left_true ((t.head.version == n) && is_word t.head.version) (is_sound_head t.head) f in
    let same : t.head.version ≡ n = eqb-true _ _ (left_true (t.head.version == n) (is_word t.head.version) first) in
    said_version t (right_true (t.head.version == n) (is_word t.head.version) first) ∙ ap (λ m. cond (m == old_version) old_version version) same
    ∙ elim (cases_Bool (n == old_version)) [
      | inl is ↦ cond-true (n == old_version) old_version version is ∙ sym (eqb-true _ _ is)
      | inr other ↦ cond-false (n == old_version) old_version version other ∙ sym (eqb-true _ _ (sym (or_without (n == version) (n == old_version) other) ∙ known))
    ]

pub whole_good : (label : Label) (t : Tables) → ((label.version == version) || (label.version == old_version)) ≡ true → IsWhole label t → length (rows_of t) ≤ most_records → first_bad_record label.name (map record_of (rows_of t)) ≡ None
whole_good label t known w few =
    let same : with_head_and_root (map record_of (rows_of t)) ≡ map record_of (rows_of t) =
    ap (with_key head_key) (present_same root_key (map record_of (rows_of t)) w.rises (has_root_key label t w)) ∙ present_same head_key (map record_of (rows_of t)) w.rises (has_head_key t) in
    let fits : nat_lt most_records (length (map record_of (rows_of t))) ≡ false = le-ltb _ _ (omega (arith, few, length-mapped record_of (rows_of t))) in
    let same_version = version_read label.version t (left_true (is_formed_head label.version t.head) _ w.formed) known in
    ap (λ b. cond b (too_many (drop most_records (map record_of (rows_of t)))) (first_bad_among (label_of label.name (map record_of (rows_of t))) (with_head_and_root (map record_of (rows_of t))))) fits
    ∙ (λ i. first_bad_among (record { version = same_version i; name = label.name }) (same i)) ∙ whole_clear label t w
