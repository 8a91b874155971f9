-- The reasons of a pass by rising key are those among all records.
use Rattle.std.proofs.Common.{◌≡◌, ◌∙◌, ℕ, zero, suc, ◌+◌, ◌*◌, ◌<◌, ◌≤◌, Bool, true, false, cond, not, List, [], ◌∷◌, ◌++◌, map, length, take, drop, get_or, refl, sym, ap, subst, arith, Option}
use Rattle.std.specs.Prelude.{Some, None, nat_le, nat_lt, ◌&&◌, ◌||◌, ◌==◌, bytes_eq, sum_by}
use Rattle.std.specs.List.{list_all, list_any, filter, filter_map, cons_option, AllByRecursion}
use Rattle.std.specs.List.Sorted.{IsStrictlySortedBy}
use Rattle.std.specs.Cmp.{nat_cmp_is}
use Rattle.std.specs.Cmp.Lexicographic.{slice_cmp}
use Rattle.std.specs.Ordering.{nat_cmp}
use Rattle.std.specs.declared.cmp.Ordering.TheVariants.{Less}
use Rattle.std.proofs.lemmas.List.Elements.{filter_map-append}
use Rattle.std.proofs.lemmas.List.{take_more, take-append-drop, get_or-map, map-append, length_push, append-nil}
use Rattle.std.proofs.Math.Seq.{drop-cons}
use Rattle.std.proofs.lemmas.Bool.{and_from, le-leb, le-ltb, ltb-true}
use Rattle.std.proofs.lemmas.List.Sums.{sum_by_push}
use Rattle.afp_names.specs.Name.{name_key}
use Rattle.volume_spec.specs.VolumeState.{Icon, Appl, root_id, Row as VolumeRow}
use Rattle.volume_spec.specs.Order.{stands_before}
use Rattle.afp_base.specs.Limits.{most_fork_bytes}
use Rattle.volume_spec.specs.SoundVolume.{has_node, has_file, leads_to_root, are_named_alike, icon_key, appl_key, most_nodes, most_icons, most_appls}
use Rattle.record_keeper.specs.declared.record.Record.{Record}
use Rattle.volume_keeper_records.specs.declared.rows.Node.{Node}
use Rattle.volume_keeper_records.specs.declared.rows.Reason.{Reason}
use Rattle.volume_keeper_records.specs.declared.rows.Reason.TheVariants.{Parent, Twin, Range, Limit}
use Rattle.volume_keeper_records.specs.declared.rows.TableRow.{TableRow}
use Rattle.volume_keeper_records.specs.declared.rows.TableRow.TheVariants as row
use Rattle.volume_keeper_records.specs.declared.tree.Place.{Place}
use Rattle.volume_keeper_records.specs.Records.{record_of}
use Rattle.volume_keeper_records.specs.Shape.{row_in, bare_row, is_formed_record, Label}
use Rattle.volume_keeper_records.specs.Image.{Tables, tables_in, first_head, as_head, as_node, as_icon, as_appl}
use Rattle.volume_keeper_records.specs.KeyOrder.{IsBelow, RisesByKey}
use Rattle.volume_keeper_records.specs.FirstBad.{rows_in, fork_length, nodes_to, icons_to, appls_to, lacks_parent, is_twin, is_out_of_range, passes_limit, first_of, reason_of, bad_or, first_in}
use Rattle.volume_keeper_records.specs.lemma.Climb.{id_of, climbs_to_root}
use Rattle.volume_keeper_records.specs.lemma.Judged.{place_of, said_node, places_in, is_there, is_file_there, length_of, is_stray_here, is_outside_here, Before, is_twin_here, fork_sum, is_over_here, reason_here, and_row, next_in, next_or, said_rows, is_short_row, IsNamedRow}
use Rattle.volume_keeper_records.proofs.Chains.{Chain}
use Rattle.volume_keeper_records.proofs.ReadBack.{row_is, sound_node}
use Rattle.volume_keeper_records.proofs.RowKinds.{by_kind, behind_head}
use Rattle.volume_keeper_records.proofs.RowOrder.{rows_ends, icon_before, appl_before, before_itself}
use Rattle.volume_keeper_records.proofs.Facts.{InOrder, order_behind, short_block, node_name}
use Rattle.afp_base.proofs.Facts.{bytes_turn, eqb_turn, left_true, right_true}
use Rattle.afp_base.proofs.ListFacts.{all-ends, any-map, any-same, length-mapped}
use Rattle.volume_spec.proofs.Ordered.{before-not-back}

-- what stands before, of some rows
abbrev pub before_of : List TableRow → Before
before_of rows = record { nodes = filter_map as_node rows; icons = length (filter_map as_icon rows); appls = length (filter_map as_appl rows) }

-- ---- rows that are there

pub said_none : [] ≡ said_rows []
unfolding said_rows
said_none = refl

pub said_push : (rows : List (Option TableRow)) (o : Option TableRow) → said_rows (rows ++ o ∷ []) ≡ said_rows rows ++ cons_option o []
unfolding said_rows
said_push rows o = filter_map-append (λ o. o) rows (o ∷ [])

pub said_all : (label : Label) (records : List Record) → said_rows (map (row_in label) records) ≡ rows_in label records
unfolding said_rows
said_all label [] = refl
said_all label (r ∷ records) = unfold said_rows in ap (cons_option (row_in label r)) (said_all label records)

pub pushed_places : (rows : List (Option TableRow)) (i : ℕ) (o : Option TableRow) → i < length rows → o ≡ get_or rows i o → places_in (take (i + 1) rows) ≡ places_in (take i rows) ++ map place_of (cons_option (said_node o) [])
pushed_places rows i o h e =
    ap places_in (take_more rows i o h ∙ ap (λ (x : Option TableRow). take i rows ++ x ∷ []) (sym e))
    ∙ ap (map place_of) (filter_map-append said_node (take i rows) (o ∷ [])) ∙ map-append place_of (filter_map said_node (take i rows)) (cons_option (said_node o) [])

said_as : (x : TableRow) → said_node (Some x) ≡ as_node x
said_as (row.Head h) = refl
said_as (row.Node n) = refl
said_as (row.Block b) = refl
said_as (row.Comment c) = refl
said_as (row.Icon i) = refl
said_as (row.Appl a) = refl

one_said : (o : Option TableRow) (ns : List Node) (xs : List TableRow) → ns ≡ filter_map as_node xs → cons_option (said_node o) ns ≡ filter_map as_node (cons_option o xs)
one_said None ns xs e = e
one_said (Some x) ns xs e = λ i. cons_option (said_as x i) (e i)

nodes_said : (label : Label) (records : List Record) → filter_map said_node (map (row_in label) records) ≡ filter_map as_node (rows_in label records)
nodes_said label [] = refl
nodes_said label (r ∷ records) = one_said (row_in label r) (filter_map said_node (map (row_in label) records)) (rows_in label records) (nodes_said label records)

one_next : (o : Option TableRow) (next : ℕ) (xs : List TableRow) → next ≡ (first_head (filter_map as_head xs)).next_id → next_or o next ≡ (first_head (filter_map as_head (cons_option o xs))).next_id
one_next None next xs e = e
one_next (Some (row.Head h)) next xs e = refl
one_next (Some (row.Node n)) next xs e = e
one_next (Some (row.Block b)) next xs e = e
one_next (Some (row.Comment c)) next xs e = e
one_next (Some (row.Icon i)) next xs e = e
one_next (Some (row.Appl a)) next xs e = e

next_said : (label : Label) (records : List Record) → next_in (map (row_in label) records) ≡ (first_head (filter_map as_head (rows_in label records))).next_id
next_said label [] = refl
next_said label (r ∷ records) = one_next (row_in label r) (next_in (map (row_in label) records)) (rows_in label records) (next_said label records)

-- ---- what was read stands in order

below_read : (k : List ℕ) (label : Label) (o : Option TableRow) (r : Record) (xs : List TableRow) → ((x : TableRow) → o ≡ Some x → record_of x ≡ r) → slice_cmp nat_cmp k r.key ≡ Less → IsBelow k (map record_of xs) → IsBelow k (map record_of (cons_option o xs))
below_read k label None r xs is e b = b
below_read k label (Some x) r xs is e b = (ap (λ (q : Record). slice_cmp nat_cmp k q.key) (is x refl) ∙ e, b)

below_rows : (k : List ℕ) (label : Label) (records : List Record) → IsBelow k records → IsBelow k (map record_of (rows_in label records))
below_rows k label [] b = tt
below_rows k label (r ∷ records) b = below_read k label (row_in label r) r (rows_in label records) (λ x e. (row_is label r x e).1) b.0 (below_rows k label records b.1)

rises_read : (label : Label) (o : Option TableRow) (r : Record) (xs : List TableRow) → ((x : TableRow) → o ≡ Some x → record_of x ≡ r) → IsBelow r.key (map record_of xs) → RisesByKey (map record_of xs) → RisesByKey (map record_of (cons_option o xs))
rises_read label None r xs is b s = s
rises_read label (Some x) r xs is b s = (subst (λ (q : Record). IsBelow q.key (map record_of xs)) (sym (is x refl)) b, s)

rows_rise : (label : Label) (records : List Record) → RisesByKey records → RisesByKey (map record_of (rows_in label records))
rows_rise label [] s = tt
rows_rise label (r ∷ records) s = rises_read label (row_in label r) r (rows_in label records) (λ x e. (row_is label r x e).1) (below_rows r.key label records s.0) (rows_rise label records s.1)

formed_read : (label : Label) (o : Option TableRow) (xs : List TableRow) → ((x : TableRow) → o ≡ Some x → is_formed_record label x ≡ true) → list_all (is_formed_record label) xs ≡ true → list_all (is_formed_record label) (cons_option o xs) ≡ true
formed_read label None xs is e = e
formed_read label (Some x) xs is e = and_from (is_formed_record label x) (list_all (is_formed_record label) xs) (is x refl) e

rows_formed : (label : Label) (records : List Record) → list_all (is_formed_record label) (rows_in label records) ≡ true
rows_formed label [] = refl
rows_formed label (r ∷ records) = formed_read label (row_in label r) (rows_in label records) (λ x e. (row_is label r x e).0) (rows_formed label records)

order_read : (label : Label) (records : List Record) → RisesByKey records → InOrder (tables_in (rows_in label records))
order_read label records s =
    let rows : List TableRow = rows_in label records in
    let whole = by_kind (rows_in label records) (rows_rise label records s) in
    let heads : List TableRow = map (λ h. row.Head h) (filter_map as_head (rows_in label records)) in
    let rest = (rows_ends heads (behind_head (tables_in (rows_in label records))) (subst (λ (l : List TableRow). RisesByKey (map record_of l)) (sym whole) (rows_rise label records s))).1 in
    let formed = (all-ends (is_formed_record label) heads (behind_head (tables_in (rows_in label records))) (ap (list_all (is_formed_record label)) whole ∙ rows_formed label records)).1 in
    order_behind label (tables_in (rows_in label records)) rest formed

below_each : (id : ℕ) (ns : List Node) → list_all (λ (n : Node). nat_lt id n.id) ns ≡ true → AllByRecursion (λ y. nat_cmp id y ≡ Less) (map id_of (map place_of ns))
below_each id [] b = tt
below_each id (n ∷ ns) b = (sym (nat_cmp_is id n.id Less (ltb-true _ _ (left_true (nat_lt id n.id) (list_all (λ (n : Node). nat_lt id n.id) ns) b))), below_each id ns (right_true (nat_lt id n.id) (list_all (λ (n : Node). nat_lt id n.id) ns) b))

ids_sorted : (ns : List Node) → Chain (λ (a : Node) b. nat_lt a.id b.id) ns → IsStrictlySortedBy nat_cmp (map id_of (map place_of ns))
unfolding IsStrictlySortedBy
ids_sorted [] c = tt
ids_sorted (n ∷ ns) c = (below_each n.id ns c.0, ids_sorted ns c.1)

-- ---- what is asked by places

there_same : (ns : List Node) (id : ℕ) → has_node (map bare_row ns) id ≡ is_there (map place_of ns) id
there_same ns id = any-map (λ (r : VolumeRow). r.id == id) bare_row ns ∙ sym (any-map (λ (p : Place). p.id == id) place_of ns)

file_same : (ns : List Node) (id : ℕ) → has_file (map bare_row ns) id ≡ is_file_there (map place_of ns) id
file_same ns id = any-map (λ (r : VolumeRow). r.id == id && not r.dir) bare_row ns ∙ sym (any-map (λ (p : Place). (p.id == id) && not p.is_directory) place_of ns)

leads_same : (ns : List Node) (k id : ℕ) → leads_to_root (map bare_row ns) k id ≡ climbs_to_root (map place_of ns) k id
leads_same ns zero id = refl
leads_same ns (suc k) id = ap (λ b. (id == root_id) || b)
    (any-map (λ (r : VolumeRow). (r.id == id) && (r.dir && leads_to_root (map bare_row ns) k r.parent)) bare_row ns
    ∙ any-same (λ (n : Node). (n.id == id) && (n.is_directory && leads_to_root (map bare_row ns) k n.parent)) (λ (n : Node). (n.id == id) && (n.is_directory && climbs_to_root (map place_of ns) k n.parent)) ns
    (λ n. ap (λ b. (n.id == id) && (n.is_directory && b)) (leads_same ns k n.parent))
    ∙ sym (any-map (λ (p : Place). (p.id == id) && (p.is_directory && climbs_to_root (map place_of ns) k p.parent)) place_of ns))

climbs_same : (ns : List Node) (id : ℕ) → leads_to_root (map bare_row ns) (length (map bare_row ns)) id ≡ climbs_to_root (map place_of ns) (length (map place_of ns)) id
climbs_same ns id = ap (λ k. leads_to_root (map bare_row ns) k id) (length-mapped bare_row ns ∙ sym (length-mapped place_of ns)) ∙ leads_same ns (length (map place_of ns)) id

stray_same : (t : Tables) (x : TableRow) → lacks_parent t x ≡ is_stray_here (map place_of t.nodes) x
stray_same t (row.Head h) = refl
stray_same t (row.Node n) = λ i. not (n.id == root_id) && not (there_same t.nodes root_id i && climbs_same t.nodes n.parent i)
stray_same t (row.Block b) = ap not (file_same t.nodes b.node)
stray_same t (row.Comment c) = ap not (there_same t.nodes c.node)
stray_same t (row.Icon j) = refl
stray_same t (row.Appl a) = ap not (file_same t.nodes a.node)

length_same : (r : Bool) (n : Node) → fork_length r n ≡ length_of r (place_of n)
length_same true n = refl
length_same false n = refl

outside_same : (t : Tables) (x : TableRow) → is_out_of_range t x ≡ is_outside_here (map place_of t.nodes) t.head.next_id x
outside_same t (row.Head h) = refl
outside_same t (row.Node n) = refl
outside_same t (row.Block b) =
    any-same (λ (n : Node). (n.id == b.node) && nat_lt (fork_length b.is_resource n) (4096 * b.index + length b.bytes)) (λ (n : Node). (n.id == b.node) && nat_lt (length_of b.is_resource (place_of n)) (4096 * b.index + length b.bytes)) t.nodes
    (λ n. ap (λ k. (n.id == b.node) && nat_lt k (4096 * b.index + length b.bytes)) (length_same b.is_resource n))
    ∙ sym (any-map (λ (p : Place). (p.id == b.node) && nat_lt (length_of b.is_resource p) (4096 * b.index + length b.bytes)) place_of t.nodes)
outside_same t (row.Comment c) = refl
outside_same t (row.Icon j) = refl
outside_same t (row.Appl a) = refl

-- ---- what is asked of the lower is asked of those before

all-middle : {A : Type 0} (p : A → Bool) (xs : List A) (n : A) (ys : List A) → list_all p (xs ++ n ∷ ys) ≡ true → p n ≡ true
all-middle p [] n ys e = left_true (p n) (list_all p ys) e
all-middle p (x ∷ xs) n ys e = all-middle p xs n ys (right_true (p x) (list_all p (xs ++ n ∷ ys)) e)

module _ {A : Type 0} (R le : A → A → Bool) (up : (a b : A) → R a b ≡ true → le a b ≡ true) (itself : (a : A) → le a a ≡ true) (down : (a b : A) → R a b ≡ true → le b a ≡ false) where
  none_to : (n : A) (ys : List A) → list_all (R n) ys ≡ true → filter (λ o. le o n) ys ≡ []
  none_to n [] e = refl
  none_to n (y ∷ ys) e = ap (λ b. cond b (y ∷ filter (λ o. le o n) ys) (filter (λ o. le o n) ys)) (down n y (left_true (R n y) (list_all (R n) ys) e)) ∙ none_to n ys (right_true (R n y) (list_all (R n) ys) e)

  pub up_to : (xs : List A) (n : A) (ys : List A) → Chain R (xs ++ n ∷ ys) → filter (λ o. le o n) (xs ++ n ∷ ys) ≡ xs ++ n ∷ []
  up_to [] n ys c = ap (λ b. cond b (n ∷ filter (λ o. le o n) ys) (filter (λ o. le o n) ys)) (itself n) ∙ ap (λ l. n ∷ l) (none_to n ys c.0)
  up_to (x ∷ xs) n ys c = ap (λ b. cond b (x ∷ filter (λ o. le o n) (xs ++ n ∷ ys)) (filter (λ o. le o n) (xs ++ n ∷ ys))) (up x n (all-middle (R x) xs n ys c.0)) ∙ ap (λ l. x ∷ l) (up_to xs n ys c.1)

none_lower : (n : Node) (p : Node → Bool) (ys : List Node) → list_all (λ (m : Node). nat_lt n.id m.id) ys ≡ true → list_any (λ o. nat_lt o.id n.id && p o) ys ≡ false
none_lower n p [] e = refl
none_lower n p (y ∷ ys) e =
    let high : n.id < y.id = ltb-true _ _ (left_true (nat_lt n.id y.id) (list_all (λ (m : Node). nat_lt n.id m.id) ys) e) in
    ap (λ b. (b && p y) || list_any (λ o. nat_lt o.id n.id && p o) ys) (le-ltb y.id n.id (omega arith)) ∙ none_lower n p ys (right_true (nat_lt n.id y.id) (list_all (λ (m : Node). nat_lt n.id m.id) ys) e)

lower_before : (p : Node → Bool) (xs : List Node) (n : Node) (ys : List Node) → Chain (λ (a : Node) b. nat_lt a.id b.id) (xs ++ n ∷ ys) → list_any (λ o. nat_lt o.id n.id && p o) (xs ++ n ∷ ys) ≡ list_any p xs
lower_before p [] n ys c = ap (λ b. (b && p n) || list_any (λ o. nat_lt o.id n.id && p o) ys) (le-ltb n.id n.id (omega arith)) ∙ none_lower n p ys c.0
lower_before p (x ∷ xs) n ys c =
    ap (λ b. (b && p x) || list_any (λ o. nat_lt o.id n.id && p o) (xs ++ n ∷ ys)) (all-middle (λ (m : Node). nat_lt x.id m.id) xs n ys c.0) ∙ ap (λ b. p x || b) (lower_before p xs n ys c.1)

alike_turned : (n o : Node) → are_named_alike (bare_row o) (bare_row n) ≡ ((n.parent == o.parent) && bytes_eq (name_key n.name) (name_key o.name))
alike_turned n o = λ i. eqb_turn o.parent n.parent i && bytes_turn (name_key o.name) (name_key n.name) i

pub below_le : (a b : Node) → nat_lt a.id b.id ≡ true → nat_le a.id b.id ≡ true
below_le a b e = let l : a.id < b.id = ltb-true _ _ e in le-leb _ _ (omega arith)

below_not_le : (a b : Node) → nat_lt a.id b.id ≡ true → nat_le b.id a.id ≡ false
below_not_le a b e = grind (arith, e)

nodes_up_to : (xs : List Node) (n : Node) (ys : List Node) → Chain (λ (a : Node) b. nat_lt a.id b.id) (xs ++ n ∷ ys) → filter (λ (o : Node). nat_le o.id n.id) (xs ++ n ∷ ys) ≡ xs ++ n ∷ []
nodes_up_to = up_to (λ (a : Node) b. nat_lt a.id b.id) (λ o m. nat_le o.id m.id) below_le (λ a. le-leb _ _ (let l : a.id ≤ a.id = omega arith in l)) below_not_le

icons_up_to : (xs : List Icon) (n : Icon) (ys : List Icon) → Chain icon_before (xs ++ n ∷ ys) → filter (λ (o : Icon). not (stands_before (icon_key n) (icon_key o))) (xs ++ n ∷ ys) ≡ xs ++ n ∷ []
icons_up_to = up_to icon_before (λ o m. not (stands_before (icon_key m) (icon_key o))) (λ a b e. before-not-back (icon_key a) (icon_key b) e) (λ a. ap not (before_itself (icon_key a))) (λ a b e. ap not e)

appls_up_to : (xs : List Appl) (n : Appl) (ys : List Appl) → Chain appl_before (xs ++ n ∷ ys) → filter (λ (o : Appl). not (stands_before (appl_key n) (appl_key o))) (xs ++ n ∷ ys) ≡ xs ++ n ∷ []
appls_up_to = up_to appl_before (λ o m. not (stands_before (appl_key m) (appl_key o))) (λ a b e. before-not-back (appl_key a) (appl_key b) e) (λ a. ap not (before_itself (appl_key a))) (λ a b e. ap not e)

-- the reason among all rows is the reason by what stands before
same_reason : (t : Tables) (xs ys : List TableRow) (x : TableRow) → t ≡ tables_in (xs ++ x ∷ ys) → InOrder t → reason_of t (Some x) ≡ reason_here (map place_of t.nodes) t.head.next_id (before_of xs) (Some x)
same_reason t xs ys x e order = λ i. first_of (stray_same t x i) Parent (first_of (twin x e i) Twin (first_of (outside_same t x i) Range (first_of (over x e i) Limit None)))
  where
    twin : (x : TableRow) → t ≡ tables_in (xs ++ x ∷ ys) → is_twin t x ≡ is_twin_here (before_of xs) x
    twin (row.Node n) e =
        let split : t.nodes ≡ filter_map as_node xs ++ n ∷ filter_map as_node ys = ap (λ (u : Tables). u.nodes) e ∙ filter_map-append as_node xs (row.Node n ∷ ys) in
        ap (list_any (λ (o : Node). nat_lt o.id n.id && are_named_alike (bare_row o) (bare_row n))) split
        ∙ lower_before (λ o. are_named_alike (bare_row o) (bare_row n)) (filter_map as_node xs) n (filter_map as_node ys) (subst (Chain (λ (a : Node) b. nat_lt a.id b.id)) split order.nodes)
        ∙ any-same (λ (o : Node). are_named_alike (bare_row o) (bare_row n)) (λ (o : Node). (n.parent == o.parent) && bytes_eq (name_key n.name) (name_key o.name)) (filter_map as_node xs) (alike_turned n)
    twin (row.Head h) e = refl
    twin (row.Block b) e = refl
    twin (row.Comment c) e = refl
    twin (row.Icon j) e = refl
    twin (row.Appl a) e = refl

    over : (x : TableRow) → t ≡ tables_in (xs ++ x ∷ ys) → passes_limit t x ≡ is_over_here (before_of xs) x
    over (row.Node n) e =
        let split : t.nodes ≡ filter_map as_node xs ++ n ∷ filter_map as_node ys = ap (λ (u : Tables). u.nodes) e ∙ filter_map-append as_node xs (row.Node n ∷ ys) in
        let to : nodes_to n t ≡ filter_map as_node xs ++ n ∷ [] = ap (filter (λ (o : Node). nat_le o.id n.id)) split ∙ nodes_up_to (filter_map as_node xs) n (filter_map as_node ys) (subst (Chain (λ (a : Node) b. nat_lt a.id b.id)) split order.nodes) in
        let count : length (nodes_to n t) ≡ length (filter_map as_node xs) + 1 = ap length to ∙ length_push (filter_map as_node xs) n in
        let sum : sum_by (λ (o : Node). o.data_length + o.resource_length) (nodes_to n t) ≡ fork_sum (filter_map as_node xs) + (n.data_length + n.resource_length) =
        ap (sum_by (λ (o : Node). o.data_length + o.resource_length)) to ∙ sum_by_push (λ (o : Node). o.data_length + o.resource_length) (filter_map as_node xs) n in
        λ i. nat_lt most_nodes (count i) || nat_lt most_fork_bytes (sum i)
    over (row.Icon j) e =
        let split : t.icons ≡ filter_map as_icon xs ++ j ∷ filter_map as_icon ys = ap (λ (u : Tables). u.icons) e ∙ filter_map-append as_icon xs (row.Icon j ∷ ys) in
        let to : icons_to j t ≡ filter_map as_icon xs ++ j ∷ [] = ap (filter (λ (o : Icon). not (stands_before (icon_key j) (icon_key o)))) split ∙ icons_up_to (filter_map as_icon xs) j (filter_map as_icon ys) (subst (Chain icon_before) split order.icons) in
        ap (nat_lt most_icons) (ap length to ∙ length_push (filter_map as_icon xs) j)
    over (row.Appl a) e =
        let split : t.appls ≡ filter_map as_appl xs ++ a ∷ filter_map as_appl ys = ap (λ (u : Tables). u.appls) e ∙ filter_map-append as_appl xs (row.Appl a ∷ ys) in
        let to : appls_to a t ≡ filter_map as_appl xs ++ a ∷ [] = ap (filter (λ (o : Appl). not (stands_before (appl_key a) (appl_key o)))) split ∙ appls_up_to (filter_map as_appl xs) a (filter_map as_appl ys) (subst (Chain appl_before) split order.appls) in
        ap (nat_lt most_appls) (ap length to ∙ length_push (filter_map as_appl xs) a)
    over (row.Head h) e = refl
    over (row.Block b) e = refl
    over (row.Comment c) e = refl

-- ---- the pass

around : (records : List Record) (i : ℕ) (r : Record) → i < length records → r ≡ get_or records i r → records ≡ take i records ++ r ∷ drop (suc i) records
around records i r h e = sym (take-append-drop i records) ∙ ap (λ (x : List Record). take i records ++ x) (drop-cons records i r h ∙ ap (λ (x : Record). x ∷ drop (suc i) records) (sym e))

pub row_read : (label : Label) (records : List Record) (rows : List (Option TableRow)) → rows ≡ map (row_in label) records → (i : ℕ) (r : Record) (o : Option TableRow) → i < length records → r ≡ get_or records i r → o ≡ get_or rows i o → o ≡ row_in label r
row_read label records rows parsed i r o h e f = f ∙ ap (λ (x : List (Option TableRow)). get_or x i o) parsed ∙ get_or-map (row_in label) records i r o h ∙ ap (row_in label) (sym e)

pub places_sorted : (label : Label) (records : List Record) (rows : List (Option TableRow)) → rows ≡ map (row_in label) records → RisesByKey records → IsStrictlySortedBy nat_cmp (map id_of (places_in rows))
places_sorted label records rows parsed s =
    subst (λ (ns : List Node). IsStrictlySortedBy nat_cmp (map id_of (map place_of ns))) (sym (ap (filter_map said_node) parsed ∙ nodes_said label records)) (ids_sorted (filter_map as_node (rows_in label records)) (order_read label records s).nodes)

short_formed : (label : Label) (o : Option TableRow) → ((x : TableRow) → o ≡ Some x → is_formed_record label x ≡ true) → is_short_row o ≡ true
short_formed label None f = refl
short_formed label (Some (row.Head h)) f = refl
short_formed label (Some (row.Node n)) f = refl
short_formed label (Some (row.Block b)) f = short_block b (f (row.Block b) refl)
short_formed label (Some (row.Comment c)) f = refl
short_formed label (Some (row.Icon i)) f = refl
short_formed label (Some (row.Appl a)) f = refl

pub short_read : (label : Label) (r : Record) (o : Option TableRow) → o ≡ row_in label r → is_short_row o ≡ true
short_read label r o e = short_formed label o (λ x h. (row_is label r x (sym e ∙ h)).0)

named_formed : (label : Label) (o : Option TableRow) → ((x : TableRow) → o ≡ Some x → is_formed_record label x ≡ true) → IsNamedRow o
named_formed label None f = tt
named_formed label (Some (row.Head h)) f = tt
named_formed label (Some (row.Node n)) f = node_name label.name n (sound_node label n (f (row.Node n) refl))
named_formed label (Some (row.Block b)) f = tt
named_formed label (Some (row.Comment c)) f = tt
named_formed label (Some (row.Icon i)) f = tt
named_formed label (Some (row.Appl a)) f = tt

pub named_read : (label : Label) (r : Record) (o : Option TableRow) → o ≡ row_in label r → IsNamedRow o
named_read label r o e = named_formed label o (λ x h. (row_is label r x (sym e ∙ h)).0)

one_more : (xs : List TableRow) (o : Option TableRow) → and_row (before_of xs) o ≡ before_of (xs ++ cons_option o [])
one_more xs None = ap before_of (sym (append-nil xs))
one_more xs (Some (row.Head h)) = λ i. record { nodes = sym (filter_map-append as_node xs (row.Head h ∷ []) ∙ append-nil (filter_map as_node xs)) i; icons = length (sym (filter_map-append as_icon xs (row.Head h ∷ []) ∙ append-nil (filter_map as_icon xs)) i); appls = length (sym (filter_map-append as_appl xs (row.Head h ∷ []) ∙ append-nil (filter_map as_appl xs)) i) }
one_more xs (Some (row.Node n)) = λ i. record { nodes = sym (filter_map-append as_node xs (row.Node n ∷ [])) i; icons = length (sym (filter_map-append as_icon xs (row.Node n ∷ []) ∙ append-nil (filter_map as_icon xs)) i); appls = length (sym (filter_map-append as_appl xs (row.Node n ∷ []) ∙ append-nil (filter_map as_appl xs)) i) }
one_more xs (Some (row.Block h)) = λ i. record { nodes = sym (filter_map-append as_node xs (row.Block h ∷ []) ∙ append-nil (filter_map as_node xs)) i; icons = length (sym (filter_map-append as_icon xs (row.Block h ∷ []) ∙ append-nil (filter_map as_icon xs)) i); appls = length (sym (filter_map-append as_appl xs (row.Block h ∷ []) ∙ append-nil (filter_map as_appl xs)) i) }
one_more xs (Some (row.Comment h)) = λ i. record { nodes = sym (filter_map-append as_node xs (row.Comment h ∷ []) ∙ append-nil (filter_map as_node xs)) i; icons = length (sym (filter_map-append as_icon xs (row.Comment h ∷ []) ∙ append-nil (filter_map as_icon xs)) i); appls = length (sym (filter_map-append as_appl xs (row.Comment h ∷ []) ∙ append-nil (filter_map as_appl xs)) i) }
one_more xs (Some (row.Icon n)) = λ i. record { nodes = sym (filter_map-append as_node xs (row.Icon n ∷ []) ∙ append-nil (filter_map as_node xs)) i; icons = sym (ap length (filter_map-append as_icon xs (row.Icon n ∷ [])) ∙ length_push (filter_map as_icon xs) n) i; appls = length (sym (filter_map-append as_appl xs (row.Icon n ∷ []) ∙ append-nil (filter_map as_appl xs)) i) }
one_more xs (Some (row.Appl n)) = λ i. record { nodes = sym (filter_map-append as_node xs (row.Appl n ∷ []) ∙ append-nil (filter_map as_node xs)) i; icons = length (sym (filter_map-append as_icon xs (row.Appl n ∷ []) ∙ append-nil (filter_map as_icon xs)) i); appls = sym (ap length (filter_map-append as_appl xs (row.Appl n ∷ [])) ∙ length_push (filter_map as_appl xs) n) i }

pub pushed_before : (label : Label) (records : List Record) (i : ℕ) (r : Record) (o : Option TableRow) → i < length records → r ≡ get_or records i r → o ≡ row_in label r → before_of (rows_in label (take (i + 1) records)) ≡ and_row (before_of (rows_in label (take i records))) o
pushed_before label records i r o h e f =
    ap (λ (x : List Record). before_of (rows_in label x)) (take_more records i r h ∙ ap (λ (x : Record). take i records ++ x ∷ []) (sym e))
    ∙ ap before_of (filter_map-append (row_in label) (take i records) (r ∷ []))
    ∙ ap (λ (p : Option TableRow). before_of (rows_in label (take i records) ++ cons_option p [])) (sym f)
    ∙ sym (one_more (rows_in label (take i records)) o)

reason_read : (label : Label) (records : List Record) → RisesByKey records → (xs : List Record) (r : Record) (ys : List Record) → records ≡ xs ++ r ∷ ys → (o : Option TableRow) → o ≡ row_in label r
    → reason_of (tables_in (rows_in label records)) o ≡ reason_here (map place_of (tables_in (rows_in label records)).nodes) (tables_in (rows_in label records)).head.next_id (before_of (rows_in label xs)) o
reason_read label records s xs r ys e None f = refl
reason_read label records s xs r ys e (Some x) f =
    same_reason (tables_in (rows_in label records)) (rows_in label xs) (rows_in label ys) x
    (ap (λ (l : List Record). tables_in (rows_in label l)) e ∙ ap tables_in (filter_map-append (row_in label) xs (r ∷ ys) ∙ ap (λ (p : Option TableRow). rows_in label xs ++ cons_option p (rows_in label ys)) (sym f)))
    (order_read label records s)

pub one_judged : (label : Label) (records : List Record) (rows : List (Option TableRow)) → rows ≡ map (row_in label) records → RisesByKey records → (i : ℕ) (r : Record) (o : Option TableRow) (reason : Option Reason) → i < length records → r ≡ get_or records i r → o ≡ get_or rows i o
    → reason ≡ reason_here (places_in rows) (next_in rows) (before_of (rows_in label (take i records))) o
    → first_in label (tables_in (rows_in label records)) (drop i records) ≡ bad_or r.key reason (first_in label (tables_in (rows_in label records)) (drop (i + 1) records))
one_judged label records rows parsed s i r o reason h e f why =
    let t : Tables = tables_in (rows_in label records) in
    let read = row_read label records rows parsed i r o h e f in
    let nodes : filter_map said_node rows ≡ filter_map as_node (rows_in label records) = ap (filter_map said_node) parsed ∙ nodes_said label records in
    let next : next_in rows ≡ (first_head (filter_map as_head (rows_in label records))).next_id = ap next_in parsed ∙ next_said label records in
    ap (first_in label (tables_in (rows_in label records))) (drop-cons records i r h ∙ ap (λ (x : Record). x ∷ drop (suc i) records) (sym e))
    ∙ ap (λ w. bad_or r.key w (first_in label (tables_in (rows_in label records)) (drop (suc i) records)))
    (ap (reason_of (tables_in (rows_in label records))) (sym read)
    ∙ reason_read label records s (take i records) r (drop (suc i) records) (around records i r h e) o read
    ∙ (λ k. reason_here (map place_of (sym nodes k)) (sym next k) (before_of (rows_in label (take i records))) o) ∙ sym why)
    ∙ ap (λ n. bad_or r.key reason (first_in label (tables_in (rows_in label records)) (drop n records))) (let n : suc i ≡ i + 1 = omega arith in n)

-- the same reason with equal places and next ids
pub why_among : (reason : Option Reason) (places there : List Place) (next here : ℕ) (before : Before) (o : Option TableRow) → reason ≡ reason_here places next before o → places ≡ there → next ≡ here → reason ≡ reason_here there here before o
why_among reason places there next here before o w p n = w ∙ ap (λ (x : List Place). reason_here x next before o) p ∙ ap (λ x. reason_here there x before o) n
