-- What is asked of the children in order is what is asked of the rows.
use Rattle.std.proofs.Common.{◌≡◌, ◌∙◌, ap, sym, refl, ℕ, ◌≤◌, ◌==◌, Bool, true, false, ◌&&◌, cond, List, [], ◌∷◌, map, Option, Some, None, arith}
use Rattle.std.specs.Prelude.{MatchOption, slice_get, nat_lt, bytes_eq, option_map}
use Rattle.std.specs.List.{list_all, filter, find}
use Rattle.std.proofs.lemmas.Bool.{and_from, cond_both, cond-true, cond-false, eqb-true, eq-eqb, le-ltb, lt-ltb}
use Rattle.std.proofs.lemmas.Option.{slice_get-map}
use Rattle.std.proofs.lemmas.Slice.Eq.{bytes_eq-Decides}
use Rattle.afp_base.specs.declared.ids.NodeId.{NodeId}
use Rattle.afp_names.specs.Name.{name_key}
use Rattle.volume_spec.proofs.Ordered.{order-map}
use Rattle.volume_spec.specs.Listing.{children as in_directory, listed, row_key}
use Rattle.volume_spec.specs.Order.{stands_before, in_order, rises}
use Rattle.afp_base.specs.Apart.{are_apart}
use Rattle.volume_spec.specs.SoundVolume.{are_named_alike, has_rising_ids, last_next_id}
use Rattle.volume_spec.specs.VolumeState.{Row}
use Rattle.volume_spec.specs.Walk.{child_by_key}
use Rattle.volume_spec.proofs.BareRows.{find-map}
use Rattle.node_rows.proofs.Siblings.{is_of}
use Rattle.node_rows.proofs.Sorting.{order-find, order-filter, order-differs}
use Rattle.node_rows.specs.Children.{child_of, child_order, children_of, node_id}
use Rattle.node_rows.specs.lemma.Kept.{AreKept}
use Rattle.node_rows.specs.declared.child.Child.{Child}
use Rattle.afp_base.proofs.ListFacts.{all-kept, apart-map}

in-order : (rows : List Row) (children : List Child) (next : ℕ) → AreKept rows children next → rises child_order (in_order child_order (map child_of rows)) ≡ true
in-order rows children next k = ap (λ l. rises child_order l) (sym k.sorted) ∙ k.order

-- names differ
pub names-apart : (rows : List Row) (children : List Child) (next : ℕ) → AreKept rows children next → are_apart are_named_alike rows ≡ true
names-apart rows children next k =
    sym (apart-map (λ (a : Child) b. bytes_eq (child_order a) (child_order b)) child_of rows) ∙ order-differs child_order (map child_of rows) (in-order rows children next k)

-- a child by key
pub child-is : (rows : List Row) (children : List Child) (next dir : ℕ) (key : List ℕ) → AreKept rows children next
    → option_map (λ (child : Child). child.id) (find (λ child. bytes_eq (child_order child) (dir ∷ key)) children) ≡ option_map node_id (child_by_key rows dir key)
unfolding child_by_key
child-is rows children next dir key k =
    ap (λ l. option_map (λ (child : Child). child.id) (find test l)) k.sorted
    ∙ ap (λ o. option_map (λ (child : Child). child.id) o) (order-find child_order test (map child_of rows) alike (in-order rows children next k) ∙ find-map child_of test rows)
    ∙ both (find (λ (row : Row). (row.parent == dir) && bytes_eq (name_key row.name) key) rows)
  where
    test : Child → Bool
    test child = bytes_eq (child_order child) (dir ∷ key)

    alike : (a b : Child) → test a ≡ true → test b ≡ true → bytes_eq (child_order a) (child_order b) ≡ true
    alike a b is_a is_b = (bytes_eq-Decides (child_order a) (child_order b)).1 ((bytes_eq-Decides (child_order a) (dir ∷ key)).0 is_a ∙ sym ((bytes_eq-Decides (child_order b) (dir ∷ key)).0 is_b))

    both : (o : Option Row) → option_map (λ (child : Child). child.id) (option_map child_of o) ≡ option_map node_id (option_map (λ (row : Row). row.id) o)
    both None = refl
    both (Some row) = refl

-- a child by its place

filter-map : (dir : ℕ) (rows : List Row) → filter (is_of dir) (map child_of rows) ≡ map child_of (filter (λ (row : Row). row.parent == dir) rows)
filter-map dir [] = refl
filter-map dir (r ∷ rs) =
    ap (λ l. cond (r.parent == dir) (child_of r ∷ l) l) (filter-map dir rs)
    ∙ cond_both (r.parent == dir) (r ∷ filter (λ (row : Row). row.parent == dir) rs) (filter (λ (row : Row). row.parent == dir) rs)
    (λ l. cond (r.parent == dir) (child_of r ∷ map child_of (filter (λ (row : Row). row.parent == dir) rs)) (map child_of (filter (λ (row : Row). row.parent == dir) rs)) ≡ map child_of l)
    (λ kept. cond-true (r.parent == dir) (child_of r ∷ map child_of (filter (λ (row : Row). row.parent == dir) rs)) (map child_of (filter (λ (row : Row). row.parent == dir) rs)) kept)
    (λ gone. cond-false (r.parent == dir) (child_of r ∷ map child_of (filter (λ (row : Row). row.parent == dir) rs)) (map child_of (filter (λ (row : Row). row.parent == dir) rs)) gone)

one-parent : (p : ℕ) (k l : List ℕ) → stands_before (p ∷ k) (p ∷ l) ≡ stands_before k l
one-parent p k l = let less : nat_lt p p ≡ false = le-ltb p p (omega arith) in let same : (p == p) ≡ true = eq-eqb p p refl in simp (less, same)

pub siblings-are : (rows : List Row) (children : List Child) (next dir : ℕ) → AreKept rows children next → filter (is_of dir) children ≡ map child_of (listed rows dir)
unfolding listed in_directory
siblings-are rows children next dir k =
    ap (λ l. filter (is_of dir) l) k.sorted
    ∙ order-filter child_order (is_of dir) (map child_of rows) (in-order rows children next k)
    ∙ ap (λ l. in_order child_order l) (filter-map dir rows)
    ∙ order-map child_of row_key child_order (λ (row : Row). row.parent == dir) (filter (λ (row : Row). row.parent == dir) rows) same (all-kept (λ (row : Row). row.parent == dir) rows)
  where
    same : (a b : Row) → (a.parent == dir) ≡ true → (b.parent == dir) ≡ true → stands_before (a.parent ∷ name_key a.name) (b.parent ∷ name_key b.name) ≡ stands_before (name_key a.name) (name_key b.name)
    same a b in_a in_b =
        (λ i. stands_before (eqb-true a.parent dir in_a i ∷ name_key a.name) (eqb-true b.parent dir in_b i ∷ name_key b.name)) ∙ one-parent dir (name_key a.name) (name_key b.name)

pub nth-is : (rows : List Row) (children : List Child) (next dir i : ℕ) → AreKept rows children next
    → option_map (λ (child : Child). child.id) (slice_get (filter (is_of dir) children) i) ≡ option_map (λ (row : Row). node_id row.id) (slice_get (listed rows dir) i)
nth-is rows children next dir i k =
    ap (λ l. option_map (λ (child : Child). child.id) (slice_get l i)) (siblings-are rows children next dir k)
    ∙ ap (λ o. option_map (λ (child : Child). child.id) o) (slice_get-map child_of (listed rows dir) i) ∙ both (slice_get (listed rows dir) i)
  where
    both : (o : Option Row) → option_map (λ (child : Child). child.id) (option_map child_of o) ≡ option_map (λ (row : Row). node_id row.id) o
    both None = refl
    both (Some row) = refl

-- a root alone
pub keeps-root : (nodes : List Row) (children : List Child) (root : Row) (child : Child) (next : ℕ) → nodes ≡ root ∷ [] → children ≡ child ∷ [] → child ≡ child_of root → root.id ≡ 2 → 17 ≤ next → next ≤ last_next_id → AreKept nodes children next
unfolding has_rising_ids
keeps-root nodes children root child next nodes_are children_are child_is id low high =
    let lower : nat_lt root.id next ≡ true = lt-ltb root.id next (omega arith) in
    let above : nat_lt 0 root.id ≡ true = lt-ltb 0 root.id (omega arith) in
    record {
      rising = ap has_rising_ids nodes_are ∙ and_from (nat_lt 0 root.id) true above refl;
      order = ap (λ l. rises child_order l) children_are;
      sorted = children_are ∙ ap (λ c. c ∷ []) child_is ∙ ap children_of (sym nodes_are);
      below = ap (λ l. list_all (λ (row : Row). nat_lt row.id next) l) nodes_are ∙ and_from (nat_lt root.id next) true lower refl;
      low = low;
      high = high;
    }

-- an answer, by what it is

pub answered-child : (answer : Option NodeId) (found : Option ℕ) → answer ≡ option_map node_id found → MatchOption answer (found ≡ None) (λ id. found ≡ Some id.0)
answered-child None None is = refl
answered-child None (Some n) is = absurd (cc)
answered-child (Some id) None is = absurd (cc)
answered-child (Some id) (Some n) is = let same : id ≡ node_id n = cc in ap (λ (q : NodeId). Some q.0) (sym same)

pub answered-nth : (answer : Option NodeId) (found : Option Row) → answer ≡ option_map (λ (row : Row). node_id row.id) found → MatchOption answer (found ≡ None) (λ id. option_map (λ (row : Row). row.id) found ≡ Some id.0)
answered-nth None None is = refl
answered-nth None (Some row) is = absurd (cc)
answered-nth (Some id) None is = absurd (cc)
answered-nth (Some id) (Some row) is = let same : id ≡ node_id row.id = cc in ap (λ (q : NodeId). Some q.0) (sym same)
