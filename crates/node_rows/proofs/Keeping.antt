-- What is kept of a volume's nodes stays so: after one more, one less, and one changed.
use Rattle.std.proofs.Common.{◌≡◌, ◌∙◌, ap, sym, refl, subst, ℕ, zero, suc, ◌+◌, ◌==◌, ◌≤◌, ◌<◌, Bool, true, false, not, ◌&&◌, ◌||◌, cond, List, [], ◌∷◌, ◌++◌, length, map, take, drop, inl, inr, Option, Some, None, arith}
use Rattle.std.specs.Prelude.{slice_get, slice_index_or, slice_set, nat_lt, bytes_eq, option_map}
use Rattle.std.specs.List.{list_all, list_any, filter, find, insert, remove}
use Rattle.std.proofs.lemmas.Bool.{and_parts, and_from, cases_Bool, cond_both, cond-true, cond-false, ltb-true, ltb-false, lt-ltb, le-ltb, eqb-true, eqb-false, ne_eqb, not-true}
use Rattle.std.proofs.lemmas.Option.{slice_get-get_or}
use Rattle.afp_names.specs.Name.{name_key}
use Rattle.volume_spec.proofs.Ordered.{put-rises, order-all}
use Rattle.volume_spec.proofs.Orders.{gone-rises, changed-rises, rising-ids-differ}
use Rattle.volume_spec.proofs.Places.{unchanged, nothing-gone, changed-is-set, without-is-remove}
use Rattle.volume_spec.proofs.Rising.{keys-filter}
use Rattle.volume_spec.specs.Edits.{with_changed, change_at, without, at_place, is_taken}
use Rattle.volume_spec.specs.Order.{put_in, in_order, rises, rises_from}
use Rattle.afp_base.specs.Apart.{are_apart}
use Rattle.volume_spec.specs.SoundVolume.{has_rising_ids, last_next_id}
use Rattle.volume_spec.specs.VolumeState.{Row}
use Rattle.volume_spec.specs.Walk.{row_at, child_by_key}
use Rattle.node_rows.proofs.Sorting.{put-comm, order-filter, number_place}
use Rattle.node_rows.specs.Children.{child_of, child_order, children_of}
use Rattle.node_rows.specs.Kept.{IsPlaceOf, admitted}
use Rattle.node_rows.specs.lemma.Kept.{AreKept}
use Rattle.node_rows.specs.lemma.Places.{is_other, is_apart}
use Rattle.node_rows.specs.declared.child.Child.{Child}
use Rattle.afp_base.proofs.Facts.{bytes_differ_turn}
use Rattle.afp_base.proofs.ListFacts.{all-filter, all-map-where, all-weaker, find-none, find-passes, none-all, none-find}

-- a row admitted

-- an insertion at the place of its id
pub admitted-at : (node : Row) (rows : List Row) → list_all (λ (row : Row). not (row.id == node.id)) rows ≡ true → insert rows (number_place (λ (row : Row). row.id) node.id rows) node ≡ admitted node rows
admitted-at node [] h = refl
admitted-at node (r ∷ rs) h =
    let e = and_parts (not (r.id == node.id)) (list_all (λ (row : Row). not (row.id == node.id)) rs) h in
    go (nat_lt node.id r.id) refl (number_place (λ (row : Row). row.id) node.id rs) (eqb-false r.id node.id (not-true (r.id == node.id) e.0)) (admitted-at node rs e.1)
  where
    further : (n : ℕ) → insert (r ∷ rs) (1 + n) node ≡ r ∷ insert rs n node
    further n = let more : 1 + n ≡ suc n = omega arith in ap (λ k. take k (r ∷ rs) ++ node ∷ drop k (r ∷ rs)) more

    go : (first : Bool) → nat_lt node.id r.id ≡ first → (n : ℕ) → (r.id ≡ node.id → ⊥) → insert rs n node ≡ admitted node rs
        → insert (r ∷ rs) (cond (not (not (nat_lt r.id node.id))) (1 + n) 0) node ≡ admitted node (r ∷ rs)
    go true a n differ rest =
        let less : node.id < r.id = ltb-true node.id r.id a in
        let b : nat_lt r.id node.id ≡ false = le-ltb r.id node.id (omega arith) in simp (a, b)
    go false a n differ rest =
        let low : r.id ≤ node.id = ltb-false node.id r.id a in
        let b : nat_lt r.id node.id ≡ true = lt-ltb r.id node.id (omega (arith, differ)) in
        ap (λ t. insert (r ∷ rs) (cond (not (not t)) (1 + n) 0) node) b ∙ further n ∙ ap (λ l. r ∷ l) rest ∙ sym (cond-false (nat_lt node.id r.id) (node ∷ r ∷ rs) (r ∷ admitted node rs) a)

-- above all ids it comes last
pub admitted-last : (node : Row) (rows : List Row) → list_all (λ (row : Row). nat_lt row.id node.id) rows ≡ true → admitted node rows ≡ rows ++ node ∷ []
admitted-last node [] h = refl
admitted-last node (r ∷ rs) h =
    let e = and_parts (nat_lt r.id node.id) (list_all (λ (row : Row). nat_lt row.id node.id) rs) h in
    let below : r.id < node.id = ltb-true r.id node.id e.0 in
    cond-false (nat_lt node.id r.id) (node ∷ r ∷ rs) (r ∷ admitted node rs) (le-ltb node.id r.id (omega arith)) ∙ ap (λ l. r ∷ l) (admitted-last node rs e.1)

admitted-all : (p : Row → Bool) (node : Row) (rows : List Row) → p node ≡ true → list_all p rows ≡ true → list_all p (admitted node rows) ≡ true
admitted-all p node [] here h = and_from (p node) true here refl
admitted-all p node (r ∷ rs) here h =
    let e = and_parts (p r) (list_all p rs) h in
    cond_both (nat_lt node.id r.id) (node ∷ r ∷ rs) (r ∷ admitted node rs) (λ l. list_all p l ≡ true)
    (λ first. and_from (p node) (list_all p (r ∷ rs)) here h)
    (λ later. and_from (p r) (list_all p (admitted node rs)) e.0 (admitted-all p node rs here e.1))

admitted-rises : (node : Row) (low : ℕ) (rows : List Row) → low < node.id → list_all (λ (row : Row). not (row.id == node.id)) rows ≡ true → rises_from (λ (row : Row). row.id) low rows ≡ true
    → rises_from (λ (row : Row). row.id) low (admitted node rows) ≡ true
admitted-rises node low [] above others h = and_from (nat_lt low node.id) true (lt-ltb low node.id above) refl
admitted-rises node low (r ∷ rs) above others h =
    let e = and_parts (nat_lt low r.id) (rises_from (λ (row : Row). row.id) r.id rs) h in
    let o = and_parts (not (r.id == node.id)) (list_all (λ (row : Row). not (row.id == node.id)) rs) others in
    cond_both (nat_lt node.id r.id) (node ∷ r ∷ rs) (r ∷ admitted node rs) (λ l. rises_from (λ (row : Row). row.id) low l ≡ true)
    (λ first. and_from (nat_lt low node.id) (rises_from (λ (row : Row). row.id) node.id (r ∷ rs)) (lt-ltb low node.id above) (and_from (nat_lt node.id r.id) (rises_from (λ (row : Row). row.id) r.id rs) first e.1))
    (λ later.
    let low_r : r.id ≤ node.id = ltb-false node.id r.id later in
    let differ : (r.id ≡ node.id → ⊥) = eqb-false r.id node.id (not-true (r.id == node.id) o.0) in
    and_from (nat_lt low r.id) (rises_from (λ (row : Row). row.id) r.id (admitted node rs)) e.0 (admitted-rises node r.id rs (omega (arith, differ)) o.1 e.1))

-- its child is put in
admitted-order : (node : Row) (rows : List Row) → list_all (λ row. is_apart (child_of node) (child_of row)) rows ≡ true → children_of (admitted node rows) ≡ put_in child_order (child_of node) (children_of rows)
admitted-order node [] h = refl
admitted-order node (r ∷ rs) h =
    let e = and_parts (is_apart (child_of node) (child_of r)) (list_all (λ row. is_apart (child_of node) (child_of row)) rs) h in
    cond_both (nat_lt node.id r.id) (node ∷ r ∷ rs) (r ∷ admitted node rs) (λ l. children_of l ≡ put_in child_order (child_of node) (children_of (r ∷ rs)))
    (λ first. refl)
    (λ later. ap (λ l. put_in child_order (child_of r) l) (admitted-order node rs e.1) ∙ sym (put-comm child_order (child_of node) (child_of r) (children_of rs) e.0))

-- a child that differs from those of rows differs from those in order
pub apart-sorted : (child : Child) (rows : List Row) → list_all (λ row. is_apart child (child_of row)) rows ≡ true → list_all (is_apart child) (children_of rows) ≡ true
apart-sorted child rows h = order-all child_order (is_apart child) (map child_of rows) (all-map-where (λ row. is_apart child (child_of row)) (is_apart child) child_of rows (λ row k. k) h)

pub keeps-new : (node : Row) (rows : List Row) (children : List Child) (next later : ℕ) → list_all (λ (row : Row). not (row.id == node.id)) rows ≡ true → list_all (λ row. is_apart (child_of node) (child_of row)) rows ≡ true
    → 0 < node.id → next ≤ later → node.id < later → later ≤ last_next_id → AreKept rows children next → AreKept (admitted node rows) (put_in child_order (child_of node) children) later
unfolding has_rising_ids
keeps-new node rows children next later new free above more below top k = record {
  rising = admitted-rises node 0 rows above new k.rising;
  order = put-rises child_order (child_of node) children (subst (λ l. list_all (is_apart (child_of node)) l ≡ true) (sym k.sorted) (apart-sorted (child_of node) rows free)) k.order;
  sorted = ap (λ l. put_in child_order (child_of node) l) k.sorted ∙ sym (admitted-order node rows free);
  below = admitted-all (λ row. nat_lt row.id later) node rows (lt-ltb node.id later below)
      (all-weaker (λ row. nat_lt row.id next) (λ row. nat_lt row.id later) rows (λ row less. let l : row.id < next = ltb-true row.id next less in lt-ltb row.id later (omega arith)) k.below);
  low = let l = k.low in omega arith;
  high = top;
}

-- a free key, as it is asked
pub free-apart : (node : Row) (rows : List Row) (key : List ℕ) → key ≡ name_key node.name → child_by_key rows node.parent key ≡ None → list_all (λ row. is_apart (child_of node) (child_of row)) rows ≡ true
unfolding child_by_key
free-apart node rows key is free =
    let test : Row → Bool = λ (row : Row). (row.parent == node.parent) && bytes_eq (name_key row.name) key in
    all-weaker (λ row. not (test row)) (λ row. is_apart (child_of node) (child_of row)) rows
    (λ row other. ap (λ k. not (bytes_eq (node.parent ∷ k) (child_order (child_of row)))) (sym is) ∙ bytes_differ_turn (child_order (child_of row)) (node.parent ∷ key) other)
    (find-none test rows (gone (find test rows) free))
  where
    gone : (o : Option Row) → option_map (λ (row : Row). row.id) o ≡ None → o ≡ None
    gone None h = refl
    gone (Some row) h = absurd (cc)

-- a node less

map-filter : (id : ℕ) (rows : List Row) → filter (is_other id) (map child_of rows) ≡ map child_of (without id rows)
unfolding without
map-filter id [] = refl
map-filter id (r ∷ rs) =
    cond_both (not (r.id == id)) (r ∷ filter (λ (row : Row). not (row.id == id)) rs) (filter (λ (row : Row). not (row.id == id)) rs)
    (λ l. cond (not (r.id == id)) (child_of r ∷ filter (is_other id) (map child_of rs)) (filter (is_other id) (map child_of rs)) ≡ map child_of l)
    (λ kept. cond-true (not (r.id == id)) (child_of r ∷ filter (is_other id) (map child_of rs)) (filter (is_other id) (map child_of rs)) kept ∙ ap (λ l. child_of r ∷ l) (map-filter id rs))
    (λ gone. cond-false (not (r.id == id)) (child_of r ∷ filter (is_other id) (map child_of rs)) (filter (is_other id) (map child_of rs)) gone ∙ map-filter id rs)

pub children-without : (id : ℕ) (rows : List Row) (children : List Child) (next : ℕ) → AreKept rows children next → filter (is_other id) children ≡ children_of (without id rows)
children-without id rows children next k =
    ap (λ l. filter (is_other id) l) k.sorted
    ∙ order-filter child_order (is_other id) (map child_of rows) (ap (λ l. rises child_order l) (sym k.sorted) ∙ k.order)
    ∙ ap (λ l. in_order child_order l) (map-filter id rows)

pub keeps-gone : (id : ℕ) (rows : List Row) (children : List Child) (next : ℕ) → AreKept rows children next → AreKept (without id rows) (filter (is_other id) children) next
unfolding without
keeps-gone id rows children next k = record {
  rising = gone-rises rows id k.rising;
  order = keys-filter child_order (is_other id) children k.order;
  sorted = children-without id rows children next k;
  below = all-filter (λ row. nat_lt row.id next) (λ row. not (row.id == id)) rows k.below;
  low = k.low;
  high = k.high;
}

-- a node changed, its place and name left

same-children : (id : ℕ) (change : Row → Row) (rows : List Row) → ((row : Row) → child_of (change row) ≡ child_of row) → map child_of (with_changed id change rows) ≡ map child_of rows
unfolding with_changed
same-children id change [] same = refl
same-children id change (r ∷ rs) same = λ i. cond_both (r.id == id) (change r) r (λ q. child_of q ≡ child_of r) (λ is. same r) (λ other. refl) i ∷ same-children id change rs same i

changed-below : (id next : ℕ) (change : Row → Row) (rows : List Row) → ((row : Row) → (change row).id ≡ row.id) → list_all (λ row. nat_lt row.id next) rows ≡ true → list_all (λ row. nat_lt row.id next) (with_changed id change rows) ≡ true
unfolding with_changed
changed-below id next change rows same h = all-map-where (λ row. nat_lt row.id next) (λ row. nat_lt row.id next) (change_at id change) rows
    (λ row less. cond_both (row.id == id) (change row) row (λ q. nat_lt q.id next ≡ true) (λ is. ap (λ n. nat_lt n next) (same row) ∙ less) (λ other. less)) h

pub keeps-marked : (id : ℕ) (change : Row → Row) (rows : List Row) (children : List Child) (next : ℕ) → ((row : Row) → (change row).id ≡ row.id) → ((row : Row) → child_of (change row) ≡ child_of row)
    → AreKept rows children next → AreKept (with_changed id change rows) children next
keeps-marked id change rows children next same_id same k = record {
  rising = changed-rises rows id change same_id k.rising;
  order = k.order;
  sorted = k.sorted ∙ ap (λ l. in_order child_order l) (sym (same-children id change rows same));
  below = changed-below id next change rows same_id k.below;
  low = k.low;
  high = k.high;
}

-- a node at another place

-- no other node has the key there
pub untaken-apart : (rows : List Row) (id parent : ℕ) (name : List ℕ) (child : Child) → child.parent.0 ≡ parent → child.key ≡ name_key name → is_taken rows id parent name ≡ false
    → list_all (λ row. is_apart child (child_of row)) (without id rows) ≡ true
unfolding is_taken without
untaken-apart rows id parent name child is_parent is_key free =
    by rows (none-all (λ row. not (row.id == id) && test row) rows (ap not free))
  where
    test : Row → Bool
    test row = (row.parent == parent) && bytes_eq (name_key row.name) (name_key name)

    apart : (row : Row) → test row ≡ false → is_apart child (child_of row) ≡ true
    apart row other =
        (λ i. not (bytes_eq (is_parent i ∷ is_key i) (child_order (child_of row)))) ∙ bytes_differ_turn (child_order (child_of row)) (parent ∷ name_key name) (ap not other)

    both : (a b : Bool) → not (a && b) ≡ true → a ≡ true → b ≡ false
    both true true h is = absurd (cc)
    both true false h is = refl
    both false b h is = absurd (cc)

    by : (rows : List Row) → list_all (λ row. not (not (row.id == id) && test row)) rows ≡ true → list_all (λ row. is_apart child (child_of row)) (filter (λ (row : Row). not (row.id == id)) rows) ≡ true
    by [] h = refl
    by (r ∷ rs) h =
        let e = and_parts (not (not (r.id == id) && test r)) (list_all (λ row. not (not (row.id == id) && test row)) rs) h in
        cond_both (not (r.id == id)) (r ∷ filter (λ (row : Row). not (row.id == id)) rs) (filter (λ (row : Row). not (row.id == id)) rs) (λ l. list_all (λ row. is_apart child (child_of row)) l ≡ true)
        (λ kept. and_from (is_apart child (child_of r)) (list_all (λ row. is_apart child (child_of row)) (filter (λ (row : Row). not (row.id == id)) rs)) (apart r (both (not (r.id == id)) (test r) e.0 kept)) (by rs e.1))
        (λ gone. by rs e.1)

placed-order : (id parent : ℕ) (name : List ℕ) (child : Child) (rows : List Row) → are_apart (λ (a : Row) b. a.id == b.id) rows ≡ true → list_any (λ (row : Row). row.id == id) rows ≡ true
    → ((row : Row) → row.id ≡ id → child_of (at_place parent name row) ≡ child) → list_all (λ row. is_apart child (child_of row)) (without id rows) ≡ true
    → children_of (with_changed id (at_place parent name) rows) ≡ put_in child_order child (children_of (without id rows))
unfolding with_changed without
placed-order id parent name child [] apart there is free = absurd (cc)
placed-order id parent name child (r ∷ rs) apart there is free =
    let e = and_parts (not (list_any (λ (b : Row). r.id == b.id) rs)) (are_apart (λ (a : Row) b. a.id == b.id) rs) apart in
    elim (cases_Bool (r.id == id)) [
      | inl here ↦
          let id_is : r.id ≡ id = eqb-true r.id id here in
          let others : list_all (λ (b : Row). not (r.id == b.id)) rs ≡ true = none-all (λ (b : Row). r.id == b.id) rs e.0 in
          let changed : map (change_at id (at_place parent name)) rs ≡ rs = unchanged (at_place parent name) r id rs id_is others in
          let left : filter (λ (row : Row). not (row.id == id)) rs ≡ rs = nothing-gone r id rs id_is others in
          let first : change_at id (at_place parent name) r ≡ at_place parent name r = cond-true (r.id == id) (at_place parent name r) r here in
          let dropped : filter (λ (row : Row). not (row.id == id)) (r ∷ rs) ≡ rs = cond-false (not (r.id == id)) (r ∷ filter (λ (row : Row). not (row.id == id)) rs) (filter (λ (row : Row). not (row.id == id)) rs) (ap not here) ∙ left in
          (λ i. put_in child_order ((ap child_of first ∙ is r id_is) i) (children_of (changed i))) ∙ ap (λ l. put_in child_order child (children_of l)) (sym dropped)
      | inr other ↦
          let first : change_at id (at_place parent name) r ≡ r = cond-false (r.id == id) (at_place parent name r) r other in
          let kept : filter (λ (row : Row). not (row.id == id)) (r ∷ rs) ≡ r ∷ filter (λ (row : Row). not (row.id == id)) rs = cond-true (not (r.id == id)) (r ∷ filter (λ (row : Row). not (row.id == id)) rs) (filter (λ (row : Row). not (row.id == id)) rs) (ap not other) in
          let f = and_parts (is_apart child (child_of r)) (list_all (λ row. is_apart child (child_of row)) (filter (λ (row : Row). not (row.id == id)) rs)) (ap (λ l. list_all (λ row. is_apart child (child_of row)) l) (sym kept) ∙ free) in
          let later : list_any (λ (row : Row). row.id == id) rs ≡ true = ap (λ t. t || list_any (λ (row : Row). row.id == id) rs) (sym other) ∙ there in
          (λ i. put_in child_order (child_of (first i)) (placed-order id parent name child rs e.1 later is f.1 i))
          ∙ sym (put-comm child_order child (child_of r) (children_of (filter (λ (row : Row). not (row.id == id)) rs)) f.0)
          ∙ ap (λ l. put_in child_order child (children_of l)) (sym kept)
    ]

pub keeps-placed : (id parent : ℕ) (name : List ℕ) (child : Child) (rows : List Row) (children : List Child) (next : ℕ) → list_any (λ (row : Row). row.id == id) rows ≡ true
    → ((row : Row) → row.id ≡ id → child_of (at_place parent name row) ≡ child) → list_all (λ row. is_apart child (child_of row)) (without id rows) ≡ true
    → AreKept rows children next → AreKept (with_changed id (at_place parent name) rows) (put_in child_order child (filter (is_other id) children)) next
keeps-placed id parent name child rows children next there is free k =
    let left : filter (is_other id) children ≡ children_of (without id rows) = children-without id rows children next k in
    record {
      rising = changed-rises rows id (at_place parent name) (λ row. refl) k.rising;
      order = put-rises child_order child (filter (is_other id) children) (subst (λ l. list_all (is_apart child) l ≡ true) (sym left) (apart-sorted child (without id rows) free)) (keys-filter child_order (is_other id) children k.order);
      sorted = ap (λ l. put_in child_order child l) left ∙ sym (placed-order id parent name child rows (rising-ids-differ rows k.rising) there is free);
      below = changed-below id next (at_place parent name) rows (λ row. refl) k.below;
      low = k.low;
      high = k.high;
    }

-- what is done by an id is done at its place, or not at all

at-row : (rows : List Row) (id i : ℕ) (s : Row) → IsPlaceOf rows id (Some i) → s ≡ slice_index_or rows i s → (slice_get rows i ≡ Some s) × (s.id ≡ id)
unfolding row_at
at-row rows id i s place read =
    let there : slice_get rows i ≡ Some s = slice_get-get_or rows i s place.0 ∙ ap (λ r. Some r) (sym read) in
    (there, eqb-true s.id id (find-passes (λ (row : Row). row.id == id) rows s (place.1 ∙ there)))

pub changed-there : (change : Row → Row) (rows : List Row) (id i : ℕ) (s : Row) → has_rising_ids rows ≡ true → IsPlaceOf rows id (Some i) → s ≡ slice_index_or rows i s → with_changed id change rows ≡ slice_set rows i (change s)
changed-there change rows id i s rising place read =
    let r = at-row rows id i s place read in
    ap (λ n. with_changed n change rows) (sym r.1) ∙ changed-is-set change rows i s (rising-ids-differ rows rising) r.0

pub gone-there : (rows : List Row) (id i : ℕ) (s : Row) → has_rising_ids rows ≡ true → IsPlaceOf rows id (Some i) → s ≡ slice_index_or rows i s → without id rows ≡ remove rows i
gone-there rows id i s rising place read =
    let r = at-row rows id i s place read in
    ap (λ n. without n rows) (sym r.1) ∙ without-is-remove rows i s (rising-ids-differ rows rising) r.0

pub row-there : (rows : List Row) (id i : ℕ) (s : Row) → IsPlaceOf rows id (Some i) → s ≡ slice_index_or rows i s → row_at rows id ≡ Some s
row-there rows id i s place read = place.1 ∙ (at-row rows id i s place read).0

pub same-id : (rows : List Row) (id i : ℕ) (s : Row) → IsPlaceOf rows id (Some i) → s ≡ slice_index_or rows i s → s.id ≡ id
same-id rows id i s place read = (at-row rows id i s place read).1

pub id-there : (rows : List Row) (id i : ℕ) (s : Row) → IsPlaceOf rows id (Some i) → s ≡ slice_index_or rows i s → list_any (λ (row : Row). row.id == id) rows ≡ true
unfolding row_at
id-there rows id i s place read = by rows (place.1 ∙ (at-row rows id i s place read).0)
  where
    by : (rows : List Row) → find (λ (row : Row). row.id == id) rows ≡ Some s → list_any (λ (row : Row). row.id == id) rows ≡ true
    by [] h = absurd (cc)
    by (r ∷ rs) h = elim (cases_Bool (r.id == id)) [
      | inl here ↦ ap (λ t. t || list_any (λ (row : Row). row.id == id) rs) here
      | inr other ↦
          ap (λ t. t || list_any (λ (row : Row). row.id == id) rs) other ∙ by rs (sym (cond-false (r.id == id) (Some r) (find (λ (row : Row). row.id == id) rs) other) ∙ h)
    ]

pub none-there : (rows : List Row) (id : ℕ) → row_at rows id ≡ None → list_all (λ (row : Row). not (row.id == id)) rows ≡ true
unfolding row_at
none-there rows id none = find-none (λ (row : Row). row.id == id) rows none

pub changed-nowhere : (change : Row → Row) (rows : List Row) (id : ℕ) → row_at rows id ≡ None → with_changed id change rows ≡ rows
unfolding with_changed
changed-nowhere change rows id none = by rows (none-there rows id none)
  where
    by : (rows : List Row) → list_all (λ (row : Row). not (row.id == id)) rows ≡ true → map (change_at id change) rows ≡ rows
    by [] h = refl
    by (r ∷ rs) h =
        let e = and_parts (not (r.id == id)) (list_all (λ (row : Row). not (row.id == id)) rs) h in
        λ i. cond-false (r.id == id) (change r) r (not-true (r.id == id) e.0) i ∷ by rs e.1 i

pub gone-nowhere : (rows : List Row) (id : ℕ) → row_at rows id ≡ None → without id rows ≡ rows
unfolding without
gone-nowhere rows id none = by rows (none-there rows id none)
  where
    by : (rows : List Row) → list_all (λ (row : Row). not (row.id == id)) rows ≡ true → filter (λ (row : Row). not (row.id == id)) rows ≡ rows
    by [] h = refl
    by (r ∷ rs) h =
        let e = and_parts (not (r.id == id)) (list_all (λ (row : Row). not (row.id == id)) rs) h in
        cond-true (not (r.id == id)) (r ∷ filter (λ (row : Row). not (row.id == id)) rs) (filter (λ (row : Row). not (row.id == id)) rs) e.0 ∙ ap (λ l. r ∷ l) (by rs e.1)

-- as the code goes: a list that is looked through, and a place that is answered

pub is-place : (rows given : List Row) (id i : ℕ) (answer : Option ℕ) → given ≡ rows → IsPlaceOf given id answer → answer ≡ Some i → IsPlaceOf rows id (Some i)
is-place rows given id i answer given_is place is = subst (λ l. IsPlaceOf l id (Some i)) given_is (subst (λ o. IsPlaceOf given id o) is place)

pub no-place : (rows given : List Row) (id : ℕ) (answer : Option ℕ) → given ≡ rows → IsPlaceOf given id answer → answer ≡ None → row_at rows id ≡ None
no-place rows given id answer given_is place is = subst (λ l. IsPlaceOf l id None) given_is (subst (λ o. IsPlaceOf given id o) is place)

pub changed-default : (change : Row → Row) (rows : List Row) (id i : ℕ) (d : Row) → has_rising_ids rows ≡ true → IsPlaceOf rows id (Some i) → with_changed id change rows ≡ slice_set rows i (change (slice_index_or rows i d))
changed-default change rows id i d rising place = changed-there change rows id i (slice_index_or rows i d) rising place (default rows i (slice_index_or rows i d) d place.0)
  where
    default : (rows : List Row) (i : ℕ) (e d : Row) → i < length rows → slice_index_or rows i d ≡ slice_index_or rows i e
    default [] i e d within = absurd (omega arith)
    default (r ∷ rs) zero e d within = refl
    default (r ∷ rs) (suc i) e d within = default rs i e d (omega arith)

-- no row has an id above all
pub none-drawn : (rows : List Row) (id : ℕ) → list_all (λ (row : Row). nat_lt row.id id) rows ≡ true → row_at rows id ≡ None
unfolding row_at
none-drawn rows id below = none-find (λ (row : Row). row.id == id) rows (all-weaker (λ (row : Row). nat_lt row.id id) (λ row. not (row.id == id)) rows
    (λ row less. let k : row.id < id = ltb-true row.id id less in ap not (ne_eqb row.id id (λ same. omega arith))) below)

-- a free key, as it is asked of the children
pub free-child : (rows : List Row) (children : List Child) (next : ℕ) (node : Row) (key : List ℕ) → key ≡ name_key node.name → child_by_key rows node.parent key ≡ None → AreKept rows children next → list_all (is_apart (child_of node)) children ≡ true
free-child rows children next node key is free k =
    subst (λ l. list_all (is_apart (child_of node)) l ≡ true) (sym k.sorted) (apart-sorted (child_of node) rows (free-apart node rows key is free))
