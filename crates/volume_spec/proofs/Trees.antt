-- The tree of a volume: a new node, one node less, a node at another place, and changes that leave all places.
use Rattle.std.proofs.Common.{◌==◌, ◌≡◌, ◌∙◌, ap, sym, refl, subst, ℕ, zero, suc, ◌+◌, ◌≤◌, ◌<◌, Bool, true, false, not, ◌&&◌, ◌||◌, cond, List, [], ◌∷◌, length, map, arith, inl, inr}
use Rattle.std.specs.Prelude.{nat_le, nat_lt, bytes_eq}
use Rattle.std.specs.List.{list_any, list_all, filter}
use Rattle.std.proofs.lemmas.Bool.{and_parts, and_from, or_cases, or_left, or_right, cond_both, cond-false, eqb-true, cases_Bool, both_ways, leb-true, le-leb, ltb-true, lt-ltb, ne_eqb, not-true}
use Rattle.volume_spec.proofs.Leading.{goes_up, leads-more, cut, leads-carried, leads-short}
use Rattle.volume_spec.specs.Edits.{is_below, without, has_children, with_changed, change_at, at_place, with_row, without_node, with_moved}
use Rattle.afp_base.specs.Apart.{are_apart}
use Rattle.volume_spec.specs.SoundVolume.{has_node, leads_to_root, is_in_place, is_tree}
use Rattle.volume_spec.specs.VolumeState.{Row, VolumeState, root_id, root_parent, first_id}
use Rattle.volume_spec.specs.Walk.{has_directory}
use Rattle.afp_base.proofs.Facts.{never}
use Rattle.afp_base.proofs.ListFacts.{all-both, all-filter, all-map-where, all-snoc, all-weaker, any-at, any-longer, any-map, any-still, any-weaker, apart-filter, apart-map, apart-snoc, apart-weaker, none-all}

-- the parts of a tree

pub record TreeParts (v : VolumeState) : Type 0 where
  pub apart : are_apart (λ (a : Row) b. a.id == b.id) v.rows ≡ true
  pub root : has_node v.rows root_id ≡ true
  pub placed : list_all (is_in_place v) v.rows ≡ true

pub tree-parts : (v : VolumeState) → is_tree v ≡ true → TreeParts v
unfolding is_tree
tree-parts v h =
    let e = and_parts (are_apart (λ (a : Row) b. a.id == b.id) v.rows) (has_node v.rows root_id && list_all (is_in_place v) v.rows) h in
    let f = and_parts (has_node v.rows root_id) (list_all (is_in_place v) v.rows) e.1 in
    record { apart = e.0; root = f.0; placed = f.1 }

pub tree-whole : (v : VolumeState) → TreeParts v → is_tree v ≡ true
unfolding is_tree
tree-whole v t =
    and_from (are_apart (λ (a : Row) b. a.id == b.id) v.rows) (has_node v.rows root_id && list_all (is_in_place v) v.rows) t.apart
    (and_from (has_node v.rows root_id) (list_all (is_in_place v) v.rows) t.root t.placed)

-- a way of any number of steps
pub record Leads (rows : List Row) (id : ℕ) : Type 0 where
  pub steps : ℕ
  pub leads : leads_to_root rows steps id ≡ true

leads-in : (rows : List Row) (id : ℕ) → Leads rows id → leads_to_root rows (length rows) id ≡ true
leads-in rows id l = leads-short (length rows) rows l.steps id (omega arith) l.leads

cond_two : (b x y z w : Bool) → (b ≡ true → x ≡ true → z ≡ true) → (b ≡ false → y ≡ true → w ≡ true) → cond b x y ≡ true → cond b z w ≡ true
cond_two true x y z w one two h = one refl h
cond_two false x y z w one two h = two refl h

-- what is known of a node that is not the root
pub record IsDrawn (v : VolumeState) (row : Row) : Type 0 where
  pub low : first_id ≤ row.id
  pub high : row.id < v.next_id
  pub way : leads_to_root v.rows (length v.rows) row.parent ≡ true

pub drawn : (v : VolumeState) (row : Row) → (row.id == root_id) ≡ false → is_in_place v row ≡ true → IsDrawn v row
drawn v row other h =
    let e = and_parts (nat_le first_id row.id && nat_lt row.id v.next_id) (leads_to_root v.rows (length v.rows) row.parent)
    (sym (cond-false (row.id == root_id) (row.dir && ((row.parent == root_parent) && bytes_eq row.name v.name)) ((nat_le first_id row.id && nat_lt row.id v.next_id) && leads_to_root v.rows (length v.rows) row.parent) other) ∙ h) in
    let f = and_parts (nat_le first_id row.id) (nat_lt row.id v.next_id) e.0 in
    record { low = leb-true first_id row.id f.0; high = ltb-true row.id v.next_id f.1; way = e.1 }

pub in-place : (v : VolumeState) (row : Row) → (row.id == root_id) ≡ false → first_id ≤ row.id → row.id < v.next_id → Leads v.rows row.parent → is_in_place v row ≡ true
in-place v row other low high way =
    cond-false (row.id == root_id) (row.dir && ((row.parent == root_parent) && bytes_eq row.name v.name)) ((nat_le first_id row.id && nat_lt row.id v.next_id) && leads_to_root v.rows (length v.rows) row.parent) other
    ∙ and_from (nat_le first_id row.id && nat_lt row.id v.next_id) (leads_to_root v.rows (length v.rows) row.parent)
    (and_from (nat_le first_id row.id) (nat_lt row.id v.next_id) (le-leb first_id row.id low) (lt-ltb row.id v.next_id high))
    (leads-in v.rows row.parent way)

-- a row stays in its place where its parent still leads to the root
placed-carried : (v w : VolumeState) (row : Row) → v.name ≡ w.name → v.next_id ≤ w.next_id
    → (leads_to_root v.rows (length v.rows) row.parent ≡ true → Leads w.rows row.parent)
    → is_in_place v row ≡ true → is_in_place w row ≡ true
placed-carried v w row same more ways h = elim (cases_Bool (row.id == root_id)) [
  | inl root ↦
      cond_two (row.id == root_id) (row.dir && ((row.parent == root_parent) && bytes_eq row.name v.name)) ((nat_le first_id row.id && nat_lt row.id v.next_id) && leads_to_root v.rows (length v.rows) row.parent)
      (row.dir && ((row.parent == root_parent) && bytes_eq row.name w.name)) ((nat_le first_id row.id && nat_lt row.id w.next_id) && leads_to_root w.rows (length w.rows) row.parent)
      (λ is k. subst (λ name. (row.dir && ((row.parent == root_parent) && bytes_eq row.name name)) ≡ true) same k)
      (λ other k. absurd (both_ways (row.id == root_id) other root)) h
  | inr other ↦
      let d = drawn v row other h in
      in-place w row other d.low (let k = d.high in omega arith) (ways d.way)
]

-- a row that passes and another test that all pass
pub any-with : {A : Type 0} (p q r : A → Bool) (xs : List A) → ((x : A) → p x ≡ true → q x ≡ true → r x ≡ true) → list_any p xs ≡ true → list_all q xs ≡ true → list_any r xs ≡ true
any-with p q r [] gives some all = some
any-with p q r (x ∷ xs) gives some all =
    let e = and_parts (q x) (list_all q xs) all in
    elim (or_cases (p x) (list_any p xs) some) [
      | inl here ↦ or_left (r x) (list_any r xs) (gives x here e.0)
      | inr later ↦ or_right (r x) (list_any r xs) (any-with p q r xs gives later e.1)
    ]

-- a directory leads to the root
pub directory-leads : (v : VolumeState) (id : ℕ) → TreeParts v → has_directory v.rows id ≡ true → Leads v.rows id
directory-leads v id t there = elim (cases_Bool (id == root_id)) [
  | inl root ↦ record { steps = 0; leads = root }
  | inr other ↦ record {
    steps = suc (length v.rows);
    leads = or_right (id == root_id) (list_any (goes_up v.rows (length v.rows) id) v.rows)
        (any-with (λ row. (row.id == id) && row.dir) (is_in_place v) (goes_up v.rows (length v.rows) id) v.rows (λ row is placed.
        let e = and_parts (row.id == id) (row.dir) is in
        and_from (row.id == id) (row.dir && leads_to_root v.rows (length v.rows) row.parent) e.0
        (and_from (row.dir) (leads_to_root v.rows (length v.rows) row.parent) e.1
        (drawn v row (ap (λ q. q == root_id) (eqb-true row.id id e.0) ∙ other) placed).way)) there t.placed);
  }
]

-- a new node

pub tree-new : (v : VolumeState) (row : Row) → first_id ≤ v.next_id → has_directory v.rows row.parent ≡ true → TreeParts v → TreeParts (with_row row v)
tree-new v row drawable there t =
    let w : VolumeState = with_row row v in
    let new : Row = (record row { id = v.next_id }) in
    let l : Leads v.rows row.parent = directory-leads v row.parent t there in
    let longer : (id n : ℕ) → leads_to_root v.rows n id ≡ true → leads_to_root w.rows n id ≡ true =
    λ id n way. leads-carried v.rows w.rows (λ id q some. any-longer (λ row. (row.id == id) && (row.dir && q row.parent)) v.rows (new ∷ []) some) n id way in
    record {
      apart = apart-snoc (λ (a : Row) b. a.id == b.id) v.rows new t.apart
          (all-weaker (is_in_place v) (λ row. not (row.id == v.next_id)) v.rows (λ row placed. elim (cases_Bool (row.id == root_id)) [
            | inl root ↦ ap not (ne_eqb row.id v.next_id (λ same. let is : row.id ≡ 2 = eqb-true row.id root_id root in absurd (omega arith)))
            | inr other ↦ ap not (ne_eqb row.id v.next_id (λ same. let k = (drawn v row other placed).high in absurd (omega arith)))
          ]) t.placed);
      root = any-longer (λ row. row.id == root_id) v.rows (new ∷ []) t.root;
      placed = all-snoc (is_in_place w) v.rows new
          (all-weaker (is_in_place v) (is_in_place w) v.rows (λ row placed. placed-carried v w row refl (omega arith) (λ way. record { steps = length v.rows; leads = longer row.parent (length v.rows) way }) placed) t.placed)
          (in-place w new (ne_eqb v.next_id root_id (λ same. absurd (omega arith))) drawable (omega arith) (record { steps = l.steps; leads = longer row.parent l.steps l.leads }));
    }

-- one node less

-- nothing is below a node without children but itself
below-none : (rows : List Row) (node n id : ℕ) → list_all (λ row. not (row.parent == node)) rows ≡ true → is_below rows n node id ≡ true → (id == node) ≡ true
below-none rows node zero id none h = h
below-none rows node (suc n) id none h = elim (or_cases (id == node) (list_any (λ row. (row.id == id) && is_below rows n node row.parent) rows) h) [
  | inl same ↦ same
  | inr some ↦ any-at (λ row. (row.id == id) && is_below rows n node row.parent) (λ row. not (row.parent == node)) rows some none
      (λ row is other. absurd (never (row.parent == node) (below-none rows node n row.parent none (and_parts (row.id == id) (is_below rows n node row.parent) is).1) other))
]

pub tree-without : (v : VolumeState) (id : ℕ) → (id == root_id) ≡ false → has_children v.rows id ≡ false → TreeParts v → TreeParts (without_node id v)
unfolding without has_children
tree-without v id other childless t =
    let w : VolumeState = without_node id v in
    let none : list_all (λ row. not (row.parent == id)) v.rows ≡ true = none-all (λ row. row.parent == id) v.rows (ap not childless) in
    record {
      apart = apart-filter (λ (a : Row) b. a.id == b.id) (λ row. not (row.id == id)) v.rows t.apart;
      root = any-still (λ row. row.id == root_id) (λ row. not (row.id == id)) v.rows
          (λ row root. ap not (ne_eqb row.id id (λ same. both_ways (id == root_id) other (ap (λ q. q == root_id) (sym same) ∙ root)))) t.root;
      placed = all-filter (is_in_place w) (λ row. not (row.id == id)) v.rows
          (all-both (is_in_place v) (λ row. not (row.parent == id)) (is_in_place w) v.rows (λ row placed not_child.
          placed-carried v w row refl (omega arith) (λ way. elim (cut v.rows id (length v.rows) row.parent way) [
            | inl left ↦ record { steps = length v.rows; leads = left }
            | inr met ↦ absurd (never (row.parent == id) (below-none v.rows id (length v.rows) row.parent none met.0) not_child)
          ]) placed) t.placed none);
    }

-- changes that leave all places

pub record KeepsPlace (change : Row → Row) : Type 0 where
  pub id : (row : Row) → (change row).id ≡ row.id
  pub parent : (row : Row) → (change row).parent ≡ row.parent
  pub dir : (row : Row) → (change row).dir ≡ row.dir
  pub name : (row : Row) → (change row).name ≡ row.name

-- changes that leave the tree: the name matters at the root alone
pub record KeepsTree (change : Row → Row) : Type 0 where
  pub id : (row : Row) → (change row).id ≡ row.id
  pub parent : (row : Row) → (change row).parent ≡ row.parent
  pub dir : (row : Row) → (change row).dir ≡ row.dir
  pub root_name : (row : Row) → (row.id == root_id) ≡ true → (change row).name ≡ row.name

pub keeps-tree : (change : Row → Row) → KeepsPlace change → KeepsTree change
keeps-tree change k = record { id = k.id; parent = k.parent; dir = k.dir; root_name = λ row root. k.name row }

abbrev placed_as : VolumeState → ℕ → Bool → ℕ → List ℕ → Bool
placed_as v id dir parent name =
    cond (id == root_id) (dir && ((parent == root_parent) && bytes_eq name v.name))
    ((nat_le first_id id && nat_lt id v.next_id) && leads_to_root v.rows (length v.rows) parent)

abbrev with_rows : List Row → VolumeState → VolumeState
with_rows rows v = record v { rows = rows }

pub tree-mapped : (v : VolumeState) (change : Row → Row) → KeepsTree change → TreeParts v → TreeParts (with_rows (map change v.rows) v)
tree-mapped v change keeps t =
    let w : VolumeState = with_rows (map change v.rows) v in
    let longer : (id n : ℕ) → leads_to_root v.rows n id ≡ true → leads_to_root w.rows n id ≡ true =
    λ id n way. leads-carried v.rows w.rows (λ id q some.
    any-map (λ row. (row.id == id) && (row.dir && q row.parent)) change v.rows
    ∙ any-weaker (λ row. (row.id == id) && (row.dir && q row.parent)) (λ row. ((change row).id == id) && ((change row).dir && q (change row).parent)) v.rows
    (λ row is. (λ i. (keeps.id row i == id) && (keeps.dir row i && q (keeps.parent row i))) ∙ is) some) n id way in
    record {
      apart = apart-map (λ (a : Row) b. a.id == b.id) change v.rows
          ∙ apart-weaker (λ (a : Row) b. a.id == b.id) (λ a b. (change a).id == (change b).id) v.rows (λ a b same. sym (λ i. keeps.id a i == keeps.id b i) ∙ same) t.apart;
      root = any-map (λ row. row.id == root_id) change v.rows ∙ any-weaker (λ row. row.id == root_id) (λ row. (change row).id == root_id) v.rows (λ row is. (λ i. keeps.id row i == root_id) ∙ is) t.root;
      placed = all-map-where (is_in_place v) (is_in_place w) change v.rows (λ row placed.
          let stays : is_in_place w row ≡ true = placed-carried v w row refl (omega arith) (λ way. record { steps = length v.rows; leads = longer row.parent (length v.rows) way }) placed in
          elim (cases_Bool (row.id == root_id)) [
            | inl root ↦ (λ i. placed_as w (keeps.id row i) (keeps.dir row i) (keeps.parent row i) (keeps.root_name row root i)) ∙ stays
            | inr other ↦
                let d : IsDrawn w row = drawn w row other stays in
                (λ i. placed_as w (keeps.id row i) (keeps.dir row i) (keeps.parent row i) (change row).name) ∙ in-place w (record row { name = (change row).name }) other d.low d.high (record { steps = length w.rows; leads = d.way })
          ]) t.placed;
    }

-- the change of one node keeps places where that change does
pub keeps-at : (id : ℕ) (change : Row → Row) → KeepsPlace change → KeepsPlace (change_at id change)
keeps-at id change k = record {
  id = λ row. cond_both (row.id == id) (change row) row (λ r. r.id ≡ row.id) (λ same. k.id row) (λ other. refl);
  parent = λ row. cond_both (row.id == id) (change row) row (λ r. r.parent ≡ row.parent) (λ same. k.parent row) (λ other. refl);
  dir = λ row. cond_both (row.id == id) (change row) row (λ r. r.dir ≡ row.dir) (λ same. k.dir row) (λ other. refl);
  name = λ row. cond_both (row.id == id) (change row) row (λ r. r.name ≡ row.name) (λ same. k.name row) (λ other. refl);
}

-- a node at another place

-- what passes in a filtered list passes in the list, changed where the filter does not keep it
any-carried : {A : Type 0} (p keep : A → Bool) (change : A → A) (xs : List A) → ((x : A) → keep x ≡ true → change x ≡ x) → list_any p (filter keep xs) ≡ true → list_any p (map change xs) ≡ true
any-carried p keep change [] leaves h = h
any-carried p keep change (x ∷ xs) leaves h =
    cond_both (keep x) (x ∷ filter keep xs) (filter keep xs) (λ l. list_any p l ≡ true → (p (change x) || list_any p (map change xs)) ≡ true)
    (λ kept h. elim (or_cases (p x) (list_any p (filter keep xs)) h) [
      | inl here ↦ or_left (p (change x)) (list_any p (map change xs)) (ap p (leaves x kept) ∙ here)
      | inr later ↦ or_right (p (change x)) (list_any p (map change xs)) (any-carried p keep change xs leaves later)
    ])
    (λ gone h. or_right (p (change x)) (list_any p (map change xs)) (any-carried p keep change xs leaves h))
    h

-- what leads to the root without the moved node leads there after the move
moved-apart : (rows : List Row) (node target : ℕ) (name : List ℕ) (n id : ℕ) → leads_to_root (without node rows) n id ≡ true → leads_to_root (with_changed node (at_place target name) rows) n id ≡ true
unfolding without with_changed
moved-apart rows node target name n id h =
    leads-carried (without node rows) (with_changed node (at_place target name) rows)
    (λ id q some. any-carried (λ row. (row.id == id) && (row.dir && q row.parent)) (λ row. not (row.id == node)) (change_at node (at_place target name)) rows
    (λ row kept. cond-false (row.id == node) (at_place target name row) row (not-true (row.id == node) kept)) some)
    n id h

-- what leads to the root leads there after the move, if the target does
moved-leads : (rows : List Row) (node target : ℕ) (name : List ℕ) (m : ℕ) → leads_to_root (with_changed node (at_place target name) rows) m target ≡ true
    → (n k id : ℕ) → n + suc m ≤ k → leads_to_root rows n id ≡ true → leads_to_root (with_changed node (at_place target name) rows) k id ≡ true
unfolding with_changed
moved-leads rows node target name m there zero k id within h = leads-more (with_changed node (at_place target name) rows) zero k id (omega arith) h
moved-leads rows node target name m there (suc n) zero id within h = absurd (omega arith)
moved-leads rows node target name m there (suc n) (suc k) id within h =
    let rows' : List Row = with_changed node (at_place target name) rows in
    elim (or_cases (id == root_id) (list_any (goes_up rows n id) rows) h) [
      | inl root ↦ or_left (id == root_id) (list_any (goes_up rows' k id) rows') root
      | inr some ↦ or_right (id == root_id) (list_any (goes_up rows' k id) rows')
          (any-map (goes_up rows' k id) (change_at node (at_place target name)) rows
          ∙ any-weaker (goes_up rows n id) (λ row. goes_up rows' k id (change_at node (at_place target name) row)) rows (λ row step.
          let e = and_parts (row.id == id) (row.dir && leads_to_root rows n row.parent) step in
          let f = and_parts (row.dir) (leads_to_root rows n row.parent) e.1 in
          cond_both (row.id == node) (at_place target name row) row (λ r. goes_up rows' k id r ≡ true)
          (λ same. and_from (row.id == id) (row.dir && leads_to_root rows' k target) e.0
          (and_from (row.dir) (leads_to_root rows' k target) f.0 (leads-more rows' m k target (omega arith) there)))
          (λ other. and_from (row.id == id) (row.dir && leads_to_root rows' k row.parent) e.0
          (and_from (row.dir) (leads_to_root rows' k row.parent) f.0 (moved-leads rows node target name m there n k row.parent (omega arith) f.1)))) some)
    ]

pub tree-moved : (v : VolumeState) (node target : ℕ) (name : List ℕ) → (node == root_id) ≡ false → has_directory v.rows target ≡ true → is_below v.rows (length v.rows) node target ≡ false → TreeParts v → TreeParts (with_moved node target name v)
unfolding with_changed
tree-moved v node target name other there not_below t =
    let w : VolumeState = with_moved node target name v in
    let move : Row → Row = change_at node (at_place target name) in
    let same_id : (row : Row) → (move row).id ≡ row.id = λ row. cond_both (row.id == node) (at_place target name row) row (λ r. r.id ≡ row.id) (λ same. refl) (λ other. refl) in
    let target_way : leads_to_root w.rows (length v.rows) target ≡ true =
    moved-apart v.rows node target name (length v.rows) target (elim (cut v.rows node (length v.rows) target (leads-in v.rows target (directory-leads v target t there))) [
      | inl left ↦ left
      | inr met ↦ absurd (both_ways (is_below v.rows (length v.rows) node target) not_below met.0)
    ]) in
    let ways : (id : ℕ) → leads_to_root v.rows (length v.rows) id ≡ true → Leads w.rows id =
    λ id way. record { steps = length v.rows + suc (length v.rows); leads = moved-leads v.rows node target name (length v.rows) target_way (length v.rows) (length v.rows + suc (length v.rows)) id (omega arith) way } in
    record {
      apart = apart-map (λ (a : Row) b. a.id == b.id) move v.rows
          ∙ apart-weaker (λ (a : Row) b. a.id == b.id) (λ a b. (move a).id == (move b).id) v.rows (λ a b same. sym (λ i. same_id a i == same_id b i) ∙ same) t.apart;
      root = any-map (λ row. row.id == root_id) move v.rows ∙ any-weaker (λ row. row.id == root_id) (λ row. (move row).id == root_id) v.rows (λ row is. (λ i. same_id row i == root_id) ∙ is) t.root;
      placed = all-map-where (is_in_place v) (is_in_place w) move v.rows (λ row placed.
          cond_both (row.id == node) (at_place target name row) row (λ r. is_in_place w r ≡ true)
          (λ same.
          let drawn_id : (row.id == root_id) ≡ false = ap (λ q. q == root_id) (eqb-true row.id node same) ∙ other in
          let d = drawn v row drawn_id placed in
          in-place w (at_place target name row) drawn_id d.low d.high (record { steps = length v.rows; leads = target_way }))
          (λ stays. placed-carried v w row refl (omega arith) (ways row.parent) placed)) t.placed;
    }
