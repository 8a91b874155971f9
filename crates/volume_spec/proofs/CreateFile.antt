-- A file that goes for a new one of its name: it has no children, its name is free then, and its directory stays.
use Rattle.std.proofs.Common.{◌==◌, ◌≡◌, ◌∙◌, ap, sym, refl, subst, ℕ, zero, suc, Bool, true, false, not, ◌&&◌, ◌||◌, List, [], ◌∷◌, length, inl, inr, Some, None}
use Rattle.std.specs.Prelude.{option_map, nat_le, nat_lt, bytes_eq}
use Rattle.std.specs.List.{list_any, list_all, find}
use Rattle.std.proofs.lemmas.Bool.{and_parts, and_from, or_cases, or_left, or_right, cond_both, eqb-true, eq-eqb, cases_Bool, both_ways, ne_eqb}
use Rattle.std.proofs.lemmas.Slice.Eq.{bytes_eq-Decides}
use Rattle.afp_names.specs.Name.{name_key}
use Rattle.volume_spec.proofs.Leading.{goes_up}
use Rattle.volume_spec.specs.SoundVolume.{are_named_alike, has_apart_names, is_in_place, leads_to_root}
use Rattle.volume_spec.proofs.Trees.{TreeParts, drawn, any-with}
use Rattle.volume_spec.proofs.Walks.{mapped-from, MappedFrom}
use Rattle.volume_spec.specs.Edits.{has_children, without}
use Rattle.afp_base.specs.Apart.{are_apart}
use Rattle.volume_spec.specs.VolumeState.{Row, VolumeState, root_id, root_parent, first_id}
use Rattle.volume_spec.specs.Walk.{Place, has_directory, child_by_key}
use Rattle.afp_base.proofs.Facts.{contra, never}
use Rattle.afp_base.proofs.ListFacts.{any-at, any-still, any-weaker, none-find}

-- the root is a directory, in the root's parent
root-place : (v : VolumeState) (row : Row) → (row.id == root_id) ≡ true → is_in_place v row ≡ true → (row.dir ≡ true) × ((row.parent == root_parent) ≡ true)
root-place v row root placed =
    cond_both (row.id == root_id) (row.dir && ((row.parent == root_parent) && bytes_eq row.name v.name)) ((nat_le first_id row.id && nat_lt row.id v.next_id) && leads_to_root v.rows (length v.rows) row.parent)
    (λ b. b ≡ true → (row.dir ≡ true) × ((row.parent == root_parent) ≡ true))
    (λ is h. let e = and_parts (row.dir) ((row.parent == root_parent) && bytes_eq row.name v.name) h in (e.0, (and_parts (row.parent == root_parent) (bytes_eq row.name v.name) e.1).0))
    (λ other h. absurd (both_ways (row.id == root_id) other root)) placed

pub root-directory : (v : VolumeState) → TreeParts v → has_directory v.rows root_id ≡ true
root-directory v t = any-with (λ row. row.id == root_id) (is_in_place v) (λ row. (row.id == root_id) && row.dir) v.rows
    (λ row root placed. and_from (row.id == root_id) (row.dir) root (root-place v row root placed).0) t.root t.placed

-- what leads to the root is a directory
leads-directory : (v : VolumeState) (n id : ℕ) → TreeParts v → leads_to_root v.rows n id ≡ true → has_directory v.rows id ≡ true
leads-directory v zero id t h = ap (λ q. has_directory v.rows q) (eqb-true id root_id h) ∙ root-directory v t
leads-directory v (suc n) id t h = elim (or_cases (id == root_id) (list_any (goes_up v.rows n id) v.rows) h) [
  | inl is ↦ ap (λ q. has_directory v.rows q) (eqb-true id root_id is) ∙ root-directory v t
  | inr some ↦ any-weaker (goes_up v.rows n id) (λ row. (row.id == id) && row.dir) v.rows (λ row step.
      let e = and_parts (row.id == id) (row.dir && leads_to_root v.rows n row.parent) step in
      and_from (row.id == id) (row.dir) e.0 (and_parts (row.dir) (leads_to_root v.rows n row.parent) e.1).0) some
]

-- a file has no children
pub file-childless : (v : VolumeState) (id : ℕ) → TreeParts v → (id == root_parent) ≡ false → has_directory v.rows id ≡ false → has_children v.rows id ≡ false
unfolding has_children
file-childless v id t other file = elim (cases_Bool (list_any (λ row. row.parent == id) v.rows)) [
  | inr none ↦ none
  | inl some ↦ absurd (any-at (λ row. row.parent == id) (is_in_place v) v.rows some t.placed (λ row child placed. elim (cases_Bool (row.id == root_id)) [
    | inl root ↦ both_ways (id == root_parent) other (ap (λ q. q == root_parent) (sym (eqb-true row.parent id child)) ∙ (root-place v row root placed).1)
    | inr below ↦ both_ways (has_directory v.rows id) file
        (ap (λ q. has_directory v.rows q) (sym (eqb-true row.parent id child)) ∙ leads-directory v (length v.rows) row.parent t (drawn v row below placed).way)
  ]))
]

-- without the one element that passes none does
pub find-only : (alike : Row → Row → Bool) (p : Row → Bool) (rows : List Row) (s : Row) → ((a b : Row) → p a ≡ true → p b ≡ true → alike a b ≡ true) → are_apart alike rows ≡ true → find p rows ≡ Some s
    → list_all (λ row. not (p row)) (without s.id rows) ≡ true
unfolding without
find-only alike p [] s both apart h = absurd (cc)
find-only alike p (row ∷ rows) s both apart h =
    let e = and_parts (not (list_any (alike row) rows)) (are_apart alike rows) apart in
    cond_both (p row) (Some row) (find p rows) (λ o. o ≡ Some s → list_all (λ r. not (p r)) (without s.id (row ∷ rows)) ≡ true)
    (λ here h. let is : row ≡ s = cc in
    cond_both (not (row.id == s.id)) (row ∷ without s.id rows) (without s.id rows) (λ l. list_all (λ r. not (p r)) l ≡ true)
    (λ kept. absurd (never (row.id == s.id) (eq-eqb row.id s.id (ap (λ (r : Row). r.id) is)) kept))
    (λ gone. others row here rows e.0))
    (λ other h.
    let rest : list_all (λ r. not (p r)) (without s.id rows) ≡ true = find-only alike p rows s both e.1 h in
    cond_both (not (row.id == s.id)) (row ∷ without s.id rows) (without s.id rows) (λ l. list_all (λ r. not (p r)) l ≡ true)
    (λ kept. and_from (not (p row)) (list_all (λ r. not (p r)) (without s.id rows)) (ap not other) rest)
    (λ gone. rest)) h
  where
    others : (x : Row) → p x ≡ true → (ys : List Row) → not (list_any (alike x) ys) ≡ true → list_all (λ r. not (p r)) (without s.id ys) ≡ true
    others x here [] none = refl
    others x here (y ∷ ys) none =
        let rest : list_all (λ r. not (p r)) (without s.id ys) ≡ true = others x here ys (contra (alike x y || list_any (alike x) ys) (list_any (alike x) ys) (or_right (alike x y) (list_any (alike x) ys)) none) in
        cond_both (not (y.id == s.id)) (y ∷ without s.id ys) (without s.id ys) (λ l. list_all (λ r. not (p r)) l ≡ true)
        (λ kept. and_from (not (p y)) (list_all (λ r. not (p r)) (without s.id ys))
        (contra (alike x y || list_any (alike x) ys) (p y) (λ passes. or_left (alike x y) (list_any (alike x) ys) (both x y here passes)) none) rest)
        (λ gone. rest)

-- a name is free once the one child that had its key is gone
pub freed : (v : VolumeState) (dir : ℕ) (key : List ℕ) (old : ℕ) → has_apart_names v ≡ true → child_by_key v.rows dir key ≡ Some old → child_by_key (without old v.rows) dir key ≡ None
unfolding child_by_key has_apart_names
freed v dir key old apart h =
    let test : Row → Bool = λ (row : Row). (row.parent == dir) && bytes_eq (name_key row.name) key in
    let m : MappedFrom (λ (row : Row). row.id) (find test v.rows) old = mapped-from (λ (row : Row). row.id) (find test v.rows) old h in
    let none : list_all (λ row. not (test row)) (without old v.rows) ≡ true =
    subst (λ q. list_all (λ row. not (test row)) (without q v.rows) ≡ true) m.gives
    (find-only are_named_alike test v.rows m.value (λ a b is_a is_b.
    let e = and_parts (a.parent == dir) (bytes_eq (name_key a.name) key) is_a in
    let f = and_parts (b.parent == dir) (bytes_eq (name_key b.name) key) is_b in
    and_from (a.parent == b.parent) (bytes_eq (name_key a.name) (name_key b.name))
    (eq-eqb a.parent b.parent (eqb-true a.parent dir e.0 ∙ sym (eqb-true b.parent dir f.0)))
    ((bytes_eq-Decides (name_key a.name) (name_key b.name)).1 ((bytes_eq-Decides (name_key a.name) key).0 e.1 ∙ sym ((bytes_eq-Decides (name_key b.name) key).0 f.1))))
    apart m.was) in
    ap (option_map (λ (row : Row). row.id)) (none-find test (without old v.rows) none)

-- the directory of a place stays where a file goes
pub stays : (v : VolumeState) (place : Place) → has_directory v.rows place.dir ≡ true → (old : ℕ) → has_directory v.rows old ≡ false → has_directory (without old v.rows) place.dir ≡ true
unfolding without
stays v place there old file = any-still (λ row. (row.id == place.dir) && row.dir) (λ row. not (row.id == old)) v.rows
    (λ row is. ap not (ne_eqb row.id old (λ same. both_ways (has_directory v.rows old) file
    (ap (λ q. has_directory v.rows q) (sym same ∙ eqb-true row.id place.dir (and_parts (row.id == place.dir) (row.dir) is).0) ∙ there)))) there
