-- Names of a directory differ by key: after a new node, after one less, and after a node has another place.
use Rattle.std.proofs.Common.{◌==◌, ◌≡◌, ◌∙◌, ap, sym, refl, ℕ, Bool, true, false, not, ◌&&◌, ◌||◌, List, [], ◌∷◌, map, ◌⊎◌, inl, inr, Option, Some, None}
use Rattle.std.specs.Prelude.{bytes_eq, option_map}
use Rattle.std.specs.List.{list_any, list_all, find}
use Rattle.std.proofs.lemmas.Bool.{and_parts, and_from, or_cases, or_left, or_right, cond_both, eqb-true, eq-eqb, cases_Bool}
use Rattle.std.proofs.lemmas.Slice.Eq.{bytes_eq-Decides}
use Rattle.afp_names.specs.Name.{name_key}
use Rattle.volume_spec.proofs.Trees.{KeepsPlace}
use Rattle.volume_spec.specs.Edits.{is_taken, without, with_changed, change_at, at_place, with_row, without_node, with_moved}
use Rattle.afp_base.specs.Apart.{are_apart}
use Rattle.volume_spec.specs.SoundVolume.{are_named_alike, has_apart_names}
use Rattle.volume_spec.specs.VolumeState.{Row, VolumeState}
use Rattle.volume_spec.specs.Walk.{child_by_key}
use Rattle.afp_base.proofs.Facts.{contra, never}
use Rattle.afp_base.proofs.ListFacts.{apart-filter, apart-map, apart-snoc, apart-weaker, find-none, none-all}

bytes-eq-sym : (xs ys : List ℕ) → bytes_eq xs ys ≡ true → bytes_eq ys xs ≡ true
bytes-eq-sym xs ys h = (bytes_eq-Decides ys xs).1 (sym ((bytes_eq-Decides xs ys).0 h))

eqb-sym : (m n : ℕ) → (m == n) ≡ true → (n == m) ≡ true
eqb-sym m n h = eq-eqb n m (sym (eqb-true m n h))

-- no two are alike where alike ones, of what all are, would be alike in one of two ways in which none are
pub apart-by : {A : Type 0} (r s t : A → A → Bool) (q : A → Bool) (xs : List A) → are_apart r xs ≡ true → are_apart s xs ≡ true → list_all q xs ≡ true
    → ((a b : A) → q a ≡ true → q b ≡ true → t a b ≡ true → (r a b ≡ true) ⊎ (s a b ≡ true))
    → are_apart t xs ≡ true
apart-by r s t q [] apart apart' all gives = refl
apart-by {A} r s t q (x ∷ xs) apart apart' all gives =
    let e = and_parts (not (list_any (r x) xs)) (are_apart r xs) apart in
    let f = and_parts (not (list_any (s x) xs)) (are_apart s xs) apart' in
    let g = and_parts (q x) (list_all q xs) all in
    and_from (not (list_any (t x) xs)) (are_apart t xs)
    (elim (cases_Bool (list_any (t x) xs)) [
      | inl some ↦ absurd (none-alike xs e.0 f.0 g.1 some)
      | inr none ↦ ap not none
    ])
    (apart-by r s t q xs e.1 f.1 g.1 gives)
  where
    none-alike : (ys : List A) → not (list_any (r x) ys) ≡ true → not (list_any (s x) ys) ≡ true → list_all q ys ≡ true → list_any (t x) ys ≡ true → ⊥
    none-alike [] no_r no_s all_q some = cc
    none-alike (y ∷ ys) no_r no_s all_q some =
        let h = and_parts (q y) (list_all q ys) all_q in
        elim (or_cases (t x y) (list_any (t x) ys) some) [
          | inl here ↦ elim (gives x y (and_parts (q x) (list_all q xs) all).0 h.0 here) [
            | inl is ↦ never (r x y || list_any (r x) ys) (or_left (r x y) (list_any (r x) ys) is) no_r
            | inr is ↦ never (s x y || list_any (s x) ys) (or_left (s x y) (list_any (s x) ys) is) no_s
          ]
          | inr later ↦ none-alike ys
              (contra (r x y || list_any (r x) ys) (list_any (r x) ys) (or_right (r x y) (list_any (r x) ys)) no_r)
              (contra (s x y || list_any (s x) ys) (list_any (s x) ys) (or_right (s x y) (list_any (s x) ys)) no_s)
              h.1 later
        ]

-- a new node whose name's key nothing there has
pub names-new : (v : VolumeState) (row : Row) → child_by_key v.rows row.parent (name_key row.name) ≡ None → has_apart_names v ≡ true → has_apart_names (with_row row v) ≡ true
unfolding has_apart_names child_by_key
names-new v row free h =
    apart-snoc are_named_alike v.rows ((record row { id = v.next_id })) h
    (find-none (λ other. (other.parent == row.parent) && bytes_eq (name_key other.name) (name_key row.name)) v.rows (none-mapped (find (λ (other : Row). (other.parent == row.parent) && bytes_eq (name_key other.name) (name_key row.name)) v.rows) free))
  where
    none-mapped : (o : Option Row) → option_map (λ (row : Row). row.id) o ≡ None → o ≡ None
    none-mapped None e = refl
    none-mapped (Some row) e = absurd (cc)

pub names-without : (v : VolumeState) (id : ℕ) → has_apart_names v ≡ true → has_apart_names (without_node id v) ≡ true
unfolding has_apart_names without
names-without v id h = apart-filter are_named_alike (λ row. not (row.id == id)) v.rows h

pub names-mapped : (v : VolumeState) (change : Row → Row) → KeepsPlace change → has_apart_names v ≡ true → has_apart_names (record v { rows = map change v.rows }) ≡ true
unfolding has_apart_names
names-mapped v change keeps h =
    apart-map are_named_alike change v.rows
    ∙ apart-weaker are_named_alike (λ a b. are_named_alike (change a) (change b)) v.rows
    (λ a b alike. sym (λ i. (keeps.parent a i == keeps.parent b i) && bytes_eq (name_key (keeps.name a i)) (name_key (keeps.name b i))) ∙ alike) h

-- a node at a place that no other node has
pub names-moved : (v : VolumeState) (node target : ℕ) (name : List ℕ) → are_apart (λ (a : Row) b. a.id == b.id) v.rows ≡ true → is_taken v.rows node target name ≡ false → has_apart_names v ≡ true → has_apart_names (with_moved node target name v) ≡ true
unfolding has_apart_names is_taken with_changed
names-moved v node target name apart free h =
    let move : Row → Row = change_at node (at_place target name) in
    let others : list_all (λ row. not (not (row.id == node) && ((row.parent == target) && bytes_eq (name_key row.name) (name_key name)))) v.rows ≡ true =
    none-all (λ row. not (row.id == node) && ((row.parent == target) && bytes_eq (name_key row.name) (name_key name))) v.rows (ap not free) in
    apart-map are_named_alike move v.rows
    ∙ apart-by (λ (a : Row) b. a.id == b.id) are_named_alike (λ a b. are_named_alike (move a) (move b))
    (λ row. not (not (row.id == node) && ((row.parent == target) && bytes_eq (name_key row.name) (name_key name)))) v.rows apart h others
    (λ a b other_a other_b.
    cond_both (a.id == node) (at_place target name a) a (λ x. are_named_alike x (move b) ≡ true → ((a.id == b.id) ≡ true) ⊎ (are_named_alike a b ≡ true))
    (λ is_a. cond_both (b.id == node) (at_place target name b) b (λ y. are_named_alike (at_place target name a) y ≡ true → ((a.id == b.id) ≡ true) ⊎ (are_named_alike a b ≡ true))
    (λ is_b alike. inl (eq-eqb a.id b.id (eqb-true a.id node is_a ∙ sym (eqb-true b.id node is_b))))
    (λ not_b alike.
    let e = and_parts (target == b.parent) (bytes_eq (name_key name) (name_key b.name)) alike in
    absurd (never (not (b.id == node) && ((b.parent == target) && bytes_eq (name_key b.name) (name_key name)))
    (and_from (not (b.id == node)) ((b.parent == target) && bytes_eq (name_key b.name) (name_key name)) (ap not not_b)
    (and_from (b.parent == target) (bytes_eq (name_key b.name) (name_key name)) (eqb-sym target b.parent e.0) (bytes-eq-sym (name_key name) (name_key b.name) e.1)))
    other_b)))
    (λ not_a. cond_both (b.id == node) (at_place target name b) b (λ y. are_named_alike a y ≡ true → ((a.id == b.id) ≡ true) ⊎ (are_named_alike a b ≡ true))
    (λ is_b alike.
    absurd (never (not (a.id == node) && ((a.parent == target) && bytes_eq (name_key a.name) (name_key name)))
    (and_from (not (a.id == node)) ((a.parent == target) && bytes_eq (name_key a.name) (name_key name)) (ap not not_a) alike) other_a))
    (λ not_b alike. inr alike)))
