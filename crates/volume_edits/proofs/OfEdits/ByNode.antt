-- Each edit changes each node by itself.
use Rattle.std.proofs.Common.{◌≡◌, ◌∙◌, ◌==◌, ◌≤◌, ◌<◌, ℕ, Bool, true, false, not, cond, List, [], ◌∷◌, ◌++◌, map, Option, Some, None, refl, sym, ap, subst, arith, inl, inr, eq-eqb}
use Rattle.std.specs.Prelude.{option_map, if◌then◌else◌}
use Rattle.std.specs.List.{find}
use Rattle.std.proofs.lemmas.Bool.{cases_Bool, cond_both, cond-true, cond-false, eqb-true, ne_eqb}
use Rattle.afp_base.proofs.ListFacts.{all-weaker, find-passes, none-find}
use Rattle.volume_spec.proofs.Formed.{formed-parts}
use Rattle.volume_spec.proofs.SeenRows.{changes-let-be, changes-seen, gone-lets-be}
use Rattle.volume_spec.proofs.Trees.{drawn, tree-parts}
use Rattle.volume_spec.specs.Edit.{Edit, Comes, Goes, Renames, Moves, Sets, Files, Writes, Exchanges, PutsIcon, PutsAppl, TakesAppl, Comments, BacksUp, edited}
use Rattle.volume_spec.specs.EditLaws.{MayEdit, MayExchange}
use Rattle.volume_spec.specs.Edits.{at_place, change_at, exchanged_at, filed_as, named, put, with_changed, with_forks_of, without}
use Rattle.volume_spec.specs.ForkEffect.{written}
use Rattle.volume_spec.specs.SetFileDirParms.{Settings, with_settings}
use Rattle.volume_spec.specs.SoundVolume.{IsSoundVolume, is_in_place}
use Rattle.volume_spec.specs.VolumeState.{Row, VolumeState, first_id, root_id}
use Rattle.volume_spec.specs.Walk.{row_at}
use Rattle.volume_edits.specs.edits.After.{exchanged_row, row_then}

-- a change of the row of one id
at-here : (id : ℕ) (change : Row → Row) (row : Row) → (row.id == id) ≡ true → change_at id change row ≡ change row
at-here id change row is = cond-true (row.id == id) (change row) row is

at-other : (id : ℕ) (change : Row → Row) (row : Row) → (row.id == id) ≡ false → change_at id change row ≡ row
at-other id change row other = cond-false (row.id == id) (change row) row other

found-id : (rows : List Row) (id : ℕ) (row : Row) → row_at rows id ≡ Some row → (row.id == id) ≡ true
unfolding row_at
found-id rows id row found = find-passes (λ (r : Row). r.id == id) rows row found

changed-row : (rows : List Row) (node id : ℕ) (change : Row → Row) → ((row : Row) → (change row).id ≡ row.id) → row_at (with_changed node change rows) id ≡ option_map (change_at node change) (row_at rows id)
changed-row rows node id change keeps = elim (cases_Bool (id == node)) [
  | inl same ↦
      (let is : id ≡ node = eqb-true id node same in
      subst (λ n. row_at (with_changed node change rows) n ≡ option_map (change_at node change) (row_at rows n)) (sym is)
      (changes-seen rows node change keeps ∙ seen (row_at rows node) refl))
  | inr other ↦ changes-let-be rows node id change keeps other ∙ unseen (row_at rows id) refl other
]
  where
    seen : (o : Option Row) → row_at rows node ≡ o → option_map change o ≡ option_map (change_at node change) o
    seen None found = refl
    seen (Some row) found = ap Some (sym (at-here node change row (found-id rows node row found)))

    unseen : (o : Option Row) → row_at rows id ≡ o → (id == node) ≡ false → o ≡ option_map (change_at node change) o
    unseen None found other = refl
    unseen (Some row) found other = ap Some (sym (at-other node change row (ap (λ n. n == node) (eqb-true row.id id (found-id rows id row found)) ∙ other)))

-- a node that goes
gone-row : (rows : List Row) (id : ℕ) → row_at (without id rows) id ≡ None
unfolding row_at without
gone-row [] id = refl
gone-row (row ∷ rows) id =
    cond_both (not (row.id == id)) (row ∷ without id rows) (without id rows) (λ l. find (λ (r : Row). r.id == id) l ≡ None)
    (λ kept. let other : (row.id == id) ≡ false = turn (row.id == id) kept in cond-false (row.id == id) (Some row) (find (λ (r : Row). r.id == id) (without id rows)) other ∙ gone-row rows id)
    (λ left. gone-row rows id)
  where
    turn : (b : Bool) → not b ≡ true → b ≡ false
    turn true h = absurd (cc)
    turn false h = refl

goes-row : (rows : List Row) (gone id : ℕ) → row_at (without gone rows) id ≡ (if id == gone then None else row_at rows id)
goes-row rows gone id = elim (cases_Bool (id == gone)) [
  | inl same ↦ (subst (λ n. row_at (without gone rows) n ≡ None) (sym (eqb-true id gone same)) (gone-row rows gone) ∙ sym (cond-true (id == gone) None (row_at rows id) same))
  | inr other ↦ (gone-lets-be rows gone id other ∙ sym (cond-false (id == gone) None (row_at rows id) other))
]

-- a node that comes
snoc-row : (rows : List Row) (row : Row) (id : ℕ) → row_at rows id ≡ None → row_at (rows ++ row ∷ []) id ≡ (if row.id == id then Some row else None)
unfolding row_at
snoc-row [] row id none = refl
snoc-row (r ∷ rows) row id none =
    cond_both (r.id == id) (Some r) (find (λ (q : Row). q.id == id) rows) (λ o. o ≡ None → cond (r.id == id) (Some r) (find (λ (q : Row). q.id == id) (rows ++ row ∷ [])) ≡ (if row.id == id then Some row else None))
    (λ here h. absurd (cc))
    (λ other h. cond-false (r.id == id) (Some r) (find (λ (q : Row). q.id == id) (rows ++ row ∷ [])) other ∙ snoc-row rows row id h)
    none

snoc-other : (rows : List Row) (row : Row) (id : ℕ) → (row.id == id) ≡ false → row_at (rows ++ row ∷ []) id ≡ row_at rows id
unfolding row_at
snoc-other [] row id e = ap (λ t. cond t (Some row) None) e
snoc-other (r ∷ rows) row id e = ap (cond (r.id == id) (Some r)) (snoc-other rows row id e)

next-none : (v : VolumeState) → IsSoundVolume v → row_at v.rows v.next_id ≡ None
unfolding row_at
next-none v s =
    let low : first_id ≤ v.next_id = (formed-parts v s.formed).low in
    none-find (λ (row : Row). row.id == v.next_id) v.rows
    (all-weaker (is_in_place v) (λ (row : Row). not (row.id == v.next_id)) v.rows
    (λ row placed. ap not (ne_eqb row.id v.next_id (λ same.
    elim (cases_Bool (row.id == root_id)) [
      | inl root ↦ (let root_is : row.id ≡ root_id = eqb-true row.id root_id root in absurd (omega arith))
      | inr other ↦ (let high : row.id < v.next_id = (drawn v row other placed).high in absurd (omega arith))
    ])))
    (tree-parts v s.tree).placed)

comes-row : (v : VolumeState) (row : Row) (id : ℕ) → IsSoundVolume v → row_at (v.rows ++ (record row { id = v.next_id }) ∷ []) id ≡ (if id == v.next_id then Some (record row { id = v.next_id }) else row_at v.rows id)
comes-row v row id s = elim (cases_Bool (id == v.next_id)) [
  | inl same ↦
      (let new : Row = record row { id = v.next_id } in
      subst (λ n. row_at (v.rows ++ new ∷ []) n ≡ Some new) (sym (eqb-true id v.next_id same))
      (snoc-row v.rows new v.next_id (next-none v s) ∙ cond-true (v.next_id == v.next_id) (Some new) None (eq-eqb v.next_id v.next_id refl))
      ∙ sym (cond-true (id == v.next_id) (Some new) (row_at v.rows id) same))
  | inr other ↦
      (let new : Row = record row { id = v.next_id } in
      snoc-other v.rows new id (turned id v.next_id other) ∙ sym (cond-false (id == v.next_id) (Some new) (row_at v.rows id) other))
]
  where
    turned : (a b : ℕ) → (a == b) ≡ false → (b == a) ≡ false
    turned a b e = grind (arith, e)

-- files that exchange their forks
put-row : (rows : List Row) (node id : ℕ) (t : Row) → t.id ≡ node → row_at (with_changed node (put t) rows) id ≡ option_map (change_at node (put t)) (row_at rows id)
unfolding row_at with_changed
put-row [] node id t is = refl
put-row (row ∷ rows) node id t is =
    let rest : find (λ (r : Row). r.id == id) (map (change_at node (put t)) rows) ≡ option_map (change_at node (put t)) (find (λ (r : Row). r.id == id) rows) = put-row rows node id t is in
    let kept : (change_at node (put t) row).id ≡ row.id = cond_both (row.id == node) t row (λ r. r.id ≡ row.id) (λ same. is ∙ sym (eqb-true row.id node same)) (λ other. refl) in
    cond_both (row.id == id) (Some row) (find (λ (r : Row). r.id == id) rows)
    (λ o. cond ((change_at node (put t) row).id == id) (Some (change_at node (put t) row)) (find (λ (r : Row). r.id == id) (map (change_at node (put t)) rows)) ≡ option_map (change_at node (put t)) o)
    (λ here. cond-true ((change_at node (put t) row).id == id) (Some (change_at node (put t) row)) (find (λ (r : Row). r.id == id) (map (change_at node (put t)) rows)) (ap (λ n. n == id) kept ∙ here))
    (λ other. cond-false ((change_at node (put t) row).id == id) (Some (change_at node (put t) row)) (find (λ (r : Row). r.id == id) (map (change_at node (put t)) rows)) (ap (λ n. n == id) kept ∙ other) ∙ rest)

exchanges-row : (v : VolumeState) (a b id : ℕ) (m : MayExchange v a b)
    → row_at (exchanged_at a b (Some m.first) (Some m.second) v).rows id ≡ (if id == a then exchanged_row (Some m.second) (Some m.first) else if id == b then exchanged_row (Some m.first) (Some m.second) else row_at v.rows id)
exchanges-row v a b id m =
    let s : Row = m.first in
    let t : Row = m.second in
    let new_s : Row = with_forks_of t s in
    let new_t : Row = with_forks_of s t in
    let id_s : s.id ≡ a = eqb-true s.id a (found-id v.rows a s m.first_found) in
    let id_t : t.id ≡ b = eqb-true t.id b (found-id v.rows b t m.second_found) in
    let both : row_at (with_changed b (put new_t) (with_changed a (put new_s) v.rows)) id ≡ option_map (change_at b (put new_t)) (option_map (change_at a (put new_s)) (row_at v.rows id)) =
    put-row (with_changed a (put new_s) v.rows) b id new_t id_t ∙ ap (option_map (change_at b (put new_t))) (put-row v.rows a id new_s id_s) in
    both ∙ elim (cases_Bool (id == a)) [
      | inl same ↦
          (let is : id ≡ a = eqb-true id a same in
          ap (λ o. option_map (change_at b (put new_t)) (option_map (change_at a (put new_s)) o)) (ap (row_at v.rows) is ∙ m.first_found)
          ∙ ap (λ r. Some (change_at b (put new_t) r)) (at-here a (put new_s) s (ap (λ n. n == a) id_s ∙ eq-eqb a a refl))
          ∙ ap Some (at-other b (put new_t) new_s (ap (λ n. n == b) id_s ∙ m.apart))
          ∙ sym (cond-true (id == a) (Some new_s) (if id == b then Some new_t else row_at v.rows id) same))
      | inr other ↦ elim (cases_Bool (id == b)) [
        | inl same ↦
            (let is : id ≡ b = eqb-true id b same in
            ap (λ o. option_map (change_at b (put new_t)) (option_map (change_at a (put new_s)) o)) (ap (row_at v.rows) is ∙ m.second_found)
            ∙ ap (λ r. Some (change_at b (put new_t) r)) (at-other a (put new_s) t (ap (λ n. n == a) (id_t ∙ sym is) ∙ other))
            ∙ ap Some (at-here b (put new_t) t (ap (λ n. n == b) id_t ∙ eq-eqb b b refl))
            ∙ sym (cond-false (id == a) (Some new_s) (if id == b then Some new_t else row_at v.rows id) other ∙ cond-true (id == b) (Some new_t) (row_at v.rows id) same))
        | inr not_b ↦
            (unchanged (row_at v.rows id) refl other not_b
            ∙ sym (cond-false (id == a) (Some new_s) (if id == b then Some new_t else row_at v.rows id) other ∙ cond-false (id == b) (Some new_t) (row_at v.rows id) not_b))
      ]
    ]
  where
    unchanged : (o : Option Row) → row_at v.rows id ≡ o → (id == a) ≡ false → (id == b) ≡ false → option_map (change_at b (put (with_forks_of m.first m.second))) (option_map (change_at a (put (with_forks_of m.second m.first))) o) ≡ o
    unchanged None found na nb = refl
    unchanged (Some row) found na nb =
        let is : row.id ≡ id = eqb-true row.id id (found-id v.rows id row found) in
        ap (λ r. Some (change_at b (put (with_forks_of m.first m.second)) r)) (at-other a (put (with_forks_of m.second m.first)) row (ap (λ n. n == a) is ∙ na))
        ∙ ap Some (at-other b (put (with_forks_of m.first m.second)) row (ap (λ n. n == b) is ∙ nb))

settings-id : (settings : Settings) (row : Row) → (with_settings settings row).id ≡ row.id
unfolding with_settings
settings-id settings row = refl

pub by-node : (v : VolumeState) (e : Edit) (id : ℕ) → IsSoundVolume v → MayEdit v e → row_at (edited v e).rows id ≡ row_then v e id
unfolding edited
by-node v (Comes row) id s m = comes-row v row id s
by-node v (Goes gone) id s m = goes-row v.rows gone id
by-node v (Renames node name) id s m = changed-row v.rows node id (named name) (λ row. refl)
by-node v (Moves node parent name) id s m = changed-row v.rows node id (at_place parent name) (λ row. refl)
by-node v (Sets node settings) id s m = changed-row v.rows node id (with_settings settings) (settings-id settings)
by-node v (Files node filed) id s m = changed-row v.rows node id (filed_as filed) (λ row. refl)
by-node v (Writes now node resource bytes) id s m = changed-row v.rows node id (written now resource bytes true) (λ row. refl)
by-node v (Exchanges a b) id s m =
    ap (λ (w : VolumeState). row_at w.rows id) (λ i. exchanged_at a b (m.first_found i) (m.second_found i) v) ∙ exchanges-row v a b id m
    ∙ sym (λ i. if id == a then exchanged_row (m.second_found i) (m.first_found i) else if id == b then exchanged_row (m.first_found i) (m.second_found i) else row_at v.rows id)
by-node v (PutsIcon icon) id s m = refl
by-node v (PutsAppl appl) id s m = refl
by-node v (TakesAppl creator node) id s m = refl
by-node v (Comments node text) id s m = refl
by-node v (BacksUp date) id s m = refl
