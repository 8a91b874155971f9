-- An edit draws no id twice.
use Rattle.std.proofs.Common.{◌==◌, ◌≡◌, ◌∙◌, refl, sym, ℕ, ◌≤◌, ◌<◌, arith, true, false, not, List, [], ◌∷◌, Option, Some, None, inl, inr}
use Rattle.std.proofs.lemmas.Bool.{cond_both, eqb-true, or_cases}
use Rattle.std.proofs.lemmas.List.Folds.{list_any-append}
use Rattle.volume_spec.specs.Edit.{Edit, Comes, Goes, Renames, Moves, Sets, Files, Writes, Exchanges, PutsIcon, PutsAppl, TakesAppl, Comments, BacksUp, after_call, after_edits, edited}
use Rattle.volume_spec.specs.Edits.{at_place, change_at, named, put, with_changed, with_forks_of, with_row, without, without_node, exchanged_at, filed_as}
use Rattle.volume_spec.specs.ForkEffect.{written}
use Rattle.volume_spec.specs.SetFileDirParms.{with_settings}
use Rattle.volume_spec.specs.SoundVolume.{has_node}
use Rattle.volume_spec.specs.VolumeState.{Row, VolumeState}
use Rattle.volume_spec.specs.Walk.{row_at}
use Rattle.afp_base.proofs.ListFacts.{any-filter, any-map, any-weaker, find-passes}

-- a later state: the next id does not fall, and a node with an id that was drawn before was there before
pub record IsLater (v w : VolumeState) : Type 0 where
  pub next : v.next_id ≤ w.next_id
  pub old : (id : ℕ) → id < v.next_id → has_node w.rows id ≡ true → has_node v.rows id ≡ true

pub same-later : (v : VolumeState) → IsLater v v
same-later v = record { next = omega arith; old = λ id drawn h. h }

pub later-later : (u v w : VolumeState) → IsLater u v → IsLater v w → IsLater u w
later-later u v w a b = record { next = let h = a.next in let k = b.next in omega arith; old = λ id drawn h. a.old id drawn (b.old id (let k = a.next in omega arith) h) }

pub new-later : (v : VolumeState) (row : Row) → IsLater v (with_row row v)
new-later v row = record {
  next = omega arith;
  old = λ id drawn h. elim (or_cases (has_node v.rows id) (has_node ((record row { id = v.next_id }) ∷ []) id) (sym (list_any-append (λ row. row.id == id) v.rows ((record row { id = v.next_id }) ∷ [])) ∙ h)) [
    | inl before ↦ before
    | inr new ↦ elim (or_cases (v.next_id == id) false new) [
      | inl same ↦ let is : v.next_id ≡ id = eqb-true v.next_id id same in absurd (omega arith)
      | inr none ↦ absurd (cc)
    ]
  ];
}

pub changed-later : (v : VolumeState) (at_id : ℕ) (change : Row → Row) → ((row : Row) → (change row).id ≡ row.id) → IsLater v (record v { rows = with_changed at_id change v.rows })
unfolding with_changed
changed-later v at_id change keeps = record {
  next = omega arith;
  old = λ id drawn h. any-weaker (λ row. (change_at at_id change row).id == id) (λ row. row.id == id) v.rows
      (λ row is. (λ i. sym (same row) i == id) ∙ is)
      (sym (any-map (λ row. row.id == id) (change_at at_id change) v.rows) ∙ h);
}
  where
    same : (row : Row) → (change_at at_id change row).id ≡ row.id
    same row = cond_both (row.id == at_id) (change row) row (λ r. r.id ≡ row.id) (λ is. keeps row) (λ stays. refl)

pub without-later : (v : VolumeState) (gone : ℕ) → IsLater v (without_node gone v)
unfolding without
without-later v gone = record { next = omega arith; old = λ id drawn h. any-filter (λ row. row.id == id) (λ row. not (row.id == gone)) v.rows h }

-- another row of the same id, in place of one
put-later : (v : VolumeState) (id : ℕ) (t : Row) → t.id ≡ id → IsLater v (record v { rows = with_changed id (put t) v.rows })
unfolding with_changed
put-later v id t is = record {
  next = omega arith;
  old = λ other drawn h. any-weaker (λ row. (change_at id (put t) row).id == other) (λ row. row.id == other) v.rows
      (λ row k. (λ i. sym (same row) i == other) ∙ k)
      (sym (any-map (λ row. row.id == other) (change_at id (put t)) v.rows) ∙ h);
}
  where
    same : (row : Row) → (change_at id (put t) row).id ≡ row.id
    same row = cond_both (row.id == id) t row (λ r. r.id ≡ row.id) (λ here. is ∙ sym (eqb-true row.id id here)) (λ stays. refl)

exchange-later : (v : VolumeState) (a b : ℕ) (s t : Option Row) → row_at v.rows a ≡ s → row_at v.rows b ≡ t → IsLater v (exchanged_at a b s t v)
unfolding row_at
exchange-later v a b None t at_a at_b = same-later v
exchange-later v a b (Some s) None at_a at_b = same-later v
exchange-later v a b (Some s) (Some t) at_a at_b =
    let one : s.id ≡ a = eqb-true s.id a (find-passes (λ (r : Row). r.id == a) v.rows s at_a) in
    let two : t.id ≡ b = eqb-true t.id b (find-passes (λ (r : Row). r.id == b) v.rows t at_b) in
    let u : VolumeState = record v { rows = with_changed a (put (with_forks_of t s)) v.rows } in
    later-later v u (record u { rows = with_changed b (put (with_forks_of s t)) u.rows }) (put-later v a (with_forks_of t s) one) (put-later u b (with_forks_of s t) two)

pub edit-later : (v : VolumeState) (e : Edit) → IsLater v (edited v e)
unfolding edited with_settings
edit-later v (Comes row) = new-later v row
edit-later v (Goes id) = without-later v id
edit-later v (Renames id name) = changed-later v id (named name) (λ row. refl)
edit-later v (Moves id parent name) = changed-later v id (at_place parent name) (λ row. refl)
edit-later v (Sets id settings) = changed-later v id (with_settings settings) (λ row. refl)
edit-later v (Files id filed) = changed-later v id (filed_as filed) (λ row. refl)
edit-later v (Writes now id resource bytes) = changed-later v id (written now resource bytes true) (λ row. refl)
edit-later v (PutsIcon icon) = let l = same-later v in record { next = l.next; old = l.old }
edit-later v (PutsAppl appl) = let l = same-later v in record { next = l.next; old = l.old }
edit-later v (TakesAppl creator node) = let l = same-later v in record { next = l.next; old = l.old }
edit-later v (Comments node text) = let l = same-later v in record { next = l.next; old = l.old }
edit-later v (BacksUp date) = let l = same-later v in record { next = l.next; old = l.old }
edit-later v (Exchanges a b) = exchange-later v a b (row_at v.rows a) (row_at v.rows b) refl refl

pub edits-later : (v : VolumeState) (edits : List Edit) → IsLater v (after_edits v edits)
edits-later v [] = same-later v
edits-later v (e ∷ es) = later-later v (edited v e) (after_edits (edited v e) es) (edit-later v e) (edits-later (edited v e) es)

-- so does a call
pub call-later : (v : VolumeState) (now : ℕ) (edits : List Edit) → IsLater v (after_call v now edits)
call-later v now [] = same-later v
call-later v now (e ∷ es) = let l = edits-later v (e ∷ es) in record { next = l.next; old = l.old }
