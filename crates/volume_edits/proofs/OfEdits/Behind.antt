-- What stands behind so many edits.
use Rattle.std.proofs.Common.{◌≡◌, ◌∙◌, ◌==◌, ◌+◌, ◌-◌, ◌≤◌, ◌<◌, ℕ, zero, suc, true, false, List, [], ◌∷◌, length, take, slice_index_or, Option, Some, None, refl, sym, ap, subst, arith, inl, inr}
use Rattle.std.specs.Prelude.{option_map, unwrap_or, if◌then◌else◌}
use Rattle.std.proofs.lemmas.Bool.{and_parts, cases_Bool, cond-true, cond-false, eqb-true}
use Rattle.afp_base.proofs.ListFacts.{find-all}
use Rattle.volume_spec.proofs.Formed.{formed-parts}
use Rattle.volume_spec.specs.Edit.{Edit, Comes, Goes, Renames, Moves, Sets, Files, Writes, Exchanges, PutsIcon, PutsAppl, TakesAppl, Comments, BacksUp, after_call, after_edits, edited}
use Rattle.volume_spec.specs.EditLaws.{EditKeepsSound, MayEdit, MayEditAll}
use Rattle.volume_spec.specs.Edits.{bare, exchanged_at}
use Rattle.volume_spec.specs.ForkEffect.{fork_of}
use Rattle.volume_spec.specs.OpenFork.{file_of}
use Rattle.volume_spec.specs.SoundVolume.{IsSoundVolume, has_fit_privileges, is_formed, is_named, last_next_id}
use Rattle.volume_spec.specs.VolumeState.{Row, VolumeState}
use Rattle.volume_spec.specs.Walk.{row_at}
use Rattle.volume_tree.specs.Shown.{fork_at}
use Rattle.volume_edits.specs.edits.After.{EditsByNode, exchanged_row, row_then}
use Rattle.volume_edits.specs.edits.Planned.{EditValue, edits_of}
use Rattle.volume_edits.specs.edits.lemma.Steps.{does_come, left_row, partner_of, row_or}

-- one edit more
after-more : (v : VolumeState) (es : List EditValue) (n : ℕ) (d : EditValue) → n < length es → after_edits v (edits_of (take (suc n) es)) ≡ edited (after_edits v (edits_of (take n es))) (slice_index_or es n d).edit
after-more v [] n d within = absurd (omega arith)
after-more v (e ∷ es) zero d within = refl
after-more v (e ∷ es) (suc n) d within = after-more (edited v e.edit) es n d (omega arith)

may-more : (v : VolumeState) (es : List EditValue) (n : ℕ) (d : EditValue) → n < length es → MayEditAll v (edits_of (take (suc n) es))
    → MayEditAll v (edits_of (take n es)) × MayEdit (after_edits v (edits_of (take n es))) (slice_index_or es n d).edit
may-more v [] n d within may = absurd (omega arith)
may-more v (e ∷ es) zero d within may = (tt, may.0)
may-more v (e ∷ es) (suc n) d within may = let rest = may-more (edited v e.edit) es n d (omega arith) may.1 in ((may.0, rest.0), rest.1)

-- the last of so many edits
pub record Last (v : VolumeState) (es : List EditValue) (count : ℕ) (e : Edit) : Type 0 where
  pub some : 1 ≤ count
  pub within : count - 1 ≤ length es
  pub before : MayEditAll v (edits_of (take (count - 1) es))
  pub may : MayEdit (after_edits v (edits_of (take (count - 1) es))) e
  pub after : after_edits v (edits_of (take count es)) ≡ edited (after_edits v (edits_of (take (count - 1) es))) e

pub last : (v : VolumeState) (es : List EditValue) (count : ℕ) (e : EditValue) → (count ≡ 0 → ⊥) → count ≤ length es → MayEditAll v (edits_of (take count es)) → e ≡ slice_index_or es (count - 1) e → Last v es count e.edit
last v es zero e some within may at = absurd (some refl)
last v es (suc n) e some within may at =
    let less : suc n - 1 ≡ n = omega arith in
    let here : slice_index_or es n e ≡ e = sym (at ∙ ap (λ k. slice_index_or es k e) less) in
    let two = may-more v es n e (omega arith) may in
    record {
      some = omega arith;
      within = omega arith;
      before = subst (λ k. MayEditAll v (edits_of (take k es))) (sym less) two.0;
      may = subst (λ k. MayEdit (after_edits v (edits_of (take k es))) e.edit) (sym less) (subst (λ (d : EditValue). MayEdit (after_edits v (edits_of (take n es))) d.edit) here two.1);
      after = after-more v es n e (omega arith) ∙ (λ i. edited (after_edits v (edits_of (take (sym less i) es))) (here i).edit);
    }

-- a volume stays sound over edits that may be made
sound-behind : EditKeepsSound → (v : VolumeState) (es : List Edit) → MayEditAll v es → IsSoundVolume v → IsSoundVolume (after_edits v es)
sound-behind keeps v [] may s = s
sound-behind keeps v (e ∷ es) may s = sound-behind keeps (edited v e) es may.1 (keeps v e may.0 s)

-- the next id behind an edit
exchanged-next : (a b : ℕ) (s t : Option Row) (v : VolumeState) → (exchanged_at a b s t v).next_id ≡ v.next_id
exchanged-next a b None t v = refl
exchanged-next a b (Some s) None v = refl
exchanged-next a b (Some s) (Some t) v = refl

next-then : (v : VolumeState) (e : Edit) → (edited v e).next_id ≡ (if does_come e then v.next_id + 1 else v.next_id)
unfolding edited
next-then v (Comes row) = refl
next-then v (Goes gone) = refl
next-then v (Renames node name) = refl
next-then v (Moves node parent name) = refl
next-then v (Sets node settings) = refl
next-then v (Files node filed) = refl
next-then v (Writes now node resource bytes) = refl
next-then v (Exchanges a b) = exchanged-next a b (row_at v.rows a) (row_at v.rows b) v
next-then v (PutsIcon icon) = refl
next-then v (PutsAppl appl) = refl
next-then v (TakesAppl creator node) = refl
next-then v (Comments node text) = refl
next-then v (BacksUp date) = refl

-- where a node comes, an id is left
id-left : (v : VolumeState) (e : Edit) → MayEdit v e → does_come e ≡ true → v.next_id < last_next_id
id-left v (Comes row) m comes = m.left
id-left v (Goes gone) m comes = absurd (cc)
id-left v (Renames node name) m comes = absurd (cc)
id-left v (Moves node parent name) m comes = absurd (cc)
id-left v (Sets node settings) m comes = absurd (cc)
id-left v (Files node filed) m comes = absurd (cc)
id-left v (Writes now node resource bytes) m comes = absurd (cc)
id-left v (Exchanges a b) m comes = absurd (cc)
id-left v (PutsIcon icon) m comes = absurd (cc)
id-left v (PutsAppl appl) m comes = absurd (cc)
id-left v (TakesAppl creator node) m comes = absurd (cc)
id-left v (Comments node text) m comes = absurd (cc)
id-left v (BacksUp date) m comes = absurd (cc)

pub next-comes : (v : VolumeState) (es : List EditValue) (count next : ℕ) (e : Edit) → Last v es count e → next ≡ (after_edits v (edits_of (take (count - 1) es))).next_id → does_come e ≡ true
    → next + 1 ≡ (after_edits v (edits_of (take count es))).next_id
next-comes v es count next e l is comes =
    let mid : VolumeState = after_edits v (edits_of (take (count - 1) es)) in
    ap (λ n. n + 1) is ∙ sym (ap (λ (w : VolumeState). w.next_id) l.after ∙ next-then mid e ∙ cond-true (does_come e) (mid.next_id + 1) mid.next_id comes)

pub next-stays : (v : VolumeState) (es : List EditValue) (count next : ℕ) (e : Edit) → Last v es count e → next ≡ (after_edits v (edits_of (take (count - 1) es))).next_id → does_come e ≡ false
    → next ≡ (after_edits v (edits_of (take count es))).next_id
next-stays v es count next e l is stays =
    let mid : VolumeState = after_edits v (edits_of (take (count - 1) es)) in
    is ∙ sym (ap (λ (w : VolumeState). w.next_id) l.after ∙ next-then mid e ∙ cond-false (does_come e) (mid.next_id + 1) mid.next_id stays)

pub next-fits : (v : VolumeState) (es : List EditValue) (count next : ℕ) (e : Edit) → Last v es count e → next ≡ (after_edits v (edits_of (take (count - 1) es))).next_id → does_come e ≡ true → next < last_next_id
next-fits v es count next e l is comes = subst (λ n. n < last_next_id) (sym is) (id-left (after_edits v (edits_of (take (count - 1) es))) e l.may comes)

-- a file that exchanges its forks
row-exchanged : (v : VolumeState) (e : Edit) (id other : ℕ) → partner_of e id ≡ Some other → row_then v e id ≡ exchanged_row (row_at v.rows other) (row_at v.rows id)
row-exchanged v (Exchanges a b) id other is = elim (cases_Bool (id == a)) [
  | inl same ↦
      (let at : id ≡ a = eqb-true id a same in
      let found : Some b ≡ Some other = sym (cond-true (id == a) (Some b) (if id == b then Some a else None) same) ∙ is in
      let to : b ≡ other = cc in
      cond-true (id == a) (exchanged_row (row_at v.rows b) (row_at v.rows a)) (if id == b then exchanged_row (row_at v.rows a) (row_at v.rows b) else row_at v.rows id) same
      ∙ (λ i. exchanged_row (row_at v.rows (to i)) (row_at v.rows (sym at i))))
  | inr not_a ↦ elim (cases_Bool (id == b)) [
    | inl same ↦
        (let at : id ≡ b = eqb-true id b same in
        let found : Some a ≡ Some other = sym (cond-false (id == a) (Some b) (if id == b then Some a else None) not_a ∙ cond-true (id == b) (Some a) None same) ∙ is in
        let to : a ≡ other = cc in
        cond-false (id == a) (exchanged_row (row_at v.rows b) (row_at v.rows a)) (if id == b then exchanged_row (row_at v.rows a) (row_at v.rows b) else row_at v.rows id) not_a
        ∙ cond-true (id == b) (exchanged_row (row_at v.rows a) (row_at v.rows b)) (row_at v.rows id) same
        ∙ (λ i. exchanged_row (row_at v.rows (to i)) (row_at v.rows (sym at i))))
    | inr not_b ↦
        (let none : None ≡ Some other = sym (cond-false (id == a) (Some b) (if id == b then Some a else None) not_a ∙ cond-false (id == b) (Some a) None not_b) ∙ is in
        absurd (cc))
  ]
]
row-exchanged v (Comes row) id other is = absurd (cc)
row-exchanged v (Goes gone) id other is = absurd (cc)
row-exchanged v (Renames node name) id other is = absurd (cc)
row-exchanged v (Moves node parent name) id other is = absurd (cc)
row-exchanged v (Sets node settings) id other is = absurd (cc)
row-exchanged v (Files node filed) id other is = absurd (cc)
row-exchanged v (Writes now node resource bytes) id other is = absurd (cc)
row-exchanged v (PutsIcon icon) id other is = absurd (cc)
row-exchanged v (PutsAppl appl) id other is = absurd (cc)
row-exchanged v (TakesAppl creator node) id other is = absurd (cc)
row-exchanged v (Comments node text) id other is = absurd (cc)
row-exchanged v (BacksUp date) id other is = absurd (cc)

-- a node that exchanges its forks with none
same : (o : Option Row) → o ≡ option_map (λ (row : Row). row) o
same None = refl
same (Some row) = refl

row-left : (v : VolumeState) (e : Edit) (id : ℕ) → partner_of e id ≡ None → row_then v e id ≡ left_row e v.next_id id (row_at v.rows id)
row-left v (Comes row) id none = elim (cases_Bool (id == v.next_id)) [
  | inl here ↦
      (let is : id ≡ v.next_id = eqb-true id v.next_id here in
      cond-true (id == v.next_id) (Some (record row { id = v.next_id })) (row_at v.rows id) here
      ∙ ap (λ n. Some (record row { id = n })) (sym is)
      ∙ sym (ap (λ o. row_or o (option_map (λ (r : Row). r) (row_at v.rows id))) (cond-true (id == v.next_id) (Some (record row { id = id })) None here)))
  | inr other ↦
      (cond-false (id == v.next_id) (Some (record row { id = v.next_id })) (row_at v.rows id) other
      ∙ same (row_at v.rows id)
      ∙ sym (ap (λ o. row_or o (option_map (λ (r : Row). r) (row_at v.rows id))) (cond-false (id == v.next_id) (Some (record row { id = id })) None other)))
]
row-left v (Goes gone) id none = ap (λ (o : Option Row). if id == gone then None else o) (same (row_at v.rows id))
row-left v (Renames node name) id none = refl
row-left v (Moves node parent name) id none = refl
row-left v (Sets node settings) id none = refl
row-left v (Files node filed) id none = refl
row-left v (Writes now node resource bytes) id none = refl
row-left v (Exchanges a b) id none = elim (cases_Bool (id == a)) [
  | inl at_a ↦ (let some : Some b ≡ None = sym (cond-true (id == a) (Some b) (if id == b then Some a else None) at_a) ∙ none in absurd (cc))
  | inr not_a ↦ elim (cases_Bool (id == b)) [
    | inl at_b ↦ (let some : Some a ≡ None = sym (cond-false (id == a) (Some b) (if id == b then Some a else None) not_a ∙ cond-true (id == b) (Some a) None at_b) ∙ none in absurd (cc))
    | inr not_b ↦
        (cond-false (id == a) (exchanged_row (row_at v.rows b) (row_at v.rows a)) (if id == b then exchanged_row (row_at v.rows a) (row_at v.rows b) else row_at v.rows id) not_a
        ∙ cond-false (id == b) (exchanged_row (row_at v.rows a) (row_at v.rows b)) (row_at v.rows id) not_b
        ∙ same (row_at v.rows id))
  ]
]
row-left v (PutsIcon icon) id none = same (row_at v.rows id)
row-left v (PutsAppl appl) id none = same (row_at v.rows id)
row-left v (TakesAppl creator node) id none = same (row_at v.rows id)
row-left v (Comments node text) id none = same (row_at v.rows id)
row-left v (BacksUp date) id none = same (row_at v.rows id)

-- a node behind so many edits, by the law that edits go by node
pub behind-exchanged : EditsByNode → EditKeepsSound → (v : VolumeState) (es : List EditValue) (count : ℕ) (e : Edit) (id other : ℕ) → IsSoundVolume v → Last v es count e → partner_of e id ≡ Some other
    → row_at (after_edits v (edits_of (take count es))).rows id ≡ exchanged_row (row_at (after_edits v (edits_of (take (count - 1) es))).rows other) (row_at (after_edits v (edits_of (take (count - 1) es))).rows id)
behind-exchanged by keeps v es count e id other s l is =
    let mid : VolumeState = after_edits v (edits_of (take (count - 1) es)) in
    ap (λ (w : VolumeState). row_at w.rows id) l.after ∙ by mid e id (sound-behind keeps v (edits_of (take (count - 1) es)) l.before s) l.may ∙ row-exchanged mid e id other is

pub behind-left : EditsByNode → EditKeepsSound → (v : VolumeState) (es : List EditValue) (count : ℕ) (e : Edit) (id : ℕ) → IsSoundVolume v → Last v es count e → partner_of e id ≡ None
    → row_at (after_edits v (edits_of (take count es))).rows id ≡ left_row e (after_edits v (edits_of (take (count - 1) es))).next_id id (row_at (after_edits v (edits_of (take (count - 1) es))).rows id)
behind-left by keeps v es count e id s l none =
    let mid : VolumeState = after_edits v (edits_of (take (count - 1) es)) in
    ap (λ (w : VolumeState). row_at w.rows id) l.after ∙ by mid e id (sound-behind keeps v (edits_of (take (count - 1) es)) l.before s) l.may ∙ row-left mid e id none

-- a node from its row without forks and its forks
nothing-there : (bytes : List ℕ) → (length bytes == 0) ≡ true → bytes ≡ []
nothing-there [] none = refl
nothing-there (b ∷ bs) none = let h : suc (length bs) ≡ 0 = eqb-true (suc (length bs)) 0 none in absurd (omega arith)

whole : (o : Option Row) (node : Row) (kept resource : List ℕ) → ((row : Row) → o ≡ Some row → is_formed row ≡ true) → Some node ≡ option_map bare o
    → kept ≡ unwrap_or (option_map (fork_of false) (file_of o)) [] → resource ≡ unwrap_or (option_map (fork_of true) (file_of o)) [] → Some (record node { data_fork = kept; resource_fork = resource }) ≡ o
whole None node kept resource formed is data_is resource_is = absurd (cc)
whole (Some row) node kept resource formed is data_is resource_is =
    let n : node ≡ bare row = cc in
    (λ i. Some (record (n i) { data_fork = data_is i; resource_fork = resource_is i })) ∙ elim (cases_Bool row.dir) [
      | inl dir ↦
          (let parts = and_parts (is_named row) _ (and_parts (has_fit_privileges row.dir row.privileges) _ (formed row refl)).1 in
          let of_dir = sym (cond-true row.dir _ _ dir) ∙ parts.1 in
          let forks = (and_parts _ _ of_dir).1 in
          let data_none : [] ≡ row.data_fork = sym (nothing-there row.data_fork (and_parts _ _ forks).0) in
          let resource_none : [] ≡ row.resource_fork = sym (nothing-there row.resource_fork (and_parts _ _ (and_parts _ _ forks).1).0) in
          (λ i. Some (record row { data_fork = unwrap_or (option_map (fork_of false) (cond-true row.dir None (Some row) dir i)) []; resource_fork = unwrap_or (option_map (fork_of true) (cond-true row.dir None (Some row) dir i)) [] }))
          ∙ (λ i. Some (record row { data_fork = data_none i; resource_fork = resource_none i })))
      | inr file ↦
          (λ i. Some (record row { data_fork = unwrap_or (option_map (fork_of false) (cond-false row.dir None (Some row) file i)) []; resource_fork = unwrap_or (option_map (fork_of true) (cond-false row.dir None (Some row) file i)) [] }))
    ]

pub node-whole : (v : VolumeState) (id : ℕ) (node : Row) (kept resource : List ℕ) → IsSoundVolume v → Some node ≡ option_map bare (row_at v.rows id)
    → kept ≡ unwrap_or (fork_at v.rows id false) [] → resource ≡ unwrap_or (fork_at v.rows id true) [] → Some (record node { data_fork = kept; resource_fork = resource }) ≡ row_at v.rows id
unfolding fork_at row_at
node-whole v id node kept resource s is data_is resource_is =
    whole (row_at v.rows id) node kept resource (λ row found. find-all (λ (r : Row). r.id == id) is_formed v.rows row found (formed-parts v s.formed).rows) is data_is resource_is

-- a call leaves the rows of its edits
pub rows-of-call : (v : VolumeState) (now : ℕ) (es : List Edit) → (after_edits v es).rows ≡ (after_call v now es).rows
rows-of-call v now [] = refl
rows-of-call v now (e ∷ es) = refl
