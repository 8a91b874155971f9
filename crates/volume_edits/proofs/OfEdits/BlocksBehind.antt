-- The bytes of a fork behind edits, and the blocks that differ.
use Rattle.std.proofs.Common.{◌≡◌, ◌∙◌, ◌==◌, ◌+◌, ◌-◌, ◌<◌, ℕ, zero, suc, Bool, true, false, not, ◌&&◌, List, [], ◌∷◌, length, take, slice_index_or, Option, Some, None, refl, sym, ap, subst, arith, inl, inr, eq-eqb}
use Rattle.std.specs.Prelude.{max, nat_eq, option_map, unwrap_or, if◌then◌else◌}
use Rattle.std.specs.Bool.{beq}
use Rattle.std.specs.Cmp.Lexicographic.{pointwise}
use Rattle.std.proofs.lemmas.Bool.{and_parts, and_from, cases_Bool, cond-true, cond-false, eqb-true}
use Rattle.afp_base.proofs.Facts.{bytes_true}
use Rattle.afp_base.proofs.ListFacts.{all-index, find-passes}
use Rattle.fork_bytes.specs.Blocks.{block_at, block_count}
use Rattle.fork_bytes.specs.Plan.{changes_from, changes_of}
use Rattle.volume_spec.specs.Edit.{Edit, Comes, Goes, Renames, Moves, Sets, Files, Writes, Exchanges, PutsIcon, PutsAppl, TakesAppl, Comments, BacksUp, after_call, after_edits, edited}
use Rattle.volume_spec.specs.EditLaws.{EditKeepsSound, MayEditAll, MayEdit}
use Rattle.volume_spec.specs.Edits.{at_place, bare, change_at, filed_as, named}
use Rattle.volume_spec.specs.ForkEffect.{fork_of, written}
use Rattle.volume_spec.specs.OpenFork.{file_of}
use Rattle.volume_spec.specs.SetFileDirParms.{Settings, with_settings}
use Rattle.volume_spec.specs.SoundVolume.{IsSoundVolume}
use Rattle.volume_spec.specs.VolumeState.{Row, VolumeState}
use Rattle.volume_spec.specs.Walk.{row_at}
use Rattle.volume_tree.specs.Shown.{fork_at}
use Rattle.volume_edits.specs.edits.After.{EditsByNode, bytes_of, exchanged_row}
use Rattle.volume_edits.specs.edits.Planned.{EditValue, StandOn, does_write, edits_of, write_none, writes_alone}
use Rattle.volume_edits.specs.edits.lemma.Steps.{changed_row, coming_row, does_go, left_row, partner_of, row_or, write_of}
use Rattle.volume_edits.specs.edits.lemma.Writes.{IsLoneWrite}
use Rattle.volume_edits.proofs.OfEdits.Behind.{Last, behind-exchanged, behind-left, node-whole}

-- an option that is not some
pub none-from : {A : Type 0} (o : Option A) → ((x : A) → o ≡ Some x → ⊥) → o ≡ None
none-from None other = refl
none-from (Some x) other = absurd (other x refl)

-- a fork as it is
pub kept-bytes : (v : VolumeState) (id : ℕ) (r : Bool) → IsSoundVolume v → unwrap_or (fork_at v.rows id r) [] ≡ bytes_of r (row_at v.rows id)
unfolding fork_at
kept-bytes v id r s = by (row_at v.rows id) r refl
  where
    by : (o : Option Row) (t : Bool) → row_at v.rows id ≡ o → unwrap_or (option_map (fork_of t) (file_of (row_at v.rows id))) [] ≡ bytes_of t (row_at v.rows id)
    by None t none = ap (λ (o : Option Row). unwrap_or (option_map (fork_of t) (file_of o)) []) none ∙ sym (ap (bytes_of t) none)
    by (Some row) true found =
        ap (bytes_of true) (node-whole v id (bare row) (unwrap_or (fork_at v.rows id false) []) (unwrap_or (fork_at v.rows id true) []) s (sym (ap (option_map bare) found)) refl refl)
    by (Some row) false found =
        ap (bytes_of false) (node-whole v id (bare row) (unwrap_or (fork_at v.rows id false) []) (unwrap_or (fork_at v.rows id true) []) s (sym (ap (option_map bare) found)) refl refl)

-- two files that exchange their forks are there
record Both (v : VolumeState) (id other : ℕ) : Type 0 where
  from : Row
  to : Row
  from_found : row_at v.rows other ≡ Some from
  to_found : row_at v.rows id ≡ Some to

both : (v : VolumeState) (e : Edit) (id other : ℕ) → MayEdit v e → partner_of e id ≡ Some other → Both v id other
both v (Exchanges a b) id other m is = elim (cases_Bool (id == a)) [
  | inl same ↦
      (let at : id ≡ a = eqb-true id a same in
      let found : Some b ≡ Some other = sym (cond-true (id == a) (Some b) (if id == b then Some a else None) same) ∙ is in
      let to : b ≡ other = cc in
      record { from = m.second; to = m.first; from_found = ap (row_at v.rows) (sym to) ∙ m.second_found; to_found = ap (row_at v.rows) at ∙ m.first_found })
  | inr not_a ↦ elim (cases_Bool (id == b)) [
    | inl same ↦
        (let at : id ≡ b = eqb-true id b same in
        let found : Some a ≡ Some other = sym (cond-false (id == a) (Some b) (if id == b then Some a else None) not_a ∙ cond-true (id == b) (Some a) None same) ∙ is in
        let to : a ≡ other = cc in
        record { from = m.first; to = m.second; from_found = ap (row_at v.rows) (sym to) ∙ m.first_found; to_found = ap (row_at v.rows) at ∙ m.second_found })
    | inr not_b ↦
        (let none : None ≡ Some other = sym (cond-false (id == a) (Some b) (if id == b then Some a else None) not_a ∙ cond-false (id == b) (Some a) None not_b) ∙ is in
        absurd (cc))
  ]
]
both v (Comes row) id other m is = absurd (cc)
both v (Goes gone) id other m is = absurd (cc)
both v (Renames node name) id other m is = absurd (cc)
both v (Moves node parent name) id other m is = absurd (cc)
both v (Sets node settings) id other m is = absurd (cc)
both v (Files node filed) id other m is = absurd (cc)
both v (Writes now node resource bytes) id other m is = absurd (cc)
both v (PutsIcon icon) id other m is = absurd (cc)
both v (PutsAppl appl) id other m is = absurd (cc)
both v (TakesAppl creator node) id other m is = absurd (cc)
both v (Comments node text) id other m is = absurd (cc)
both v (BacksUp date) id other m is = absurd (cc)

exchanged-bytes : (r : Bool) (from to : Row) → bytes_of r (Some from) ≡ bytes_of r (exchanged_row (Some from) (Some to))
exchanged-bytes true from to = refl
exchanged-bytes false from to = refl

pub bytes-exchanged : EditsByNode → EditKeepsSound → (v : VolumeState) (es : List EditValue) (count : ℕ) (e : Edit) (id other : ℕ) (r : Bool) → IsSoundVolume v → Last v es count e → partner_of e id ≡ Some other
    → bytes_of r (row_at (after_edits v (edits_of (take (count - 1) es))).rows other) ≡ bytes_of r (row_at (after_edits v (edits_of (take count es))).rows id)
bytes-exchanged by keeps v es count e id other r s l is =
    let mid : VolumeState = after_edits v (edits_of (take (count - 1) es)) in
    let two : Both mid id other = both mid e id other l.may is in
    ap (bytes_of r) two.from_found ∙ exchanged-bytes r two.from two.to
    ∙ sym (ap (bytes_of r) (behind-exchanged by keeps v es count e id other s l is ∙ (λ i. exchanged_row (two.from_found i) (two.to_found i))))

-- a fork of a node that comes, goes, or stays
none-comes : (e : Edit) (next id : ℕ) → does_go e id ≡ true → coming_row e next id ≡ None
none-comes (Comes row) next id goes = absurd (cc)
none-comes (Goes gone) next id goes = refl
none-comes (Renames node name) next id goes = refl
none-comes (Moves node parent name) next id goes = refl
none-comes (Sets node settings) next id goes = refl
none-comes (Files node filed) next id goes = refl
none-comes (Writes now node resource bytes) next id goes = refl
none-comes (Exchanges a b) next id goes = refl
none-comes (PutsIcon icon) next id goes = refl
none-comes (PutsAppl appl) next id goes = refl
none-comes (TakesAppl creator node) next id goes = refl
none-comes (Comments node text) next id goes = refl
none-comes (BacksUp date) next id goes = refl

changed-bytes : (f : Row → Row) (node : ℕ) (r : Bool) (row : Row) → fork_of r (f row) ≡ fork_of r row → fork_of r (change_at node f row) ≡ fork_of r row
changed-bytes f node r row same = elim (cases_Bool (row.id == node)) [
  | inl here ↦ (ap (fork_of r) (cond-true (row.id == node) (f row) row here) ∙ same)
  | inr other ↦ ap (fork_of r) (cond-false (row.id == node) (f row) row other)
]

set-bytes : (settings : Settings) (r : Bool) (row : Row) → fork_of r (with_settings settings row) ≡ fork_of r row
unfolding with_settings
set-bytes settings r row = refl

left-bytes : (e : Edit) (r : Bool) (row : Row) → does_write e ≡ false → fork_of r (changed_row e row) ≡ fork_of r row
left-bytes (Comes new) r row stays = refl
left-bytes (Goes gone) r row stays = refl
left-bytes (Renames node name) r row stays = changed-bytes (named name) node r row refl
left-bytes (Moves node parent name) r row stays = changed-bytes (at_place parent name) node r row refl
left-bytes (Sets node settings) r row stays = changed-bytes (with_settings settings) node r row (set-bytes settings r row)
left-bytes (Files node filed) r row stays = changed-bytes (filed_as filed) node r row refl
left-bytes (Writes now node resource bytes) r row stays = absurd (cc)
left-bytes (Exchanges a b) r row stays = refl
left-bytes (PutsIcon icon) r row stays = refl
left-bytes (PutsAppl appl) r row stays = refl
left-bytes (TakesAppl creator node) r row stays = refl
left-bytes (Comments node text) r row stays = refl
left-bytes (BacksUp date) r row stays = refl

left-all : (e : Edit) (r : Bool) (o : Option Row) → does_write e ≡ false → bytes_of r o ≡ bytes_of r (option_map (changed_row e) o)
left-all e r None stays = refl
left-all e r (Some row) stays = sym (left-bytes e r row stays)

none-here : (r : Bool) (o rest : Option Row) → None ≡ option_map (fork_of r) o → row_or o rest ≡ rest
none-here r None rest none = refl
none-here r (Some row) rest none = absurd (cc)

some-here : (r : Bool) (o rest : Option Row) (bytes : List ℕ) → Some bytes ≡ option_map (fork_of r) o → bytes ≡ bytes_of r (row_or o rest)
some-here r None rest bytes some = absurd (cc)
some-here r (Some row) rest bytes some = cc

module _ (by : EditsByNode) (keeps : EditKeepsSound) (v : VolumeState) (es : List EditValue) (count : ℕ) (e : Edit) (id : ℕ) (r : Bool) (s : IsSoundVolume v) (l : Last v es count e) (alone : partner_of e id ≡ None) where
  abbrev mid_state : VolumeState
  mid_state = after_edits v (edits_of (take (count - 1) es))

  pub bytes-gone : does_go e id ≡ true → [] ≡ bytes_of r (row_at (after_edits v (edits_of (take count es))).rows id)
  bytes-gone goes =
      sym (ap (bytes_of r) (behind-left by keeps v es count e id s l alone
      ∙ ap (λ o. row_or o (if does_go e id then None else option_map (changed_row e) (row_at mid_state.rows id))) (none-comes e mid_state.next_id id goes)
      ∙ cond-true (does_go e id) None (option_map (changed_row e) (row_at mid_state.rows id)) goes))

  pub bytes-come : (next : ℕ) (bytes : List ℕ) → next ≡ mid_state.next_id → Some bytes ≡ option_map (fork_of r) (coming_row e next id) → bytes ≡ bytes_of r (row_at (after_edits v (edits_of (take count es))).rows id)
  bytes-come next bytes is some =
      some-here r (coming_row e next id) (if does_go e id then None else option_map (changed_row e) (row_at mid_state.rows id)) bytes some
      ∙ ap (λ n. bytes_of r (left_row e n id (row_at mid_state.rows id))) is
      ∙ sym (ap (bytes_of r) (behind-left by keeps v es count e id s l alone))

  pub bytes-stay : (next : ℕ) → next ≡ mid_state.next_id → None ≡ option_map (fork_of r) (coming_row e next id) → does_go e id ≡ false → does_write e ≡ false
      → bytes_of r (row_at mid_state.rows id) ≡ bytes_of r (row_at (after_edits v (edits_of (take count es))).rows id)
  bytes-stay next is none stays reads =
      left-all e r (row_at mid_state.rows id) reads
      ∙ ap (bytes_of r) (sym (cond-false (does_go e id) None (option_map (changed_row e) (row_at mid_state.rows id)) stays)
      ∙ sym (none-here r (coming_row e next id) (if does_go e id then None else option_map (changed_row e) (row_at mid_state.rows id)) none))
      ∙ ap (λ n. bytes_of r (left_row e n id (row_at mid_state.rows id))) is
      ∙ sym (ap (bytes_of r) (behind-left by keeps v es count e id s l alone))

-- the edits of a plan that is no write write none
not-true : (t : Bool) → not t ≡ true → t ≡ false
not-true true h = absurd (cc)
not-true false h = refl

pub reads-at : (es : List EditValue) (n : ℕ) (e : EditValue) → write_none es ≡ true → n < length es → e ≡ slice_index_or es n e → does_write e.edit ≡ false
reads-at es n e none within at =
    not-true (does_write e.edit) (ap (λ (x : EditValue). not (does_write x.edit)) at ∙ all-index (λ (x : EditValue). not (does_write x.edit)) es n e none within)

pub alone-none : (es : List EditValue) → writes_alone es ≡ true → (length es ≡ 1 → ⊥) → write_none es ≡ true
alone-none [] alone other = refl
alone-none (e ∷ []) alone other = absurd (other refl)
alone-none (e ∷ f ∷ es) alone other = alone

lone-one : (x : EditValue) → IsLoneWrite (x ∷ []) (write_of x)
lone-one x = elim (cases_Bool (does_write x.edit)) [
  | inl writes ↦ subst (IsLoneWrite (x ∷ [])) (sym (cond-true (does_write x.edit) (Some x) None writes)) refl
  | inr reads ↦ subst (IsLoneWrite (x ∷ [])) (sym (cond-false (does_write x.edit) (Some x) None reads)) (and_from (not (does_write x.edit)) true (ap not reads) refl)
]

pub lone : (es : List EditValue) (e : EditValue) → length es ≡ 1 → e ≡ slice_index_or es 0 e → IsLoneWrite es (write_of e)
lone [] e one at = absurd (omega (arith, one))
lone (x ∷ []) e one at = subst (λ (y : EditValue). IsLoneWrite (x ∷ []) (write_of y)) (sym at) (lone-one x)
lone (x ∷ y ∷ es) e one at = absurd (omega (arith, one))

-- the same bytes differ in no block
none-differ : (bytes : List ℕ) (index count : ℕ) → changes_from bytes bytes index count ≡ []
none-differ bytes index zero = refl
none-differ bytes index (suc count) =
    cond-true (pointwise nat_eq (block_at bytes index) (block_at bytes index)) (changes_from bytes bytes (index + 1) count) (record { index = index; bytes = block_at bytes index } ∷ changes_from bytes bytes (index + 1) count)
    (bytes_true (block_at bytes index) (block_at bytes index) refl)
    ∙ none-differ bytes (index + 1) count

same-none : (old new : List ℕ) → old ≡ new → [] ≡ changes_of old new
same-none old new is = subst (λ bytes. [] ≡ changes_of old bytes) is (sym (none-differ old 0 (max (block_count (length old)) (block_count (length old)))))

-- a write of a fork alone
beq-true : (a b : Bool) → beq a b ≡ true → a ≡ b
beq-true true true h = refl
beq-true true false h = absurd (cc h)
beq-true false true h = absurd (cc h)
beq-true false false h = refl

written-fork : (now : ℕ) (r : Bool) (bytes : List ℕ) (row : Row) → fork_of r (written now r bytes true row) ≡ bytes
written-fork now true bytes row = refl
written-fork now false bytes row = refl

other-fork : (now : ℕ) (w r : Bool) (bytes : List ℕ) (row : Row) → beq w r ≡ false → fork_of r (written now w bytes true row) ≡ fork_of r row
other-fork now true true bytes row differ = absurd (cc differ)
other-fork now true false bytes row differ = refl
other-fork now false true bytes row differ = refl
other-fork now false false bytes row differ = absurd (cc differ)

row-id : (rows : List Row) (id : ℕ) (row : Row) → row_at rows id ≡ Some row → (row.id == id) ≡ true
unfolding row_at
row-id rows id row found = find-passes (λ (r : Row). r.id == id) rows row found

stood-bytes : (v : VolumeState) (id : ℕ) (r : Bool) (file : Row) (before : List ℕ) → row_at v.rows id ≡ Some file → file.dir ≡ false → fork_at v.rows id r ≡ Some before → before ≡ fork_of r file
unfolding fork_at
stood-bytes v id r file before found is_file stood =
    let some : Some before ≡ Some (fork_of r file) = sym stood ∙ ap (λ (o : Option Row). option_map (fork_of r) (file_of o)) found ∙ ap (option_map (fork_of r)) (cond-false file.dir None (Some file) is_file) in
    cc

other-bytes : (v : VolumeState) (now id node : ℕ) (w r : Bool) (bytes : List ℕ) (o : Option Row) → row_at v.rows node ≡ o → ((id == node) && beq w r) ≡ false → bytes_of r o ≡ bytes_of r (option_map (change_at id (written now w bytes true)) o)
other-bytes v now id node w r bytes None found other = refl
other-bytes v now id node w r bytes (Some row) found other =
    let is : row.id ≡ node = eqb-true row.id node (row-id v.rows node row found) in
    sym (elim (cases_Bool (row.id == id)) [
      | inl here ↦
          (let same : (id == node) ≡ true = eq-eqb id node (sym (eqb-true row.id id here) ∙ is) in
          ap (fork_of r) (cond-true (row.id == id) (written now w bytes true row) row here) ∙ other-fork now w r bytes row (sym (ap (λ t. t && beq w r) same) ∙ other))
      | inr differ ↦ ap (fork_of r) (cond-false (row.id == id) (written now w bytes true row) row differ)
    ])

pub blocks-written : EditsByNode → (v : VolumeState) (now : ℕ) (es : List EditValue) (moment id : ℕ) (w : Bool) (before after : List ℕ) (node : ℕ) (r : Bool) → IsSoundVolume v
    → es ≡ record { edit = Writes moment id w after; before = before } ∷ [] → MayEditAll v (edits_of es) → StandOn v es
    → (if (id == node) && beq w r then changes_of before after else []) ≡ changes_of (bytes_of r (row_at v.rows node)) (bytes_of r (row_at (after_call v now (edits_of es)).rows node))
blocks-written by v now es moment id w before after node r s is may stand =
    let one : List EditValue = record { edit = Writes moment id w after; before = before } ∷ [] in
    let can : MayEditAll v (edits_of one) = subst (λ xs. MayEditAll v (edits_of xs)) is may in
    let stood : StandOn v one = subst (StandOn v) is stand in
    subst (λ xs. (if (id == node) && beq w r then changes_of before after else []) ≡ changes_of (bytes_of r (row_at v.rows node)) (bytes_of r (row_at (after_call v now (edits_of xs)).rows node))) (sym is)
    (elim (cases_Bool ((id == node) && beq w r)) [
      | inl here ↦
          (let parts = and_parts (id == node) (beq w r) here in
          let same : id ≡ node = eqb-true id node parts.0 in
          let alike : w ≡ r = beq-true w r parts.1 in
          let found : row_at v.rows node ≡ Some can.0.file = ap (row_at v.rows) (sym same) ∙ can.0.found in
          let old : before ≡ bytes_of r (row_at v.rows node) =
          stood-bytes v id w can.0.file before can.0.found can.0.is_file stood.0 ∙ ap (λ t. fork_of t can.0.file) alike ∙ sym (ap (bytes_of r) found) in
          let at : (can.0.file.id == id) ≡ true = row-id v.rows id can.0.file can.0.found in
          let new : after ≡ bytes_of r (row_at (edited v (Writes moment id w after)).rows node) =
          sym (ap (bytes_of r) (by v (Writes moment id w after) node s can.0 ∙ ap (option_map (change_at id (written moment w after true))) found)
          ∙ ap (fork_of r) (cond-true (can.0.file.id == id) (written moment w after true can.0.file) can.0.file at)
          ∙ ap (λ t. fork_of t (written moment w after true can.0.file)) (sym alike) ∙ written-fork moment w after can.0.file) in
          cond-true ((id == node) && beq w r) (changes_of before after) [] here ∙ (λ i. changes_of (old i) (new i)))
      | inr other ↦
          (cond-false ((id == node) && beq w r) (changes_of before after) [] other
          ∙ same-none (bytes_of r (row_at v.rows node)) (bytes_of r (row_at (edited v (Writes moment id w after)).rows node))
          (other-bytes v moment id node w r after (row_at v.rows node) refl other ∙ sym (ap (bytes_of r) (by v (Writes moment id w after) node s can.0))))
    ])
