-- What is kept of a volume's tree after a write of a fork, and after an exchange of forks.
use Rattle.std.proofs.Common.{◌==◌, ◌≡◌, ◌∙◌, ap, sym, refl, subst, ℕ, ◌+◌, ◌≤◌, ◌<◌, arith, Bool, true, false, not, ◌||◌, cond, List, [], ◌∷◌, map, length, Option, Some, None, inl, inr, eq-eqb}
use Rattle.std.specs.Prelude.{pos, is_some, option_map, if◌then◌else◌}
use Rattle.std.specs.List.{list_any, list_all, find}
use Rattle.std.specs.Ordering.{nat_cmp}
use Rattle.std.proofs.lemmas.List.Sums.{sum_by-cons}
use Rattle.std.proofs.lemmas.Bool.{and_parts, or_right, cases_Bool, cond_both, cond-true, cond-false, eqb-true, ne_eqb, not-true}
use Rattle.afp_base.specs.Apart.{are_apart}
use Rattle.afp_base.specs.Limits.{most_fork_bytes}
use Rattle.afp_base.specs.declared.ids.NodeId.{NodeId}
use Rattle.afp_base.proofs.ListFacts.{all-weaker, apart-map, apart-weaker, none-all}
use Rattle.node_rows.specs.Kept.{RowsValue}
use Rattle.sorted_map.specs.map.Entries.{at}
use Rattle.volume_spec.proofs.ForkEffects.{room-left}
use Rattle.volume_spec.proofs.Places.{unchanged}
use Rattle.volume_spec.proofs.SoundEdits.{changed-same}
use Rattle.volume_spec.specs.EditLaws.{MayWrite}
use Rattle.volume_spec.specs.Edits.{change_at, exchanged, put, with_changed, with_forks_of}
use Rattle.volume_spec.specs.ForkEffect.{fork_effect, fork_of, written}
use Rattle.volume_spec.specs.OpenFork.{file_of}
use Rattle.volume_spec.specs.SoundVolume.{IsSoundVolume, fork_bytes, has_node, row_bytes}
use Rattle.volume_spec.specs.VolumeState.{Row, VolumeState}
use Rattle.volume_spec.specs.Walk.{row_at}
use Rattle.volume_tree.proofs.KeptEdits.{all-changed, gone-drawn, with-same}
use Rattle.volume_tree.proofs.Edited.{row-node, spare-still}
use Rattle.volume_tree.proofs.KeptForks.{found-id, found-kept}
use Rattle.volume_tree.proofs.Showing.{found-shown, ids-differ, missing-shown}
use Rattle.volume_tree.proofs.Writing.{Written, written-state, written-kept}
use Rattle.volume_tree.specs.Kept.{Forks, data_of, resource_of, with_forks, rows_of, state_of, spare_of}
use Rattle.volume_tree.specs.Shown.{fork_at}
use Rattle.volume_tree.specs.lemma.Edited.{modified_on}
use Rattle.volume_tree.specs.lemma.Kept.{IsKeptVolume, has_forks}
use Rattle.volume_tree.specs.declared.head.Dates.{Dates}

-- writes

fork-given : (resource : Bool) (row : Row) (before : List ℕ) (dir : Bool) → dir ≡ false → option_map (fork_of resource) (if dir then None else Some row) ≡ Some before → fork_of resource row ≡ before
fork-given resource row before true is_file given = absurd (cc)
fork-given resource row before false is_file given = cc

pub fork-before : (v : VolumeState) (id : ℕ) (resource : Bool) (before after : List ℕ) (m : MayWrite v id resource after) → fork_at v.rows id resource ≡ Some before → fork_of resource m.file ≡ before
unfolding fork_at
fork-before v id resource before after m given = fork-given resource m.file before m.file.dir m.is_file (ap (λ o. option_map (fork_of resource) (file_of o)) (sym m.found) ∙ given)

-- there is room for the bytes that are written
pub write-fits : (v : VolumeState) (id : ℕ) (resource : Bool) (before after : List ℕ) → MayWrite v id resource after → fork_at v.rows id resource ≡ Some before → fork_bytes v.rows + length after ≤ most_fork_bytes + length before
write-fits v id resource before after m given =
    subst (λ (l : List ℕ). fork_bytes v.rows + length after ≤ most_fork_bytes + length l) (fork-before v id resource before after m given) (room-left v (length (fork_of resource m.file)) (length after) m.room)

module _ {name : List ℕ} {dates : Dates} {rows new_rows : RowsValue} {forks new_forks : Forks} {used left : ℕ} {id : NodeId} {now : ℕ} {resource : Bool} {before after : List ℕ} (a : Written name dates (record dates { modified = pos now }) rows new_rows forks new_forks used left id now resource true before after) where
  pub wrote-state : state_of name dates new_rows new_forks ≡ record (state_of name dates rows forks) { rows = with_changed id.0 (written now resource after true) (rows_of forks rows.rows) }
  unfolding fork_effect
  wrote-state = ap (λ (v : VolumeState). record v { modified = dates.modified }) (written-state a)

  pub wrote-kept : IsSoundVolume (record (state_of name dates rows forks) { rows = with_changed id.0 (written now resource after true) (rows_of forks rows.rows) }) → IsKeptVolume name dates new_rows new_forks left
  wrote-kept sound =
      let w : IsKeptVolume name (record dates { modified = pos now }) new_rows new_forks left = written-kept a in
      record {
        sound = subst IsSoundVolume (sym wrote-state) sound;
        files = w.files;
        no_data = w.no_data;
        no_resource = w.no_resource;
        none_behind = w.none_behind;
        bytes = w.bytes;
      }

  pub wrote-spare : rows.spare ≤ new_rows.spare → spare_of rows forks ≤ spare_of new_rows new_forks
  wrote-spare more =
      let there : has_node (rows_of forks rows.rows) id.0 ≡ true = row-node (rows_of forks rows.rows) id.0 (with_forks forks a.file.row) (found-shown forks rows.rows id.0 a.file.row a.file.found) in
      spare-still rows new_rows forks new_forks a.next_is (a.others rows.next_id (gone-drawn (state_of name dates rows forks) (Some id) there a.kept.sound)) more

-- exchanges

-- the row that is kept of a row that is shown
pub found-under : (forks : Forks) (rows : List Row) (id : ℕ) (shown : Row) → row_at (rows_of forks rows) id ≡ Some shown → (s : Row) × (row_at rows id ≡ Some s) × (with_forks forks s ≡ shown)
found-under forks rows id shown is = go (row_at rows id) refl
  where
    go : (o : Option Row) → row_at rows id ≡ o → (s : Row) × (row_at rows id ≡ Some s) × (with_forks forks s ≡ shown)
    go None found = let none : row_at (rows_of forks rows) id ≡ None = missing-shown forks rows id found in absurd (cc)
    go (Some s) found = let some : row_at (rows_of forks rows) id ≡ Some (with_forks forks s) = found-shown forks rows id s found in (s, found, cc)

-- each row of an id is that one
abbrev AreThose : ℕ → Row → List Row → Type 0
AreThose id s [] = Unit {0}
AreThose id s (row ∷ rows) = ((row.id == id) ≡ true → row ≡ s) × AreThose id s rows

none-those : (n id : ℕ) (s : Row) (rows : List Row) → n ≡ id → list_all (λ (b : Row). not (n == b.id)) rows ≡ true → AreThose id s rows
none-those n id s [] is none = tt
none-those n id s (row ∷ rows) is none =
    let e = and_parts (not (n == row.id)) (list_all (λ (b : Row). not (n == b.id)) rows) none in
    let other : (n == row.id) ≡ false = not-true (n == row.id) e.0 in
    (λ here. let same : (n == row.id) ≡ true = ap (λ k. k == row.id) (is ∙ sym (eqb-true row.id id here)) ∙ eq-eqb row.id row.id refl in absurd (cc), none-those n id s rows is e.1)

those : (rows : List Row) (id : ℕ) (s : Row) → are_apart (λ (a : Row) b. a.id == b.id) rows ≡ true → row_at rows id ≡ Some s → AreThose id s rows
unfolding row_at
those [] id s apart found = tt
those (row ∷ rows) id s apart found =
    let e = and_parts (not (list_any (λ (b : Row). row.id == b.id) rows)) (are_apart (λ (a : Row) b. a.id == b.id) rows) apart in
    cond_both (row.id == id) (Some row) (find (λ (r : Row). r.id == id) rows) (λ o. o ≡ Some s → ((row.id == id) ≡ true → row ≡ s) × AreThose id s rows)
    (λ here h. (λ again. let is : row ≡ s = cc in is, none-those row.id id s rows (eqb-true row.id id here) (none-all (λ (b : Row). row.id == b.id) rows e.0)))
    (λ other h. (λ here. absurd (cc), those rows id s e.1 h))
    found

-- two files have exchanged their forks and dates, and what was done
pub record Swapped (name : List ℕ) (dates : Dates) (rows new_rows : RowsValue) (forks new_forks : Forks) (used a b : ℕ) (s t : Row) : Type 0 where
  pub kept : IsKeptVolume name dates rows forks used
  pub sound : IsSoundVolume (exchanged a b (with_forks forks s) (with_forks forks t) (state_of name dates rows forks))
  pub apart : (a == b) ≡ false
  pub at_a : row_at rows.rows a ≡ Some s
  pub at_b : row_at rows.rows b ≡ Some t
  pub file_a : s.dir ≡ false
  pub file_b : t.dir ≡ false
  pub next_a : (rows.next_id == a) ≡ false
  pub next_b : (rows.next_id == b) ≡ false
  pub next_is : new_rows.next_id ≡ rows.next_id
  pub rows_are : new_rows.rows ≡ with_changed b (modified_on s.modified) (with_changed a (modified_on t.modified) rows.rows)
  pub forks_are : (q : ℕ) → at nat_cmp new_forks q ≡ (if q == a then at nat_cmp forks b else if q == b then at nat_cmp forks a else at nat_cmp forks q)

here : (id : ℕ) (change : Row → Row) (row : Row) → (row.id == id) ≡ true → change_at id change row ≡ change row
here id change row is = cond-true (row.id == id) (change row) row is

elsewhere : (id : ℕ) (change : Row → Row) (row : Row) → (row.id == id) ≡ false → change_at id change row ≡ row
elsewhere id change row other = cond-false (row.id == id) (change row) row other

-- the bytes of forks where one row has changed
changed-bytes : (id : ℕ) (change : Row → Row) (s : Row) (rows : List Row) → are_apart (λ (a : Row) b. a.id == b.id) rows ≡ true → row_at rows id ≡ Some s → fork_bytes (with_changed id change rows) + row_bytes s ≡ fork_bytes rows + row_bytes (change s)
unfolding row_at with_changed
changed-bytes id change s [] apart found = absurd (cc)
changed-bytes id change s (x ∷ xs) apart found =
    let e = and_parts (not (list_any (λ (b : Row). x.id == b.id) xs)) (are_apart (λ (a : Row) b. a.id == b.id) xs) apart in
    let whole : fork_bytes (x ∷ xs) ≡ row_bytes x + fork_bytes xs = sum_by-cons row_bytes x xs in
    let after : fork_bytes (change_at id change x ∷ map (change_at id change) xs) ≡ row_bytes (change_at id change x) + fork_bytes (map (change_at id change) xs) = sum_by-cons row_bytes (change_at id change x) (map (change_at id change) xs) in
    cond_both (x.id == id) (Some x) (find (λ (r : Row). r.id == id) xs) (λ o. o ≡ Some s → fork_bytes (change_at id change x ∷ map (change_at id change) xs) + row_bytes s ≡ fork_bytes (x ∷ xs) + row_bytes (change s))
    (λ is h.
    let same : x ≡ s = cc in
    let first : row_bytes (change_at id change x) ≡ row_bytes (change s) = ap row_bytes (here id change x is ∙ ap change same) in
    let rest : fork_bytes (map (change_at id change) xs) ≡ fork_bytes xs = ap fork_bytes (unchanged change x id xs (eqb-true x.id id is) (none-all (λ (b : Row). x.id == b.id) xs e.0)) in
    let own : row_bytes x ≡ row_bytes s = ap row_bytes same in
    omega arith)
    (λ other h.
    let first : row_bytes (change_at id change x) ≡ row_bytes x = ap row_bytes (elsewhere id change x other) in
    let rest : fork_bytes (map (change_at id change) xs) + row_bytes s ≡ fork_bytes xs + row_bytes (change s) = changed-bytes id change s xs e.1 h in
    omega arith)
    found

-- the row of another id is still there
other-row : (rows : List Row) (id other : ℕ) (t : Row) → (id == other) ≡ false → t.id ≡ id → row_at (with_changed id (put t) rows) other ≡ row_at rows other
unfolding row_at with_changed
other-row [] id other t differ is = refl
other-row (row ∷ rows) id other t differ is =
    let rest : find (λ (r : Row). r.id == other) (map (change_at id (put t)) rows) ≡ find (λ (r : Row). r.id == other) rows = other-row rows id other t differ is in
    cond_both (row.id == id) t row (λ r. cond (r.id == other) (Some r) (find (λ (q : Row). q.id == other) (map (change_at id (put t)) rows)) ≡ cond (row.id == other) (Some row) (find (λ (q : Row). q.id == other) rows))
    (λ same. cond-false (t.id == other) (Some t) (find (λ (q : Row). q.id == other) (map (change_at id (put t)) rows)) (ap (λ n. n == other) is ∙ differ)
    ∙ rest ∙ sym (cond-false (row.id == other) (Some row) (find (λ (q : Row). q.id == other) rows) (ap (λ n. n == other) (eqb-true row.id id same) ∙ differ)))
    (λ stays. ap (λ o. cond (row.id == other) (Some row) o) rest)

-- ids stay apart where a change keeps them
changed-id : (id : ℕ) (change : Row → Row) (row : Row) → ((r : Row) → (change r).id ≡ r.id) → (change_at id change row).id ≡ row.id
changed-id id change row keeps = cond_both (row.id == id) (change row) row (λ r. r.id ≡ row.id) (λ is. keeps row) (λ other. refl)

apart-changed : (id : ℕ) (change : Row → Row) (rows : List Row) → ((r : Row) → (change r).id ≡ r.id) → are_apart (λ (a : Row) b. a.id == b.id) rows ≡ true → are_apart (λ (a : Row) b. a.id == b.id) (with_changed id change rows) ≡ true
unfolding with_changed
apart-changed id change rows keeps apart =
    apart-map (λ (a : Row) b. a.id == b.id) (change_at id change) rows
    ∙ apart-weaker (λ (a : Row) b. a.id == b.id) (λ (a : Row) b. (change_at id change a).id == (change_at id change b).id) rows
    (λ a b same. (λ i. sym (changed-id id change a keeps) i == sym (changed-id id change b keeps) i) ∙ same) apart

-- a file with other forks and another modified date
abbrev with_forks_in : Row → Row → Row
with_forks_in from row = record row { modified = from.modified; data_fork = from.data_fork; resource_fork = from.resource_fork }

-- the bytes of all forks stay where two files exchange theirs
exchanged-bytes : (v : VolumeState) (a b : ℕ) (s t : Row) → (a == b) ≡ false → row_at v.rows a ≡ Some s → row_at v.rows b ≡ Some t → s.id ≡ a → are_apart (λ (x : Row) y. x.id == y.id) v.rows ≡ true → fork_bytes (exchanged a b s t v).rows ≡ fork_bytes v.rows
unfolding row_at with_changed
exchanged-bytes v a b s t differ at_a at_b id_s apart =
    let new_s : Row = with_forks_of t s in
    let new_t : Row = with_forks_of s t in
    let first : List Row = with_changed a (put new_s) v.rows in
    let same : first ≡ with_changed a (with_forks_in t) v.rows = changed-same v.rows a (put new_s) (with_forks_in t) s apart at_a refl in
    let still_apart : are_apart (λ (x : Row) y. x.id == y.id) first ≡ true = ap (are_apart (λ (x : Row) y. x.id == y.id)) same ∙ apart-changed a (with_forks_in t) v.rows (λ r. refl) apart in
    let still_b : row_at first b ≡ Some t = other-row v.rows a b new_s differ id_s ∙ at_b in
    let one : fork_bytes first + row_bytes s ≡ fork_bytes v.rows + row_bytes t = changed-bytes a (put new_s) s v.rows apart at_a in
    let two : fork_bytes (with_changed b (put new_t) first) + row_bytes t ≡ fork_bytes first + row_bytes s = changed-bytes b (put new_t) t first still_apart still_b in
    omega arith

file-kept : (forks : Forks) (row : Row) (id : ℕ) → row.dir ≡ false → row.id ≡ id → has_forks forks row ≡ true → is_some (at nat_cmp forks id) ≡ true
file-kept forks row id file is had = ap (λ n. is_some (at nat_cmp forks n)) (sym is) ∙ ap (λ d. d || is_some (at nat_cmp forks row.id)) (sym file) ∙ had

module _ {name : List ℕ} {dates : Dates} {rows new_rows : RowsValue} {forks new_forks : Forks} {used a b : ℕ} {s t : Row} (w : Swapped name dates rows new_rows forks new_forks used a b s t) where
  id-s : s.id ≡ a
  id-s = found-id rows.rows a s w.at_a

  id-t : t.id ≡ b
  id-t = found-id rows.rows b t w.at_b

  other-s : (s.id == b) ≡ false
  other-s = ap (λ n. n == b) id-s ∙ w.apart

  b-not-a : (b == a) ≡ false
  b-not-a = ne_eqb b a (λ same. let one : (a == a) ≡ true = eq-eqb a a refl in let other : (a == a) ≡ false = sym (ap (λ n. a == n) same) ∙ w.apart in absurd (cc))

  fork-a : at nat_cmp new_forks s.id ≡ at nat_cmp forks t.id
  fork-a =
      ap (at nat_cmp new_forks) id-s ∙ w.forks_are a ∙ cond-true (a == a) (at nat_cmp forks b) (if a == b then at nat_cmp forks a else at nat_cmp forks a) (eq-eqb a a refl)
      ∙ ap (at nat_cmp forks) (sym id-t)

  fork-b : at nat_cmp new_forks t.id ≡ at nat_cmp forks s.id
  fork-b =
      ap (at nat_cmp new_forks) id-t ∙ w.forks_are b ∙ cond-false (b == a) (at nat_cmp forks b) (if b == b then at nat_cmp forks a else at nat_cmp forks b) b-not-a
      ∙ cond-true (b == b) (at nat_cmp forks a) (at nat_cmp forks b) (eq-eqb b b refl) ∙ ap (at nat_cmp forks) (sym id-s)

  fork-other : (q : ℕ) → (q == a) ≡ false → (q == b) ≡ false → at nat_cmp new_forks q ≡ at nat_cmp forks q
  fork-other q na nb = w.forks_are q ∙ cond-false (q == a) (at nat_cmp forks b) (if q == b then at nat_cmp forks a else at nat_cmp forks q) na ∙ cond-false (q == b) (at nat_cmp forks a) (at nat_cmp forks q) nb

  abbrev F : Row → Row
  F = modified_on t.modified

  abbrev G : Row → Row
  G = modified_on s.modified

  abbrev X : Row
  X = with_forks_of (with_forks forks t) (with_forks forks s)

  abbrev Y : Row
  Y = with_forks_of (with_forks forks s) (with_forks forks t)

  first-now : with_forks new_forks (F s) ≡ X
  first-now = λ i. record s { modified = t.modified; data_fork = data_of (fork-a i); resource_fork = resource_of (fork-a i) }

  second-now : with_forks new_forks (G t) ≡ Y
  second-now = λ i. record t { modified = s.modified; data_fork = data_of (fork-b i); resource_fork = resource_of (fork-b i) }

  row-swapped : (row : Row) → ((row.id == a) ≡ true → row ≡ s) → ((row.id == b) ≡ true → row ≡ t) → with_forks new_forks (change_at b G (change_at a F row)) ≡ change_at b (put Y) (change_at a (put X) (with_forks forks row))
  row-swapped row is_a is_b = elim (cases_Bool (row.id == a)) [
    | inl ya ↦
        (let nb : (row.id == b) ≡ false = ap (λ n. n == b) (eqb-true row.id a ya) ∙ w.apart in
        ap (λ r. with_forks new_forks (change_at b G r)) (here a F row ya) ∙ ap (with_forks new_forks) (elsewhere b G (F row) nb) ∙ ap (λ r. with_forks new_forks (F r)) (is_a ya) ∙ first-now
        ∙ sym (ap (change_at b (put Y)) (here a (put X) (with_forks forks row) ya) ∙ elsewhere b (put Y) X other-s))
    | inr na ↦ elim (cases_Bool (row.id == b)) [
      | inl yb ↦
          (ap (λ r. with_forks new_forks (change_at b G r)) (elsewhere a F row na) ∙ ap (with_forks new_forks) (here b G row yb) ∙ ap (λ r. with_forks new_forks (G r)) (is_b yb) ∙ second-now
          ∙ sym (ap (change_at b (put Y)) (elsewhere a (put X) (with_forks forks row) na) ∙ here b (put Y) (with_forks forks row) yb))
      | inr nb ↦
          (ap (λ r. with_forks new_forks (change_at b G r)) (elsewhere a F row na) ∙ ap (with_forks new_forks) (elsewhere b G row nb) ∙ with-same forks new_forks row (fork-other row.id na nb)
          ∙ sym (ap (change_at b (put Y)) (elsewhere a (put X) (with_forks forks row) na) ∙ elsewhere b (put Y) (with_forks forks row) nb))
    ]
  ]

  rows-swapped : (l : List Row) → AreThose a s l → AreThose b t l → rows_of new_forks (with_changed b G (with_changed a F l)) ≡ with_changed b (put Y) (with_changed a (put X) (rows_of forks l))
  unfolding rows_of with_changed
  rows-swapped [] are_a are_b = refl
  rows-swapped (row ∷ l) are_a are_b = λ i. row-swapped row are_a.0 are_b.0 i ∷ rows-swapped l are_a.1 are_b.1 i

  shown-apart : are_apart (λ (x : Row) y. x.id == y.id) (rows_of forks rows.rows) ≡ true
  shown-apart = ids-differ (state_of name dates rows forks) w.kept.sound

  kept-apart : are_apart (λ (x : Row) y. x.id == y.id) rows.rows ≡ true
  unfolding rows_of
  kept-apart = sym (apart-map (λ (x : Row) y. x.id == y.id) (with_forks forks) rows.rows) ∙ shown-apart

  swapped-rows : rows_of new_forks new_rows.rows ≡ with_changed b (put Y) (with_changed a (put X) (rows_of forks rows.rows))
  swapped-rows = ap (rows_of new_forks) w.rows_are ∙ rows-swapped rows.rows (those rows.rows a s kept-apart w.at_a) (those rows.rows b t kept-apart w.at_b)

  pub swapped-state : state_of name dates new_rows new_forks ≡ exchanged a b (with_forks forks s) (with_forks forks t) (state_of name dates rows forks)
  swapped-state = λ i. record {
    name = name;
    created = dates.created;
    modified = dates.modified;
    backup = dates.backup;
    next_id = w.next_is i;
    rows = swapped-rows i;
    comments = [];
    icons = [];
    appls = [];
  }

  some-a : is_some (at nat_cmp forks a) ≡ true
  some-a = file-kept forks s a w.file_a id-s (found-kept forks rows.rows a s w.kept.files w.at_a)

  some-b : is_some (at nat_cmp forks b) ≡ true
  some-b = file-kept forks t b w.file_b id-t (found-kept forks rows.rows b t w.kept.files w.at_b)

  still-some : (row : Row) → has_forks forks row ≡ true → has_forks new_forks row ≡ true
  still-some row had = elim (cases_Bool (row.id == a)) [
    | inl ya ↦ or_right row.dir (is_some (at nat_cmp new_forks row.id)) (ap (λ n. is_some (at nat_cmp new_forks n)) (eqb-true row.id a ya ∙ sym id-s) ∙ ap is_some fork-a ∙ ap (λ n. is_some (at nat_cmp forks n)) id-t ∙ some-b)
    | inr na ↦ elim (cases_Bool (row.id == b)) [
      | inl yb ↦ or_right row.dir (is_some (at nat_cmp new_forks row.id)) (ap (λ n. is_some (at nat_cmp new_forks n)) (eqb-true row.id b yb ∙ sym id-t) ∙ ap is_some fork-b ∙ ap (λ n. is_some (at nat_cmp forks n)) id-s ∙ some-a)
      | inr nb ↦ ap (λ o. row.dir || is_some o) (fork-other row.id na nb) ∙ had
    ]
  ]

  none-other : (q n : ℕ) → is_some (at nat_cmp forks n) ≡ true → at nat_cmp forks q ≡ None → (q == n) ≡ false
  none-other q n some none = ne_eqb q n (λ same. let gone : is_some (at nat_cmp forks n) ≡ false = ap (λ k. is_some (at nat_cmp forks k)) (sym same) ∙ ap is_some none in absurd (cc))

  next-still : at nat_cmp new_forks rows.next_id ≡ at nat_cmp forks rows.next_id
  next-still = fork-other rows.next_id w.next_a w.next_b

  pub swapped-kept : IsKeptVolume name dates new_rows new_forks used
  swapped-kept =
      let v : VolumeState = state_of name dates rows forks in
      record {
        sound = subst IsSoundVolume (sym swapped-state) w.sound;
        files = ap (list_all (has_forks new_forks)) w.rows_are ∙ all-changed (has_forks new_forks) b G (with_changed a F rows.rows) (λ row. refl) ∙ all-changed (has_forks new_forks) a F rows.rows (λ row. refl)
            ∙ all-weaker (has_forks forks) (has_forks new_forks) rows.rows still-some w.kept.files;
        no_data = ap (λ q. data_of (at nat_cmp new_forks q)) w.next_is ∙ ap data_of next-still ∙ w.kept.no_data;
        no_resource = ap (λ q. resource_of (at nat_cmp new_forks q)) w.next_is ∙ ap resource_of next-still ∙ w.kept.no_resource;
        none_behind = λ q behind. let none = w.kept.none_behind q (subst (λ n. n < q) w.next_is behind) in fork-other q (none-other q a some-a none) (none-other q b some-b none) ∙ none;
        bytes = w.kept.bytes
            ∙ sym (ap fork_bytes swapped-rows ∙ exchanged-bytes v a b (with_forks forks s) (with_forks forks t) w.apart (found-shown forks rows.rows a s w.at_a) (found-shown forks rows.rows b t w.at_b) id-s shown-apart);
      }

  pub swapped-spare : rows.spare ≤ new_rows.spare → spare_of rows forks ≤ spare_of new_rows new_forks
  swapped-spare more = spare-still rows new_rows forks new_forks w.next_is next-still more
