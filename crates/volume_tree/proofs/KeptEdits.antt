-- What is kept of a volume when a node goes, or rows change.
use Rattle.std.proofs.Common.{◌==◌, ◌≡◌, ◌∙◌, ap, sym, refl, ℕ, ◌+◌, ◌≤◌, ◌<◌, arith, Bool, true, false, not, ◌&&◌, ◌||◌, cond, List, [], ◌∷◌, map, length, Option, Some, None, inl, inr}
use Rattle.std.specs.Prelude.{is_some, sum_by, if◌then◌else◌, IfSome}
use Rattle.std.specs.List.{list_any, list_all, find, filter}
use Rattle.std.specs.Ordering.{nat_cmp}
use Rattle.std.proofs.lemmas.Bool.{and_parts, cases_Bool, cond_both, cond-true, cond-false, eqb-true, ne_eqb, not-true}
use Rattle.std.proofs.lemmas.List.Sums.{sum_by-cons}
use Rattle.afp_base.specs.declared.ids.NodeId.{NodeId}
use Rattle.sorted_map.specs.map.Entries.{at}
use Rattle.volume_spec.proofs.Formed.{formed-parts}
use Rattle.volume_spec.proofs.Places.{nothing-gone}
use Rattle.volume_spec.proofs.Trees.{drawn, tree-parts}
use Rattle.volume_spec.specs.Edits.{with_changed, change_at, without, modified_at}
use Rattle.afp_base.specs.Apart.{are_apart}
use Rattle.volume_spec.specs.SoundVolume.{IsSoundVolume, has_node, fork_bytes, row_bytes, is_in_place}
use Rattle.volume_spec.specs.VolumeState.{Row, VolumeState, root_id, first_id}
use Rattle.volume_spec.specs.Walk.{row_at}
use Rattle.volume_tree.specs.Kept.{Forks, data_of, resource_of, with_forks, rows_of}
use Rattle.volume_tree.specs.lemma.Kept.{at_gone, bytes_of, has_forks, gone_rows, is_gone}
use Rattle.volume_tree.specs.lemma.Edited.{modified_rows}
use Rattle.volume_tree.specs.declared.forks.FileForks.{FileForks}
use Rattle.afp_base.proofs.ListFacts.{all-both, all-filter, all-kept, all-weaker, any-at, none-all}

-- edits of rows beside their forks

pub shown-changed : (forks : Forks) (id : ℕ) (change : Row → Row) (rows : List Row) → ((row : Row) → with_forks forks (change row) ≡ change (with_forks forks row)) → rows_of forks (with_changed id change rows) ≡ with_changed id change (rows_of forks rows)
unfolding rows_of with_changed
shown-changed forks id change [] same = refl
shown-changed forks id change (row ∷ rows) same =
    λ i. cond_both (row.id == id) (change row) row (λ r. with_forks forks r ≡ change_at id change (with_forks forks row))
    (λ here. same row ∙ sym (cond-true (row.id == id) (change (with_forks forks row)) (with_forks forks row) here)) (λ other. sym (cond-false (row.id == id) (change (with_forks forks row)) (with_forks forks row) other)) i
    ∷ shown-changed forks id change rows same i

pub with-same : (old new : Forks) (row : Row) → at nat_cmp new row.id ≡ at nat_cmp old row.id → with_forks new row ≡ with_forks old row
with-same old new row same = λ i. record row { data_fork = data_of (same i); resource_fork = resource_of (same i) }

pub shown-left : (old new : Forks) (gone : ℕ) (rows : List Row) → ((q : ℕ) → (q == gone) ≡ false → at nat_cmp new q ≡ at nat_cmp old q) → rows_of new (without gone rows) ≡ without gone (rows_of old rows)
unfolding rows_of without
shown-left old new gone [] same = refl
shown-left old new gone (row ∷ rows) same =
    let keep : Row → Bool = λ (r : Row). not (r.id == gone) in
    cond_both (keep row) (row ∷ filter keep rows) (filter keep rows) (λ l. map (with_forks new) l ≡ cond (keep row) (with_forks old row ∷ filter keep (map (with_forks old) rows)) (filter keep (map (with_forks old) rows)))
    (λ kept. (λ i. with-same old new row (same row.id (not-true (row.id == gone) kept)) i ∷ shown-left old new gone rows same i)
    ∙ sym (cond-true (keep row) (with_forks old row ∷ filter keep (map (with_forks old) rows)) (filter keep (map (with_forks old) rows)) kept))
    (λ left. shown-left old new gone rows same ∙ sym (cond-false (keep row) (with_forks old row ∷ filter keep (map (with_forks old) rows)) (filter keep (map (with_forks old) rows)) left))

-- forks that are none

pub blank-gone : (gone : Option NodeId) (q : ℕ) (kept : Option FileForks) → data_of kept ≡ [] → data_of (at_gone gone q kept) ≡ []
blank-gone gone q kept blank = elim (is_gone gone q) as (λ b. data_of (if b then None else kept) ≡ []) [ true ↦ refl | false ↦ blank ]

pub blank-gone-resource : (gone : Option NodeId) (q : ℕ) (kept : Option FileForks) → resource_of kept ≡ [] → resource_of (at_gone gone q kept) ≡ []
blank-gone-resource gone q kept blank = elim (is_gone gone q) as (λ b. resource_of (if b then None else kept) ≡ []) [ true ↦ refl | false ↦ blank ]

pub none-gone : (gone : Option NodeId) (q : ℕ) (kept : Option FileForks) → kept ≡ None → at_gone gone q kept ≡ None
none-gone gone q kept none = elim (is_gone gone q) as (λ b. (if b then None else kept) ≡ None) [ true ↦ refl | false ↦ none ]

-- tests of rows after edits

pub all-changed : (p : Row → Bool) (id : ℕ) (change : Row → Row) (rows : List Row) → ((row : Row) → p (change row) ≡ p row) → list_all p (with_changed id change rows) ≡ list_all p rows
unfolding with_changed
all-changed p id change [] same = refl
all-changed p id change (row ∷ rows) same =
    λ i. cond_both (row.id == id) (change row) row (λ r. p r ≡ p row) (λ here. same row) (λ other. refl) i && all-changed p id change rows same i

pub all-modified : (forks : Forks) (now : ℕ) (dir : Option NodeId) (rows : List Row) → list_all (has_forks forks) (modified_rows now dir rows) ≡ list_all (has_forks forks) rows
all-modified forks now None rows = refl
all-modified forks now (Some dir) rows = all-changed (has_forks forks) dir.0 (modified_at now) rows (λ row. refl)

still : (dir : Bool) (old new : Option FileForks) → new ≡ old → (dir || is_some old) ≡ true → (dir || is_some new) ≡ true
still dir old new same h = ap (λ o. dir || is_some o) same ∙ h

pub all-gone : (old new : Forks) (gone : Option NodeId) (rows : List Row) → ((q : ℕ) → at nat_cmp new q ≡ at_gone gone q (at nat_cmp old q)) → list_all (has_forks old) rows ≡ true → list_all (has_forks new) (gone_rows gone rows) ≡ true
unfolding without
all-gone old new None rows are h = all-weaker (has_forks old) (has_forks new) rows (λ row. still row.dir (at nat_cmp old row.id) (at nat_cmp new row.id) (are row.id)) h
all-gone old new (Some gone) rows are h =
    let keep : Row → Bool = λ (r : Row). not (r.id == gone.0) in
    all-both (has_forks old) keep (has_forks new) (filter keep rows)
    (λ row had kept. still row.dir (at nat_cmp old row.id) (at nat_cmp new row.id) (are row.id ∙ cond-false (row.id == gone.0) None (at nat_cmp old row.id) (not-true (row.id == gone.0) kept)) had)
    (all-filter (has_forks old) keep rows h) (all-kept keep rows)

-- the bytes of forks after edits

pub bytes-changed : (id : ℕ) (change : Row → Row) (rows : List Row) → ((row : Row) → row_bytes (change row) ≡ row_bytes row) → fork_bytes (with_changed id change rows) ≡ fork_bytes rows
unfolding with_changed
bytes-changed id change [] same = refl
bytes-changed id change (row ∷ rows) same =
    sum_by-cons row_bytes (change_at id change row) (map (change_at id change) rows)
    ∙ (λ i. cond_both (row.id == id) (change row) row (λ r. row_bytes r ≡ row_bytes row) (λ here. same row) (λ other. refl) i + bytes-changed id change rows same i)
    ∙ sym (sum_by-cons row_bytes row rows)

pub sum-without : (f : Row → ℕ) (rows : List Row) (id : ℕ) (s : Row) → are_apart (λ (a : Row) b. a.id == b.id) rows ≡ true → row_at rows id ≡ Some s → sum_by f (without id rows) + f s ≡ sum_by f rows
unfolding row_at without
sum-without f [] id s apart found = absurd (cc)
sum-without f (row ∷ rows) id s apart found =
    let keep : Row → Bool = λ (r : Row). not (r.id == id) in
    let e = and_parts (not (list_any (λ (b : Row). row.id == b.id) rows)) (are_apart (λ (a : Row) b. a.id == b.id) rows) apart in
    let whole : sum_by f (row ∷ rows) ≡ f row + sum_by f rows = sum_by-cons f row rows in
    cond_both (row.id == id) (Some row) (find (λ (r : Row). r.id == id) rows)
    (λ o. o ≡ Some s → sum_by f (cond (keep row) (row ∷ filter keep rows) (filter keep rows)) + f s ≡ sum_by f (row ∷ rows))
    (λ here h.
    let same : row ≡ s = cc in
    let left : sum_by f (cond (keep row) (row ∷ filter keep rows) (filter keep rows)) ≡ sum_by f rows =
    ap (sum_by f) (cond-false (keep row) (row ∷ filter keep rows) (filter keep rows) (ap not here) ∙ nothing-gone row id rows (eqb-true row.id id here) (none-all (λ (b : Row). row.id == b.id) rows e.0)) in
    let equal : f row ≡ f s = ap f same in
    omega arith)
    (λ other h.
    let left : sum_by f (cond (keep row) (row ∷ filter keep rows) (filter keep rows)) ≡ f row + sum_by f (filter keep rows) =
    ap (sum_by f) (cond-true (keep row) (row ∷ filter keep rows) (filter keep rows) (ap not other)) ∙ sum_by-cons f row (filter keep rows) in
    let rest : sum_by f (filter keep rows) + f s ≡ sum_by f rows = sum-without f rows id s e.1 h in
    omega arith)
    found

-- the row of a node that is there, as it is kept
node-kept : (forks : Forks) (rows : List Row) (id : ℕ) → has_node (rows_of forks rows) id ≡ true → (s : Row) × (row_at (rows_of forks rows) id ≡ Some (with_forks forks s)) × (s.id ≡ id)
unfolding row_at rows_of
node-kept forks [] id there = absurd (cc)
node-kept forks (row ∷ rows) id there =
    cond_both (row.id == id) (Some (with_forks forks row)) (find (λ (r : Row). r.id == id) (map (with_forks forks) rows))
    (λ o. (s : Row) × (o ≡ Some (with_forks forks s)) × (s.id ≡ id))
    (λ here. (row, refl, eqb-true row.id id here))
    (λ other. node-kept forks rows id (sym (ap (λ b. b || list_any (λ (r : Row). r.id == id) (map (with_forks forks) rows)) other) ∙ there))

pub bytes-gone : (forks : Forks) (rows : List Row) (gone : Option NodeId) → are_apart (λ (a : Row) b. a.id == b.id) (rows_of forks rows) ≡ true → IfSome gone (λ (id : NodeId). has_node (rows_of forks rows) id.0 ≡ true)
    → fork_bytes (gone_rows gone (rows_of forks rows)) + bytes_of gone forks ≡ fork_bytes (rows_of forks rows)
bytes-gone forks rows None apart there = omega arith
bytes-gone forks rows (Some id) apart there =
    let n = node-kept forks rows id.0 there in
    let bytes : row_bytes (with_forks forks n.0) ≡ bytes_of (Some id) forks = ap (λ q. length (data_of (at nat_cmp forks q)) + length (resource_of (at nat_cmp forks q))) n.2 in
    ap (λ b. fork_bytes (without id.0 (rows_of forks rows)) + b) (sym bytes) ∙ sum-without row_bytes (rows_of forks rows) id.0 (with_forks forks n.0) apart n.1

-- the node that goes is none to come
pub gone-drawn : (v : VolumeState) (gone : Option NodeId) → IfSome gone (λ (id : NodeId). has_node v.rows id.0 ≡ true) → IsSoundVolume v → is_gone gone v.next_id ≡ false
gone-drawn v None there s = refl
gone-drawn v (Some id) there s =
    let low : first_id ≤ v.next_id = (formed-parts v s.formed).low in
    any-at (λ (row : Row). row.id == id.0) (is_in_place v) v.rows there (tree-parts v s.tree).placed (λ row is placed.
    ne_eqb v.next_id id.0 (λ same. let row_is : row.id ≡ id.0 = eqb-true row.id id.0 is in
    elim (cases_Bool (row.id == root_id)) [
      | inl root ↦ (let root_is : row.id ≡ root_id = eqb-true row.id root_id root in absurd (omega arith))
      | inr other ↦ (let high : row.id < v.next_id = (drawn v row other placed).high in absurd (omega arith))
    ]))
