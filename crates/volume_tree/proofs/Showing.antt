-- Rows answer the same with the forks that are kept of them, and without.
use Rattle.std.proofs.Common.{◌==◌, ◌≡◌, ◌∙◌, ap, sym, refl, ℕ, Bool, true, false, ◌&&◌, ◌||◌, cond, List, [], ◌∷◌, map, length, Some, None}
use Rattle.std.specs.Prelude.{option_map}
use Rattle.std.specs.List.{list_any, find}
use Rattle.std.proofs.lemmas.Bool.{cond_both, cond-true, cond-false}
use Rattle.volume_spec.proofs.SeenRows.{test-found}
use Rattle.volume_spec.proofs.BareRows.{finds-bare, parents-bare, keys-bare}
use Rattle.volume_spec.proofs.Trees.{tree-parts}
use Rattle.volume_spec.specs.Edits.{bare}
use Rattle.afp_base.specs.Apart.{are_apart}
use Rattle.volume_spec.specs.SoundVolume.{IsSoundVolume, are_named_alike, has_apart_names}
use Rattle.volume_spec.specs.VolumeState.{Row, VolumeState}
use Rattle.volume_spec.specs.Walk.{row_at, parent_at, child_by_key}
use Rattle.volume_tree.specs.Kept.{Forks, with_forks, rows_of}
use Rattle.afp_base.proofs.ListFacts.{length-mapped}

-- without their forks they are the same rows
pub shown-bare : (forks : Forks) (rows : List Row) → map bare (rows_of forks rows) ≡ map bare rows
unfolding rows_of
shown-bare forks [] = refl
shown-bare forks (row ∷ rows) = ap (λ l. bare row ∷ l) (shown-bare forks rows)

pub length-shown : (forks : Forks) (rows : List Row) → length (rows_of forks rows) ≡ length rows
unfolding rows_of
length-shown forks rows = length-mapped (with_forks forks) rows

pub parent-shown : (forks : Forks) (rows : List Row) (id : ℕ) → parent_at (rows_of forks rows) id ≡ parent_at rows id
parent-shown forks rows id = sym (parents-bare (rows_of forks rows) id) ∙ ap (λ l. parent_at l id) (shown-bare forks rows) ∙ parents-bare rows id

pub child-shown : (forks : Forks) (rows : List Row) (dir : ℕ) (key : List ℕ) → child_by_key (rows_of forks rows) dir key ≡ child_by_key rows dir key
child-shown forks rows dir key = sym (keys-bare (rows_of forks rows) dir key) ∙ ap (λ l. child_by_key l dir key) (shown-bare forks rows) ∙ keys-bare rows dir key

pub bare-found : (forks : Forks) (rows : List Row) (id : ℕ) → option_map bare (row_at (rows_of forks rows) id) ≡ option_map bare (row_at rows id)
bare-found forks rows id = sym (finds-bare (rows_of forks rows) id) ∙ ap (λ l. row_at l id) (shown-bare forks rows) ∙ finds-bare rows id

-- a test of rows that does not look at forks
pub any-shown : (forks : Forks) (rows : List Row) (p : Row → Bool) → ((row : Row) → p (bare row) ≡ p row) → list_any p (rows_of forks rows) ≡ list_any p rows
unfolding rows_of
any-shown forks [] p same = refl
any-shown forks (row ∷ rows) p same = λ i. (sym (same (with_forks forks row)) ∙ same row) i || any-shown forks rows p same i

-- a node as it is kept
pub node-shown : (forks : Forks) (rows : List Row) (id : ℕ) (row : Row) → Some row ≡ row_at rows id → bare row ≡ row → Some row ≡ option_map bare (row_at (rows_of forks rows) id)
node-shown forks rows id row found plain = ap Some (sym plain) ∙ ap (λ o. option_map bare o) found ∙ sym (bare-found forks rows id)

pub no-node-shown : (forks : Forks) (rows : List Row) (id : ℕ) → None ≡ row_at rows id → None ≡ option_map bare (row_at (rows_of forks rows) id)
no-node-shown forks rows id found = ap (λ o. option_map bare o) found ∙ sym (bare-found forks rows id)

-- a test of the row of an id, where none is found
pub test-missing : (rows : List Row) (id : ℕ) (p : Row → Bool) → row_at rows id ≡ None → list_any (λ row. (row.id == id) && p row) rows ≡ false
unfolding row_at
test-missing [] id p found = refl
test-missing (row ∷ rows) id p found =
    cond_both (row.id == id) (Some row) (find (λ (r : Row). r.id == id) rows)
    (λ o. o ≡ None → (((row.id == id) && p row) || list_any (λ r. (r.id == id) && p r) rows) ≡ false)
    (λ here h. absurd (cc))
    (λ other h. ap (λ b. (b && p row) || list_any (λ r. (r.id == id) && p r) rows) other ∙ test-missing rows id p h)
    found

-- what is found among rows with their forks
pub found-shown : (forks : Forks) (rows : List Row) (id : ℕ) (row : Row) → row_at rows id ≡ Some row → row_at (rows_of forks rows) id ≡ Some (with_forks forks row)
unfolding row_at rows_of
found-shown forks [] id row found = absurd (cc)
found-shown forks (r ∷ rows) id row found =
    cond_both (r.id == id) (Some r) (find (λ (q : Row). q.id == id) rows)
    (λ o. o ≡ Some row → cond (r.id == id) (Some (with_forks forks r)) (find (λ (q : Row). q.id == id) (map (with_forks forks) rows)) ≡ Some (with_forks forks row))
    (λ here h. let same : r ≡ row = cc in cond-true (r.id == id) (Some (with_forks forks r)) (find (λ (q : Row). q.id == id) (map (with_forks forks) rows)) here ∙ ap (λ q. Some (with_forks forks q)) same)
    (λ other h. cond-false (r.id == id) (Some (with_forks forks r)) (find (λ (q : Row). q.id == id) (map (with_forks forks) rows)) other ∙ found-shown forks rows id row h)
    found

pub missing-shown : (forks : Forks) (rows : List Row) (id : ℕ) → row_at rows id ≡ None → row_at (rows_of forks rows) id ≡ None
unfolding row_at rows_of
missing-shown forks [] id found = refl
missing-shown forks (r ∷ rows) id found =
    cond_both (r.id == id) (Some r) (find (λ (q : Row). q.id == id) rows)
    (λ o. o ≡ None → cond (r.id == id) (Some (with_forks forks r)) (find (λ (q : Row). q.id == id) (map (with_forks forks) rows)) ≡ None)
    (λ here h. absurd (cc))
    (λ other h. cond-false (r.id == id) (Some (with_forks forks r)) (find (λ (q : Row). q.id == id) (map (with_forks forks) rows)) other ∙ missing-shown forks rows id h)
    found

-- the ids of a sound volume differ
pub ids-differ : (v : VolumeState) → IsSoundVolume v → are_apart (λ (a : Row) b. a.id == b.id) v.rows ≡ true
ids-differ v s = (tree-parts v s.tree).apart

-- a sound volume's names differ
pub names-differ : (v : VolumeState) → IsSoundVolume v → are_apart are_named_alike v.rows ≡ true
unfolding has_apart_names
names-differ v s = s.names

-- what the row of an id says of itself; the look-up as it is kept, the test as it is shown
pub said-of : (v : VolumeState) (forks : Forks) (rows : List Row) (id : ℕ) (p : Row → Bool) (row : Row) → rows_of forks rows ≡ v.rows → IsSoundVolume v → Some row ≡ row_at rows id
    → list_any (λ r. (r.id == id) && p r) v.rows ≡ p (with_forks forks row)
said-of v forks rows id p row are s found = test-found v.rows id p (with_forks forks row) (ids-differ v s) (ap (λ l. row_at l id) (sym are) ∙ found-shown forks rows id row (sym found))

pub said-of-none : (v : VolumeState) (forks : Forks) (rows : List Row) (id : ℕ) (p : Row → Bool) → rows_of forks rows ≡ v.rows → None ≡ row_at rows id
    → list_any (λ r. (r.id == id) && p r) v.rows ≡ false
said-of-none v forks rows id p are found = test-missing v.rows id p (ap (λ l. row_at l id) (sym are) ∙ missing-shown forks rows id (sym found))

-- a parent that is found
pub parent-found : (rows : List Row) (id : ℕ) (row : Row) → Some row ≡ row_at rows id → parent_at rows id ≡ Some row.parent
unfolding parent_at
parent-found rows id row found = ap (λ o. option_map (λ (r : Row). r.parent) o) (sym found)

pub no-parent-found : (rows : List Row) (id : ℕ) → None ≡ row_at rows id → parent_at rows id ≡ None
unfolding parent_at
no-parent-found rows id found = ap (λ o. option_map (λ (r : Row). r.parent) o) (sym found)
