-- The forks of files, and nodes, as they are kept and as they are shown.
use Rattle.std.proofs.Common.{◌==◌, ◌≡◌, ◌∙◌, ap, sym, refl, ℕ, Bool, true, false, not, ◌||◌, List, Option, Some, None}
use Rattle.std.specs.Prelude.{option_map, is_some, if◌then◌else◌}
use Rattle.std.specs.List.{list_all}
use Rattle.std.specs.Ordering.{nat_cmp}
use Rattle.std.proofs.lemmas.Bool.{eqb-true, not-true}
use Rattle.sorted_map.specs.map.Entries.{at}
use Rattle.volume_spec.specs.Edits.{bare}
use Rattle.volume_spec.specs.ForkEffect.{fork_of}
use Rattle.afp_base.specs.Apart.{are_apart}
use Rattle.volume_spec.proofs.SeenRows.{test-found}
use Rattle.volume_spec.specs.SoundVolume.{has_file}
use Rattle.volume_spec.specs.VolumeState.{Row}
use Rattle.volume_spec.specs.Walk.{row_at}
use Rattle.volume_tree.proofs.Showing.{found-shown, missing-shown, test-missing}
use Rattle.volume_tree.specs.Kept.{Forks, data_of, resource_of, with_forks, rows_of}
use Rattle.volume_tree.specs.lemma.Kept.{has_forks}
use Rattle.volume_spec.specs.OpenFork.{file_of}
use Rattle.volume_tree.specs.Shown.{IsNode, IsRowOf, fork_at}
use Rattle.volume_tree.specs.declared.forks.FileForks.{FileForks as Kept}
use Rattle.afp_base.proofs.ListFacts.{find-all, find-passes}

-- the row of an id has that id
pub found-id : (rows : List Row) (id : ℕ) (row : Row) → row_at rows id ≡ Some row → row.id ≡ id
unfolding row_at
found-id rows id row found = eqb-true row.id id (find-passes (λ (r : Row). r.id == id) rows row found)

pub found-kept : (forks : Forks) (rows : List Row) (id : ℕ) (row : Row) → list_all (has_forks forks) rows ≡ true → row_at rows id ≡ Some row → has_forks forks row ≡ true
unfolding row_at
found-kept forks rows id row all found = find-all (λ (r : Row). r.id == id) (has_forks forks) rows row found all

none-if : (g : Row → List ℕ) (dir : Bool) (row shown : Row) → is_some (if dir then None else Some row) ≡ false → None ≡ option_map g (if dir then None else Some shown)
none-if g true row shown h = refl
none-if g false row shown h = absurd (cc)

some-if : (g : Row → List ℕ) (dir : Bool) (row shown : Row) → is_some (if dir then None else Some row) ≡ true → Some (g shown) ≡ option_map g (if dir then None else Some shown)
some-if g true row shown h = absurd (cc)
some-if g false row shown h = refl

never-if : (dir kept : Bool) (row : Row) → is_some (if dir then None else Some row) ≡ true → (dir || kept) ≡ true → kept ≡ false → ⊥
never-if true kept row h had none = absurd (cc)
never-if false kept row h had none = absurd (cc)

-- what is no file's has no forks
pub no-fork : (forks : Forks) (rows : List Row) (id : ℕ) (resource : Bool) → is_some (file_of (row_at rows id)) ≡ false → None ≡ fork_at (rows_of forks rows) id resource
unfolding fork_at
no-fork forks rows id resource h = go (row_at rows id) refl h
  where
    go : (o : Option Row) → row_at rows id ≡ o → is_some (file_of o) ≡ false → None ≡ option_map (fork_of resource) (file_of (row_at (rows_of forks rows) id))
    go None found h = sym (ap (λ o. option_map (fork_of resource) (file_of o)) (missing-shown forks rows id found))
    go (Some row) found h = none-if (fork_of resource) row.dir row (with_forks forks row) h ∙ sym (ap (λ o. option_map (fork_of resource) (file_of o)) (found-shown forks rows id row found))

-- a fork of a file is the one that is kept
pub is-fork : (forks : Forks) (rows : List Row) (id : ℕ) (resource : Bool) (kept : Kept) → is_some (file_of (row_at rows id)) ≡ true → at nat_cmp forks id ≡ Some kept
    → Some (if resource then kept.resource_fork else kept.data_fork) ≡ fork_at (rows_of forks rows) id resource
unfolding fork_at
is-fork forks rows id resource kept h at_id = go (row_at rows id) refl h
  where
    go : (o : Option Row) → row_at rows id ≡ o → is_some (file_of o) ≡ true → Some (if resource then kept.resource_fork else kept.data_fork) ≡ option_map (fork_of resource) (file_of (row_at (rows_of forks rows) id))
    go None found h = absurd (cc)
    go (Some row) found h =
        ap (λ o. Some (if resource then resource_of o else data_of o)) (sym (ap (at nat_cmp forks) (found-id rows id row found) ∙ at_id))
        ∙ some-if (fork_of resource) row.dir row (with_forks forks row) h ∙ sym (ap (λ o. option_map (fork_of resource) (file_of o)) (found-shown forks rows id row found))

-- the forks of each file are kept
pub always-kept : (forks : Forks) (rows : List Row) (id : ℕ) → list_all (has_forks forks) rows ≡ true → is_some (file_of (row_at rows id)) ≡ true → at nat_cmp forks id ≡ None → ⊥
always-kept forks rows id all h none = go (row_at rows id) refl h
  where
    go : (o : Option Row) → row_at rows id ≡ o → is_some (file_of o) ≡ true → ⊥
    go None found h = absurd (cc)
    go (Some row) found h = never-if row.dir (is_some (at nat_cmp forks row.id)) row h (found-kept forks rows id row all found) (ap (λ n. is_some (at nat_cmp forks n)) (found-id rows id row found) ∙ ap is_some none)

-- a file is one among the rows without their forks
pub has-file : (forks : Forks) (rows : List Row) (id : ℕ) → are_apart (λ (a : Row) b. a.id == b.id) (rows_of forks rows) ≡ true → has_file (rows_of forks rows) id ≡ true → is_some (file_of (row_at rows id)) ≡ true
has-file forks rows id apart there = go (row_at rows id) refl
  where
    go : (o : Option Row) → row_at rows id ≡ o → is_some (file_of o) ≡ true
    go None found = let none : false ≡ true = sym (test-missing (rows_of forks rows) id (λ (row : Row). not row.dir) (missing-shown forks rows id found)) ∙ there in absurd (cc)
    go (Some row) found =
        ap (λ b. is_some (if b then None else Some row))
        (not-true row.dir (sym (test-found (rows_of forks rows) id (λ (r : Row). not r.dir) (with_forks forks row) apart (found-shown forks rows id row found)) ∙ there))

-- a directory has none
pub of-directory : (rows : List Row) (node : Row) (resource : Bool) → IsNode rows node → node.dir ≡ true → None ≡ fork_at rows node.id resource
unfolding fork_at
of-directory rows node resource n dir =
    sym (ap (λ o. option_map (fork_of resource) (file_of o)) n.1.found ∙ ap (λ b. option_map (fork_of resource) (if b then None else Some n.0)) (sym (ap (λ (r : Row). r.dir) n.1.shown) ∙ dir))

-- a node that is no directory is a file among the rows without their forks
is-file : (forks : Forks) (rows : List Row) (node : Row) → IsNode (rows_of forks rows) node → node.dir ≡ false → is_some (file_of (row_at rows node.id)) ≡ true
is-file forks rows node n file = go (row_at rows node.id) refl
  where
    go : (o : Option Row) → row_at rows node.id ≡ o → is_some (file_of o) ≡ true
    go None found = let none : Some n.0 ≡ None = sym n.1.found ∙ missing-shown forks rows node.id found in absurd (cc)
    go (Some row) found =
        let same : Some (with_forks forks row) ≡ Some n.0 = sym (found-shown forks rows node.id row found) ∙ n.1.found in
        let is : with_forks forks row ≡ n.0 = cc in
        ap (λ b. is_some (if b then None else Some row)) (ap (λ (r : Row). r.dir) is ∙ sym (ap (λ (r : Row). r.dir) n.1.shown) ∙ file)

-- a file has the forks that are kept of it
pub of-file : (forks : Forks) (rows : List Row) (node : Row) (resource : Bool) (found : Option Kept) → list_all (has_forks forks) rows ≡ true → IsNode (rows_of forks rows) node → node.dir ≡ false → found ≡ at nat_cmp forks node.id
    → option_map (λ (kept : Kept). if resource then kept.resource_fork else kept.data_fork) found ≡ fork_at (rows_of forks rows) node.id resource
of-file forks rows node resource None all n file is = absurd (always-kept forks rows node.id all (is-file forks rows node n file) (sym is))
of-file forks rows node resource (Some kept) all n file is = is-fork forks rows node.id resource kept (is-file forks rows node n file) (sym is)

-- a node that is shown is its row without its forks
pub row-of : (rows : List Row) (id : ℕ) (node row : Row) → Some node ≡ option_map bare (row_at rows id) → row_at rows id ≡ Some row → IsRowOf rows node row
row-of rows id node row shown found =
    let same : Some node ≡ Some (bare row) = shown ∙ ap (λ (o : Option Row). option_map bare o) found in
    let is : node ≡ bare row = cc in
    record { found = ap (row_at rows) (ap (λ (r : Row). r.id) is ∙ found-id rows id row found) ∙ found; shown = is }

-- a node that is shown is a node of these rows, of the id that was asked
pub node-of : (rows : List Row) (id : ℕ) (node : Row) → Some node ≡ option_map bare (row_at rows id) → IsNode rows node × (node.id ≡ id)
node-of rows id node shown = go (row_at rows id) refl
  where
    go : (o : Option Row) → row_at rows id ≡ o → IsNode rows node × (node.id ≡ id)
    go None found = let none : Some node ≡ None = shown ∙ ap (λ (o : Option Row). option_map bare o) found in absurd (cc)
    go (Some row) found =
        let is = row-of rows id node row shown found in
        ((row, is), ap (λ (r : Row). r.id) is.shown ∙ found-id rows id row found)
