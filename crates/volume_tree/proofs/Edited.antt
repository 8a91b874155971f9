-- What is kept of a volume's tree after one edit.
use Rattle.std.proofs.Common.{◌==◌, ◌≡◌, ◌∙◌, ap, sym, refl, subst, ℕ, ◌+◌, ◌≤◌, ◌<◌, arith, Bool, true, false, not, ◌&&◌, ◌||◌, List, [], ◌∷◌, ◌++◌, Option, Some, None, inl, inr, eq-eqb}
use Rattle.std.specs.Prelude.{ℤ, bytes_eq, is_some, option_map, unwrap_or, if◌then◌else◌}
use Rattle.std.specs.List.{list_all, find}
use Rattle.std.specs.Ordering.{nat_cmp}
use Rattle.std.proofs.lemmas.Bool.{and_parts, or_right, cases_Bool, cond_both, cond-true, cond-false, eqb-true, ne_eqb, not-true}
use Rattle.std.proofs.lemmas.List.Sums.{sum_by-append}
use Rattle.afp_base.proofs.ListFacts.{all-snoc, all-weaker, filter-all, none-any}
use Rattle.afp_base.specs.declared.ids.NodeId.{NodeId}
use Rattle.afp_names.specs.Name.{name_key}
use Rattle.node_rows.specs.Kept.{RowsValue}
use Rattle.sorted_map.specs.map.Entries.{at}
use Rattle.volume_spec.proofs.Formed.{formed-parts}
use Rattle.volume_spec.proofs.Trees.{drawn, tree-parts}
use Rattle.volume_spec.specs.Edits.{at_place, bare, filed_as, is_taken, named, renamed, with_changed, with_moved, with_row, without, without_node}
use Rattle.volume_spec.specs.DesktopLaws.{with_desktop}
use Rattle.volume_spec.specs.SetFileDirParms.{Settings, with_settings}
use Rattle.volume_spec.specs.Shared.{directory_of}
use Rattle.volume_spec.specs.SoundVolume.{IsSoundVolume, fork_bytes, has_node, is_in_place, row_bytes}
use Rattle.volume_spec.specs.VolumeState.{Row, VolumeState, first_id, root_id}
use Rattle.volume_tree.proofs.KeptEdits.{all-changed, all-gone, blank-gone, blank-gone-resource, bytes-changed, bytes-gone, gone-drawn, none-gone, shown-changed, shown-left, with-same}
use Rattle.volume_spec.specs.Walk.{parent_at, row_at}
use Rattle.volume_tree.proofs.Placing.{renamed-is}
use Rattle.volume_tree.proofs.Showing.{any-shown, ids-differ}
use Rattle.volume_tree.specs.Kept.{Forks, data_of, resource_of, with_forks, rows_of, state_of, spare_of}
use Rattle.volume_tree.specs.lemma.Kept.{IsKeptVolume, at_gone, bytes_of, has_forks}
use Rattle.volume_tree.specs.declared.forks.FileForks.{FileForks}
use Rattle.volume_tree.specs.declared.head.Dates.{Dates}

-- rows beside forks of which one has changed

shown-snoc : (forks : Forks) (row : Row) (rows : List Row) → rows_of forks (rows ++ row ∷ []) ≡ rows_of forks rows ++ with_forks forks row ∷ []
unfolding rows_of
shown-snoc forks row [] = refl
shown-snoc forks row (r ∷ rows) = ap (λ l. with_forks forks r ∷ l) (shown-snoc forks row rows)

pub all-shown : (forks : Forks) (p : Row → Bool) (rows : List Row) → ((row : Row) → p (with_forks forks row) ≡ p row) → list_all p (rows_of forks rows) ≡ list_all p rows
unfolding rows_of
all-shown forks p [] same = refl
all-shown forks p (row ∷ rows) same = λ i. same row i && all-shown forks p rows same i

shown-still : (old new : Forks) (next : ℕ) (rows : List Row) → list_all (λ (row : Row). not (row.id == next)) rows ≡ true → ((q : ℕ) → (q == next) ≡ false → at nat_cmp new q ≡ at nat_cmp old q) → rows_of new rows ≡ rows_of old rows
unfolding rows_of
shown-still old new next [] none same = refl
shown-still old new next (row ∷ rows) none same =
    let e = and_parts (not (row.id == next)) (list_all (λ (r : Row). not (r.id == next)) rows) none in
    λ i. with-same old new row (same row.id (not-true (row.id == next) e.0)) i ∷ shown-still old new next rows e.1 same i

-- no node has the next id
next-unused : (v : VolumeState) → IsSoundVolume v → list_all (λ (row : Row). not (row.id == v.next_id)) v.rows ≡ true
next-unused v s =
    let low : first_id ≤ v.next_id = (formed-parts v s.formed).low in
    all-weaker (is_in_place v) (λ (row : Row). not (row.id == v.next_id)) v.rows
    (λ row placed. ap not (ne_eqb row.id v.next_id (λ same.
    elim (cases_Bool (row.id == root_id)) [
      | inl root ↦ (let root_is : row.id ≡ root_id = eqb-true row.id root_id root in absurd (omega arith))
      | inr other ↦ (let high : row.id < v.next_id = (drawn v row other placed).high in absurd (omega arith))
    ])))
    (tree-parts v s.tree).placed

-- there is room where forks are kept for the next id, as before
pub spare-still : (rows new_rows : RowsValue) (forks new_forks : Forks) → new_rows.next_id ≡ rows.next_id → at nat_cmp new_forks rows.next_id ≡ at nat_cmp forks rows.next_id → rows.spare ≤ new_rows.spare → spare_of rows forks ≤ spare_of new_rows new_forks
spare-still rows new_rows forks new_forks next same more =
    let is : is_some (at nat_cmp new_forks new_rows.next_id) ≡ is_some (at nat_cmp forks rows.next_id) = ap (λ n. is_some (at nat_cmp new_forks n)) next ∙ ap is_some same in
    subst (λ b. (if is_some (at nat_cmp forks rows.next_id) then rows.spare else 0) ≤ (if b then new_rows.spare else 0)) (sym is) (go (is_some (at nat_cmp forks rows.next_id)))
  where
    go : (b : Bool) → (if b then rows.spare else 0) ≤ (if b then new_rows.spare else 0)
    go true = more
    go false = omega arith

-- a node came, and what was done
pub record Came (name : List ℕ) (dates : Dates) (rows new_rows : RowsValue) (forks new_forks : Forks) (used left : ℕ) (full : Row) (brought : FileForks) : Type 0 where
  pub kept : IsKeptVolume name dates rows forks used
  pub sound : IsSoundVolume (with_row full (state_of name dates rows forks))
  pub next_is : new_rows.next_id ≡ rows.next_id + 1
  pub rows_are : new_rows.rows ≡ rows.rows ++ (record (bare full) { id = rows.next_id }) ∷ []
  pub forks_are : (q : ℕ) → at nat_cmp new_forks q ≡ (if q == rows.next_id then Some brought else at nat_cmp forks q)
  pub data_fork : full.data_fork ≡ brought.data_fork
  pub resource_fork : full.resource_fork ≡ brought.resource_fork
  pub left_is : left ≡ used + row_bytes full

module _ {name : List ℕ} {dates : Dates} {rows new_rows : RowsValue} {forks new_forks : Forks} {used left : ℕ} {full : Row} {brought : FileForks} (a : Came name dates rows new_rows forks new_forks used left full brought) where
  came-here : at nat_cmp new_forks rows.next_id ≡ Some brought
  came-here = a.forks_are rows.next_id ∙ cond-true (rows.next_id == rows.next_id) (Some brought) (at nat_cmp forks rows.next_id) (eq-eqb rows.next_id rows.next_id refl)

  came-others : (q : ℕ) → (q == rows.next_id) ≡ false → at nat_cmp new_forks q ≡ at nat_cmp forks q
  came-others q other = a.forks_are q ∙ cond-false (q == rows.next_id) (Some brought) (at nat_cmp forks q) other

  came-behind : (q : ℕ) → rows.next_id < q → at nat_cmp new_forks q ≡ None
  came-behind q behind = came-others q (ne_eqb q rows.next_id (λ h. absurd (omega arith))) ∙ a.kept.none_behind q behind

  came-row : with_forks new_forks (record (bare full) { id = rows.next_id }) ≡ record full { id = rows.next_id }
  came-row = λ i. record full { id = rows.next_id; data_fork = (ap data_of came-here ∙ sym a.data_fork) i; resource_fork = (ap resource_of came-here ∙ sym a.resource_fork) i }

  came-shown : rows_of new_forks new_rows.rows ≡ rows_of forks rows.rows ++ (record full { id = rows.next_id }) ∷ []
  came-shown =
      let unused : list_all (λ (row : Row). not (row.id == rows.next_id)) rows.rows ≡ true =
      sym (all-shown forks (λ (row : Row). not (row.id == rows.next_id)) rows.rows (λ row. refl)) ∙ next-unused (state_of name dates rows forks) a.kept.sound in
      ap (rows_of new_forks) a.rows_are ∙ shown-snoc new_forks (record (bare full) { id = rows.next_id }) rows.rows
      ∙ (λ i. shown-still forks new_forks rows.next_id rows.rows unused came-others i ++ came-row i ∷ [])

  pub came-state : state_of name dates new_rows new_forks ≡ with_row full (state_of name dates rows forks)
  came-state = λ i. record {
    name = name;
    created = dates.created;
    modified = dates.modified;
    backup = dates.backup;
    next_id = a.next_is i;
    rows = came-shown i;
    comments = [];
    icons = [];
    appls = [];
  }

  came-kept-forks : (row : Row) → has_forks forks row ≡ true → has_forks new_forks row ≡ true
  came-kept-forks row had = elim (cases_Bool (row.id == rows.next_id)) [
    | inl here ↦ or_right row.dir (is_some (at nat_cmp new_forks row.id)) (ap (λ n. is_some (at nat_cmp new_forks n)) (eqb-true row.id rows.next_id here) ∙ ap is_some came-here)
    | inr other ↦ ap (λ o. row.dir || is_some o) (came-others row.id other) ∙ had
  ]

  pub came-kept : IsKeptVolume name dates new_rows new_forks left
  came-kept = record {
    sound = subst IsSoundVolume (sym came-state) a.sound;
    files = ap (list_all (has_forks new_forks)) a.rows_are
        ∙ all-snoc (has_forks new_forks) rows.rows (record (bare full) { id = rows.next_id }) (all-weaker (has_forks forks) (has_forks new_forks) rows.rows came-kept-forks a.kept.files)
        (or_right full.dir (is_some (at nat_cmp new_forks rows.next_id)) (ap is_some came-here));
    no_data = ap (λ q. data_of (at nat_cmp new_forks q)) a.next_is ∙ ap data_of (came-behind (rows.next_id + 1) (omega arith));
    no_resource = ap (λ q. resource_of (at nat_cmp new_forks q)) a.next_is ∙ ap resource_of (came-behind (rows.next_id + 1) (omega arith));
    none_behind = λ q behind. let after : rows.next_id + 1 < q = subst (λ n. n < q) a.next_is behind in came-behind q (omega arith);
    bytes =
        let old = rows_of forks rows.rows in
        let new : Row = record full { id = rows.next_id } in
        let after : fork_bytes (rows_of new_forks new_rows.rows) ≡ fork_bytes (old ++ new ∷ []) = ap fork_bytes came-shown in
        let more : fork_bytes (old ++ new ∷ []) ≡ fork_bytes old + (0 + row_bytes full) = sum_by-append row_bytes old (new ∷ []) in
        let were : used ≡ fork_bytes old = a.kept.bytes in
        let is : left ≡ used + row_bytes full = a.left_is in
        omega arith;
  }

-- a node went, and what was done
pub record Went (name : List ℕ) (dates : Dates) (rows new_rows : RowsValue) (forks new_forks : Forks) (used left : ℕ) (id : NodeId) : Type 0 where
  pub kept : IsKeptVolume name dates rows forks used
  pub sound : IsSoundVolume (without_node id.0 (state_of name dates rows forks))
  pub there : has_node (rows_of forks rows.rows) id.0 ≡ true
  pub next_is : new_rows.next_id ≡ rows.next_id
  pub rows_are : new_rows.rows ≡ without id.0 rows.rows
  pub forks_are : (q : ℕ) → at nat_cmp new_forks q ≡ at_gone (Some id) q (at nat_cmp forks q)
  pub left_is : left + bytes_of (Some id) forks ≡ used

-- the bytes of a node that goes are among all bytes
pub went-within : {name : List ℕ} {dates : Dates} {rows : RowsValue} {forks : Forks} {used : ℕ} (id : NodeId) → IsKeptVolume name dates rows forks used → has_node (rows_of forks rows.rows) id.0 ≡ true → bytes_of (Some id) forks ≤ used
went-within {name} {dates} {rows} {forks} {used} id kept there =
    let whole : fork_bytes (without id.0 (rows_of forks rows.rows)) + bytes_of (Some id) forks ≡ fork_bytes (rows_of forks rows.rows) = bytes-gone forks rows.rows (Some id) (ids-differ (state_of name dates rows forks) kept.sound) there in
    let were : used ≡ fork_bytes (rows_of forks rows.rows) = kept.bytes in
    omega arith

module _ {name : List ℕ} {dates : Dates} {rows new_rows : RowsValue} {forks new_forks : Forks} {used left : ℕ} {id : NodeId} (a : Went name dates rows new_rows forks new_forks used left id) where
  went-others : (q : ℕ) → (q == id.0) ≡ false → at nat_cmp new_forks q ≡ at nat_cmp forks q
  went-others q other = a.forks_are q ∙ cond-false (q == id.0) None (at nat_cmp forks q) other

  went-shown : rows_of new_forks new_rows.rows ≡ without id.0 (rows_of forks rows.rows)
  went-shown = ap (rows_of new_forks) a.rows_are ∙ shown-left forks new_forks id.0 rows.rows went-others

  pub went-state : state_of name dates new_rows new_forks ≡ without_node id.0 (state_of name dates rows forks)
  went-state = λ i. record {
    name = name;
    created = dates.created;
    modified = dates.modified;
    backup = dates.backup;
    next_id = a.next_is i;
    rows = went-shown i;
    comments = [];
    icons = [];
    appls = [];
  }

  pub went-kept : IsKeptVolume name dates new_rows new_forks left
  went-kept = record {
    sound = subst IsSoundVolume (sym went-state) a.sound;
    files = ap (list_all (has_forks new_forks)) a.rows_are ∙ all-gone forks new_forks (Some id) rows.rows a.forks_are a.kept.files;
    no_data = ap (λ q. data_of (at nat_cmp new_forks q)) a.next_is ∙ ap data_of (a.forks_are rows.next_id) ∙ blank-gone (Some id) rows.next_id (at nat_cmp forks rows.next_id) a.kept.no_data;
    no_resource = ap (λ q. resource_of (at nat_cmp new_forks q)) a.next_is ∙ ap resource_of (a.forks_are rows.next_id) ∙ blank-gone-resource (Some id) rows.next_id (at nat_cmp forks rows.next_id) a.kept.no_resource;
    none_behind = λ q behind. let after : rows.next_id < q = subst (λ n. n < q) a.next_is behind in a.forks_are q ∙ none-gone (Some id) q (at nat_cmp forks q) (a.kept.none_behind q after);
    bytes =
        let old = rows_of forks rows.rows in
        let after : fork_bytes (rows_of new_forks new_rows.rows) ≡ fork_bytes (without id.0 old) = ap fork_bytes went-shown in
        let whole : fork_bytes (without id.0 old) + bytes_of (Some id) forks ≡ fork_bytes old = bytes-gone forks rows.rows (Some id) (ids-differ (state_of name dates rows forks) a.kept.sound) a.there in
        let were : used ≡ fork_bytes old = a.kept.bytes in
        let is : left + bytes_of (Some id) forks ≡ used = a.left_is in
        omega arith;
  }

  pub went-spare : rows.spare ≤ new_rows.spare → spare_of rows forks ≤ spare_of new_rows new_forks
  went-spare more = spare-still rows new_rows forks new_forks a.next_is (went-others rows.next_id (gone-drawn (state_of name dates rows forks) (Some id) a.there a.kept.sound)) more

-- a node changed that keeps its id, its kind and its forks
pub record Changed (name : List ℕ) (dates : Dates) (rows new_rows : RowsValue) (forks : Forks) (used id : ℕ) (change : Row → Row) : Type 0 where
  pub kept : IsKeptVolume name dates rows forks used
  pub sound : IsSoundVolume (record (state_of name dates rows forks) { rows = with_changed id change (rows_of forks rows.rows) })
  pub next_is : new_rows.next_id ≡ rows.next_id
  pub rows_are : new_rows.rows ≡ with_changed id change rows.rows
  pub forks_stay : (row : Row) → with_forks forks (change row) ≡ change (with_forks forks row)
  pub files_stay : (row : Row) → has_forks forks (change row) ≡ has_forks forks row
  pub bytes_stay : (row : Row) → row_bytes (change row) ≡ row_bytes row

module _ {name : List ℕ} {dates : Dates} {rows new_rows : RowsValue} {forks : Forks} {used id : ℕ} {change : Row → Row} (a : Changed name dates rows new_rows forks used id change) where
  changed-rows : rows_of forks new_rows.rows ≡ with_changed id change (rows_of forks rows.rows)
  changed-rows = ap (rows_of forks) a.rows_are ∙ shown-changed forks id change rows.rows a.forks_stay

  pub changed-state : state_of name dates new_rows forks ≡ record (state_of name dates rows forks) { rows = with_changed id change (rows_of forks rows.rows) }
  changed-state = λ i. record {
    name = name;
    created = dates.created;
    modified = dates.modified;
    backup = dates.backup;
    next_id = a.next_is i;
    rows = changed-rows i;
    comments = [];
    icons = [];
    appls = [];
  }

  pub changed-kept : IsKeptVolume name dates new_rows forks used
  changed-kept = record {
    sound = subst IsSoundVolume (sym changed-state) a.sound;
    files = ap (list_all (has_forks forks)) a.rows_are ∙ all-changed (has_forks forks) id change rows.rows a.files_stay ∙ a.kept.files;
    no_data = ap (λ q. data_of (at nat_cmp forks q)) a.next_is ∙ a.kept.no_data;
    no_resource = ap (λ q. resource_of (at nat_cmp forks q)) a.next_is ∙ a.kept.no_resource;
    none_behind = λ q behind. a.kept.none_behind q (subst (λ n. n < q) a.next_is behind);
    bytes = a.kept.bytes ∙ sym (ap fork_bytes changed-rows ∙ bytes-changed id change (rows_of forks rows.rows) a.bytes_stay);
  }

  pub changed-spare : rows.spare ≤ new_rows.spare → spare_of rows forks ≤ spare_of new_rows forks
  changed-spare more = spare-still rows new_rows forks forks a.next_is refl more

-- the kinds of change
pub placed-changed : {name : List ℕ} {dates : Dates} {rows new_rows : RowsValue} {forks : Forks} {used : ℕ} (id parent : ℕ) (text : List ℕ) → IsKeptVolume name dates rows forks used → IsSoundVolume (with_moved id parent text (state_of name dates rows forks))
    → new_rows.next_id ≡ rows.next_id → new_rows.rows ≡ with_changed id (at_place parent text) rows.rows → Changed name dates rows new_rows forks used id (at_place parent text)
placed-changed id parent text kept sound next are = record { kept = kept; sound = sound; next_is = next; rows_are = are; forks_stay = λ row. refl; files_stay = λ row. refl; bytes_stay = λ row. refl }

pub filed-changed : {name : List ℕ} {dates : Dates} {rows new_rows : RowsValue} {forks : Forks} {used : ℕ} (id : ℕ) (filed : Bool) → IsKeptVolume name dates rows forks used → IsSoundVolume (record (state_of name dates rows forks) { rows = with_changed id (filed_as filed) (rows_of forks rows.rows) })
    → new_rows.next_id ≡ rows.next_id → new_rows.rows ≡ with_changed id (filed_as filed) rows.rows → Changed name dates rows new_rows forks used id (filed_as filed)
filed-changed id filed kept sound next are = record { kept = kept; sound = sound; next_is = next; rows_are = are; forks_stay = λ row. refl; files_stay = λ row. refl; bytes_stay = λ row. refl }

pub set-changed : {name : List ℕ} {dates : Dates} {rows new_rows : RowsValue} {forks : Forks} {used : ℕ} (id : ℕ) (settings : Settings) → IsKeptVolume name dates rows forks used → IsSoundVolume (record (state_of name dates rows forks) { rows = with_changed id (with_settings settings) (rows_of forks rows.rows) })
    → new_rows.next_id ≡ rows.next_id → new_rows.rows ≡ with_changed id (with_settings settings) rows.rows → Changed name dates rows new_rows forks used id (with_settings settings)
unfolding with_settings
set-changed id settings kept sound next are = record { kept = kept; sound = sound; next_is = next; rows_are = are; forks_stay = λ row. refl; files_stay = λ row. refl; bytes_stay = λ row. refl }

-- another backup date of the volume
pub backed-state : (name : List ℕ) (dates new : Dates) (rows : RowsValue) (forks : Forks) (date : ℤ) → new ≡ record dates { backup = date } → state_of name new rows forks ≡ record (state_of name dates rows forks) { backup = date }
backed-state name dates new rows forks date is = ap (λ (d : Dates). state_of name d rows forks) is

pub backed-kept : {name : List ℕ} {dates new : Dates} {rows : RowsValue} {forks : Forks} {used : ℕ} (date : ℤ) → new ≡ record dates { backup = date } → IsSoundVolume (record (state_of name dates rows forks) { backup = date }) → IsKeptVolume name dates rows forks used → IsKeptVolume name new rows forks used
backed-kept {name} {dates} {new} {rows} {forks} {used} date is sound k = record {
  sound = subst IsSoundVolume (sym (backed-state name dates new rows forks date is)) sound;
  files = k.files;
  no_data = k.no_data;
  no_resource = k.no_resource;
  none_behind = k.none_behind;
  bytes = k.bytes;
}

-- a name that is free among the rows that are shown is free among those that are kept
pub free-under : (forks : Forks) (rows : List Row) (id dir : ℕ) (text : List ℕ) → is_taken (rows_of forks rows) id dir text ≡ false → is_taken rows id dir text ≡ false
unfolding is_taken
free-under forks rows id dir text free = sym (any-shown forks rows (λ (row : Row). not (row.id == id) && ((row.parent == dir) && bytes_eq (name_key row.name) (name_key text))) (λ row. refl)) ∙ free

-- no node goes that is not there
without-missing : (rows : List Row) (id : ℕ) → has_node rows id ≡ false → without id rows ≡ rows
unfolding without
without-missing rows id missing = filter-all (λ (row : Row). not (row.id == id)) rows (none-any (λ (row : Row). row.id == id) rows missing)

pub not-there : (v : VolumeState) (id : ℕ) → v ≡ with_desktop v [] [] [] → has_node v.rows id ≡ false → v ≡ without_node id v
not-there v id bare_is missing =
    let middle : with_desktop v [] [] [] ≡ without_node id (with_desktop v [] [] []) = λ i. with_desktop (record v { rows = sym (without-missing v.rows id missing) i }) [] [] [] in
    bare_is ∙ middle ∙ ap (without_node id) (sym bare_is)

-- whether a node is there, by its look-up
has-found : (rows : List Row) (id : ℕ) → has_node rows id ≡ is_some (row_at rows id)
unfolding row_at
has-found [] id = refl
has-found (row ∷ rows) id =
    cond_both (row.id == id) (Some row) (find (λ (r : Row). r.id == id) rows) (λ o. ((row.id == id) || has_node rows id) ≡ is_some o)
    (λ here. ap (λ b. b || has_node rows id) here)
    (λ other. ap (λ b. b || has_node rows id) other ∙ has-found rows id)

some-bare : (o : Option Row) → is_some o ≡ is_some (option_map bare o)
some-bare None = refl
some-bare (Some row) = refl

pub looked-up : (rows : List Row) (id : ℕ) (o : Option Row) → o ≡ option_map bare (row_at rows id) → is_some o ≡ has_node rows id
looked-up rows id o is = ap is_some is ∙ sym (has-found rows id ∙ some-bare (row_at rows id))

-- a row that is found is there
pub row-node : (rows : List Row) (id : ℕ) (s : Row) → row_at rows id ≡ Some s → has_node rows id ≡ true
row-node rows id s found = has-found rows id ∙ ap is_some found

-- another name in its directory is the same place with another name
pub directory-found : (rows : List Row) (id : ℕ) (row : Row) → row_at rows id ≡ Some row → directory_of rows id ≡ row.parent
unfolding row_at parent_at
directory-found rows id row found = ap (λ (o : Option Row). unwrap_or (option_map (λ (r : Row). r.parent) o) 1) found

pub renamed-place : (v : VolumeState) (id parent : ℕ) (text : List ℕ) → IsSoundVolume v → has_node v.rows id ≡ true → parent ≡ directory_of v.rows id → with_moved id parent text v ≡ renamed id text v
renamed-place v id parent text s there parent_is =
    let rows_are : with_changed id (at_place parent text) v.rows ≡ with_changed id (named text) v.rows = ap (λ p. with_changed id (at_place p text) v.rows) parent_is ∙ renamed-is v id text (ids-differ v s) there in
    λ i. record v { rows = rows_are i }
