-- What is kept of a volume after other bytes of a fork.
use Rattle.std.proofs.Common.{◌==◌, ◌≡◌, ◌∙◌, ap, sym, refl, subst, ℕ, ◌+◌, ◌≤◌, ◌<◌, arith, Bool, true, false, ◌||◌, cond, List, [], ◌∷◌, length, Option, Some, None, inl, inr}
use Rattle.std.specs.Prelude.{pos, is_some, option_map, if◌then◌else◌}
use Rattle.std.specs.Cmp.{eq_by_cmp_equiv}
use Rattle.std.specs.List.{list_all}
use Rattle.std.specs.Map.{update}
use Rattle.std.specs.Ordering.{eq_by_cmp, nat_cmp}
use Rattle.std.proofs.lemmas.Cmp.{nat_cmp_total}
use Rattle.std.proofs.lemmas.Bool.{or_right, cases_Bool, cond_both, cond-true, cond-false, eqb-true, ne_eqb}
use Rattle.afp_base.specs.declared.ids.NodeId.{NodeId}
use Rattle.node_rows.specs.Kept.{RowsValue}
use Rattle.sorted_map.specs.map.Entries.{at}
use Rattle.volume_spec.proofs.ForkEffects.{bytes-written, written-sound}
use Rattle.volume_spec.proofs.Walks.{find-there}
use Rattle.volume_spec.specs.Edits.{with_changed, change_at, modified_at}
use Rattle.volume_spec.specs.ForkEffect.{fork_effect, fork_of, written}
use Rattle.afp_base.specs.Limits.{most_fork_bytes}
use Rattle.volume_spec.specs.SoundVolume.{IsSoundVolume, has_node, fork_bytes}
use Rattle.volume_spec.specs.VolumeState.{Row}
use Rattle.volume_spec.specs.Walk.{row_at}
use Rattle.volume_tree.proofs.KeptEdits.{gone-drawn, all-modified}
use Rattle.volume_tree.proofs.KeptForks.{found-id, found-kept}
use Rattle.volume_tree.proofs.Showing.{found-shown, missing-shown}
use Rattle.volume_tree.specs.lemma.ForkEffect.{IsChanged, kept_fork}
use Rattle.volume_tree.specs.Kept.{Forks, data_of, resource_of, with_forks, rows_of, state_of}
use Rattle.volume_tree.specs.lemma.Kept.{IsKeptVolume, has_forks}
use Rattle.volume_tree.specs.lemma.Edited.{modified_rows}
use Rattle.volume_spec.specs.OpenFork.{file_of}
use Rattle.volume_tree.specs.Shown.{fork_at}
use Rattle.volume_tree.specs.declared.forks.FileForks.{FileForks as Kept}
use Rattle.volume_tree.specs.declared.head.Dates.{Dates}
use Rattle.afp_base.proofs.ListFacts.{all-weaker}

-- forks that were taken out, and come back at their key with other bytes in one of them
pub put-changed : (resource : Bool) (after : List ℕ) (old between new : Forks) (key id : ℕ) (kept later : Kept) → key ≡ id → Some kept ≡ at nat_cmp old key → ((q : ℕ) → at nat_cmp new q ≡ update (eq_by_cmp nat_cmp) (at nat_cmp between) key (Some later) q)
    → later ≡ record kept { data_fork = (if resource then kept.data_fork else after); resource_fork = (if resource then after else kept.resource_fork) } → IsChanged resource after (at nat_cmp old id) (at nat_cmp new id)
put-changed resource after old between new key id kept later key_is kept_is puts later_is =
    let was : Some kept ≡ at nat_cmp old id = kept_is ∙ ap (at nat_cmp old) key_is in
    let same : eq_by_cmp nat_cmp key id ≡ true = ap (λ n. eq_by_cmp nat_cmp n id) key_is ∙ (eq_by_cmp_equiv nat_cmp_total).refl id in
    let is : at nat_cmp new id ≡ Some later = puts id ∙ ap (λ b. cond b (Some later) (at nat_cmp between id)) same in
    record {
      data_fork = ap data_of is ∙ ap (λ (n : Kept). n.data_fork) later_is ∙ ap (λ o. if resource then data_of o else after) was;
      resource_fork = ap resource_of is ∙ ap (λ (n : Kept). n.resource_fork) later_is ∙ ap (λ o. if resource then after else resource_of o) was;
      kept = ap is_some is;
    }

-- a file that is there, as it is kept
pub record FileThere (forks : Forks) (rows : List Row) (id : ℕ) (resource : Bool) (bytes : List ℕ) : Type 0 where
  pub row : Row
  pub found : row_at rows id ≡ Some row
  pub file : row.dir ≡ false
  pub kept : is_some (at nat_cmp forks id) ≡ true
  pub bytes_are : kept_fork resource (at nat_cmp forks id) ≡ bytes

file-if : (forks : Forks) (resource : Bool) (id : ℕ) (row : Row) (bytes : List ℕ) (dir : Bool) → row.dir ≡ dir → row.id ≡ id → has_forks forks row ≡ true
    → option_map (fork_of resource) (if dir then None else Some (with_forks forks row)) ≡ Some bytes → (row.dir ≡ false) × (is_some (at nat_cmp forks id) ≡ true) × (kept_fork resource (at nat_cmp forks id) ≡ bytes)
file-if forks resource id row bytes true dir_is id_is had is = absurd (cc)
file-if forks resource id row bytes false dir_is id_is had is =
    let bytes_are : fork_of resource (with_forks forks row) ≡ bytes = cc in (
      dir_is,
      ap (λ n. is_some (at nat_cmp forks n)) (sym id_is) ∙ sym (ap (λ b. b || is_some (at nat_cmp forks row.id)) dir_is) ∙ had,
      ap (λ n. kept_fork resource (at nat_cmp forks n)) (sym id_is) ∙ bytes_are,
    )

pub file-there : (forks : Forks) (rows : List Row) (id : ℕ) (resource : Bool) (bytes : List ℕ) → list_all (has_forks forks) rows ≡ true → fork_at (rows_of forks rows) id resource ≡ Some bytes → FileThere forks rows id resource bytes
unfolding fork_at
file-there forks rows id resource bytes all is = go (row_at rows id) refl
  where
    go : (o : Option Row) → row_at rows id ≡ o → FileThere forks rows id resource bytes
    go None found = let none : option_map (fork_of resource) (file_of (row_at (rows_of forks rows) id)) ≡ None = ap (λ q. option_map (fork_of resource) (file_of q)) (missing-shown forks rows id found) in absurd (cc)
    go (Some row) found =
        let f = file-if forks resource id row bytes row.dir refl (found-id rows id row found) (found-kept forks rows id row all found)
        (sym (ap (λ q. option_map (fork_of resource) (file_of q)) (found-shown forks rows id row found)) ∙ is) in
        record { row = row; found = found; file = f.0; kept = f.1; bytes_are = f.2 }

-- rows with their forks, where one has changed

module _ (old new : Forks) (id now : ℕ) (resource writes : Bool) (bytes : List ℕ) (others : (q : ℕ) → (q == id) ≡ false → at nat_cmp new q ≡ at nat_cmp old q) (changed : IsChanged resource bytes (at nat_cmp old id) (at nat_cmp new id)) where
  row-changed : (row later : Row) → row.id ≡ id → later ≡ record row { modified = if writes then pos now else row.modified } → with_forks new later ≡ written now resource bytes writes (with_forks old row)
  row-changed row later is later_is =
      ap (with_forks new) later_is
      ∙ (λ i. record row {
        modified = if writes then pos now else row.modified;
        data_fork = (ap (λ n. data_of (at nat_cmp new n)) is ∙ changed.data_fork ∙ ap (λ n. if resource then data_of (at nat_cmp old n) else bytes) (sym is)) i;
        resource_fork = (ap (λ n. resource_of (at nat_cmp new n)) is ∙ changed.resource_fork ∙ ap (λ n. if resource then bytes else resource_of (at nat_cmp old n)) (sym is)) i;
      })

  row-kept : (row : Row) → (row.id == id) ≡ false → with_forks new row ≡ with_forks old row
  row-kept row other = λ i. record row { data_fork = data_of (others row.id other i); resource_fork = resource_of (others row.id other i) }

  rows-changed : (change : Row → Row) (rows : List Row) → ((row : Row) → change row ≡ record row { modified = if writes then pos now else row.modified }) → rows_of new (with_changed id change rows) ≡ with_changed id (written now resource bytes writes) (rows_of old rows)
  unfolding rows_of with_changed
  rows-changed change [] are = refl
  rows-changed change (row ∷ rows) are =
      λ i. cond_both (row.id == id) (change row) row (λ r. with_forks new r ≡ change_at id (written now resource bytes writes) (with_forks old row))
      (λ here. row-changed row (change row) (eqb-true row.id id here) (are row) ∙ sym (cond-true (row.id == id) (written now resource bytes writes (with_forks old row)) (with_forks old row) here))
      (λ other. row-kept row other ∙ sym (cond-false (row.id == id) (written now resource bytes writes (with_forks old row)) (with_forks old row) other)) i
      ∷ rows-changed change rows are i

unchanged-rows : (id : ℕ) (rows : List Row) → with_changed id (λ row. row) rows ≡ rows
unfolding with_changed
unchanged-rows id [] = refl
unchanged-rows id (row ∷ rows) = λ i. cond_both (row.id == id) row row (λ r. r ≡ row) (λ here. refl) (λ other. refl) i ∷ unchanged-rows id rows i

pub shown-written : (old new : Forks) (id : NodeId) (now : ℕ) (resource writes : Bool) (bytes : List ℕ) (rows : List Row) → ((q : ℕ) → (q == id.0) ≡ false → at nat_cmp new q ≡ at nat_cmp old q) → IsChanged resource bytes (at nat_cmp old id.0) (at nat_cmp new id.0)
    → rows_of new (modified_rows now (if writes then Some id else None) rows) ≡ with_changed id.0 (written now resource bytes writes) (rows_of old rows)
shown-written old new id now resource true bytes rows others changed = rows-changed old new id.0 now resource true bytes others changed (modified_at now) rows (λ row. refl)
shown-written old new id now resource false bytes rows others changed = ap (rows_of new) (sym (unchanged-rows id.0 rows)) ∙ rows-changed old new id.0 now resource false bytes others changed (λ row. row) rows (λ row. refl)

if-created : (w : Bool) (now : ℕ) (dates : Dates) → (if w then (record dates { modified = pos now }) else dates).created ≡ dates.created
if-created true now dates = refl
if-created false now dates = refl

if-backup : (w : Bool) (now : ℕ) (dates : Dates) → (if w then (record dates { modified = pos now }) else dates).backup ≡ dates.backup
if-backup true now dates = refl
if-backup false now dates = refl

if-modified : (w : Bool) (now : ℕ) (dates : Dates) → (if w then (record dates { modified = pos now }) else dates).modified ≡ (if w then pos now else dates.modified)
if-modified true now dates = refl
if-modified false now dates = refl

-- a fork with other bytes, and what is kept then
pub record Written (name : List ℕ) (dates new_dates : Dates) (rows new_rows : RowsValue) (forks new_forks : Forks) (used left : ℕ) (id : NodeId) (now : ℕ) (resource writes : Bool) (before after : List ℕ) : Type 0 where
  pub kept : IsKeptVolume name dates rows forks used
  pub file : FileThere forks rows.rows id.0 resource before
  pub fits : fork_bytes (rows_of forks rows.rows) + length after ≤ most_fork_bytes + length before
  pub dates_are : new_dates ≡ (if writes then (record dates { modified = pos now }) else dates)
  pub next_is : new_rows.next_id ≡ rows.next_id
  pub rows_are : new_rows.rows ≡ modified_rows now (if writes then Some id else None) rows.rows
  pub others : (q : ℕ) → (q == id.0) ≡ false → at nat_cmp new_forks q ≡ at nat_cmp forks q
  pub changed : IsChanged resource after (at nat_cmp forks id.0) (at nat_cmp new_forks id.0)
  pub left_is : left + length before ≡ used + length after

module _ {name : List ℕ} {dates new_dates : Dates} {rows new_rows : RowsValue} {forks new_forks : Forks} {used left : ℕ} {id : NodeId} {now : ℕ} {resource writes : Bool} {before after : List ℕ} (a : Written name dates new_dates rows new_rows forks new_forks used left id now resource writes before after) where
  shown-row : row_at (rows_of forks rows.rows) id.0 ≡ Some (with_forks forks a.file.row)
  shown-row = found-shown forks rows.rows id.0 a.file.row a.file.found

  shown-bytes : fork_of resource (with_forks forks a.file.row) ≡ before
  shown-bytes = ap (λ n. kept_fork resource (at nat_cmp forks n)) (found-id rows.rows id.0 a.file.row a.file.found) ∙ a.file.bytes_are

  pub written-state : state_of name new_dates new_rows new_forks ≡ fork_effect now id.0 resource after writes (state_of name dates rows forks)
  unfolding fork_effect
  written-state = λ i. record {
    name = name;
    created = (ap (λ (d : Dates). d.created) a.dates_are ∙ if-created writes now dates) i;
    modified = (ap (λ (d : Dates). d.modified) a.dates_are ∙ if-modified writes now dates) i;
    backup = (ap (λ (d : Dates). d.backup) a.dates_are ∙ if-backup writes now dates) i;
    next_id = a.next_is i;
    rows = (ap (rows_of new_forks) a.rows_are ∙ shown-written forks new_forks id now resource writes after rows.rows a.others a.changed) i;
    comments = [];
    icons = [];
    appls = [];
  }

  node-there : has_node (rows_of forks rows.rows) id.0 ≡ true
  unfolding row_at
  node-there = subst (λ n. has_node (rows_of forks rows.rows) n ≡ true) (found-id rows.rows id.0 a.file.row a.file.found) (find-there (λ (r : Row). r.id == id.0) (rows_of forks rows.rows) (with_forks forks a.file.row) shown-row)

  next-other : (new_rows.next_id == id.0) ≡ false
  next-other = ap (λ n. n == id.0) a.next_is ∙ gone-drawn (state_of name dates rows forks) (Some id) node-there a.kept.sound

  still-kept : (row : Row) → has_forks forks row ≡ true → has_forks new_forks row ≡ true
  still-kept row had = elim (cases_Bool (row.id == id.0)) [
    | inl here ↦ or_right row.dir (is_some (at nat_cmp new_forks row.id)) (ap (λ n. is_some (at nat_cmp new_forks n)) (eqb-true row.id id.0 here) ∙ a.changed.kept)
    | inr other ↦ ap (λ o. row.dir || is_some o) (a.others row.id other) ∙ had
  ]

  none-there : (q : ℕ) → at nat_cmp forks q ≡ None → (q == id.0) ≡ false
  none-there q none = ne_eqb q id.0 (λ same. let kept : is_some (at nat_cmp forks id.0) ≡ true = a.file.kept in let gone : is_some (at nat_cmp forks id.0) ≡ false = ap (λ n. is_some (at nat_cmp forks n)) (sym same) ∙ ap is_some none in absurd (cc))

  pub written-kept : IsKeptVolume name new_dates new_rows new_forks left
  written-kept =
      let shown = rows_of forks rows.rows in
      record {
        sound = subst IsSoundVolume (sym written-state) (written-sound (state_of name dates rows forks) id.0 now resource writes before after (with_forks forks a.file.row) shown-row a.file.file shown-bytes a.kept.sound a.fits);
        files = ap (list_all (has_forks new_forks)) a.rows_are ∙ all-modified new_forks now (if writes then Some id else None) rows.rows ∙ all-weaker (has_forks forks) (has_forks new_forks) rows.rows still-kept a.kept.files;
        no_data = ap data_of (a.others new_rows.next_id next-other) ∙ ap (λ n. data_of (at nat_cmp forks n)) a.next_is ∙ a.kept.no_data;
        no_resource = ap resource_of (a.others new_rows.next_id next-other) ∙ ap (λ n. resource_of (at nat_cmp forks n)) a.next_is ∙ a.kept.no_resource;
        none_behind = λ q behind. let none = a.kept.none_behind q (subst (λ n. n < q) a.next_is behind) in a.others q (none-there q none) ∙ none;
        bytes =
            let after_is : fork_bytes (rows_of new_forks new_rows.rows) ≡ fork_bytes (with_changed id.0 (written now resource after writes) shown) =
            ap fork_bytes (ap (rows_of new_forks) a.rows_are ∙ shown-written forks new_forks id now resource writes after rows.rows a.others a.changed) in
            let sizes : fork_bytes (with_changed id.0 (written now resource after writes) shown) + length before ≡ fork_bytes shown + length after =
            bytes-written (state_of name dates rows forks) id.0 now resource writes before after (with_forks forks a.file.row) shown-row a.file.file shown-bytes a.kept.sound in
            let were : used ≡ fork_bytes shown = a.kept.bytes in
            let is : left + length before ≡ used + length after = a.left_is in
            omega arith;
      }

-- the bytes of a fork are among all bytes
pub before-within : {name : List ℕ} {dates : Dates} {rows : RowsValue} {forks : Forks} {used : ℕ} (id now : ℕ) (resource : Bool) (before : List ℕ) → IsKeptVolume name dates rows forks used → FileThere forks rows.rows id resource before → length before ≤ used
before-within {name} {dates} {rows} {forks} {used} id now resource before kept file =
    let none : List ℕ = [] in
    let sizes : fork_bytes (with_changed id (written now resource none false) (rows_of forks rows.rows)) + length before ≡ fork_bytes (rows_of forks rows.rows) + length none =
    bytes-written (state_of name dates rows forks) id now resource false before none (with_forks forks file.row) (found-shown forks rows.rows id file.row file.found) file.file
    (ap (λ n. kept_fork resource (at nat_cmp forks n)) (found-id rows.rows id file.row file.found) ∙ file.bytes_are) kept.sound in
    let were : used ≡ fork_bytes (rows_of forks rows.rows) = kept.bytes in
    omega arith
