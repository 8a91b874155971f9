-- What is kept of a volume, after each edit.
use Rattle.std.proofs.Common.{◌==◌, ◌≡◌, ◌∙◌, ap, sym, refl, subst, ℕ, Bool, true, false, ◌||◌, List, [], ◌∷◌, Option, Some, None, arith}
use Rattle.std.specs.Prelude.{pos, option_map, MatchOption, is_some, slice_get, if◌then◌else◌}
use Rattle.std.specs.List.{list_any, list_all, filter}
use Rattle.std.specs.Ordering.{nat_cmp}
use Rattle.afp_base.specs.declared.ids.NodeId.{NodeId}
use Rattle.sorted_map.specs.map.Entries.{at}
use Rattle.node_rows.specs.Kept.{RowsValue}
use Rattle.volume_spec.proofs.Fresh.{fresh-sound}
use Rattle.volume_spec.proofs.SoundEdits.{sound-changed}
use Rattle.std.proofs.lemmas.Bool.{ne_eqb}
use Rattle.volume_spec.specs.Edits.{has_children, changed_at}
use Rattle.volume_spec.specs.Listing.{listed, children, row_key}
use Rattle.volume_spec.specs.Order.{in_order, put_in, stands_before}
use Rattle.volume_spec.specs.SoundVolume.{IsSoundVolume, fork_bytes}
use Rattle.volume_spec.specs.VolumeState.{Row, fresh_volume, guest, never, new_row}
use Rattle.afp_names.specs.Name.{name_fault}
use Rattle.volume_tree.proofs.Showing.{any-shown}
use Rattle.volume_tree.specs.Answered.{IsFoundNode}
use Rattle.volume_tree.specs.Kept.{Forks, data_of, resource_of, rows_of, state_of, spare_of}
use Rattle.volume_tree.specs.lemma.Kept.{IsKeptVolume, IsShownAs, has_forks}
use Rattle.volume_tree.specs.Shown.{TreeValue}
use Rattle.volume_tree.specs.declared.head.Dates.{Dates}
use Rattle.afp_base.proofs.ListFacts.{all-weaker}

-- a volume as it is shown is sound
pub sound-is : {name : List ℕ} {dates : Dates} {rows : RowsValue} {forks : Forks} {used : ℕ} {v : TreeValue} → IsKeptVolume name dates rows forks used → record { state = state_of name dates rows forks; spare = spare_of rows forks } ≡ v → IsSoundVolume v.state
sound-is k is = subst (λ (v : TreeValue). IsSoundVolume v.state) is k.sound

-- answers

pub found-as : (answer : Option NodeId) (kept shown : Option ℕ) → MatchOption answer (kept ≡ None) (λ id. kept ≡ Some id.0) → shown ≡ kept → IsFoundNode answer shown
found-as None kept shown found same = same ∙ found
found-as (Some id) kept shown found same = same ∙ found

-- whether there is a first child

none-put : (x : Row) (xs : List Row) → slice_get (put_in row_key x xs) 0 ≡ None → ⊥
none-put x [] is = absurd (cc)
none-put x (y ∷ ys) is = elim (stands_before (row_key x) (row_key y)) as (λ b. slice_get (if b then x ∷ y ∷ ys else y ∷ put_in row_key x ys) 0 ≡ None → ⊥) [ true ↦ (λ h. absurd (cc)) | false ↦ (λ h. absurd (cc)) ] is

first-none : (rows : List Row) (dir : ℕ) → slice_get (in_order row_key (filter (λ (row : Row). row.parent == dir) rows)) 0 ≡ None → list_any (λ (row : Row). row.parent == dir) rows ≡ false
first-none [] dir is = refl
first-none (row ∷ rows) dir is =
    elim (row.parent == dir) as (λ b. slice_get (in_order row_key (if b then row ∷ filter (λ (r : Row). r.parent == dir) rows else filter (λ (r : Row). r.parent == dir) rows)) 0 ≡ None → (b || list_any (λ (r : Row). r.parent == dir) rows) ≡ false) [
      | true ↦ (λ h. absurd (none-put row (in_order row_key (filter (λ (r : Row). r.parent == dir) rows)) h))
      | false ↦ first-none rows dir
    ] is

first-some : (rows : List Row) (dir id : ℕ) → option_map (λ (row : Row). row.id) (slice_get (in_order row_key (filter (λ (row : Row). row.parent == dir) rows)) 0) ≡ Some id → list_any (λ (row : Row). row.parent == dir) rows ≡ true
first-some [] dir id is = absurd (cc)
first-some (row ∷ rows) dir id is =
    elim (row.parent == dir) as (λ b. option_map (λ (r : Row). r.id) (slice_get (in_order row_key (if b then row ∷ filter (λ (r : Row). r.parent == dir) rows else filter (λ (r : Row). r.parent == dir) rows)) 0) ≡ Some id → (b || list_any (λ (r : Row). r.parent == dir) rows) ≡ true) [
      | true ↦ (λ h. refl)
      | false ↦ first-some rows dir id
    ] is

pub children-are : (forks : Forks) (rows : List Row) (dir : ℕ) (answer : Option NodeId)
    → MatchOption answer (slice_get (listed rows dir) 0 ≡ None) (λ id. option_map (λ (row : Row). row.id) (slice_get (listed rows dir) 0) ≡ Some id.0) → is_some answer ≡ has_children (rows_of forks rows) dir
unfolding has_children listed children
children-are forks rows dir None is = sym (any-shown forks rows (λ (row : Row). row.parent == dir) (λ row. refl) ∙ first-none rows dir is)
children-are forks rows dir (Some id) is = sym (any-shown forks rows (λ (row : Row). row.parent == dir) (λ row. refl) ∙ first-some rows dir id.0 is)

-- a volume that nobody has used

pub fresh-state : (name : List ℕ) (now : ℕ) (dates : Dates) (rows : RowsValue) (forks : Forks) (root : Row) → dates.created ≡ pos now → dates.modified ≡ pos now → dates.backup ≡ never
    → rows.rows ≡ root ∷ [] → root ≡ new_row true guest 2 1 name now → rows.next_id ≡ 17 → forks ≡ [] → state_of name dates rows forks ≡ fresh_volume name now
unfolding rows_of
fresh-state name now dates rows forks root created modified backup rows_are root_is next forks_are = λ i. record {
  name = name;
  created = created i;
  modified = modified i;
  backup = backup i;
  next_id = next i;
  rows = rows_of (forks_are i) ((rows_are ∙ ap (λ r. r ∷ []) root_is) i);
  comments = [];
  icons = [];
  appls = [];
}

pub fresh-kept : (name : List ℕ) (now : ℕ) (dates : Dates) (rows : RowsValue) (forks : Forks) (root : Row) → name_fault name ≡ None → dates.created ≡ pos now → dates.modified ≡ pos now → dates.backup ≡ never
    → rows.rows ≡ root ∷ [] → root ≡ new_row true guest 2 1 name now → rows.next_id ≡ 17 → forks ≡ [] → IsKeptVolume name dates rows forks 0
unfolding rows_of
fresh-kept name now dates rows forks root good created modified backup rows_are root_is next forks_are =
    let are : rows.rows ≡ new_row true guest 2 1 name now ∷ [] = rows_are ∙ ap (λ r. r ∷ []) root_is in
    record {
      sound = subst IsSoundVolume (sym (fresh-state name now dates rows forks root created modified backup rows_are root_is next forks_are)) (fresh-sound name now good);
      files = (λ i. list_all (has_forks (forks_are i)) (are i));
      no_data = ap (λ (l : Forks). data_of (at nat_cmp l rows.next_id)) forks_are;
      no_resource = ap (λ (l : Forks). resource_of (at nat_cmp l rows.next_id)) forks_are;
      none_behind = λ id behind. ap (λ (l : Forks). at nat_cmp l id) forks_are;
      bytes = sym (λ i. fork_bytes (rows_of (forks_are i) (are i)));
    }

-- another date of the volume

pub touched-state : (name : List ℕ) (dates new : Dates) (rows : RowsValue) (forks : Forks) (now : ℕ) → new ≡ record dates { modified = pos now } → state_of name new rows forks ≡ changed_at now (state_of name dates rows forks)
touched-state name dates new rows forks now is = ap (λ (d : Dates). state_of name d rows forks) is

pub touched-kept : {name : List ℕ} {dates new : Dates} {rows : RowsValue} {forks : Forks} {used : ℕ} (now : ℕ) → new ≡ record dates { modified = pos now } → IsKeptVolume name dates rows forks used → IsKeptVolume name new rows forks used
touched-kept {name} {dates} {new} {rows} {forks} {used} now is k = record {
  sound = subst IsSoundVolume (sym (touched-state name dates new rows forks now is)) (sound-changed (state_of name dates rows forks) now k.sound);
  files = k.files;
  no_data = k.no_data;
  no_resource = k.no_resource;
  none_behind = k.none_behind;
  bytes = k.bytes;
}

-- rows show the same where their forks show the same
pub same-shown : (old new : Forks) (rows : List Row) → ((q : ℕ) → IsShownAs (at nat_cmp old q) (at nat_cmp new q)) → rows_of new rows ≡ rows_of old rows
unfolding rows_of
same-shown old new [] same = refl
same-shown old new (row ∷ rows) same =
    λ i. record row { data_fork = (same row.id).data_fork i; resource_fork = (same row.id).resource_fork i } ∷ same-shown old new rows same i

all-kept : (old new : Forks) (rows : List Row) → ((q : ℕ) → IsShownAs (at nat_cmp old q) (at nat_cmp new q)) → list_all (has_forks old) rows ≡ true → list_all (has_forks new) rows ≡ true
all-kept old new rows same h = all-weaker (has_forks old) (has_forks new) rows (λ row. still row.dir (is_some (at nat_cmp old row.id)) (is_some (at nat_cmp new row.id)) (same row.id).kept) h
  where
    still : (dir old new : Bool) → (old ≡ true → new ≡ true) → (dir || old) ≡ true → (dir || new) ≡ true
    still true old new more h = refl
    still false old new more h = more h

pub reserved-state : (name : List ℕ) (dates : Dates) (rows grown : RowsValue) (forks new : Forks) → grown.rows ≡ rows.rows → grown.next_id ≡ rows.next_id → ((q : ℕ) → IsShownAs (at nat_cmp forks q) (at nat_cmp new q))
    → state_of name dates grown new ≡ state_of name dates rows forks
reserved-state name dates rows grown forks new rows_are next same = λ i. record {
  name = name;
  created = dates.created;
  modified = dates.modified;
  backup = dates.backup;
  next_id = next i;
  rows = (ap (rows_of new) rows_are ∙ same-shown forks new rows.rows same) i;
  comments = [];
  icons = [];
  appls = [];
}

-- room for one node more
pub reserved-kept : {name : List ℕ} {dates : Dates} {rows grown : RowsValue} {forks new : Forks} {used : ℕ} (n : ℕ) → n ≡ grown.next_id → grown.rows ≡ rows.rows → grown.next_id ≡ rows.next_id → ((q : ℕ) → IsShownAs (at nat_cmp forks q) (at nat_cmp new q))
    → ((q : ℕ) → (q == n) ≡ false → at nat_cmp new q ≡ at nat_cmp forks q) → IsKeptVolume name dates rows forks used → IsKeptVolume name dates grown new used
reserved-kept {name} {dates} {rows} {grown} {forks} {new} {used} n n_is rows_are next same others k = record {
  sound = subst IsSoundVolume (sym (reserved-state name dates rows grown forks new rows_are next same)) k.sound;
  files = ap (list_all (has_forks new)) rows_are ∙ all-kept forks new rows.rows same k.files;
  no_data = (same grown.next_id).data_fork ∙ ap (λ n. data_of (at nat_cmp forks n)) next ∙ k.no_data;
  no_resource = (same grown.next_id).resource_fork ∙ ap (λ n. resource_of (at nat_cmp forks n)) next ∙ k.no_resource;
  none_behind = λ id behind. others id (ne_eqb id n (λ h. absurd (omega arith))) ∙ k.none_behind id (omega arith);
  bytes = k.bytes ∙ sym (ap fork_bytes (ap (rows_of new) rows_are ∙ same-shown forks new rows.rows same));
}
