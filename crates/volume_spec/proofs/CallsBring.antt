-- The edits of a call that is not refused bring numbers in their ranges, where the call, the moment and the volume have such.
use Rattle.std.proofs.Common.{◌==◌, ◌≡◌, ◌∙◌, ap, sym, refl, ℕ, ◌<◌, pos, Bool, true, false, not, ◌&&◌, ◌||◌, cond, List, [], ◌∷◌, ◌++◌, length, Option, Some, None}
use Rattle.std.specs.Prelude.{is_some, nat_le}
use Rattle.std.specs.List.{list_all}
use Rattle.std.proofs.lemmas.Bool.{and_parts, and_from, eqb-true, leb-false, lt-ltb, not-false, or_parts}
use Rattle.afp_base.specs.declared.code.Code.TheVariants.{CantMove, DiskFull, FileBusy, ObjectExists, ObjectLocked, ObjectNotFound, ObjectTypeErr, AccessDenied}
use Rattle.afp_names.specs.Name.{name_key}
use Rattle.afp_names.specs.Path.{PathValue}
use Rattle.volume_spec.proofs.CallsMay.{name-good}
use Rattle.volume_spec.proofs.EditsTyped.{set-whole}
use Rattle.volume_spec.proofs.Formed.{formed-parts}
use Rattle.volume_spec.proofs.NameBytes.{name-bytes}
use Rattle.volume_spec.proofs.NewCalls.{formed-name, node-there}
use Rattle.volume_spec.proofs.Refusals.{at-each, at-found, down-named, down-or-named, none-first, none-holds, place-there, IsPlaceThere}
use Rattle.volume_spec.proofs.Trees.{tree-parts}
use Rattle.volume_spec.proofs.TypedEdits.{TypedParts, any-date, directory-long, row-parts, row-whole, tail-typed, typed-parts, new-typed}
use Rattle.volume_spec.proofs.Walks.{row-there, walk-there}
use Rattle.volume_spec.specs.Appls.{add_appl_refusal}
use Rattle.volume_spec.specs.Comments.{does_comment}
use Rattle.volume_spec.specs.CopyFile.{Source, copy_at, copy_file_refusal}
use Rattle.volume_spec.specs.CreateDir.{create_dir_refusal}
use Rattle.volume_spec.specs.CreateFile.{create_file_there, create_file_refusal}
use Rattle.volume_spec.specs.Desktop.{has_no_appl_room}
use Rattle.volume_spec.specs.Edit.{Edit, Comments, dated}
use Rattle.volume_spec.specs.EditLaws.{volume_call}
use Rattle.volume_spec.specs.EditRanges.{is_typed_edit, is_typed_volume_call}
use Rattle.volume_spec.specs.MoveAndRename.{move_refusal}
use Rattle.volume_spec.specs.SetFileDirParms.{settings_in}
use Rattle.volume_spec.specs.Shared.{Opened, delete_inhibit, has_attribute, has_no_ids, has_no_room, is_busy, name_of, lacks_above}
use Rattle.volume_spec.specs.SoundVolume.{IsSoundVolume, has_file, has_node, is_formed, last_next_id, most_nodes}
use Rattle.volume_spec.specs.TreeSteps as tree
use Rattle.volume_spec.specs.TreeSteps.{TreeCall, is_named_call, is_typed_call, tree_refusal}
use Rattle.volume_spec.specs.TypedVolume.{are_bytes, is_date, is_long, is_typed_icon, is_typed_row, is_typed_volume}
use Rattle.volume_spec.specs.Edit.{creates}
use Rattle.volume_spec.specs.CreateFile.{replaces}
use Rattle.volume_spec.specs.VolumeCalls.{VolumeCall, CreateDir, CreateFile, Delete, Rename, MoveAndRename, SetFileParms, SetDirParms, SetFileDirParms, SetVolParms, CopyFile, ExchangeFiles, CreateID, DeleteID, AddIcon, AddAPPL, RemoveAPPL, AddComment, RemoveComment, call_edits, is_formed_call, sets_parms, volume_refusal}
use Rattle.volume_spec.specs.VolumeState.{Row, VolumeState, new_row, root_id}
use Rattle.volume_spec.specs.Walk.{Place, child_by_key, found, has_directory, is_named_path, new_place, one_down, one_down_or}
use Rattle.afp_base.proofs.ListFacts.{any-at}
use Rattle.volume_spec.specs.Rights.{lacks, write_right}

-- what is brought is in its range
abbrev Brings : List Edit → Type 0
Brings edits = list_all is_typed_edit edits ≡ true

dated-brings : (now id : ℕ) → is_date (pos now) ≡ true → is_typed_edit (dated now id) ≡ true
dated-brings now id moment = and_from (is_date (pos now)) true moment refl

-- the id of a node that is there
node-long : (rows : List Row) (id : ℕ) → has_node rows id ≡ true → list_all is_typed_row rows ≡ true → is_long id ≡ true
node-long rows id there typed = any-at (λ (row : Row). row.id == id) is_typed_row rows there typed
    (λ row is t. ap is_long (sym (eqb-true row.id id is)) ∙ (row-parts row t).id)

file-long : (rows : List Row) (id : ℕ) → has_file rows id ≡ true → list_all is_typed_row rows ≡ true → is_long id ≡ true
file-long rows id there typed = any-at (λ (row : Row). row.id == id && not row.dir) is_typed_row rows there typed
    (λ row is t. ap is_long (sym (eqb-true row.id id (and_parts (row.id == id) (not row.dir) is).0)) ∙ (row-parts row t).id)

creates-brings : (v : VolumeState) (user : ℕ) (dir : Bool) (now : ℕ) (place : Place) → IsPlaceThere v.rows place → is_long user ≡ true → is_date (pos now) ≡ true → v.next_id < last_next_id → TypedParts v → Brings (creates dir user now v place)
creates-brings v user dir now place there long moment left t =
    let row : Row = new_row dir user v.next_id place.dir place.name now in
    and_from (is_typed_row row) _
    (row-whole row (record {
      id = lt-ltb v.next_id 4294967296 left;
      parent = directory-long v.rows place.dir there.directory t.rows;
      attributes = refl;
      created = moment;
      modified = moment;
      backup = refl;
      finder = refl;
      privileges = new-typed dir user long;
      name = name-bytes place.name there.named;
      data_fork = refl;
      resource_fork = refl;
    }))
    (and_from (is_typed_edit (dated now place.dir)) true (dated-brings now place.dir moment) refl)

create-dir-brings : (v : VolumeState) (user : ℕ) (now dir : ℕ) (path : PathValue) → is_long user ≡ true → is_date (pos now) ≡ true → is_named_path path ≡ true → create_dir_refusal v user dir path ≡ None → TypedParts v → Brings (call_edits v user now (CreateDir dir path))
unfolding create_dir_refusal call_edits has_no_room has_no_ids
create-dir-brings v user now dir path long moment named passes t =
    at-found Brings (new_place v.rows user dir path) _ [] _ passes (λ place is clear.
    let none = none-holds ((lacks v.rows user write_right place.dir, AccessDenied) ∷ (is_some (child_by_key v.rows place.dir (name_key place.name)), ObjectExists) ∷ (nat_le most_nodes (length v.rows) || nat_le last_next_id v.next_id, DiskFull) ∷ []) clear in
    let room = or_parts (nat_le most_nodes (length v.rows)) (nat_le last_next_id v.next_id) none.1.1.0 in
    creates-brings v user true now place (place-there v.rows user dir path place named is) long moment (leb-false last_next_id v.next_id room.1) t)

create-file-brings : (v : VolumeState) (user : ℕ) (opens : List Opened) (hard : Bool) (now dir : ℕ) (path : PathValue) → is_long user ≡ true → is_date (pos now) ≡ true → is_named_path path ≡ true → create_file_refusal v user opens hard dir path ≡ None → TypedParts v → Brings (call_edits v user now (CreateFile hard dir path))
unfolding create_file_refusal call_edits has_no_room has_no_ids
create-file-brings v user opens hard now dir path long moment named passes t =
    at-found Brings (new_place v.rows user dir path) _ [] _ passes (λ place is clear.
    by-old place (place-there v.rows user dir path place named is) (child_by_key v.rows place.dir (name_key place.name))
    (none-first ((lacks v.rows user write_right place.dir, AccessDenied) ∷ []) _ clear).1)
  where
    by-old : (place : Place) → IsPlaceThere v.rows place → (o : Option ℕ) → create_file_there v opens hard o ≡ None → Brings (replaces o ++ creates false user now v place)
    by-old place there None clear =
        let none = none-holds ((nat_le most_nodes (length v.rows) || nat_le last_next_id v.next_id, DiskFull) ∷ []) clear in
        let room = or_parts (nat_le most_nodes (length v.rows)) (nat_le last_next_id v.next_id) none.0 in
        creates-brings v user false now place there long moment (leb-false last_next_id v.next_id room.1) t
    by-old place there (Some old) clear =
        let none = none-holds ((has_directory v.rows old, ObjectTypeErr) ∷ (not hard, ObjectExists) ∷ (is_busy opens old, FileBusy) ∷ (has_attribute v.rows delete_inhibit old, ObjectLocked) ∷ (nat_le last_next_id v.next_id, DiskFull) ∷ []) clear in
        creates-brings v user false now place there long moment (leb-false last_next_id v.next_id none.1.1.1.1.0) t

delete-brings : (v : VolumeState) (user : ℕ) (now dir : ℕ) (path : PathValue) → is_date (pos now) ≡ true → Brings (call_edits v user now (Delete dir path))
unfolding call_edits
delete-brings v user now dir path moment = at-each Brings (found v.rows user dir path) [] _ refl (λ id is. and_from (is_typed_edit (dated now id)) true (dated-brings now id moment) refl)

rename-brings : (v : VolumeState) (user : ℕ) (now dir : ℕ) (path new : PathValue) → is_date (pos now) ≡ true → is_named_path new ≡ true → Brings (call_edits v user now (Rename dir path new))
unfolding call_edits
rename-brings v user now dir path new moment named =
    at-each Brings (found v.rows user dir path) [] _ refl (λ id is. at-each Brings (one_down new.steps) [] _ refl (λ name down.
    and_from (are_bytes name) _ (name-bytes name (down-named new.steps name named down)) (and_from (is_typed_edit (dated now id)) true (dated-brings now id moment) refl)))

move-brings : (v : VolumeState) (user : ℕ) (now dir : ℕ) (path : PathValue) (to_dir : ℕ) (to_path new : PathValue) → is_date (pos now) ≡ true → is_named_path new ≡ true → move_refusal v user dir path to_dir to_path new ≡ None → IsSoundVolume v → TypedParts v
    → Brings (call_edits v user now (MoveAndRename dir path to_dir to_path new))
unfolding move_refusal call_edits
move-brings v user now dir path to_dir to_path new moment named passes s t =
    at-found Brings (found v.rows user dir path) _ [] _ passes (λ id is rest.
    let first = none-first ((id == root_id, CantMove) ∷ []) _ rest in
    at-found Brings (found v.rows user to_dir to_path) _ [] _ first.1 (λ target to more.
    let second = none-first ((not (has_directory v.rows target), ObjectTypeErr) ∷ (lacks_above v.rows user write_right id, AccessDenied) ∷ (lacks v.rows user write_right target, AccessDenied) ∷ []) _ more in
    at-found Brings (one_down_or (name_of v.rows id) new.steps) _ [] _ second.1 (λ name down clear.
    let row = row-there v.rows id (walk-there v user path.kind ObjectNotFound dir path.steps id (tree-parts v s.tree) is) in
    let good = down-or-named (name_of v.rows id) new.steps name (name-good v id row.0 row.1 (formed-parts v s.formed).rows) named down in
    let long = directory-long v.rows target (not-false (has_directory v.rows target) second.0.0) t.rows in
    and_from (is_long target && are_bytes name) _ (and_from (is_long target) (are_bytes name) long (name-bytes name good))
    (and_from (is_typed_edit (dated now id)) _ (dated-brings now id moment) (and_from (is_typed_edit (dated now target)) true (dated-brings now target moment) refl)))))

set-brings : (v : VolumeState) (user : ℕ) (dir bits : ℕ) (path : PathValue) (tail : List ℕ) → are_bytes tail ≡ true → Brings (sets_parms v user dir bits path tail)
set-brings v user dir bits path tail small = at-each Brings (found v.rows user dir path) [] _ refl (λ id is. and_from _ true (set-whole (settings_in bits tail) (tail-typed bits tail small)) refl)

pub tree-brings : (v : VolumeState) (user : ℕ) (opens : List Opened) (now : ℕ) (call : TreeCall) → is_long user ≡ true → is_date (pos now) ≡ true → is_typed_call call ≡ true → is_named_call call ≡ true → tree_refusal v user opens call ≡ None → IsSoundVolume v → is_typed_volume v ≡ true
    → Brings (call_edits v user now (volume_call call))
unfolding call_edits
tree-brings v user opens now (tree.CreateDir dir path) long moment typed named passes s h = create-dir-brings v user now dir path long moment named passes (typed-parts v h)
tree-brings v user opens now (tree.CreateFile hard dir path) long moment typed named passes s h = create-file-brings v user opens hard now dir path long moment named passes (typed-parts v h)
tree-brings v user opens now (tree.Delete dir path) long moment typed named passes s h = delete-brings v user now dir path moment
tree-brings v user opens now (tree.Rename dir path new) long moment typed named passes s h = rename-brings v user now dir path new moment (and_parts (is_named_path path) (is_named_path new) named).1
tree-brings v user opens now (tree.MoveAndRename dir path to_dir to_path new) long moment typed named passes s h =
    move-brings v user now dir path to_dir to_path new moment (and_parts (is_named_path to_path) (is_named_path new) (and_parts (is_named_path path) (is_named_path to_path && is_named_path new) named).1).1 passes s (typed-parts v h)
tree-brings v user opens now (tree.SetFileParms dir bits path tail) long moment typed named passes s h = set-brings v user dir bits path tail typed
tree-brings v user opens now (tree.SetDirParms dir bits path tail) long moment typed named passes s h = set-brings v user dir bits path tail typed
tree-brings v user opens now (tree.SetFileDirParms dir bits path tail) long moment typed named passes s h = set-brings v user dir bits path tail typed
tree-brings v user opens now (tree.SetVolParms bits tail) long moment typed named passes s h = and_from _ true (any-date tail) refl

copy-brings : (v : VolumeState) (user : ℕ) (now : ℕ) (source : Source) (dir : ℕ) (path new : PathValue) → is_date (pos now) ≡ true → is_typed_row source.file ≡ true → is_formed source.file ≡ true → is_named_path new ≡ true → copy_file_refusal v user source dir path new ≡ None → TypedParts v
    → Brings (call_edits v user now (CopyFile source dir path new))
unfolding copy_file_refusal call_edits
copy-brings v user now source dir path new moment typed formed named passes t =
    at-found Brings (found v.rows user dir path) _ [] _ passes (λ target is rest.
    let first = none-first ((not (has_directory v.rows target), ObjectTypeErr) ∷ (source.denied, AccessDenied) ∷ (lacks v.rows user write_right target, AccessDenied) ∷ []) _ rest in
    at-each Brings (one_down_or source.file.name new.steps) [] _ refl (λ name down.
    let r = row-parts source.file typed in
    let row : Row = copy_at target name source.file in
    let good = down-or-named source.file.name new.steps name (formed-name source.file formed) named down in
    and_from (is_typed_row row) _
    (row-whole row (record {
      id = r.id;
      parent = directory-long v.rows target (not-false (has_directory v.rows target) first.0.0) t.rows;
      attributes = r.attributes;
      created = r.created;
      modified = r.modified;
      backup = refl;
      finder = r.finder;
      privileges = r.privileges;
      name = name-bytes name good;
      data_fork = r.data_fork;
      resource_fork = r.resource_fork;
    }))
    (and_from (is_typed_edit (dated now target)) true (dated-brings now target moment) refl)))

add-appl-brings : (v : VolumeState) (user : ℕ) (now dir : ℕ) (creator : List ℕ) (tag : ℕ) (path : PathValue) → (are_bytes creator && is_long tag) ≡ true → add_appl_refusal v user dir creator path ≡ None → TypedParts v → Brings (call_edits v user now (AddAPPL dir creator tag path))
unfolding add_appl_refusal call_edits
add-appl-brings v user now dir creator tag path typed passes t =
    at-found Brings (found v.rows user dir path) _ [] _ passes (λ id is clear.
    let none = none-holds ((not (has_file v.rows id), ObjectTypeErr) ∷ (lacks_above v.rows user write_right id, AccessDenied) ∷ (has_no_appl_room creator id v.appls, DiskFull) ∷ []) clear in
    let e = and_parts (are_bytes creator) (is_long tag) typed in
    let long = file-long v.rows id (not-false (has_file v.rows id) none.0) t.rows in
    and_from _ true (and_from (are_bytes creator) _ e.0 (and_from (is_long id) (is_long tag) long e.1)) refl)

comment-brings : (id : ℕ) (text : List ℕ) → is_long id ≡ true → are_bytes text ≡ true → Brings (Comments id text ∷ [])
comment-brings id text long small = and_from (is_long id && are_bytes text) true (and_from (is_long id) (are_bytes text) long small) refl

add-comment-brings : (v : VolumeState) (user : ℕ) (now dir : ℕ) (path : PathValue) (text : List ℕ) → are_bytes text ≡ true → IsSoundVolume v → TypedParts v → Brings (call_edits v user now (AddComment dir path text))
unfolding call_edits
add-comment-brings v user now dir path text small s t =
    at-each Brings (found v.rows user dir path) [] _ refl (λ id is. by id (does_comment v id text) (node-long v.rows id (node-there v user dir id path is s) t.rows))
  where
    by : (id : ℕ) (b : Bool) → is_long id ≡ true → Brings (cond b (Comments id text ∷ []) [])
    by id true long = comment-brings id text long small
    by id false long = refl

pub calls-bring : (v : VolumeState) (user : ℕ) (opens : List Opened) (now : ℕ) (call : VolumeCall) → is_long user ≡ true → is_date (pos now) ≡ true → is_typed_volume_call call ≡ true → is_formed_call call ≡ true → volume_refusal v user opens call ≡ None → IsSoundVolume v → is_typed_volume v ≡ true
    → Brings (call_edits v user now call)
unfolding call_edits
calls-bring v user opens now (CreateDir dir path) long moment typed named passes s h = create-dir-brings v user now dir path long moment named passes (typed-parts v h)
calls-bring v user opens now (CreateFile hard dir path) long moment typed named passes s h = create-file-brings v user opens hard now dir path long moment named passes (typed-parts v h)
calls-bring v user opens now (Delete dir path) long moment typed named passes s h = delete-brings v user now dir path moment
calls-bring v user opens now (Rename dir path new) long moment typed named passes s h = rename-brings v user now dir path new moment named
calls-bring v user opens now (MoveAndRename dir path to_dir to_path new) long moment typed named passes s h = move-brings v user now dir path to_dir to_path new moment named passes s (typed-parts v h)
calls-bring v user opens now (SetFileParms dir bits path tail) long moment typed named passes s h = set-brings v user dir bits path tail typed
calls-bring v user opens now (SetDirParms dir bits path tail) long moment typed named passes s h = set-brings v user dir bits path tail typed
calls-bring v user opens now (SetFileDirParms dir bits path tail) long moment typed named passes s h = set-brings v user dir bits path tail typed
calls-bring v user opens now (SetVolParms bits tail) long moment typed named passes s h = and_from _ true (any-date tail) refl
calls-bring v user opens now (CopyFile source dir path new) long moment typed formed passes s h = let e = and_parts (is_formed source.file) (is_named_path new) formed in copy-brings v user now source dir path new moment typed e.0 e.1 passes (typed-parts v h)
calls-bring v user opens now (ExchangeFiles dir path second_dir second_path) long moment typed formed passes s h = at-each Brings (found v.rows user dir path) [] _ refl (λ a at_a. at-each Brings (found v.rows user second_dir second_path) [] _ refl (λ b at_b. refl))
calls-bring v user opens now (CreateID dir path) long moment typed formed passes s h = at-each Brings (found v.rows user dir path) [] _ refl (λ id is. refl)
calls-bring v user opens now (DeleteID id) long moment typed formed passes s h = refl
calls-bring v user opens now (AddIcon icon) long moment typed formed passes s h = and_from (is_typed_icon icon) true typed refl
calls-bring v user opens now (AddAPPL dir creator tag path) long moment typed formed passes s h = add-appl-brings v user now dir creator tag path typed passes (typed-parts v h)
calls-bring v user opens now (RemoveAPPL dir creator path) long moment typed formed passes s h = at-each Brings (found v.rows user dir path) [] _ refl (λ id is. refl)
calls-bring v user opens now (AddComment dir path text) long moment typed formed passes s h = add-comment-brings v user now dir path text typed s (typed-parts v h)
calls-bring v user opens now (RemoveComment dir path) long moment typed formed passes s h =
    at-each Brings (found v.rows user dir path) [] _ refl (λ id is. comment-brings id [] (node-long v.rows id (node-there v user dir id path is s) (typed-parts v h).rows) refl)
