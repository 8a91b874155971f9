-- The edits of the calls of the tree may be made where the calls are not refused.
use Rattle.std.proofs.Common.{◌==◌, ◌≡◌, ◌∙◌, ap, sym, refl, subst, ℕ, ◌≤◌, ◌<◌, Bool, true, false, not, ◌&&◌, ◌||◌, List, [], ◌∷◌, ◌++◌, length, Option, Some, None, arith}
use Rattle.std.specs.Prelude.{nat_le, bytes_eq, bit_and}
use Rattle.std.specs.List.{find}
use Rattle.std.proofs.lemmas.Bool.{and_parts, both_ways, leb-false, ne_eqb, not-false, or_parts}
use Rattle.afp_base.specs.declared.code.Code.TheVariants.{ObjectExists, DiskFull, ObjectLocked, FileBusy, ObjectTypeErr}
use Rattle.afp_names.specs.Name.{name_key}
use Rattle.afp_names.specs.Path.{PathValue}
use Rattle.volume_spec.proofs.Formed.{limit-parts}
use Rattle.volume_spec.proofs.Leading.{without-shorter}
use Rattle.volume_spec.specs.SoundVolume.{IsSoundVolume, has_node, is_in_place, most_nodes, last_next_id}
use Rattle.volume_spec.proofs.Refusals.{none-holds, at-found, is-none, IsPlaceThere, place-there}
use Rattle.volume_spec.proofs.SoundEdits.{sound-without}
use Rattle.afp_base.proofs.ListFacts.{find-all}
use Rattle.volume_spec.proofs.Trees.{TreeParts, tree-parts, drawn}
use Rattle.volume_spec.proofs.Walks.{find-there, mapped-from, MappedFrom}
use Rattle.volume_spec.specs.Edits.{has_children, without, without_node}
use Rattle.volume_spec.specs.Shared.{Opened, has_no_room, has_no_ids, has_attribute, is_busy, delete_inhibit, lacks_above}
use Rattle.volume_spec.specs.CreateFile.{create_file_there, create_file_refusal}
use Rattle.volume_spec.specs.VolumeState.{Row, VolumeState, root_id, root_parent, first_id}
use Rattle.volume_spec.specs.Walk.{Place, new_place, has_directory, child_by_key, is_named_path}
use Rattle.volume_spec.proofs.CreateFile.{file-childless, freed, root-directory, stays}
use Rattle.volume_spec.proofs.SoundSet.{tail-fit}
use Rattle.volume_spec.proofs.Walks.{row-there, walk-there}
use Rattle.volume_spec.proofs.NewCalls as newer
use Rattle.volume_spec.specs.CreateDir.{create_dir_refusal}
use Rattle.volume_spec.specs.Delete.{delete_refusal}
use Rattle.volume_spec.specs.Edit.{edited}
use Rattle.volume_spec.specs.EditLaws.{MayCome, MayEditAll, volume_call}
use Rattle.volume_spec.specs.TreeSteps as tree
use Rattle.volume_spec.specs.TreeSteps.{TreeCall, is_named_call, tree_refusal}
use Rattle.volume_spec.specs.Edits.{is_taken, is_below}
use Rattle.volume_spec.specs.MoveAndRename.{move_refusal}
use Rattle.volume_spec.specs.Rename.{rename_refusal}
use Rattle.volume_spec.specs.SetFileDirParms.{is_short_tail, set_dir_parms_refusal, set_file_dir_parms_refusal, set_file_parms_refusal, settable_bits, settable_dir_bits, owner_bits}
use Rattle.volume_spec.specs.Edit.{creates}
use Rattle.volume_spec.specs.CreateFile.{replaces}
use Rattle.volume_spec.specs.VolumeCalls.{CreateDir, CreateFile, Delete, MoveAndRename, Rename, SetDirParms, SetFileDirParms, SetFileParms, SetVolParms, VolumeCall, CopyFile, ExchangeFiles, CreateID, DeleteID, AddIcon, AddAPPL, RemoveAPPL, AddComment, RemoveComment, call_edits, is_formed_call, volume_refusal}
use Rattle.std.specs.Prelude.{is_none, is_some, option_map, unwrap_or}
use Rattle.std.specs.List.{list_all}
use Rattle.afp_base.proofs.Facts.{none_from_is_none}
use Rattle.afp_base.specs.Limits.{most_fork_bytes}
use Rattle.afp_base.specs.declared.code.Code.TheVariants.{AccessDenied, BitmapErr, CantMove, CantRename, DirNotEmpty, ObjectNotFound, ParamErr}
use Rattle.afp_bitmap.specs.Bits.{is_outside}
use Rattle.afp_names.specs.Name.{name_fault}
use Rattle.volume_spec.proofs.Formed.{formed-parts, new-formed}
use Rattle.volume_spec.proofs.Refusals.{down-named, down-or-named, none-first}
use Rattle.volume_spec.specs.Shared.{directory_of, name_of, rename_inhibit}
use Rattle.volume_spec.specs.SoundVolume.{fork_bytes, has_file, is_formed, is_named, has_fit_privileges}
use Rattle.volume_spec.specs.VolumeState.{new_row}
use Rattle.volume_spec.specs.Walk.{found, one_down, one_down_or, parent_at, row_at}
use Rattle.volume_spec.specs.Rights.{is_owner, lacks, write_right}

-- the directory of a row that is there
directory-is : (rows : List Row) (id : ℕ) (s : Row) → row_at rows id ≡ Some s → directory_of rows id ≡ s.parent
unfolding parent_at
directory-is rows id s is = ap (λ o. unwrap_or (option_map (λ (row : Row). row.parent) o) root_parent) is

-- the name of a node that is there is a name
pub name-good : (v : VolumeState) (id : ℕ) (s : Row) → row_at v.rows id ≡ Some s → list_all is_formed v.rows ≡ true → name_fault (name_of v.rows id) ≡ None
unfolding row_at
name-good v id s is formed =
    let good : is_formed s ≡ true = find-all (λ (row : Row). row.id == id) is_formed v.rows s is formed in
    ap (λ o. name_fault (unwrap_or (option_map (λ (row : Row). row.name) o) [])) is
    ∙ none_from_is_none (name_fault s.name) (and_parts (is_none (name_fault s.name)) (length s.finder == 32) (and_parts (is_named s) _ (and_parts (has_fit_privileges s.dir s.privileges) _ good).1).0).0

abbrev comes : Bool → ℕ → ℕ → ℕ → Place → Row
comes dir user next now place = new_row dir user next place.dir place.name now

come-may : (v : VolumeState) (user : ℕ) (dir : Bool) (next now : ℕ) (place : Place) → has_directory v.rows place.dir ≡ true → name_fault place.name ≡ None → child_by_key v.rows place.dir (name_key place.name) ≡ None → length v.rows < most_nodes → v.next_id < last_next_id → IsSoundVolume v
    → MayCome v (comes dir user next now place)
come-may v user dir next now place directory named free few left s =
    let limits = limit-parts v s.limits in
    let bytes : fork_bytes v.rows ≤ most_fork_bytes = limits.bytes in
    record { directory = directory; free = free; formed = new-formed dir user next place.dir place.name now named; few = few; left = left; bytes = omega arith }

pub create-dir-may : (v : VolumeState) (user : ℕ) (now dir : ℕ) (path : PathValue) → is_named_path path ≡ true → create_dir_refusal v user dir path ≡ None → IsSoundVolume v → MayEditAll v (call_edits v user now (CreateDir dir path))
unfolding create_dir_refusal call_edits has_no_room has_no_ids
create-dir-may v user now dir path named passes s =
    at-found (MayEditAll v) (new_place v.rows user dir path) _ [] _ passes (λ place is clear.
    let there : IsPlaceThere v.rows place = place-there v.rows user dir path place named is in
    let none = none-holds ((lacks v.rows user write_right place.dir, AccessDenied) ∷ (is_some (child_by_key v.rows place.dir (name_key place.name)), ObjectExists) ∷ (nat_le most_nodes (length v.rows) || nat_le last_next_id v.next_id, DiskFull) ∷ []) clear in
    let room = or_parts (nat_le most_nodes (length v.rows)) (nat_le last_next_id v.next_id) none.1.1.0 in
    (come-may v user true v.next_id now place there.directory there.named (is-none (child_by_key v.rows place.dir (name_key place.name)) none.1.0) (leb-false most_nodes (length v.rows) room.0) (leb-false last_next_id v.next_id room.1) s, (refl, tt)))

pub create-file-may : (v : VolumeState) (user : ℕ) (opens : List Opened) (hard : Bool) (now dir : ℕ) (path : PathValue) → is_named_path path ≡ true → create_file_refusal v user opens hard dir path ≡ None → IsSoundVolume v → MayEditAll v (call_edits v user now (CreateFile hard dir path))
unfolding create_file_refusal call_edits has_no_room has_no_ids child_by_key edited
create-file-may v user opens hard now dir path named passes s =
    at-found (MayEditAll v) (new_place v.rows user dir path) _ [] _ passes (λ place is clear.
    by-old place (place-there v.rows user dir path place named is) (child_by_key v.rows place.dir (name_key place.name)) refl
    (none-first ((lacks v.rows user write_right place.dir, AccessDenied) ∷ []) _ clear).1)
  where
    t : TreeParts v
    t = tree-parts v s.tree

    by-old : (place : Place) → IsPlaceThere v.rows place → (o : Option ℕ) → child_by_key v.rows place.dir (name_key place.name) ≡ o → create_file_there v opens hard o ≡ None → MayEditAll v (replaces o ++ creates false user now v place)
    by-old place there None free clear =
        let none = none-holds ((nat_le most_nodes (length v.rows) || nat_le last_next_id v.next_id, DiskFull) ∷ []) clear in
        let room = or_parts (nat_le most_nodes (length v.rows)) (nat_le last_next_id v.next_id) none.0 in
        (come-may v user false v.next_id now place there.directory there.named free (leb-false most_nodes (length v.rows) room.0) (leb-false last_next_id v.next_id room.1) s, (refl, tt))
    by-old place there (Some old) is_old clear =
        let none = none-holds ((has_directory v.rows old, ObjectTypeErr) ∷ (not hard, ObjectExists) ∷ (is_busy opens old, FileBusy) ∷ (has_attribute v.rows delete_inhibit old, ObjectLocked) ∷ (nat_le last_next_id v.next_id, DiskFull) ∷ []) clear in
        let file : has_directory v.rows old ≡ false = none.0 in
        let test : Row → Bool = λ (row : Row). (row.parent == place.dir) && bytes_eq (name_key row.name) (name_key place.name) in
        let m : MappedFrom (λ (row : Row). row.id) (find test v.rows) old = mapped-from (λ (row : Row). row.id) (find test v.rows) old is_old in
        let there_is : has_node v.rows old ≡ true = subst (λ q. has_node v.rows q ≡ true) m.gives (find-there test v.rows m.value m.was) in
        let not_root : (old == root_id) ≡ false = ne_eqb old root_id (λ same. both_ways (has_directory v.rows old) file (ap (λ q. has_directory v.rows q) same ∙ root-directory v t)) in
        let not_above : (old == root_parent) ≡ false = ne_eqb old root_parent (λ same.
        let d = drawn v m.value (ap (λ q. q == root_id) m.gives ∙ not_root) (find-all test (is_in_place v) v.rows m.value m.was t.placed) in
        let low : first_id ≤ m.value.id = d.low in let gives : m.value.id ≡ old = m.gives in absurd (omega arith)) in
        let w : VolumeState = without_node old v in
        let shorter : length (without old v.rows) < length v.rows = without-shorter v.rows old (λ row. row.id == old) (λ row h. h) there_is in
        let few : length v.rows ≤ most_nodes = (limit-parts v s.limits).nodes in
        let childless : has_children v.rows old ≡ false = file-childless v old t not_above file in (
          record { other = not_root; childless = childless },
          (come-may w user false v.next_id now place (stays v place there.directory old file) there.named (freed v place.dir (name_key place.name) old s.names is_old) (omega arith) (leb-false last_next_id v.next_id none.1.1.1.1.0) (sound-without v old not_root childless s), (refl, tt)),
        )

pub delete-may : (v : VolumeState) (user : ℕ) (opens : List Opened) (now dir : ℕ) (path : PathValue) → delete_refusal v user opens dir path ≡ None → MayEditAll v (call_edits v user now (Delete dir path))
unfolding delete_refusal call_edits
delete-may v user opens now dir path passes =
    at-found (MayEditAll v) (found v.rows user dir path) _ [] _ passes (λ id is clear.
    let none = none-holds ((id == root_id, AccessDenied) ∷ (lacks_above v.rows user write_right id, AccessDenied) ∷ (has_attribute v.rows delete_inhibit id, ObjectLocked) ∷ (is_busy opens id, FileBusy) ∷ (has_children v.rows id, DirNotEmpty) ∷ []) clear in
    (record { other = none.0; childless = none.1.1.1.1.0 }, (refl, tt)))

pub rename-may : (v : VolumeState) (user : ℕ) (now dir : ℕ) (path new : PathValue) → is_named_path new ≡ true → rename_refusal v user dir path new ≡ None → IsSoundVolume v → MayEditAll v (call_edits v user now (Rename dir path new))
unfolding rename_refusal call_edits
rename-may v user now dir path new named passes s =
    at-found (MayEditAll v) (found v.rows user dir path) _ [] _ passes (λ id is rest.
    let first = none-first ((id == root_id, CantRename) ∷ (lacks_above v.rows user write_right id, AccessDenied) ∷ []) _ rest in
    at-found (MayEditAll v) (one_down new.steps) _ [] _ first.1 (λ name down clear.
    let none = none-holds ((has_attribute v.rows rename_inhibit id, ObjectLocked) ∷ (is_taken v.rows id (directory_of v.rows id) name, ObjectExists) ∷ []) clear in
    let row = row-there v.rows id (walk-there v user path.kind ObjectNotFound dir path.steps id (tree-parts v s.tree) is) in
    (record { other = first.0.0; row = row.0; found = row.1; free = ap (λ p. is_taken v.rows id p name) (sym (directory-is v.rows id row.0 row.1)) ∙ none.1.0; named = down-named new.steps name named down }, (refl, tt))))

pub move-may : (v : VolumeState) (user : ℕ) (now dir : ℕ) (path : PathValue) (to_dir : ℕ) (to_path new : PathValue) → is_named_path new ≡ true → move_refusal v user dir path to_dir to_path new ≡ None → IsSoundVolume v → MayEditAll v (call_edits v user now (MoveAndRename dir path to_dir to_path new))
unfolding move_refusal call_edits
move-may v user now dir path to_dir to_path new named passes s =
    at-found (MayEditAll v) (found v.rows user dir path) _ [] _ passes (λ id is rest.
    let first = none-first ((id == root_id, CantMove) ∷ []) _ rest in
    at-found (MayEditAll v) (found v.rows user to_dir to_path) _ [] _ first.1 (λ target to more.
    let second = none-first ((not (has_directory v.rows target), ObjectTypeErr) ∷ (lacks_above v.rows user write_right id, AccessDenied) ∷ (lacks v.rows user write_right target, AccessDenied) ∷ []) _ more in
    at-found (MayEditAll v) (one_down_or (name_of v.rows id) new.steps) _ [] _ second.1 (λ name down clear.
    let none = none-holds ((is_below v.rows (length v.rows) id target, CantMove) ∷ (has_attribute v.rows rename_inhibit id, ObjectLocked) ∷ (is_taken v.rows id target name, ObjectExists) ∷ []) clear in
    let row = row-there v.rows id (walk-there v user path.kind ObjectNotFound dir path.steps id (tree-parts v s.tree) is) in (
      record {
        other = first.0.0;
        directory = not-false (has_directory v.rows target) second.0.0;
        not_below = none.0;
        free = none.1.1.0;
        named = down-or-named (name_of v.rows id) new.steps name (name-good v id row.0 row.1 (formed-parts v s.formed).rows) named down;
      },
      (refl, (refl, tt)),
    ))))

pub set-file-may : (v : VolumeState) (user : ℕ) (now dir bits : ℕ) (path : PathValue) (tail : List ℕ) → set_file_parms_refusal v user dir bits path tail ≡ None → MayEditAll v (call_edits v user now (SetFileParms dir bits path tail))
unfolding set_file_parms_refusal call_edits
set-file-may v user now dir bits path tail passes =
    let first = none-first ((is_outside settable_bits bits, BitmapErr) ∷ []) _ passes in
    at-found (MayEditAll v) (found v.rows user dir path) _ [] _ first.1 (λ id is clear.
    let none = none-holds ((not (has_file v.rows id), ObjectTypeErr) ∷ (lacks_above v.rows user write_right id, AccessDenied) ∷ (is_short_tail bits tail, ParamErr) ∷ []) clear in
    (tail-fit bits tail none.1.1.0, tt))

pub set-dir-may : (v : VolumeState) (user : ℕ) (now dir bits : ℕ) (path : PathValue) (tail : List ℕ) → set_dir_parms_refusal v user dir bits path tail ≡ None → MayEditAll v (call_edits v user now (SetDirParms dir bits path tail))
unfolding set_dir_parms_refusal call_edits
set-dir-may v user now dir bits path tail passes =
    let first = none-first ((is_outside settable_dir_bits bits, BitmapErr) ∷ []) _ passes in
    at-found (MayEditAll v) (found v.rows user dir path) _ [] _ first.1 (λ id is clear.
    let none = none-holds ((not (has_directory v.rows id), ObjectTypeErr) ∷ (lacks_above v.rows user write_right id, AccessDenied) ∷ (not (bit_and bits owner_bits == 0) && not (is_owner v.rows user id), AccessDenied) ∷ (is_short_tail bits tail, ParamErr) ∷ []) clear in
    (tail-fit bits tail none.1.1.1.0, tt))

pub set-file-dir-may : (v : VolumeState) (user : ℕ) (now dir bits : ℕ) (path : PathValue) (tail : List ℕ) → set_file_dir_parms_refusal v user dir bits path tail ≡ None → MayEditAll v (call_edits v user now (SetFileDirParms dir bits path tail))
unfolding set_file_dir_parms_refusal call_edits
set-file-dir-may v user now dir bits path tail passes =
    let first = none-first ((is_outside settable_bits bits, BitmapErr) ∷ []) _ passes in
    at-found (MayEditAll v) (found v.rows user dir path) _ [] _ first.1 (λ id is clear.
    let none = none-holds ((lacks_above v.rows user write_right id, AccessDenied) ∷ (is_short_tail bits tail, ParamErr) ∷ []) clear in
    (tail-fit bits tail none.1.0, tt))

pub set-volume-may : (v : VolumeState) (user : ℕ) (now bits : ℕ) (tail : List ℕ) → MayEditAll v (call_edits v user now (SetVolParms bits tail))
unfolding call_edits
set-volume-may v user now bits tail = (tt, tt)

pub call-may : (v : VolumeState) (user : ℕ) (opens : List Opened) (now : ℕ) (call : VolumeCall) → is_formed_call call ≡ true → volume_refusal v user opens call ≡ None → IsSoundVolume v → MayEditAll v (call_edits v user now call)
call-may v user opens now (CreateDir dir path) h p s = create-dir-may v user now dir path h p s
call-may v user opens now (CreateFile hard dir path) h p s = create-file-may v user opens hard now dir path h p s
call-may v user opens now (Delete dir path) h p s = delete-may v user opens now dir path p
call-may v user opens now (Rename dir path new) h p s = rename-may v user now dir path new h p s
call-may v user opens now (MoveAndRename dir path to_dir to_path new) h p s = move-may v user now dir path to_dir to_path new h p s
call-may v user opens now (SetFileParms dir bits path tail) h p s = set-file-may v user now dir bits path tail p
call-may v user opens now (SetDirParms dir bits path tail) h p s = set-dir-may v user now dir bits path tail p
call-may v user opens now (SetFileDirParms dir bits path tail) h p s = set-file-dir-may v user now dir bits path tail p
call-may v user opens now (SetVolParms bits tail) h p s = set-volume-may v user now bits tail
call-may v user opens now (CopyFile source dir path new) h p s = let e = and_parts (is_formed source.file) (is_named_path new) h in newer.copy-may v user now source dir path new e.0 e.1 p s
call-may v user opens now (ExchangeFiles dir path second_dir second_path) h p s = newer.exchange-may v user now dir path second_dir second_path p s
call-may v user opens now (CreateID dir path) h p s = newer.create-id-may v user now dir path p
call-may v user opens now (DeleteID id) h p s = newer.delete-id-may v user now id p
call-may v user opens now (AddIcon icon) h p s = newer.add-icon-may v user now icon h p
call-may v user opens now (AddAPPL dir creator tag path) h p s = newer.add-appl-may v user now dir creator tag path h p
call-may v user opens now (RemoveAPPL dir creator path) h p s = newer.remove-appl-may v user now dir creator path p
call-may v user opens now (AddComment dir path text) h p s = newer.add-comment-may v user now dir path text p s
call-may v user opens now (RemoveComment dir path) h p s = newer.remove-comment-may v user now dir path p s

pub tree-may : (v : VolumeState) (user : ℕ) (opens : List Opened) (now : ℕ) (call : TreeCall) → is_named_call call ≡ true → tree_refusal v user opens call ≡ None → IsSoundVolume v → MayEditAll v (call_edits v user now (volume_call call))
tree-may v user opens now (tree.CreateDir dir path) h p s = create-dir-may v user now dir path h p s
tree-may v user opens now (tree.CreateFile hard dir path) h p s = create-file-may v user opens hard now dir path h p s
tree-may v user opens now (tree.Delete dir path) h p s = delete-may v user opens now dir path p
tree-may v user opens now (tree.Rename dir path new) h p s = rename-may v user now dir path new (and_parts (is_named_path path) (is_named_path new) h).1 p s
tree-may v user opens now (tree.MoveAndRename dir path to_dir to_path new) h p s =
    move-may v user now dir path to_dir to_path new (and_parts (is_named_path to_path) (is_named_path new) (and_parts (is_named_path path) (is_named_path to_path && is_named_path new) h).1).1 p s
tree-may v user opens now (tree.SetFileParms dir bits path tail) h p s = set-file-may v user now dir bits path tail p
tree-may v user opens now (tree.SetDirParms dir bits path tail) h p s = set-dir-may v user now dir bits path tail p
tree-may v user opens now (tree.SetFileDirParms dir bits path tail) h p s = set-file-dir-may v user now dir bits path tail p
tree-may v user opens now (tree.SetVolParms bits tail) h p s = set-volume-may v user now bits tail
