-- The edits of the calls that copy, exchange, file, and change the desktop database may be made where the calls are not refused.
use Rattle.std.proofs.Common.{◌==◌, ◌≡◌, refl, ℕ, arith, Bool, true, false, not, ◌&&◌, ◌||◌, cond, List, [], ◌∷◌, length, Option, Some, None}
use Rattle.std.specs.Prelude.{is_some, is_none, nat_le, nat_lt, bit_and, Ok}
use Rattle.std.proofs.lemmas.Bool.{and_parts, and_from, leb-false, not-false, or_parts}
use Rattle.afp_base.specs.declared.code.Code.TheVariants.{BadIDErr, DenyConflict, DiskFull, IDExists, IDNotFound, ObjectExists, ObjectNotFound, ObjectTypeErr, SameObjectErr, AccessDenied}
use Rattle.afp_names.specs.Name.{name_fault, name_key}
use Rattle.afp_names.specs.Path.{PathValue}
use Rattle.volume_spec.proofs.ForkEffects.{room-left}
use Rattle.volume_spec.proofs.Refusals.{none-holds, none-first, at-found, down-or-named, is-none}
use Rattle.volume_spec.proofs.SeenRows.{file-found}
use Rattle.volume_spec.proofs.SoundEdits.{renamed-formed}
use Rattle.afp_base.proofs.ListFacts.{any-weaker}
use Rattle.volume_spec.proofs.Trees.{TreeParts, tree-parts}
use Rattle.volume_spec.proofs.Walks.{row-there, walk-there}
use Rattle.volume_spec.specs.Appls.{add_appl_refusal, remove_appl_refusal}
use Rattle.volume_spec.specs.Comments.{add_comment_refusal, remove_comment_refusal, does_comment}
use Rattle.volume_spec.specs.CopyFile.{Source, copy_at, copy_file_refusal}
use Rattle.volume_spec.specs.Desktop.{has_no_appl_room, has_no_icon_room}
use Rattle.volume_spec.specs.Edit.{Comments as CommentEdit}
use Rattle.volume_spec.specs.EditLaws.{MayEditAll, MayCome, MayExchange}
use Rattle.volume_spec.specs.Edits.{at_place}
use Rattle.volume_spec.specs.ExchangeFiles.{exchange_files_refusal, lacks_either}
use Rattle.volume_spec.specs.FileIds.{create_id_refusal, delete_id_refusal, is_filed}
use Rattle.volume_spec.specs.ForkEffect.{would_pass}
use Rattle.volume_spec.specs.Icons.{add_icon_refusal}
use Rattle.volume_spec.specs.Shared.{has_no_ids, has_no_room, lacks_above}
use Rattle.volume_spec.specs.SoundVolume.{code_size, dir_attributes, file_attributes, has_file, has_node, icon_key, is_formed, is_icon, is_named, last_next_id, most_nodes, row_bytes, IsSoundVolume, has_fit_privileges}
use Rattle.volume_spec.specs.VolumeCalls.{AddAPPL, AddComment, AddIcon, CopyFile, CreateID, DeleteID, ExchangeFiles, RemoveAPPL, RemoveComment, call_edits}
use Rattle.volume_spec.specs.VolumeState.{Icon, Row, VolumeState, first_id}
use Rattle.volume_spec.specs.Walk.{child_by_key, found, has_directory, is_named_path, one_down_or, row_at}
use Rattle.volume_spec.specs.Rights.{lacks, write_right}

-- a copy is formed as the file is
unfiled-formed : (row : Row) → is_formed row ≡ true → is_formed (record row { filed = false }) ≡ true
unfiled-formed row h =
    let f : Bool → Bool = λ filed. cond row.dir ((bit_and row.attributes dir_attributes == row.attributes) && ((length row.data_fork == 0) && ((length row.resource_fork == 0) && not filed))) (bit_and row.attributes file_attributes == row.attributes) in
    let fit : Bool = has_fit_privileges row.dir row.privileges in
    let both = and_parts fit (is_named row && f row.filed) h in
    let e = and_parts (is_named row) (f row.filed) both.1 in
    and_from fit (is_named row && f false) both.0 (and_from (is_named row) (f false) e.0 (by row.dir e.1))
  where
    by : (d : Bool) → cond d ((bit_and row.attributes dir_attributes == row.attributes) && ((length row.data_fork == 0) && ((length row.resource_fork == 0) && not row.filed))) (bit_and row.attributes file_attributes == row.attributes) ≡ true
        → cond d ((bit_and row.attributes dir_attributes == row.attributes) && ((length row.data_fork == 0) && ((length row.resource_fork == 0) && true))) (bit_and row.attributes file_attributes == row.attributes) ≡ true
    by false k = k
    by true k =
        let a = and_parts (bit_and row.attributes dir_attributes == row.attributes) ((length row.data_fork == 0) && ((length row.resource_fork == 0) && not row.filed)) k in
        let b = and_parts (length row.data_fork == 0) ((length row.resource_fork == 0) && not row.filed) a.1 in
        let c = and_parts (length row.resource_fork == 0) (not row.filed) b.1 in
        and_from (bit_and row.attributes dir_attributes == row.attributes) _ a.0 (and_from (length row.data_fork == 0) _ b.0 (and_from (length row.resource_fork == 0) true c.0 refl))

copy-formed : (target : ℕ) (name : List ℕ) (file : Row) → name_fault name ≡ None → is_formed file ≡ true → is_formed (copy_at target name file) ≡ true
copy-formed target name file good h = unfiled-formed (at_place target name file) (renamed-formed target name good file h)

pub formed-name : (row : Row) → is_formed row ≡ true → name_fault row.name ≡ None
formed-name row h =
    let e = and_parts (is_named row) _ (and_parts (has_fit_privileges row.dir row.privileges) _ h).1 in
    none-is (name_fault row.name) (and_parts (is_none (name_fault row.name)) (length row.finder == 32) e.0).0
  where
    none-is : {A : Type 0} (o : Option A) → is_none o ≡ true → o ≡ None
    none-is None k = refl
    none-is (Some a) k = absurd (cc k)

pub copy-may : (v : VolumeState) (user : ℕ) (now : ℕ) (source : Source) (dir : ℕ) (path new : PathValue) → is_formed source.file ≡ true → is_named_path new ≡ true → copy_file_refusal v user source dir path new ≡ None → IsSoundVolume v
    → MayEditAll v (call_edits v user now (CopyFile source dir path new))
unfolding copy_file_refusal call_edits has_no_room has_no_ids
copy-may v user now source dir path new formed named passes s =
    at-found (MayEditAll v) (found v.rows user dir path) _ [] _ passes (λ target is rest.
    let first = none-first ((not (has_directory v.rows target), ObjectTypeErr) ∷ (source.denied, AccessDenied) ∷ (lacks v.rows user write_right target, AccessDenied) ∷ []) _ rest in
    at-found (MayEditAll v) (one_down_or source.file.name new.steps) _ [] _ first.1 (λ name down clear.
    let none = none-holds ((is_some (child_by_key v.rows target (name_key name)), ObjectExists) ∷ (source.held, DenyConflict) ∷ (nat_le most_nodes (length v.rows) || nat_le last_next_id v.next_id, DiskFull) ∷ (would_pass v 0 (row_bytes source.file), DiskFull) ∷ []) clear in
    let room = or_parts (nat_le most_nodes (length v.rows)) (nat_le last_next_id v.next_id) none.1.1.0 in
    let bytes = room-left v 0 (row_bytes source.file) none.1.1.1.0 in
    let good : name_fault name ≡ None = down-or-named source.file.name new.steps name (formed-name source.file formed) named down in
    let come : MayCome v (copy_at target name source.file) = record {
      directory = not-false (has_directory v.rows target) first.0.0;
      free = is-none (child_by_key v.rows target (name_key name)) none.0;
      formed = copy-formed target name source.file good formed;
      few = leb-false most_nodes (length v.rows) room.0;
      left = leb-false last_next_id v.next_id room.1;
      bytes = omega (arith, bytes);
    } in
    (come, (refl, tt))))

-- a file that is there
file-there : (v : VolumeState) (id : ℕ) → has_file v.rows id ≡ true → IsSoundVolume v → (row : Row) × (row_at v.rows id ≡ Some row) × (row.dir ≡ false)
file-there v id there s =
    let t : TreeParts v = tree-parts v s.tree in
    let row = row-there v.rows id (any-weaker (λ row. row.id == id && not row.dir) (λ row. row.id == id) v.rows (λ row is. (and_parts (row.id == id) (not row.dir) is).0) there) in
    (row.0, row.1, file-found v.rows id row.0 t.apart row.1 there)

pub exchange-may : (v : VolumeState) (user : ℕ) (now dir : ℕ) (path : PathValue) (second_dir : ℕ) (second_path : PathValue) → exchange_files_refusal v user dir path second_dir second_path ≡ None → IsSoundVolume v
    → MayEditAll v (call_edits v user now (ExchangeFiles dir path second_dir second_path))
unfolding exchange_files_refusal call_edits
exchange-may v user now dir path second_dir second_path passes s =
    at-found (MayEditAll v) (found v.rows user dir path) _ [] _ passes (λ a is rest.
    let first = none-first ((not (has_file v.rows a), ObjectTypeErr) ∷ []) _ rest in
    at-found (MayEditAll v) (found v.rows user second_dir second_path) _ [] _ first.1 (λ b at_b clear.
    let none = none-holds ((not (has_file v.rows b), ObjectTypeErr) ∷ (lacks_either v.rows user a, AccessDenied) ∷ (lacks_either v.rows user b, AccessDenied) ∷ (a == b, SameObjectErr) ∷ []) clear in
    let one = file-there v a (not-false (has_file v.rows a) first.0.0) s in
    let two = file-there v b (not-false (has_file v.rows b) none.0) s in
    let may : MayExchange v a b = record { apart = none.1.1.1.0; first = one.0; second = two.0; first_found = one.1; second_found = two.1; first_file = one.2; second_file = two.2 } in
    (may, tt)))

pub create-id-may : (v : VolumeState) (user : ℕ) (now dir : ℕ) (path : PathValue) → create_id_refusal v user dir path ≡ None → MayEditAll v (call_edits v user now (CreateID dir path))
unfolding create_id_refusal call_edits
create-id-may v user now dir path passes =
    at-found (MayEditAll v) (found v.rows user dir path) _ [] _ passes (λ id is clear.
    let none = none-holds ((not (has_file v.rows id), ObjectTypeErr) ∷ (lacks_above v.rows user write_right id, AccessDenied) ∷ (is_filed v.rows id, IDExists) ∷ []) clear in
    (not-false (has_file v.rows id) none.0, tt))

filed-file : (rows : List Row) (id : ℕ) → is_filed rows id ≡ true → has_file rows id ≡ true
unfolding is_filed
filed-file rows id h = any-weaker (λ row. (row.id == id) && (not row.dir && row.filed)) (λ row. row.id == id && not row.dir) rows
    (λ row is. let e = and_parts (row.id == id) (not row.dir && row.filed) is in and_from (row.id == id) (not row.dir) e.0 (and_parts (not row.dir) row.filed e.1).0) h

pub delete-id-may : (v : VolumeState) (user : ℕ) (now id : ℕ) → delete_id_refusal v user id ≡ None → MayEditAll v (call_edits v user now (DeleteID id))
unfolding delete_id_refusal call_edits
delete-id-may v user now id passes =
    let none = none-holds ((nat_lt id first_id, BadIDErr) ∷ (not (is_filed v.rows id), IDNotFound) ∷ (lacks_above v.rows user write_right id, AccessDenied) ∷ []) passes in
    (filed-file v.rows id (not-false (is_filed v.rows id) none.1.0), tt)

pub add-icon-may : (v : VolumeState) (user : ℕ) (now : ℕ) (icon : Icon) → is_icon icon ≡ true → add_icon_refusal v icon ≡ None → MayEditAll v (call_edits v user now (AddIcon icon))
unfolding add_icon_refusal call_edits
add-icon-may v user now icon formed passes =
    let none = none-holds ((has_no_icon_room (icon_key icon) v.icons, DiskFull) ∷ []) passes in
    (record { formed = formed; room = none.0 }, tt)

pub add-appl-may : (v : VolumeState) (user : ℕ) (now dir : ℕ) (creator : List ℕ) (tag : ℕ) (path : PathValue) → (length creator == code_size) ≡ true → add_appl_refusal v user dir creator path ≡ None → MayEditAll v (call_edits v user now (AddAPPL dir creator tag path))
unfolding add_appl_refusal call_edits
add-appl-may v user now dir creator tag path size passes =
    at-found (MayEditAll v) (found v.rows user dir path) _ [] _ passes (λ id is clear.
    let none = none-holds ((not (has_file v.rows id), ObjectTypeErr) ∷ (lacks_above v.rows user write_right id, AccessDenied) ∷ (has_no_appl_room creator id v.appls, DiskFull) ∷ []) clear in
    (record { formed = size; there = not-false (has_file v.rows id) none.0; room = none.1.1.0 }, tt))

pub remove-appl-may : (v : VolumeState) (user : ℕ) (now dir : ℕ) (creator : List ℕ) (path : PathValue) → remove_appl_refusal v user dir creator path ≡ None → MayEditAll v (call_edits v user now (RemoveAPPL dir creator path))
unfolding remove_appl_refusal call_edits
remove-appl-may v user now dir creator path passes = at-found (MayEditAll v) (found v.rows user dir path) _ [] _ passes (λ id is clear. (tt, tt))

pub node-there : (v : VolumeState) (user : ℕ) (dir id : ℕ) (path : PathValue) → found v.rows user dir path ≡ Ok id → IsSoundVolume v → has_node v.rows id ≡ true
node-there v user dir id path is s = walk-there v user path.kind ObjectNotFound dir path.steps id (tree-parts v s.tree) is

pub add-comment-may : (v : VolumeState) (user : ℕ) (now dir : ℕ) (path : PathValue) (text : List ℕ) → add_comment_refusal v user dir path ≡ None → IsSoundVolume v → MayEditAll v (call_edits v user now (AddComment dir path text))
unfolding add_comment_refusal call_edits
add-comment-may v user now dir path text passes s = at-found (MayEditAll v) (found v.rows user dir path) _ [] _ passes (λ id is clear. by id (does_comment v id text) (node-there v user dir id path is s))
  where
    by : (id : ℕ) (b : Bool) → has_node v.rows id ≡ true → MayEditAll v (cond b (CommentEdit id text ∷ []) [])
    by id true there = (there, tt)
    by id false there = tt

pub remove-comment-may : (v : VolumeState) (user : ℕ) (now dir : ℕ) (path : PathValue) → remove_comment_refusal v user dir path ≡ None → IsSoundVolume v → MayEditAll v (call_edits v user now (RemoveComment dir path))
unfolding remove_comment_refusal call_edits
remove-comment-may v user now dir path passes s = at-found (MayEditAll v) (found v.rows user dir path) _ [] _ passes (λ id is clear. (node-there v user dir id path is s, tt))
