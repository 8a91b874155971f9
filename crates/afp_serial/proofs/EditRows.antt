-- What the calls owe that file files, and that change the desktop database.
use Rattle.std.proofs.Common.{◌==◌, ◌≡◌, refl, ℕ, ◌<◌, ◌≤◌, arith, true, not, ◌&&◌, List, [], ◌∷◌, length, take, Some, None}
use Rattle.std.specs.Prelude.{Result, Ok, Err, nat_le}
use Rattle.std.proofs.lemmas.Bool.{and_from, and_parts, le-leb, ltb-true}
use Rattle.std.proofs.lemmas.List.{length-take}
use Rattle.afp_base.specs.declared.code.Code.{Code}
use Rattle.afp_base.specs.Choice.{first_holding}
use Rattle.afp_base.specs.declared.code.Code.TheVariants.{AccessDenied, IDExists, ObjectTypeErr}
use Rattle.afp_base.specs.declared.ids.NodeId.{NodeId}
use Rattle.afp_base.specs.declared.ids.VolumeId.{VolumeId}
use Rattle.afp_names.specs.Path.{PathValue}
use Rattle.afp_replies.specs.declared.reply.Reply.TheVariants.{Empty, Node}
use Rattle.afp_replies.specs.Commands.{rows, shape_in, shape_of}
use Rattle.afp_calls_grammar.specs.grammar.Words.{plain_bytes, str, u32, u8}
use Rattle.afp_calls_grammar.specs.declared.grammar.call.Call.{Call}
use Rattle.afp_calls_grammar.specs.declared.grammar.call.Call.TheVariants as calls
use Rattle.afp_serial.proofs.LawfulCalls.{enclosed-lawful, field-lawful}
use Rattle.afp_serial.proofs.OnVolumeRows.{Asks, IsToldTo}
use Rattle.afp_serial.proofs.SoundRow.{IsSoundRow}
use Rattle.afp_serial.proofs.ToldReplies.{empty-told, node-told-to}
use Rattle.afp_serial.proofs.VolumeCodes.{add-appl-refuses, add-comment-refuses, add-icon-refuses, create-id-refuses, delete-id-refuses, remove-appl-refuses, remove-comment-refuses}
use Rattle.afp_serial.proofs.VolumeRows.{edits-row-sound}
use Rattle.afp_serial.proofs.VolumeStates.{IsServed}
use Rattle.afp_serial.specs.Appls.{add_appl_row, remove_appl_row}
use Rattle.afp_serial.specs.Comments.{add_comment_row, remove_comment_row}
use Rattle.afp_serial.specs.FileIds.{create_id_row, delete_id_row}
use Rattle.afp_serial.specs.Icons.{add_icon_row}
use Rattle.afp_serial.specs.LawfulCall.{is_lawful_call}
use Rattle.afp_serial.specs.OpenDir.{open_dir_reply}
use Rattle.volume_spec.proofs.NewCalls.{node-there}
use Rattle.volume_spec.proofs.TypedEdits.{row-parts, typed-parts}
use Rattle.volume_spec.proofs.Walks.{row-there}
use Rattle.volume_spec.specs.Desktop.{icon_of}
use Rattle.volume_spec.specs.EditRanges.{is_typed_volume_call}
use Rattle.volume_spec.specs.FileIds.{create_id_refusal, created_id, is_filed}
use Rattle.volume_spec.specs.Rights.{write_right}
use Rattle.volume_spec.specs.Shared.{behind, done_at, lacks_above}
use Rattle.volume_spec.specs.SoundVolume.{code_size, has_file, is_icon, longest_icon}
use Rattle.volume_spec.specs.TypedVolume.{are_bytes, is_byte, is_long, is_typed_icon, is_typed_row}
use Rattle.volume_spec.specs.VolumeCalls.{AddAPPL, AddComment, AddIcon, CreateID, DeleteID, RemoveAPPL, RemoveComment, is_formed_call}
use Rattle.volume_spec.specs.VolumeState.{Row, VolumeState}
use Rattle.volume_spec.specs.Walk.{found, row_at}
use Rattle.volume_spec.proofs.TypedEdits.{take-bytes}
use Rattle.afp_base.proofs.ListFacts.{find-all, find-passes}
use Rattle.std.proofs.lemmas.Bool.{eqb-true}

-- FPCreateID

-- the id of a node that was found is small
node-small : (v : VolumeState) (volume user dir id : ℕ) (path : PathValue) → IsServed v volume → found v.rows user dir path ≡ Ok id → id < 4294967296
unfolding row_at
node-small v volume user dir id path served is =
    let row = row-there v.rows id (node-there v user dir id path is served.sound) in
    let typed = row-parts row.0 (find-all (λ (r : Row). r.id == id) is_typed_row v.rows row.0 row.1 (typed-parts v served.typed).rows) in
    let same : row.0.id ≡ id = eqb-true row.0.id id (find-passes (λ (r : Row). r.id == id) v.rows row.0 row.1) in
    let small : row.0.id < 4294967296 = ltb-true row.0.id 4294967296 typed.id in
    omega (arith, same, small)

id-told : (call : Call) (v : VolumeState) (volume user dir : ℕ) (path : PathValue) → ((n : NodeId) → Asks call (Node n)) → IsServed v volume → create_id_refusal v user dir path ≡ None → IsToldTo call (open_dir_reply (created_id v user dir path))
unfolding create_id_refusal created_id
id-told call v volume user dir path asks served passes = by (found v.rows user dir path) refl passes
  where
    by : (r : Result ℕ Code) → found v.rows user dir path ≡ r → behind r (λ id. first_holding ((not (has_file v.rows id), ObjectTypeErr) ∷ (lacks_above v.rows user write_right id, AccessDenied) ∷ (is_filed v.rows id, IDExists) ∷ [])) ≡ None → IsToldTo call (open_dir_reply (done_at r None Some))
    by (Ok id) is h = node-told-to call id asks (node-small v volume user dir id path served is)
    by (Err code) is h = absurd (cc)

create-id-asks : (volume : VolumeId) (dir : NodeId) (path : PathValue) (n : NodeId) → Asks (calls.CreateID volume dir path) (Node n)
unfolding shape_of shape_in rows
create-id-asks volume dir path n = refl

pub create-id-sound : (volume : VolumeId) (dir : NodeId) (path : PathValue) → IsSoundRow (calls.CreateID volume dir path) (create_id_row volume.0 dir.0 path)
create-id-sound volume dir path =
    edits-row-sound (calls.CreateID volume dir path) volume.0 (CreateID dir.0 path) _ (λ v user w. create-id-refuses v user dir.0 path)
    (λ lawful. (refl, refl))
    (λ w user v served passes. id-told (calls.CreateID volume dir path) v volume.0 user dir.0 path (create-id-asks volume dir path) served passes)

-- FPDeleteID

delete-id-asks : (volume : VolumeId) (id : NodeId) → Asks (calls.DeleteID volume id) Empty
unfolding shape_of shape_in rows
delete-id-asks volume id = refl

pub delete-id-sound : (volume : VolumeId) (id : NodeId) → IsSoundRow (calls.DeleteID volume id) (delete_id_row volume.0 id.0)
delete-id-sound volume id =
    edits-row-sound (calls.DeleteID volume id) volume.0 (DeleteID id.0) _ (λ v user w. delete-id-refuses v user id.0)
    (λ lawful. (refl, refl))
    (λ w user v served passes. empty-told (calls.DeleteID volume id) (delete-id-asks volume id))

-- FPAddIcon

add-icon-asks : (dt : ℕ) (creator kind : List ℕ) (icon_kind tag size : ℕ) (piece : List ℕ) → Asks (calls.AddIcon dt creator kind icon_kind tag size piece) Empty
unfolding shape_of shape_in rows
add-icon-asks dt creator kind icon_kind tag size piece = refl

icon-ranges : (dt : ℕ) (creator kind : List ℕ) (icon_kind tag size : ℕ) (piece : List ℕ) → is_lawful_call (calls.AddIcon dt creator kind icon_kind tag size piece) ≡ true
    → (is_icon (icon_of creator kind icon_kind tag piece) ≡ true) × (is_typed_icon (icon_of creator kind icon_kind tag piece) ≡ true)
icon-ranges dt creator kind icon_kind tag size piece lawful =
    let call : Call = calls.AddIcon dt creator kind icon_kind tag size piece in
    let c = and_parts (length creator == 4) (are_bytes creator) (field-lawful call 3 (plain_bytes 4 creator) lawful refl) in
    let k = and_parts (length kind == 4) (are_bytes kind) (field-lawful call 4 (plain_bytes 4 kind) lawful refl) in
    let few : length (take longest_icon piece) ≤ longest_icon = let is = length-take longest_icon piece in omega (arith, is) in (
      and_from (length creator == code_size) ((length kind == code_size) && nat_le (length (take longest_icon piece)) longest_icon) c.0
          (and_from (length kind == code_size) (nat_le (length (take longest_icon piece)) longest_icon) k.0 (le-leb (length (take longest_icon piece)) longest_icon few)),
      and_from (are_bytes creator) _ c.1
          (and_from (are_bytes kind) _ k.1
          (and_from (is_byte icon_kind) (is_long tag && are_bytes (take longest_icon piece)) (field-lawful call 5 (u8 icon_kind) lawful refl)
          (and_from (is_long tag) (are_bytes (take longest_icon piece)) (field-lawful call 7 (u32 tag) lawful refl) (take-bytes longest_icon piece (enclosed-lawful call lawful))))),
    )

pub add-icon-sound : (dt : ℕ) (creator kind : List ℕ) (icon_kind tag size : ℕ) (piece : List ℕ) → IsSoundRow (calls.AddIcon dt creator kind icon_kind tag size piece) (add_icon_row dt creator kind icon_kind tag piece)
add-icon-sound dt creator kind icon_kind tag size piece =
    edits-row-sound (calls.AddIcon dt creator kind icon_kind tag size piece) dt (AddIcon (icon_of creator kind icon_kind tag piece)) _ (λ v user w. add-icon-refuses v (icon_of creator kind icon_kind tag piece))
    (λ lawful. icon-ranges dt creator kind icon_kind tag size piece lawful)
    (λ w user v served passes. empty-told (calls.AddIcon dt creator kind icon_kind tag size piece) (add-icon-asks dt creator kind icon_kind tag size piece))

-- FPAddAPPL

add-appl-asks : (dt : ℕ) (dir : NodeId) (creator : List ℕ) (tag : ℕ) (path : PathValue) → Asks (calls.AddAPPL dt dir creator tag path) Empty
unfolding shape_of shape_in rows
add-appl-asks dt dir creator tag path = refl

appl-ranges : (dt : ℕ) (dir : NodeId) (creator : List ℕ) (tag : ℕ) (path : PathValue) → is_lawful_call (calls.AddAPPL dt dir creator tag path) ≡ true
    → (is_formed_call (AddAPPL dir.0 creator tag path) ≡ true) × (is_typed_volume_call (AddAPPL dir.0 creator tag path) ≡ true)
appl-ranges dt dir creator tag path lawful =
    let call : Call = calls.AddAPPL dt dir creator tag path in
    let c = and_parts (length creator == 4) (are_bytes creator) (field-lawful call 4 (plain_bytes 4 creator) lawful refl) in
    (c.0, and_from (are_bytes creator) (is_long tag) c.1 (field-lawful call 5 (u32 tag) lawful refl))

pub add-appl-sound : (dt : ℕ) (dir : NodeId) (creator : List ℕ) (tag : ℕ) (path : PathValue) → IsSoundRow (calls.AddAPPL dt dir creator tag path) (add_appl_row dt dir.0 creator tag path)
add-appl-sound dt dir creator tag path =
    edits-row-sound (calls.AddAPPL dt dir creator tag path) dt (AddAPPL dir.0 creator tag path) _ (λ v user w. add-appl-refuses v user dir.0 creator path)
    (λ lawful. appl-ranges dt dir creator tag path lawful)
    (λ w user v served passes. empty-told (calls.AddAPPL dt dir creator tag path) (add-appl-asks dt dir creator tag path))

-- FPRemoveAPPL

remove-appl-asks : (dt : ℕ) (dir : NodeId) (creator : List ℕ) (path : PathValue) → Asks (calls.RemoveAPPL dt dir creator path) Empty
unfolding shape_of shape_in rows
remove-appl-asks dt dir creator path = refl

pub remove-appl-sound : (dt : ℕ) (dir : NodeId) (creator : List ℕ) (path : PathValue) → IsSoundRow (calls.RemoveAPPL dt dir creator path) (remove_appl_row dt dir.0 creator path)
remove-appl-sound dt dir creator path =
    edits-row-sound (calls.RemoveAPPL dt dir creator path) dt (RemoveAPPL dir.0 creator path) _ (λ v user w. remove-appl-refuses v user dir.0 creator path)
    (λ lawful. (refl, refl))
    (λ w user v served passes. empty-told (calls.RemoveAPPL dt dir creator path) (remove-appl-asks dt dir creator path))

-- FPAddComment

add-comment-asks : (dt : ℕ) (dir : NodeId) (path : PathValue) (text : List ℕ) → Asks (calls.AddComment dt dir path text) Empty
unfolding shape_of shape_in rows
add-comment-asks dt dir path text = refl

pub add-comment-sound : (dt : ℕ) (dir : NodeId) (path : PathValue) (text : List ℕ) → IsSoundRow (calls.AddComment dt dir path text) (add_comment_row dt dir.0 path text)
add-comment-sound dt dir path text =
    edits-row-sound (calls.AddComment dt dir path text) dt (AddComment dir.0 path text) _ (λ v user w. add-comment-refuses v user dir.0 path)
    (λ lawful. (refl, field-lawful (calls.AddComment dt dir path text) 6 (str text) lawful refl))
    (λ w user v served passes. empty-told (calls.AddComment dt dir path text) (add-comment-asks dt dir path text))

-- FPRemoveComment

remove-comment-asks : (dt : ℕ) (dir : NodeId) (path : PathValue) → Asks (calls.RemoveComment dt dir path) Empty
unfolding shape_of shape_in rows
remove-comment-asks dt dir path = refl

pub remove-comment-sound : (dt : ℕ) (dir : NodeId) (path : PathValue) → IsSoundRow (calls.RemoveComment dt dir path) (remove_comment_row dt dir.0 path)
remove-comment-sound dt dir path =
    edits-row-sound (calls.RemoveComment dt dir path) dt (RemoveComment dir.0 path) _ (λ v user w. remove-comment-refuses v user dir.0 path)
    (λ lawful. (refl, refl))
    (λ w user v served passes. empty-told (calls.RemoveComment dt dir path) (remove-comment-asks dt dir path))
