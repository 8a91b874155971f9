-- The rows of calls by their names.
use Rattle.std.proofs.Common.{◌≡◌, ap, sym, refl, subst, ℕ, ◌<◌, Bool, true, false, List, [], ◌∷◌, length, Some, None, is_some}
use Rattle.afp_base.specs.declared.ids.NodeId.{NodeId}
use Rattle.afp_base.specs.declared.ids.VolumeId.{VolumeId}
use Rattle.afp_names.specs.Path.{PathValue}
use Rattle.afp_replies.specs.declared.reply.Reply.TheVariants.{Empty, Node}
use Rattle.afp_calls_grammar.specs.declared.grammar.call.Call.{Call}
use Rattle.afp_calls_grammar.specs.declared.grammar.call.Call.TheVariants as call
use Rattle.std.specs.Prelude.{IfOk, Result, Ok, Err, nat_le}
use Rattle.std.proofs.lemmas.Bool.{leb-false}
use Rattle.afp_base.specs.Choice.{first_holding}
use Rattle.afp_base.specs.declared.code.Code.{Code}
use Rattle.afp_base.specs.declared.code.Code.TheVariants.{AccessDenied, DiskFull, ObjectExists}
use Rattle.afp_names.specs.Name.{name_key}
use Rattle.afp_serial.specs.CreateDir.{node_id}
use Rattle.afp_serial.specs.Enumerate.{enumerate_reply, lists}
use Rattle.volume_spec.specs.Shared.{behind, has_no_ids, has_no_room}
use Rattle.volume_spec.specs.Enumerate.{ListAsked, asked_narrow, asked_wide, enumerate_refusal}
use Rattle.volume_spec.specs.Rights.{lacks, write_right}
use Rattle.volume_spec.specs.SetFileDirParms.{set_dir_parms_behind}
use Rattle.volume_spec.specs.SoundVolume.{last_next_id, most_nodes}
use Rattle.volume_spec.specs.VolumeState.{VolumeState}
use Rattle.volume_spec.specs.Walk.{Place, child_by_key, new_place}
use Rattle.volume_tree.specs.declared.resolve.PlanFault.{PlanFault}
use Rattle.afp_serial.specs.GetFileDirParms.{get_file_dir_parms_reply}
use Rattle.afp_serial.specs.OnVolume.{opened_on}
use Rattle.afp_serial.specs.OpenDir.{open_dir_reply}
use Rattle.afp_serial.specs.Rows.{ends_session, row}
use Rattle.afp_serial.specs.Users.{user_ids}
use Rattle.volume_spec.specs.CreateDir.{create_dir_id, create_dir_refusal}
use Rattle.volume_spec.specs.GetFileDirParms.{get_file_dir_parms_refusal, get_file_dir_parms_values}
use Rattle.volume_spec.specs.OpenDir.{open_dir_id, open_dir_refusal}
use Rattle.volume_spec.specs.TreeSteps as tree
use Rattle.afp_core_calls.specs.lemma.TreeChanges.{ChangesAlone, ChangesTree}
use Rattle.afp_core_state.specs.RowKinds.{TellsOf}
use Rattle.afp_base.proofs.Facts.{right_false, some-none}

pub open_dir-tells : (volume : VolumeId) (dir : NodeId) (path : PathValue) → TellsOf (call.OpenDir volume dir path) volume.0 (λ w user v. open_dir_refusal v user dir.0 path) (λ w user v. open_dir_reply (open_dir_id v user dir.0 path))
unfolding row
open_dir-tells volume dir path = record { row_is = refl; goes_on = refl }

pub get_file_dir_parms-tells : (volume : VolumeId) (dir : NodeId) (file_bits dir_bits : ℕ) (path : PathValue)
    → TellsOf (call.GetFileDirParms volume dir file_bits dir_bits path) volume.0 (λ w user v. get_file_dir_parms_refusal v user file_bits dir_bits dir.0 path)
    (λ w user v. get_file_dir_parms_reply file_bits dir_bits (get_file_dir_parms_values v user (opened_on w volume.0) file_bits dir_bits dir.0 path))
unfolding row
get_file_dir_parms-tells volume dir file_bits dir_bits path = record { row_is = refl; goes_on = refl }

pub create_dir-changes : (volume : VolumeId) (dir : NodeId) (path : PathValue) → ChangesTree (call.CreateDir volume dir path) (λ w. None) volume.0 (tree.CreateDir dir.0 path) (λ v. Node (node_id (create_dir_id v)))
unfolding row
create_dir-changes volume dir path = record { tree = refl; row_is = refl; goes_on = refl }

pub delete-changes : (asked : Call) (volume : VolumeId) (dir : NodeId) (path : PathValue) → asked ≡ call.Delete volume dir path → ChangesAlone asked volume.0
unfolding row
delete-changes asked volume dir path is =
    subst (λ (c : Call). ChangesAlone c volume.0) (sym is) record { change = tree.Delete dir.0 path; changes = record { tree = refl; row_is = refl; goes_on = refl } }

pub rename-changes : (asked : Call) (volume : VolumeId) (dir : NodeId) (path new_path : PathValue) → asked ≡ call.Rename volume dir path new_path → ChangesAlone asked volume.0
unfolding row
rename-changes asked volume dir path new_path is =
    subst (λ (c : Call). ChangesAlone c volume.0) (sym is) record { change = tree.Rename dir.0 path new_path; changes = record { tree = refl; row_is = refl; goes_on = refl } }

pub move_and_rename-changes : (asked : Call) (volume : VolumeId) (dir target_dir : NodeId) (path target_path new_path : PathValue) → asked ≡ call.MoveAndRename volume dir target_dir path target_path new_path → ChangesAlone asked volume.0
unfolding row
move_and_rename-changes asked volume dir target_dir path target_path new_path is =
    subst (λ (c : Call). ChangesAlone c volume.0) (sym is)
    record { change = tree.MoveAndRename dir.0 path target_dir.0 target_path new_path; changes = record { tree = refl; row_is = refl; goes_on = refl } }

pub set_dir_parms-changes : (asked : Call) (volume : VolumeId) (dir : NodeId) (bits : ℕ) (path : PathValue) (tail : List ℕ) → asked ≡ call.SetDirParms volume dir bits path tail
    → ChangesTree asked (λ w. set_dir_parms_behind (user_ids w.house.users) bits tail) volume.0 (tree.SetDirParms dir.0 bits path tail) (λ v. Empty)
unfolding row
set_dir_parms-changes asked volume dir bits path tail is =
    subst (λ (c : Call). ChangesTree c (λ w. set_dir_parms_behind (user_ids w.house.users) bits tail) volume.0 (tree.SetDirParms dir.0 bits path tail) (λ v. Empty)) (sym is)
    record { tree = refl; row_is = refl; goes_on = refl }

pub set_file_dir_parms-changes : (asked : Call) (volume : VolumeId) (dir : NodeId) (bits : ℕ) (path : PathValue) (tail : List ℕ) → asked ≡ call.SetFileDirParms volume dir bits path tail → ChangesAlone asked volume.0
unfolding row
set_file_dir_parms-changes asked volume dir bits path tail is =
    subst (λ (c : Call). ChangesAlone c volume.0) (sym is) record { change = tree.SetFileDirParms dir.0 bits path tail; changes = record { tree = refl; row_is = refl; goes_on = refl } }

pub open_dir-shown : (v : VolumeState) (user dir : ℕ) (path : PathValue) (answer : Result NodeId PlanFault) → IfOk answer (λ id. open_dir_id v user dir path ≡ Some id.0) → IfOk answer (λ id. open_dir_reply (open_dir_id v user dir path) ≡ Node id)
open_dir-shown v user dir path (Ok id) is = ap open_dir_reply is
open_dir-shown v user dir path (Err e) is = tt

-- a call whose row is a list
pub lists-tells : (asked : Call) (volume dir : ℕ) (asks : ℕ → ListAsked) (path : PathValue) → row asked ≡ lists volume asks dir path → ends_session asked ≡ false
    → TellsOf asked volume (λ w user v. enumerate_refusal v (opened_on w volume) (asks user) dir path) (λ w user v. enumerate_reply v (opened_on w volume) (asks user) dir path)
lists-tells asked volume dir asks path is goes = record { row_is = is; goes_on = goes }

pub enumerate-lists : (volume : VolumeId) (dir : NodeId) (file_bits dir_bits count start size : ℕ) (path : PathValue)
    → row (call.Enumerate volume dir file_bits dir_bits count start size path) ≡ lists volume.0 (λ user. asked_narrow user file_bits dir_bits count start size) dir.0 path
unfolding row
enumerate-lists volume dir file_bits dir_bits count start size path = refl

pub enumerate_ext-lists : (volume : VolumeId) (dir : NodeId) (file_bits dir_bits count start size : ℕ) (path : PathValue)
    → row (call.EnumerateExt volume dir file_bits dir_bits count start size path) ≡ lists volume.0 (λ user. asked_wide user file_bits dir_bits count start size) dir.0 path
unfolding row
enumerate_ext-lists volume dir file_bits dir_bits count start size path = refl

pub enumerate_ext2-lists : (volume : VolumeId) (dir : NodeId) (file_bits dir_bits count start size : ℕ) (path : PathValue)
    → row (call.EnumerateExt2 volume dir file_bits dir_bits count start size path) ≡ lists volume.0 (λ user. asked_wide user file_bits dir_bits count start size) dir.0 path
unfolding row
enumerate_ext2-lists volume dir file_bits dir_bits count start size path = refl

-- where a directory is made, the ids have not ended
ids-left : (lacking there full : Bool) → first_holding ((lacking, AccessDenied) ∷ (there, ObjectExists) ∷ (full, DiskFull) ∷ []) ≡ None → full ≡ false
ids-left true there full h = absurd (some-none _ h)
ids-left false true full h = absurd (some-none _ h)
ids-left false false true h = absurd (some-none _ h)
ids-left false false false h = refl

behind-ids : (v : VolumeState) (user : ℕ) (found : Result Place Code) → behind found (λ place. first_holding (
    (lacks v.rows user write_right place.dir, AccessDenied) ∷ (is_some (child_by_key v.rows place.dir (name_key place.name)), ObjectExists) ∷ (has_no_room v, DiskFull) ∷ [])) ≡ None
    → has_no_room v ≡ false
behind-ids v user (Ok place) h = ids-left (lacks v.rows user write_right place.dir) (is_some (child_by_key v.rows place.dir (name_key place.name))) (has_no_room v) h
behind-ids v user (Err code) h = absurd (some-none code h)

room-ids : (v : VolumeState) → has_no_room v ≡ false → v.next_id < last_next_id
unfolding has_no_room has_no_ids
room-ids v h = leb-false last_next_id v.next_id (right_false (nat_le most_nodes (length v.rows)) (nat_le last_next_id v.next_id) h)

pub create_dir-ids : (v : VolumeState) (user dir : ℕ) (path : PathValue) → create_dir_refusal v user dir path ≡ None → v.next_id < last_next_id
unfolding create_dir_refusal
create_dir-ids v user dir path h = room-ids v (behind-ids v user (new_place v.rows user dir path) h)

pub create_dir-id : (v : VolumeState) → create_dir_id v ≡ v.next_id
unfolding create_dir_id
create_dir-id v = refl
