-- The rows of calls by their names.
use Rattle.std.proofs.Common.{◌≡◌, refl, ℕ, sym, subst, List}
use Rattle.afp_base.specs.declared.ids.NodeId.{NodeId}
use Rattle.afp_base.specs.declared.ids.VolumeId.{VolumeId}
use Rattle.afp_names.specs.Path.{PathValue}
use Rattle.afp_replies.specs.declared.reply.Reply.TheVariants as replies
use Rattle.afp_calls_grammar.specs.declared.grammar.call.Call.TheVariants as call
use Rattle.afp_serial.specs.OpenDir.{open_dir_reply}
use Rattle.afp_serial.specs.Rows.{row}
use Rattle.afp_serial.specs.OnVolume.{opened_on}
use Rattle.afp_serial.specs.CopyFile.{copies}
use Rattle.afp_serial.specs.ExchangeFiles.{exchange_files_row}
use Rattle.afp_serial.specs.FileIds.{resolve_id_reply}
use Rattle.volume_spec.specs.FileIds.{created_id, resolve_id_refusal, resolve_id_values}
use Rattle.volume_spec.specs.VolumeCalls as calls
use Rattle.afp_core_state.specs.RowKinds.{TellsOf, ChangesVolume}
use Rattle.afp_calls_grammar.specs.declared.grammar.call.Call.{Call}
use Rattle.volume_spec.specs.CreateFile.{is_hard}
use Rattle.volume_spec.specs.TreeSteps as tree
use Rattle.afp_core_calls.specs.lemma.TreeChanges.{ChangesAlone}

pub create_file-changes : (asked : Call) (flag : ℕ) (volume : VolumeId) (dir : NodeId) (path : PathValue) → asked ≡ call.CreateFile flag volume dir path → ChangesAlone asked volume.0
unfolding row
create_file-changes asked flag volume dir path is =
    subst (λ (c : Call). ChangesAlone c volume.0) (sym is) record { change = tree.CreateFile (is_hard flag) dir.0 path; changes = record { tree = refl; row_is = refl; goes_on = refl } }

pub set_file_parms-changes : (asked : Call) (volume : VolumeId) (dir : NodeId) (bits : ℕ) (path : PathValue) (tail : List ℕ) → asked ≡ call.SetFileParms volume dir bits path tail → ChangesAlone asked volume.0
unfolding row
set_file_parms-changes asked volume dir bits path tail is =
    subst (λ (c : Call). ChangesAlone c volume.0) (sym is) record { change = tree.SetFileParms dir.0 bits path tail; changes = record { tree = refl; row_is = refl; goes_on = refl } }

pub create_id-changes : (volume : VolumeId) (dir : NodeId) (path : PathValue) → ChangesVolume (call.CreateID volume dir path) volume.0 (calls.CreateID dir.0 path) (λ user v. open_dir_reply (created_id v user dir.0 path))
unfolding row
create_id-changes volume dir path = record { row_is = refl; goes_on = refl }

pub delete_id-changes : (volume : VolumeId) (id : NodeId) → ChangesVolume (call.DeleteID volume id) volume.0 (calls.DeleteID id.0) (λ user v. replies.Empty)
unfolding row
delete_id-changes volume id = record { row_is = refl; goes_on = refl }

pub resolve_id-tells : (volume : VolumeId) (id : NodeId) (bits : ℕ)
    → TellsOf (call.ResolveID volume id bits) volume.0 (λ w user v. resolve_id_refusal v user id.0 bits) (λ w user v. resolve_id_reply bits (resolve_id_values v (opened_on w volume.0) id.0 bits))
unfolding row
resolve_id-tells volume id bits = record { row_is = refl; goes_on = refl }

pub exchange_files-row : (volume : VolumeId) (dir second_dir : NodeId) (path second_path : PathValue) → row (call.ExchangeFiles volume dir second_dir path second_path) ≡ exchange_files_row volume.0 dir.0 second_dir.0 path second_path
unfolding row
exchange_files-row volume dir second_dir path second_path = refl

pub copy_file-row : (volume : VolumeId) (dir : NodeId) (target : VolumeId) (target_dir : NodeId) (path target_path new_path : PathValue)
    → row (call.CopyFile volume dir target target_dir path target_path new_path) ≡ copies (record { volume = volume.0; dir = dir.0; path = path; target = target.0; target_dir = target_dir.0; target_path = target_path; new_path = new_path })
unfolding row
copy_file-row volume dir target target_dir path target_path new_path = refl
