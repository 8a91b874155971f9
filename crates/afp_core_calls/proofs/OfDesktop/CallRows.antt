-- The rows of calls by their names.
use Rattle.std.proofs.Common.{refl, ℕ, List, None}
use Rattle.afp_base.specs.declared.ids.NodeId.{NodeId}
use Rattle.afp_base.specs.declared.ids.VolumeId.{VolumeId}
use Rattle.afp_names.specs.Path.{PathValue}
use Rattle.afp_replies.specs.declared.reply.Reply.TheVariants as replies
use Rattle.afp_calls_grammar.specs.declared.grammar.call.Call.TheVariants as call
use Rattle.afp_serial.specs.Rows.{row}
use Rattle.afp_serial.specs.OnVolume.{opened_on}
use Rattle.afp_serial.specs.Appls.{get_appl_reply}
use Rattle.afp_serial.specs.Comments.{get_comment_reply}
use Rattle.afp_serial.specs.Icons.{get_icon_info_reply, get_icon_reply}
use Rattle.volume_spec.specs.Appls.{get_appl_mapping, get_appl_refusal}
use Rattle.volume_spec.specs.Comments.{get_comment_refusal, get_comment_text}
use Rattle.volume_spec.specs.Desktop.{icon_of}
use Rattle.volume_spec.specs.Icons.{get_icon_bits, get_icon_info_icon, get_icon_info_refusal, get_icon_refusal}
use Rattle.volume_spec.specs.VolumeCalls as calls
use Rattle.afp_core_state.specs.RowKinds.{TellsOf}
use Rattle.afp_core_state.specs.RowKinds.{ChangesVolume}

pub open_dt-tells : (volume : VolumeId) → TellsOf (call.OpenDT volume) volume.0 (λ w user v. None) (λ w user v. replies.Desk volume.0)
unfolding row
open_dt-tells volume = record { row_is = refl; goes_on = refl }

pub close_dt-tells : (dt : ℕ) → TellsOf (call.CloseDT dt) dt (λ w user v. None) (λ w user v. replies.Empty)
unfolding row
close_dt-tells dt = record { row_is = refl; goes_on = refl }

pub add_comment-changes : (dt : ℕ) (dir : NodeId) (path : PathValue) (text : List ℕ) → ChangesVolume (call.AddComment dt dir path text) dt (calls.AddComment dir.0 path text) (λ user v. replies.Empty)
unfolding row
add_comment-changes dt dir path text = record { row_is = refl; goes_on = refl }

pub remove_comment-changes : (dt : ℕ) (dir : NodeId) (path : PathValue) → ChangesVolume (call.RemoveComment dt dir path) dt (calls.RemoveComment dir.0 path) (λ user v. replies.Empty)
unfolding row
remove_comment-changes dt dir path = record { row_is = refl; goes_on = refl }

pub get_comment-tells : (dt : ℕ) (dir : NodeId) (path : PathValue) → TellsOf (call.GetComment dt dir path) dt (λ w user v. get_comment_refusal v user dir.0 path) (λ w user v. get_comment_reply (get_comment_text v user dir.0 path))
unfolding row
get_comment-tells dt dir path = record { row_is = refl; goes_on = refl }

pub add_appl-changes : (dt : ℕ) (dir : NodeId) (creator : List ℕ) (tag : ℕ) (path : PathValue) → ChangesVolume (call.AddAPPL dt dir creator tag path) dt (calls.AddAPPL dir.0 creator tag path) (λ user v. replies.Empty)
unfolding row
add_appl-changes dt dir creator tag path = record { row_is = refl; goes_on = refl }

pub remove_appl-changes : (dt : ℕ) (dir : NodeId) (creator : List ℕ) (path : PathValue) → ChangesVolume (call.RemoveAPPL dt dir creator path) dt (calls.RemoveAPPL dir.0 creator path) (λ user v. replies.Empty)
unfolding row
remove_appl-changes dt dir creator path = record { row_is = refl; goes_on = refl }

pub get_appl-tells : (dt : ℕ) (creator : List ℕ) (index bits : ℕ)
    → TellsOf (call.GetAPPL dt creator index bits) dt (λ w user v. get_appl_refusal v creator index bits) (λ w user v. get_appl_reply bits v (opened_on w dt) (get_appl_mapping v creator index))
unfolding row
get_appl-tells dt creator index bits = record { row_is = refl; goes_on = refl }

pub add_icon-changes : (dt : ℕ) (creator kind : List ℕ) (icon_kind tag size : ℕ) (piece : List ℕ)
    → ChangesVolume (call.AddIcon dt creator kind icon_kind tag size piece) dt (calls.AddIcon (icon_of creator kind icon_kind tag piece)) (λ user v. replies.Empty)
unfolding row
add_icon-changes dt creator kind icon_kind tag size piece = record { row_is = refl; goes_on = refl }

pub get_icon-tells : (dt : ℕ) (creator kind : List ℕ) (icon_kind count : ℕ)
    → TellsOf (call.GetIcon dt creator kind icon_kind count) dt (λ w user v. get_icon_refusal v creator kind icon_kind) (λ w user v. get_icon_reply (get_icon_bits v creator kind icon_kind count))
unfolding row
get_icon-tells dt creator kind icon_kind count = record { row_is = refl; goes_on = refl }

pub get_icon_info-tells : (dt : ℕ) (creator : List ℕ) (index : ℕ)
    → TellsOf (call.GetIconInfo dt creator index) dt (λ w user v. get_icon_info_refusal v creator index) (λ w user v. get_icon_info_reply (get_icon_info_icon v creator index))
unfolding row
get_icon_info-tells dt creator index = record { row_is = refl; goes_on = refl }
