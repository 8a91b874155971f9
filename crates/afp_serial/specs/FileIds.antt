-- FPCreateID, FPDeleteID and FPResolveID (AFP Reference, under these names).
use Rattle.std.specs.Prelude.{ℕ, Option, None, Some}
use Rattle.afp_bitmap.specs.declared.params.Values.{Values}
use Rattle.afp_names.specs.Path.{PathValue}
use Rattle.afp_replies.specs.declared.reply.Reply.{Reply}
use Rattle.afp_replies.specs.declared.reply.Reply.TheVariants.{Empty, Params}
use Rattle.volume_spec.specs.FileIds.{created_id, resolve_id_refusal, resolve_id_values}
use Rattle.volume_spec.specs.VolumeCalls.{CreateID, DeleteID}
use Rattle.afp_serial.specs.OnVolume.{opened_on, tells_of}
use Rattle.afp_serial.specs.OpenDir.{open_dir_reply}
use Rattle.afp_serial.specs.VolumeRows.{changes_volume}
use Rattle.afp_serial.specs.World.{CallRow, user_of}

-- FPCreateID: it tells the file's id
abbrev pub create_id_row : ℕ → ℕ → PathValue → CallRow
create_id_row volume dir path = changes_volume volume (CreateID dir path) (λ user v. open_dir_reply (created_id v user dir path))

-- FPDeleteID
abbrev pub delete_id_row : ℕ → ℕ → CallRow
delete_id_row volume id = changes_volume volume (DeleteID id) (λ user v. Empty)

-- FPResolveID: the values of the file that was found; what finds none was refused
abbrev pub resolve_id_reply : ℕ → Option Values → Reply
resolve_id_reply bits None = Empty
resolve_id_reply bits (Some values) = Params bits values

abbrev pub resolve_id_row : ℕ → ℕ → ℕ → CallRow
resolve_id_row volume id bits = tells_of volume
    (λ w s v. resolve_id_refusal v (user_of s) id bits)
    (λ w s v. resolve_id_reply bits (resolve_id_values v (opened_on w volume) id bits))
