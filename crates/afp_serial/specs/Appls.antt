-- FPAddAPPL, FPRemoveAPPL and FPGetAPPL (AFP Reference, under these names).
use Rattle.std.specs.Prelude.{ℕ, List, Option, None, Some}
use Rattle.afp_bitmap.specs.declared.params.Values.{Values}
use Rattle.afp_names.specs.Path.{PathValue}
use Rattle.afp_replies.specs.declared.reply.Reply.{Reply}
use Rattle.afp_replies.specs.declared.reply.Reply.TheVariants as replies
use Rattle.volume_spec.specs.Appls.{get_appl_mapping, get_appl_refusal, get_appl_values}
use Rattle.volume_spec.specs.Shared.{Opened}
use Rattle.volume_spec.specs.VolumeCalls.{AddAPPL, RemoveAPPL}
use Rattle.volume_spec.specs.VolumeState.{Appl, VolumeState}
use Rattle.afp_serial.specs.OnVolume.{opened_on, tells_of}
use Rattle.afp_serial.specs.VolumeRows.{changes_volume}
use Rattle.afp_serial.specs.World.{CallRow}

-- FPAddAPPL
abbrev pub add_appl_row : ℕ → ℕ → List ℕ → ℕ → PathValue → CallRow
add_appl_row dt dir creator tag path = changes_volume dt (AddAPPL dir creator tag path) (λ user v. replies.Empty)

-- FPRemoveAPPL
abbrev pub remove_appl_row : ℕ → ℕ → List ℕ → PathValue → CallRow
remove_appl_row dt dir creator path = changes_volume dt (RemoveAPPL dir creator path) (λ user v. replies.Empty)

-- FPGetAPPL: the tag, and the values of the mapping's file; what finds none was refused
abbrev pub appl_reply : ℕ → ℕ → Option Values → Reply
appl_reply bits tag None = replies.Empty
appl_reply bits tag (Some values) = replies.Appl bits tag values

abbrev pub get_appl_reply : ℕ → VolumeState → List Opened → Option Appl → Reply
get_appl_reply bits v opens None = replies.Empty
get_appl_reply bits v opens (Some appl) = appl_reply bits appl.tag (get_appl_values v opens bits appl)

abbrev pub get_appl_row : ℕ → List ℕ → ℕ → ℕ → CallRow
get_appl_row dt creator index bits = tells_of dt
    (λ w s v. get_appl_refusal v creator index bits)
    (λ w s v. get_appl_reply bits v (opened_on w dt) (get_appl_mapping v creator index))
