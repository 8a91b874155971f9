-- FPAddIcon, FPGetIcon and FPGetIconInfo (AFP Reference, under these names).
use Rattle.std.specs.Prelude.{ℕ, List, length, Option, None, Some}
use Rattle.afp_replies.specs.declared.reply.Reply.{Reply}
use Rattle.afp_replies.specs.declared.reply.Reply.TheVariants.{Empty, IconInfo, Piece}
use Rattle.volume_spec.specs.Desktop.{icon_of}
use Rattle.volume_spec.specs.Icons.{get_icon_bits, get_icon_info_icon, get_icon_info_refusal, get_icon_refusal}
use Rattle.volume_spec.specs.VolumeCalls.{AddIcon}
use Rattle.volume_spec.specs.VolumeState.{Icon}
use Rattle.afp_serial.specs.OnVolume.{tells_of}
use Rattle.afp_serial.specs.VolumeRows.{changes_volume}
use Rattle.afp_serial.specs.World.{CallRow}

-- FPAddIcon
abbrev pub add_icon_row : ℕ → List ℕ → List ℕ → ℕ → ℕ → List ℕ → CallRow
add_icon_row dt creator kind icon_kind tag bits = changes_volume dt (AddIcon (icon_of creator kind icon_kind tag bits)) (λ user v. Empty)

-- FPGetIcon: the bits of the icon that was found; what finds none was refused
abbrev pub get_icon_reply : Option (List ℕ) → Reply
get_icon_reply None = Empty
get_icon_reply (Some bits) = Piece bits

abbrev pub get_icon_row : ℕ → List ℕ → List ℕ → ℕ → ℕ → CallRow
get_icon_row dt creator kind icon_kind count = tells_of dt (λ w s v. get_icon_refusal v creator kind icon_kind) (λ w s v. get_icon_reply (get_icon_bits v creator kind icon_kind count))

-- FPGetIconInfo: what is told of the icon that was found, with the number of its bytes
abbrev pub get_icon_info_reply : Option Icon → Reply
get_icon_info_reply None = Empty
get_icon_info_reply (Some icon) = IconInfo icon.tag icon.kind icon.icon_kind (length icon.bits)

abbrev pub get_icon_info_row : ℕ → List ℕ → ℕ → CallRow
get_icon_info_row dt creator index = tells_of dt (λ w s v. get_icon_info_refusal v creator index) (λ w s v. get_icon_info_reply (get_icon_info_icon v creator index))
