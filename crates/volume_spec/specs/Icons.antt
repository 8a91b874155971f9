-- FPAddIcon, FPGetIcon and FPGetIconInfo on a volume (AFP Reference, under these names; the order of refusals is this profile's).
use Rattle.std.specs.Prelude.{ℕ, ◌==◌, List, [], ◌∷◌, ◌++◌, take, Option, is_none, option_map}
use Rattle.afp_base.specs.Choice.{first_holding}
use Rattle.afp_base.specs.declared.code.Code.{Code}
use Rattle.afp_base.specs.declared.code.Code.TheVariants.{DiskFull, ItemNotFound, ParamErr}
use Rattle.volume_spec.specs.Desktop.{has_no_icon_room, icon_at, nth_icon}
use Rattle.volume_spec.specs.Edit.{Edit, PutsIcon}
use Rattle.volume_spec.specs.SoundVolume.{icon_key}
use Rattle.volume_spec.specs.VolumeState.{Icon, VolumeState}

-- the icon under a creator, type and icon type
abbrev pub icon_under_parts : List ℕ → List ℕ → ℕ → List Icon → Option Icon
icon_under_parts creator kind icon_kind icons = icon_at (creator ++ kind ++ icon_kind ∷ []) icons

-- FPAddIcon: why it is refused
unfoldable pub add_icon_refusal : VolumeState → Icon → Option Code
add_icon_refusal v icon = first_holding ((has_no_icon_room (icon_key icon) v.icons, DiskFull) ∷ [])

-- FPAddIcon: the icon is put
abbrev pub add_icon_edits : Icon → List Edit
add_icon_edits icon = PutsIcon icon ∷ []

-- FPGetIcon: why it is refused
unfoldable pub get_icon_refusal : VolumeState → List ℕ → List ℕ → ℕ → Option Code
get_icon_refusal v creator kind icon_kind = first_holding ((is_none (icon_under_parts creator kind icon_kind v.icons), ItemNotFound) ∷ [])

-- FPGetIcon: the first bytes of the icon, or all
unfoldable pub get_icon_bits : VolumeState → List ℕ → List ℕ → ℕ → ℕ → Option (List ℕ)
get_icon_bits v creator kind icon_kind count = option_map (λ (icon : Icon). take count icon.bits) (icon_under_parts creator kind icon_kind v.icons)

-- FPGetIconInfo: why it is refused
unfoldable pub get_icon_info_refusal : VolumeState → List ℕ → ℕ → Option Code
get_icon_info_refusal v creator index = first_holding (
    (index == 0, ParamErr)
    ∷ (is_none (nth_icon creator index v.icons), ItemNotFound)
    ∷ [])

-- FPGetIconInfo: the icon of that index
unfoldable pub get_icon_info_icon : VolumeState → List ℕ → ℕ → Option Icon
get_icon_info_icon v creator index = nth_icon creator index v.icons
