-- FPSetVolParms (AFP Reference, "FPSetVolParms"): it sets the backup date, and nothing else can be set.
use Rattle.std.specs.Prelude.{ℕ, ◌==◌, not, List, [], ◌∷◌, length, Option, nat_lt}
use Rattle.afp_base.specs.Choice.{first_holding}
use Rattle.afp_base.specs.declared.code.Code.{Code}
use Rattle.afp_base.specs.declared.code.Code.TheVariants.{BitmapErr, ParamErr}
use Rattle.volume_spec.specs.Edit.{Edit, BacksUp}
use Rattle.volume_spec.specs.VolumeState.{VolumeState}
use Rattle.volume_spec.specs.Edits.{changed_at}
use Rattle.volume_spec.specs.Parms.{date_in}

-- the bits that are asked: the backup date alone (AFP Reference, "Volume Bitmap")
abbrev pub backup_date_alone : ℕ
backup_date_alone = 0x0010

-- the size of a date in bytes (AFP Reference, "Date and time")
abbrev pub date_size : ℕ
date_size = 4

-- why it is refused (this profile)
unfoldable pub set_vol_parms_refusal : ℕ → List ℕ → Option Code
set_vol_parms_refusal bits tail = first_holding (
    (not (bits == backup_date_alone), BitmapErr)
    ∷ (nat_lt (length tail) date_size, ParamErr)
    ∷ [])

-- the volume with the backup date that the tail begins with (AFP Reference, "FPSetVolParms")
unfoldable pub set_vol_parms_effect : VolumeState → ℕ → List ℕ → VolumeState
set_vol_parms_effect v now tail = changed_at now (record v { backup = date_in tail })

-- the backup date that the tail begins with is set
abbrev pub set_vol_parms_edits : List ℕ → List Edit
set_vol_parms_edits tail = BacksUp (date_in tail) ∷ []
