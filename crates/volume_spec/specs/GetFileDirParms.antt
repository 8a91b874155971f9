-- FPGetFileDirParms (AFP Reference, "FPGetFileDirParms"; the order of refusals is this profile's).
use Rattle.std.specs.Prelude.{ℕ, List, [], ◌∷◌, Option, None, option_map}
use Rattle.afp_base.specs.declared.code.Code.{Code}
use Rattle.afp_base.specs.declared.code.Code.TheVariants.{BitmapErr}
use Rattle.afp_bitmap.specs.Bits.{file_mask, dir_mask, is_outside}
use Rattle.afp_bitmap.specs.declared.params.Values.{Values}
use Rattle.afp_names.specs.Path.{PathValue}
use Rattle.volume_spec.specs.VolumeState.{VolumeState}
use Rattle.volume_spec.specs.Walk.{found, row_at}
use Rattle.volume_spec.specs.Shared.{Opened, behind, done_at, first_or}
use Rattle.volume_spec.specs.NodeValues.{node_values}

-- why it is refused (this profile)
unfoldable pub get_file_dir_parms_refusal : VolumeState → ℕ → ℕ → ℕ → ℕ → PathValue → Option Code
get_file_dir_parms_refusal v user file_bits dir_bits dir path = first_or (
    (is_outside file_mask file_bits, BitmapErr)
    ∷ (is_outside dir_mask dir_bits, BitmapErr)
    ∷ [])
    (behind (found v.rows user dir path) (λ _. None))

-- what is told of the node that was found, if one was (AFP Reference, "FPGetFileDirParms")
unfoldable pub get_file_dir_parms_values : VolumeState → ℕ → List Opened → ℕ → ℕ → ℕ → PathValue → Option Values
get_file_dir_parms_values v user opens file_bits dir_bits dir path = done_at (found v.rows user dir path) None (λ id.
    option_map (node_values v.rows user opens file_bits dir_bits) (row_at v.rows id))
