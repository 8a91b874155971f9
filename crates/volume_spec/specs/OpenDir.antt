-- FPOpenDir (AFP Reference, "FPOpenDir"; the order of refusals is this profile's). It opens nothing: directory ids are fixed.
use Rattle.std.specs.Prelude.{ℕ, not, [], ◌∷◌, Option}
use Rattle.afp_base.specs.Choice.{first_holding}
use Rattle.afp_base.specs.declared.code.Code.{Code}
use Rattle.afp_base.specs.declared.code.Code.TheVariants.{ObjectTypeErr}
use Rattle.afp_names.specs.Path.{PathValue}
use Rattle.volume_spec.specs.VolumeState.{VolumeState}
use Rattle.volume_spec.specs.Walk.{found, has_directory}
use Rattle.volume_spec.specs.Shared.{behind, found_id}

-- why it is refused (this profile)
unfoldable pub open_dir_refusal : VolumeState → ℕ → ℕ → PathValue → Option Code
open_dir_refusal v user dir path = behind (found v.rows user dir path) (λ id. first_holding ((not (has_directory v.rows id), ObjectTypeErr) ∷ []))

-- the id that is told: that of the directory that was found, if one was (AFP Reference, "FPOpenDir")
unfoldable pub open_dir_id : VolumeState → ℕ → ℕ → PathValue → Option ℕ
open_dir_id v user dir path = found_id v user dir path
