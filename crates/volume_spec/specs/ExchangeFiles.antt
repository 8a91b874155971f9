-- FPExchangeFiles on a volume (AFP Reference, "FPExchangeFiles"; the order of refusals is this profile's).
use Rattle.std.specs.Prelude.{ℕ, ◌==◌, Bool, not, ◌||◌, List, [], ◌∷◌, Option, Some, None}
use Rattle.afp_base.specs.Choice.{first_holding}
use Rattle.afp_base.specs.declared.code.Code.{Code}
use Rattle.afp_base.specs.declared.code.Code.TheVariants.{AccessDenied, ObjectTypeErr, SameObjectErr}
use Rattle.afp_names.specs.Path.{PathValue}
use Rattle.volume_spec.specs.Edit.{Edit, Exchanges, edits_at}
use Rattle.volume_spec.specs.Rights.{read_right, write_right}
use Rattle.volume_spec.specs.Shared.{behind, done_at, first_or, lacks_above}
use Rattle.volume_spec.specs.SoundVolume.{has_file}
use Rattle.volume_spec.specs.VolumeState.{Row, VolumeState}
use Rattle.volume_spec.specs.Walk.{found}

-- whether a user lacks read or write in the directory of a node
abbrev pub lacks_either : List Row → ℕ → ℕ → Bool
lacks_either rows user id = lacks_above rows user read_right id || lacks_above rows user write_right id

-- why it is refused (this profile)
unfoldable pub exchange_files_refusal : VolumeState → ℕ → ℕ → PathValue → ℕ → PathValue → Option Code
exchange_files_refusal v user dir path second_dir second_path = behind (found v.rows user dir path) (λ a. first_or ((not (has_file v.rows a), ObjectTypeErr) ∷ [])
    (behind (found v.rows user second_dir second_path) (λ b. first_holding (
    (not (has_file v.rows b), ObjectTypeErr)
    ∷ (lacks_either v.rows user a, AccessDenied)
    ∷ (lacks_either v.rows user b, AccessDenied)
    ∷ (a == b, SameObjectErr)
    ∷ []))))

-- their forks and modified dates change places (AFP Reference, "FPExchangeFiles")
abbrev pub exchange_files_edits : VolumeState → ℕ → ℕ → PathValue → ℕ → PathValue → List Edit
exchange_files_edits v user dir path second_dir second_path = edits_at (found v.rows user dir path) (λ a. edits_at (found v.rows user second_dir second_path) (λ b. Exchanges a b ∷ []))

-- the two files that change their forks, by their ids
pub record Pair : Type 0 where
  pub first : ℕ
  pub second : ℕ

-- the files that were found (AFP Reference, "FPExchangeFiles")
unfoldable pub exchanged_files : VolumeState → ℕ → ℕ → PathValue → ℕ → PathValue → Option Pair
exchanged_files v user dir path second_dir second_path = done_at (found v.rows user dir path) None (λ a. done_at (found v.rows user second_dir second_path) None (λ b. Some (record { first = a; second = b })))
