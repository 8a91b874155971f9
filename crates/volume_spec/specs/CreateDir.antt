-- FPCreateDir (AFP Reference, "FPCreateDir"; the order of refusals is this profile's).
use Rattle.std.specs.Prelude.{ℕ, true, List, [], ◌∷◌, Option, is_some}
use Rattle.afp_base.specs.Choice.{first_holding}
use Rattle.afp_base.specs.declared.code.Code.{Code}
use Rattle.afp_base.specs.declared.code.Code.TheVariants.{AccessDenied, ObjectExists, DiskFull}
use Rattle.afp_names.specs.Name.{name_key}
use Rattle.afp_names.specs.Path.{PathValue}
use Rattle.volume_spec.specs.Edit.{Edit, creates, edits_at}
use Rattle.volume_spec.specs.VolumeState.{VolumeState}
use Rattle.volume_spec.specs.Walk.{new_place, child_by_key}
use Rattle.volume_spec.specs.Rights.{lacks, write_right}
use Rattle.volume_spec.specs.Shared.{behind, done_at, has_no_room, created}

-- why it is refused (this profile)
unfoldable pub create_dir_refusal : VolumeState → ℕ → ℕ → PathValue → Option Code
create_dir_refusal v user dir path = behind (new_place v.rows user dir path) (λ place. first_holding (
    (lacks v.rows user write_right place.dir, AccessDenied)
    ∷ (is_some (child_by_key v.rows place.dir (name_key place.name)), ObjectExists)
    ∷ (has_no_room v, DiskFull)
    ∷ []))

-- the volume with the new directory (AFP Reference, "FPCreateDir")
unfoldable pub create_dir_effect : VolumeState → ℕ → ℕ → ℕ → PathValue → VolumeState
create_dir_effect v user now dir path = done_at (new_place v.rows user dir path) v (created true user now v)

-- the new directory comes
abbrev pub create_dir_edits : VolumeState → ℕ → ℕ → ℕ → PathValue → List Edit
create_dir_edits v user now dir path = edits_at (new_place v.rows user dir path) (creates true user now v)

-- the id that is told: that of the new directory (AFP Reference, "FPCreateDir")
unfoldable pub create_dir_id : VolumeState → ℕ
create_dir_id v = v.next_id
