-- FPRename (AFP Reference, "FPRename"; the order of refusals is this profile's).
use Rattle.std.specs.Prelude.{ℕ, ◌==◌, List, [], ◌∷◌, Option}
use Rattle.afp_base.specs.Choice.{first_holding}
use Rattle.afp_base.specs.declared.code.Code.{Code}
use Rattle.afp_base.specs.declared.code.Code.TheVariants.{AccessDenied, ObjectExists, ObjectLocked, CantRename}
use Rattle.afp_names.specs.Path.{PathValue}
use Rattle.volume_spec.specs.Edit.{Edit, Renames, dated, edits_at}
use Rattle.volume_spec.specs.VolumeState.{VolumeState, root_id}
use Rattle.volume_spec.specs.Walk.{found, one_down}
use Rattle.volume_spec.specs.Edits.{is_taken, changed_at, children_changed, renamed}
use Rattle.volume_spec.specs.Rights.{write_right}
use Rattle.volume_spec.specs.Shared.{behind, done_at, first_or, rename_inhibit, has_attribute, directory_of, lacks_above}

-- why it is refused (this profile)
unfoldable pub rename_refusal : VolumeState → ℕ → ℕ → PathValue → PathValue → Option Code
rename_refusal v user dir path new = behind (found v.rows user dir path) (λ id. first_or ((id == root_id, CantRename) ∷ (lacks_above v.rows user write_right id, AccessDenied) ∷ [])
    (behind (one_down new.steps) (λ name. first_holding (
    (has_attribute v.rows rename_inhibit id, ObjectLocked)
    ∷ (is_taken v.rows id (directory_of v.rows id) name, ObjectExists)
    ∷ []))))

-- the volume with the node's new name (AFP Reference, "FPRename")
unfoldable pub rename_effect : VolumeState → ℕ → ℕ → ℕ → PathValue → PathValue → VolumeState
rename_effect v user now dir path new = done_at (found v.rows user dir path) v (λ id. done_at (one_down new.steps) v (λ name.
    changed_at now (children_changed now (directory_of v.rows id) (renamed id name v))))

-- the node gets the new name, and its directory is dated
abbrev pub rename_edits : VolumeState → ℕ → ℕ → ℕ → PathValue → PathValue → List Edit
rename_edits v user now dir path new = edits_at (found v.rows user dir path) (λ id. edits_at (one_down new.steps) (λ name.
    Renames id name ∷ dated now (directory_of v.rows id) ∷ []))
