-- FPDelete (AFP Reference, "FPDelete"; the order of refusals is this profile's).
use Rattle.std.specs.Prelude.{ℕ, ◌==◌, List, [], ◌∷◌, Option}
use Rattle.afp_base.specs.Choice.{first_holding}
use Rattle.afp_base.specs.declared.code.Code.{Code}
use Rattle.afp_base.specs.declared.code.Code.TheVariants.{AccessDenied, ObjectLocked, FileBusy, DirNotEmpty}
use Rattle.afp_names.specs.Path.{PathValue}
use Rattle.volume_spec.specs.Edit.{Edit, Goes, dated, edits_at}
use Rattle.volume_spec.specs.VolumeState.{VolumeState, root_id}
use Rattle.volume_spec.specs.Walk.{found}
use Rattle.volume_spec.specs.Edits.{has_children, changed_at, children_changed, without_node}
use Rattle.volume_spec.specs.Shared.{Opened, behind, done_at, delete_inhibit, has_attribute, is_busy, directory_of, lacks_above}
use Rattle.volume_spec.specs.Rights.{write_right}

-- why it is refused (this profile)
unfoldable pub delete_refusal : VolumeState → ℕ → List Opened → ℕ → PathValue → Option Code
delete_refusal v user opens dir path = behind (found v.rows user dir path) (λ id. first_holding (
    (id == root_id, AccessDenied)
    ∷ (lacks_above v.rows user write_right id, AccessDenied)
    ∷ (has_attribute v.rows delete_inhibit id, ObjectLocked)
    ∷ (is_busy opens id, FileBusy)
    ∷ (has_children v.rows id, DirNotEmpty)
    ∷ []))

-- the volume without the node (AFP Reference, "FPDelete")
unfoldable pub delete_effect : VolumeState → ℕ → ℕ → ℕ → PathValue → VolumeState
delete_effect v user now dir path = done_at (found v.rows user dir path) v (λ id.
    changed_at now (children_changed now (directory_of v.rows id) (without_node id v)))

-- the node goes, and its directory is dated
abbrev pub delete_edits : VolumeState → ℕ → ℕ → ℕ → PathValue → List Edit
delete_edits v user now dir path = edits_at (found v.rows user dir path) (λ id. Goes id ∷ dated now (directory_of v.rows id) ∷ [])
