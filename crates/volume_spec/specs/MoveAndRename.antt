-- FPMoveAndRename (AFP Reference, "FPMoveAndRename"; the order of refusals is this profile's).
use Rattle.std.specs.Prelude.{ℕ, ◌==◌, not, List, [], ◌∷◌, length, Option}
use Rattle.afp_base.specs.Choice.{first_holding}
use Rattle.afp_base.specs.declared.code.Code.{Code}
use Rattle.afp_base.specs.declared.code.Code.TheVariants.{AccessDenied, ObjectExists, ObjectTypeErr, ObjectLocked, CantMove}
use Rattle.afp_names.specs.Path.{PathValue}
use Rattle.volume_spec.specs.Edit.{Edit, Moves, dated, edits_at}
use Rattle.volume_spec.specs.VolumeState.{VolumeState, root_id}
use Rattle.volume_spec.specs.Walk.{found, one_down_or, has_directory}
use Rattle.volume_spec.specs.Edits.{is_taken, is_below, changed_at, children_changed, with_moved}
use Rattle.volume_spec.specs.Rights.{lacks, write_right}
use Rattle.volume_spec.specs.Shared.{behind, done_at, first_or, rename_inhibit, has_attribute, directory_of, lacks_above, name_of}

-- why it is refused (this profile)
unfoldable pub move_refusal : VolumeState → ℕ → ℕ → PathValue → ℕ → PathValue → PathValue → Option Code
move_refusal v user dir path to_dir to_path new = behind (found v.rows user dir path) (λ id. first_or ((id == root_id, CantMove) ∷ [])
    (behind (found v.rows user to_dir to_path) (λ target. first_or (
    (not (has_directory v.rows target), ObjectTypeErr)
    ∷ (lacks_above v.rows user write_right id, AccessDenied)
    ∷ (lacks v.rows user write_right target, AccessDenied)
    ∷ [])
    (behind (one_down_or (name_of v.rows id) new.steps) (λ name. first_holding (
    (is_below v.rows (length v.rows) id target, CantMove)
    ∷ (has_attribute v.rows rename_inhibit id, ObjectLocked)
    ∷ (is_taken v.rows id target name, ObjectExists)
    ∷ []))))))

-- the volume with the node at its new place (AFP Reference, "FPMoveAndRename")
unfoldable pub move_effect : VolumeState → ℕ → ℕ → ℕ → PathValue → ℕ → PathValue → PathValue → VolumeState
move_effect v user now dir path to_dir to_path new = done_at (found v.rows user dir path) v (λ id. done_at (found v.rows user to_dir to_path) v (λ target.
    done_at (one_down_or (name_of v.rows id) new.steps) v (λ name.
    changed_at now (children_changed now target (children_changed now (directory_of v.rows id) (with_moved id target name v))))))

-- the node gets the new place, and both directories are dated
abbrev pub move_edits : VolumeState → ℕ → ℕ → ℕ → PathValue → ℕ → PathValue → PathValue → List Edit
move_edits v user now dir path to_dir to_path new = edits_at (found v.rows user dir path) (λ id. edits_at (found v.rows user to_dir to_path) (λ target.
    edits_at (one_down_or (name_of v.rows id) new.steps) (λ name.
    Moves id target name ∷ dated now (directory_of v.rows id) ∷ dated now target ∷ [])))
