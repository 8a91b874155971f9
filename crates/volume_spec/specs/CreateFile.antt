-- FPCreateFile (AFP Reference, "FPCreateFile"; the order of refusals is this profile's). A hard create first deletes the old file.
use Rattle.std.specs.Prelude.{ℕ, ◌==◌, Bool, false, not, List, [], ◌∷◌, ◌++◌, Option, Some, None, bit_and}
use Rattle.afp_base.specs.Choice.{first_holding}
use Rattle.afp_base.specs.declared.code.Code.{Code}
use Rattle.afp_base.specs.declared.code.Code.TheVariants.{AccessDenied, ObjectExists, ObjectTypeErr, DiskFull, ObjectLocked, FileBusy}
use Rattle.afp_names.specs.Name.{name_key}
use Rattle.afp_names.specs.Path.{PathValue}
use Rattle.volume_spec.specs.Edit.{Edit, Goes, creates, edits_at}
use Rattle.volume_spec.specs.VolumeState.{VolumeState}
use Rattle.volume_spec.specs.Walk.{new_place, has_directory, child_by_key}
use Rattle.volume_spec.specs.Edits.{without_node}
use Rattle.volume_spec.specs.Rights.{lacks, write_right}
use Rattle.volume_spec.specs.Shared.{Opened, behind, done_at, first_or, delete_inhibit, has_attribute, is_busy, has_no_ids, has_no_room, created}

-- whether a create is hard: bit 7 of its flag (AFP Reference, "FPCreateFile")
abbrev pub is_hard : ℕ → Bool
is_hard flag = not (bit_and flag 0x80 == 0)

-- what is refused of a file's new place, by the node that has its name there
abbrev pub create_file_there : VolumeState → List Opened → Bool → Option ℕ → Option Code
create_file_there v opens hard None = first_holding ((has_no_room v, DiskFull) ∷ [])
create_file_there v opens hard (Some old) = first_holding (
    (has_directory v.rows old, ObjectTypeErr)
    ∷ (not hard, ObjectExists)
    ∷ (is_busy opens old, FileBusy)
    ∷ (has_attribute v.rows delete_inhibit old, ObjectLocked)
    ∷ (has_no_ids v, DiskFull)
    ∷ [])

-- a volume without the node that is replaced, if there is one
abbrev pub without_replaced : VolumeState → Option ℕ → VolumeState
without_replaced v None = v
without_replaced v (Some old) = without_node old v

-- why it is refused (this profile)
unfoldable pub create_file_refusal : VolumeState → ℕ → List Opened → Bool → ℕ → PathValue → Option Code
create_file_refusal v user opens hard dir path = behind (new_place v.rows user dir path) (λ place. first_or ((lacks v.rows user write_right place.dir, AccessDenied) ∷ [])
    (create_file_there v opens hard (child_by_key v.rows place.dir (name_key place.name))))

-- the volume with the new file, and without the old one (AFP Reference, "FPCreateFile")
unfoldable pub create_file_effect : VolumeState → ℕ → ℕ → ℕ → PathValue → VolumeState
create_file_effect v user now dir path = done_at (new_place v.rows user dir path) v (λ place.
    created false user now (without_replaced v (child_by_key v.rows place.dir (name_key place.name))) place)

-- the file that is replaced goes, if there is one
abbrev pub replaces : Option ℕ → List Edit
replaces None = []
replaces (Some old) = Goes old ∷ []

-- the old file goes, and the new one comes
abbrev pub create_file_edits : VolumeState → ℕ → ℕ → ℕ → PathValue → List Edit
create_file_edits v user now dir path = edits_at (new_place v.rows user dir path) (λ place. replaces (child_by_key v.rows place.dir (name_key place.name)) ++ creates false user now v place)
