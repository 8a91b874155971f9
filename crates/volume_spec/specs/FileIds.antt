-- FPCreateID, FPDeleteID and FPResolveID on a volume (AFP Reference, under these names; the order of refusals is this profile's). A file's id is
-- its node id.
use Rattle.std.specs.Prelude.{ℕ, ◌==◌, nat_lt, Bool, true, false, not, ◌&&◌, [], ◌∷◌, List, Option, option_map}
use Rattle.std.specs.List.{list_any}
use Rattle.afp_base.specs.Choice.{first_holding}
use Rattle.afp_base.specs.declared.code.Code.{Code}
use Rattle.afp_base.specs.declared.code.Code.TheVariants.{AccessDenied, BadIDErr, BitmapErr, IDExists, IDNotFound, ObjectTypeErr}
use Rattle.afp_bitmap.specs.Bits.{file_mask, is_outside}
use Rattle.afp_bitmap.specs.declared.params.Values.{Values}
use Rattle.afp_names.specs.Path.{PathValue}
use Rattle.volume_spec.specs.Edit.{Edit, Files, edits_at}
use Rattle.volume_spec.specs.OpenFork.{file_of, fork_values}
use Rattle.volume_spec.specs.Rights.{read_right, write_right}
use Rattle.volume_spec.specs.Shared.{Opened, behind, found_id, lacks_above}
use Rattle.volume_spec.specs.SoundVolume.{has_file, has_node}
use Rattle.volume_spec.specs.VolumeState.{Row, VolumeState, first_id}
use Rattle.volume_spec.specs.Walk.{found, row_at}

-- whether this id is that of a file that is filed
unfoldable pub is_filed : List Row → ℕ → Bool
is_filed rows id = list_any (λ row. (row.id == id) && (not row.dir && row.filed)) rows

-- FPCreateID: why it is refused
unfoldable pub create_id_refusal : VolumeState → ℕ → ℕ → PathValue → Option Code
create_id_refusal v user dir path = behind (found v.rows user dir path) (λ id. first_holding (
    (not (has_file v.rows id), ObjectTypeErr)
    ∷ (lacks_above v.rows user write_right id, AccessDenied)
    ∷ (is_filed v.rows id, IDExists)
    ∷ []))

-- FPCreateID: the file's id
unfoldable pub created_id : VolumeState → ℕ → ℕ → PathValue → Option ℕ
created_id v user dir path = found_id v user dir path

-- FPCreateID: the file is filed
abbrev pub create_id_edits : VolumeState → ℕ → ℕ → PathValue → List Edit
create_id_edits v user dir path = edits_at (found v.rows user dir path) (λ id. Files id true ∷ [])

-- FPDeleteID: why it is refused
unfoldable pub delete_id_refusal : VolumeState → ℕ → ℕ → Option Code
delete_id_refusal v user id = first_holding (
    (nat_lt id first_id, BadIDErr)
    ∷ (not (is_filed v.rows id), IDNotFound)
    ∷ (lacks_above v.rows user write_right id, AccessDenied)
    ∷ [])

-- FPDeleteID: the file is not filed any more
abbrev pub delete_id_edits : ℕ → List Edit
delete_id_edits id = Files id false ∷ []

-- FPResolveID: why it is refused
unfoldable pub resolve_id_refusal : VolumeState → ℕ → ℕ → ℕ → Option Code
resolve_id_refusal v user id bits = first_holding (
    (is_outside file_mask bits, BitmapErr)
    ∷ (nat_lt id first_id, BadIDErr)
    ∷ (not (has_node v.rows id), IDNotFound)
    ∷ (not (has_file v.rows id), ObjectTypeErr)
    ∷ (lacks_above v.rows user read_right id, AccessDenied)
    ∷ [])

-- FPResolveID: what is told of the file
unfoldable pub resolve_id_values : VolumeState → List Opened → ℕ → ℕ → Option Values
resolve_id_values v opens id bits = option_map (fork_values opens bits) (file_of (row_at v.rows id))
