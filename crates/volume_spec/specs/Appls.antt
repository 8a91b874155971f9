-- FPAddAPPL, FPRemoveAPPL and FPGetAPPL on a volume (AFP Reference, under these names; the order of refusals is this profile's).
use Rattle.std.specs.Prelude.{ℕ, max, not, List, [], ◌∷◌, Option, is_none, option_map}
use Rattle.afp_base.specs.Choice.{first_holding}
use Rattle.afp_base.specs.declared.code.Code.{Code}
use Rattle.afp_base.specs.declared.code.Code.TheVariants.{AccessDenied, BitmapErr, DiskFull, ItemNotFound, ObjectTypeErr}
use Rattle.afp_bitmap.specs.Bits.{file_mask, is_outside}
use Rattle.afp_bitmap.specs.declared.params.Values.{Values}
use Rattle.afp_names.specs.Path.{PathValue}
use Rattle.volume_spec.specs.Desktop.{appl_at, has_no_appl_room, nth_appl}
use Rattle.volume_spec.specs.Edit.{Edit, PutsAppl, TakesAppl, edits_at}
use Rattle.volume_spec.specs.OpenFork.{file_of, fork_values}
use Rattle.volume_spec.specs.Rights.{write_right}
use Rattle.volume_spec.specs.Shared.{Opened, behind, lacks_above}
use Rattle.volume_spec.specs.SoundVolume.{has_file}
use Rattle.volume_spec.specs.VolumeState.{Appl, VolumeState}
use Rattle.volume_spec.specs.Walk.{found, row_at}

-- FPAddAPPL: why it is refused
unfoldable pub add_appl_refusal : VolumeState → ℕ → ℕ → List ℕ → PathValue → Option Code
add_appl_refusal v user dir creator path = behind (found v.rows user dir path) (λ id. first_holding (
    (not (has_file v.rows id), ObjectTypeErr)
    ∷ (lacks_above v.rows user write_right id, AccessDenied)
    ∷ (has_no_appl_room creator id v.appls, DiskFull)
    ∷ []))

-- FPAddAPPL: the mapping is put
abbrev pub add_appl_edits : VolumeState → ℕ → ℕ → List ℕ → ℕ → PathValue → List Edit
add_appl_edits v user dir creator tag path = edits_at (found v.rows user dir path) (λ id. PutsAppl (record { creator = creator; node = id; tag = tag }) ∷ [])

-- FPRemoveAPPL: why it is refused
unfoldable pub remove_appl_refusal : VolumeState → ℕ → ℕ → List ℕ → PathValue → Option Code
remove_appl_refusal v user dir creator path = behind (found v.rows user dir path) (λ id. first_holding (
    (not (has_file v.rows id), ObjectTypeErr)
    ∷ (lacks_above v.rows user write_right id, AccessDenied)
    ∷ (is_none (appl_at creator id v.appls), ItemNotFound)
    ∷ []))

-- FPRemoveAPPL: the mapping is taken
abbrev pub remove_appl_edits : VolumeState → ℕ → ℕ → List ℕ → PathValue → List Edit
remove_appl_edits v user dir creator path = edits_at (found v.rows user dir path) (λ id. TakesAppl creator id ∷ [])

-- the mapping of that index; 0 counts as 1 (this profile)
unfoldable pub get_appl_mapping : VolumeState → List ℕ → ℕ → Option Appl
get_appl_mapping v creator index = nth_appl creator (max 1 index) v.appls

-- FPGetAPPL: why it is refused
unfoldable pub get_appl_refusal : VolumeState → List ℕ → ℕ → ℕ → Option Code
get_appl_refusal v creator index bits = first_holding (
    (is_outside file_mask bits, BitmapErr)
    ∷ (is_none (get_appl_mapping v creator index), ItemNotFound)
    ∷ [])

-- FPGetAPPL: what is told of the file of the mapping
unfoldable pub get_appl_values : VolumeState → List Opened → ℕ → Appl → Option Values
get_appl_values v opens bits appl = option_map (fork_values opens bits) (file_of (row_at v.rows appl.node))
