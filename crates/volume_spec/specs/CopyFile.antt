-- FPCopyFile on the volume that gets the copy (AFP Reference, "FPCopyFile"; the order of refusals is this profile's). The source may be on this
-- volume or on another.
use Rattle.std.specs.Prelude.{ℕ, Bool, false, not, List, [], ◌∷◌, Option, is_some}
use Rattle.afp_base.specs.Choice.{first_holding}
use Rattle.afp_base.specs.declared.code.Code.{Code}
use Rattle.afp_base.specs.declared.code.Code.TheVariants.{AccessDenied, DenyConflict, DiskFull, ObjectExists, ObjectTypeErr}
use Rattle.afp_names.specs.Name.{name_key}
use Rattle.afp_names.specs.Path.{PathValue}
use Rattle.volume_spec.specs.Edit.{Edit, Comes, dated, edits_at}
use Rattle.volume_spec.specs.ForkEffect.{would_pass}
use Rattle.volume_spec.specs.Rights.{lacks, write_right}
use Rattle.volume_spec.specs.Shared.{behind, first_or, has_no_room}
use Rattle.volume_spec.specs.SoundVolume.{has_file, row_bytes}
use Rattle.volume_spec.specs.VolumeState.{Row, VolumeState, never}
use Rattle.volume_spec.specs.Walk.{found, one_down_or, has_directory, child_by_key}

-- the file that is copied, as it is, whether an open of either of its forks writes or denies reading, and whether the user lacks read in its directory
pub record Source : Type 0 where
  pub file : Row
  pub held : Bool
  pub denied : Bool

-- why the source's volume refuses to copy a file of it (this profile)
unfoldable pub copied_refusal : VolumeState → ℕ → ℕ → PathValue → Option Code
copied_refusal v user dir path = behind (found v.rows user dir path) (λ id. first_holding ((not (has_file v.rows id), ObjectTypeErr) ∷ []))

-- why the volume refuses to take the copy (this profile)
unfoldable pub copy_file_refusal : VolumeState → ℕ → Source → ℕ → PathValue → PathValue → Option Code
copy_file_refusal v user source dir path new = behind (found v.rows user dir path) (λ target. first_or (
    (not (has_directory v.rows target), ObjectTypeErr)
    ∷ (source.denied, AccessDenied)
    ∷ (lacks v.rows user write_right target, AccessDenied)
    ∷ [])
    (behind (one_down_or source.file.name new.steps) (λ name. first_holding (
    (is_some (child_by_key v.rows target (name_key name)), ObjectExists)
    ∷ (source.held, DenyConflict)
    ∷ (has_no_room v, DiskFull)
    ∷ (would_pass v 0 (row_bytes source.file), DiskFull)
    ∷ []))))

-- A copy has the file's forks, attributes, Finder info, created and modified date; it was never backed up, and is not filed.
abbrev pub copy_at : ℕ → List ℕ → Row → Row
copy_at parent name file = record file { parent = parent; name = name; backup = never; filed = false }

-- the copy comes, and its directory is dated (AFP Reference, "FPCopyFile")
abbrev pub copy_file_edits : VolumeState → ℕ → ℕ → Source → ℕ → PathValue → PathValue → List Edit
copy_file_edits v user now source dir path new = edits_at (found v.rows user dir path) (λ target. edits_at (one_down_or source.file.name new.steps) (λ name.
    Comes (copy_at target name source.file) ∷ dated now target ∷ []))
