-- FPOpenFork on a volume (AFP Reference, "FPOpenFork"; the order of refusals is this profile's).
use Rattle.std.specs.Prelude.{ℕ, ◌==◌, Bool, not, ◌&&◌, List, [], ◌∷◌, Option, Some, None, bit_and, if◌then◌else◌}
use Rattle.afp_base.specs.Choice.{first_holding}
use Rattle.afp_base.specs.declared.code.Code.{Code}
use Rattle.afp_base.specs.declared.code.Code.TheVariants.{AccessDenied, BitmapErr, ObjectLocked, ObjectTypeErr}
use Rattle.afp_bitmap.specs.Bits.{file_mask, is_outside}
use Rattle.afp_bitmap.specs.declared.params.Values.{Values}
use Rattle.afp_bitmap.specs.declared.params.Values.TheVariants.{File}
use Rattle.afp_names.specs.Path.{PathValue}
use Rattle.volume_spec.specs.Shared.{Opened, behind, done_at, first_or, has_attribute, write_inhibit, lacks_above}
use Rattle.volume_spec.specs.NodeValues.{file_values}
use Rattle.volume_spec.specs.SoundVolume.{has_file}
use Rattle.volume_spec.specs.VolumeState.{Row, VolumeState}
use Rattle.volume_spec.specs.Walk.{found, row_at}
use Rattle.volume_spec.specs.Rights.{read_right, write_right}

-- whether the resource fork is asked for: bit 7 of the flag (AFP Reference, "FPOpenFork")
abbrev pub is_resource : ℕ → Bool
is_resource flag = not (bit_and flag 0x80 == 0)

-- why the volume refuses a user to open a fork to be read, or to be written, or both, or neither (this profile)
unfoldable pub open_fork_refusal : VolumeState → ℕ → ℕ → Bool → Bool → ℕ → PathValue → Option Code
open_fork_refusal v user bits reads writes dir path = first_or ((is_outside file_mask bits, BitmapErr) ∷ [])
    (behind (found v.rows user dir path) (λ id. first_holding (
    (not (has_file v.rows id), ObjectTypeErr)
    ∷ (reads && lacks_above v.rows user read_right id, AccessDenied)
    ∷ (writes && lacks_above v.rows user write_right id, AccessDenied)
    ∷ (writes && has_attribute v.rows write_inhibit id, ObjectLocked)
    ∷ [])))

-- a row, if it is a file's
abbrev pub file_of : Option Row → Option Row
file_of None = None
file_of (Some row) = if row.dir then None else Some row

-- the file that was found, if one was (AFP Reference, "FPOpenFork")
unfoldable pub open_fork_file : VolumeState → ℕ → ℕ → PathValue → Option Row
open_fork_file v user dir path = done_at (found v.rows user dir path) None (λ id. file_of (row_at v.rows id))

-- what is told of an open fork's file: each value whose bit is asked, as it is with these forks open (AFP Reference, "FPOpenFork", "FPGetForkParms")
abbrev pub fork_values : List Opened → ℕ → Row → Values
fork_values opens bits row = File (file_values opens bits row)
