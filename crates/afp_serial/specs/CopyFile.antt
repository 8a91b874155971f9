-- FPCopyFile (AFP Reference, "FPCopyFile"): from one volume into another, or into the same. What the source's volume refuses comes first; the opens of
-- the source are looked at between the refusals of the volume that gets the copy.
use Rattle.std.specs.Prelude.{ℕ, ◌==◌, Bool, ◌&&◌, ◌||◌, List, [], ◌∷◌, Option, None, Some, option_map}
use Rattle.std.specs.List.{list_any}
use Rattle.afp_base.specs.declared.code.Code.{Code}
use Rattle.afp_names.specs.Path.{PathValue}
use Rattle.volume_spec.specs.CopyFile.{Source, copied_refusal, copy_file_refusal}
use Rattle.volume_spec.specs.Edit.{Edit}
use Rattle.volume_spec.specs.OpenFork.{open_fork_file}
use Rattle.volume_spec.specs.Rights.{read_right}
use Rattle.volume_spec.specs.Shared.{lacks_above}
use Rattle.volume_spec.specs.VolumeCalls.{VolumeCall, CopyFile, call_edits}
use Rattle.volume_spec.specs.VolumeState.{Row as File, VolumeState}
use Rattle.afp_serial.specs.OnVolume.{done_on, refused_on}
use Rattle.afp_serial.specs.VolumeRows.{edits_on, keeper_of_edits, with_edits}
use Rattle.afp_serial.specs.World.{CallRow, refused_before, user_of, vol, volume_at, with_empty_reply, World, OpenFork}

-- an open of either fork of the file, of any session, writes or denies reading
unfoldable pub is_held : World → ℕ → ℕ → Bool
is_held w volume node = list_any (λ (o : OpenFork). ((o.fork.volume == volume) && (o.fork.node == node)) && (o.access.write || o.access.deny_read)) w.opens

-- the file that a path leads a user to, with what its opens forbid, and whether the user may read its directory
abbrev pub source_on : World → ℕ → ℕ → Option VolumeState → ℕ → PathValue → Option Source
source_on w user volume None dir path = None
source_on w user volume (Some v) dir path =
    option_map (λ (file : File). record { file = file; held = is_held w volume file.id; denied = lacks_above v.rows user read_right file.id }) (open_fork_file v user dir path)

-- what a request to copy names: the source, and the place of the copy
pub record CopyAsked : Type 0 where
  pub volume : ℕ
  pub dir : ℕ
  pub path : PathValue
  pub target : ℕ
  pub target_dir : ℕ
  pub target_path : PathValue
  pub new_path : PathValue

abbrev pub source_of : World → ℕ → CopyAsked → Option Source
source_of w user asked = source_on w user asked.volume (volume_at w.volumes asked.volume) asked.dir asked.path

-- the copy as a call on the volume that gets it
abbrev pub copy_call : CopyAsked → Source → VolumeCall
copy_call asked source = CopyFile source asked.target_dir asked.target_path asked.new_path

-- what that volume refuses of a file that was found; what was not found was refused
abbrev pub copy_refused : ℕ → CopyAsked → Option VolumeState → Option Source → Option Code
copy_refused user asked v None = None
copy_refused user asked v (Some source) = refused_on v (λ t. copy_file_refusal t user source asked.target_dir asked.target_path asked.new_path)

-- what changes of it
abbrev pub copy_edits : World → ℕ → CopyAsked → Option Source → VolumeState → List Edit
copy_edits w user asked None v = []
copy_edits w user asked (Some source) v = call_edits v user w.latest (copy_call asked source)

abbrev pub copies : CopyAsked → CallRow
copies asked = record {
  refusals = λ w s. vol s asked.volume ∷ vol s asked.target
      ∷ refused_before (refused_on (volume_at w.volumes asked.volume) (λ v. copied_refusal v (user_of s) asked.dir asked.path))
      (refused_before (copy_refused (user_of s) asked (volume_at w.volumes asked.target) (source_of w (user_of s) asked)) []);
  effect = λ w s. done_on (volume_at w.volumes asked.target) w (λ v. with_empty_reply (with_edits w asked.target v (copy_edits w (user_of s) asked (source_of w (user_of s) asked) v)));
  committed = λ w s. keeper_of_edits asked.target (edits_on (volume_at w.volumes asked.target) (copy_edits w (user_of s) asked (source_of w (user_of s) asked)));
}

abbrev pub copy_file_row : ℕ → ℕ → ℕ → ℕ → PathValue → PathValue → PathValue → CallRow
copy_file_row volume dir target target_dir path target_path new_path =
    copies (record { volume = volume; dir = dir; path = path; target = target; target_dir = target_dir; target_path = target_path; new_path = new_path })
