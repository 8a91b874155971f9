-- Calls of the tree, one after another, on one volume (this profile).
use Rattle.std.specs.Prelude.{ℕ, pos, Bool, true, ◌&&◌, List, [], ◌∷◌, Option, Some, None}
use Rattle.afp_base.specs.declared.code.Code.{Code}
use Rattle.afp_names.specs.Path.{PathValue}
use Rattle.volume_spec.specs.TypedVolume.{are_bytes, is_date, is_long}
use Rattle.volume_spec.specs.VolumeState.{VolumeState}
use Rattle.volume_spec.specs.Walk.{is_named_path}
use Rattle.volume_spec.specs.Shared.{Opened}
use Rattle.volume_spec.specs.CreateDir.{create_dir_refusal, create_dir_effect}
use Rattle.volume_spec.specs.CreateFile.{create_file_refusal, create_file_effect}
use Rattle.volume_spec.specs.Delete.{delete_refusal, delete_effect}
use Rattle.volume_spec.specs.Rename.{rename_refusal, rename_effect}
use Rattle.volume_spec.specs.MoveAndRename.{move_refusal, move_effect}
use Rattle.volume_spec.specs.SetFileDirParms.{set_file_parms_refusal, set_dir_parms_refusal, set_file_dir_parms_refusal, set_parms_effect}
use Rattle.volume_spec.specs.SetVolParms.{set_vol_parms_refusal, set_vol_parms_effect}

-- a call of the tree
pub data TreeCall : Type 0 where
  CreateDir : ℕ → PathValue → TreeCall
  CreateFile : Bool → ℕ → PathValue → TreeCall
  Delete : ℕ → PathValue → TreeCall
  Rename : ℕ → PathValue → PathValue → TreeCall
  MoveAndRename : ℕ → PathValue → ℕ → PathValue → PathValue → TreeCall
  SetFileParms : ℕ → ℕ → PathValue → List ℕ → TreeCall
  SetDirParms : ℕ → ℕ → PathValue → List ℕ → TreeCall
  SetFileDirParms : ℕ → ℕ → PathValue → List ℕ → TreeCall
  SetVolParms : ℕ → List ℕ → TreeCall

-- a call of a user at a moment, with the forks that are open then
pub record TreeStep : Type 0 where
  pub user : ℕ
  pub call : TreeCall
  pub now : ℕ
  pub opens : List Opened

abbrev pub tree_refusal : VolumeState → ℕ → List Opened → TreeCall → Option Code
tree_refusal v user opens (CreateDir dir path) = create_dir_refusal v user dir path
tree_refusal v user opens (CreateFile hard dir path) = create_file_refusal v user opens hard dir path
tree_refusal v user opens (Delete dir path) = delete_refusal v user opens dir path
tree_refusal v user opens (Rename dir path new) = rename_refusal v user dir path new
tree_refusal v user opens (MoveAndRename dir path to_dir to_path new) = move_refusal v user dir path to_dir to_path new
tree_refusal v user opens (SetFileParms dir bits path tail) = set_file_parms_refusal v user dir bits path tail
tree_refusal v user opens (SetDirParms dir bits path tail) = set_dir_parms_refusal v user dir bits path tail
tree_refusal v user opens (SetFileDirParms dir bits path tail) = set_file_dir_parms_refusal v user dir bits path tail
tree_refusal v user opens (SetVolParms bits tail) = set_vol_parms_refusal bits tail

abbrev pub tree_effect : VolumeState → ℕ → ℕ → TreeCall → VolumeState
tree_effect v user now (CreateDir dir path) = create_dir_effect v user now dir path
tree_effect v user now (CreateFile hard dir path) = create_file_effect v user now dir path
tree_effect v user now (Delete dir path) = delete_effect v user now dir path
tree_effect v user now (Rename dir path new) = rename_effect v user now dir path new
tree_effect v user now (MoveAndRename dir path to_dir to_path new) = move_effect v user now dir path to_dir to_path new
tree_effect v user now (SetFileParms dir bits path tail) = set_parms_effect v user now dir bits path tail
tree_effect v user now (SetDirParms dir bits path tail) = set_parms_effect v user now dir bits path tail
tree_effect v user now (SetFileDirParms dir bits path tail) = set_parms_effect v user now dir bits path tail
tree_effect v user now (SetVolParms bits tail) = set_vol_parms_effect v now tail

-- whether the paths of a call name nodes by names
abbrev pub is_named_call : TreeCall → Bool
is_named_call (CreateDir dir path) = is_named_path path
is_named_call (CreateFile hard dir path) = is_named_path path
is_named_call (Delete dir path) = is_named_path path
is_named_call (Rename dir path new) = is_named_path path && is_named_path new
is_named_call (MoveAndRename dir path to_dir to_path new) = is_named_path path && (is_named_path to_path && is_named_path new)
is_named_call (SetFileParms dir bits path tail) = is_named_path path
is_named_call (SetDirParms dir bits path tail) = is_named_path path
is_named_call (SetFileDirParms dir bits path tail) = is_named_path path
is_named_call (SetVolParms bits tail) = true

-- whether the numbers of a call, and of a step, are in the ranges that a request and a clock have: a tail has bytes, a moment is a date
abbrev pub is_typed_call : TreeCall → Bool
is_typed_call (CreateDir dir path) = true
is_typed_call (CreateFile hard dir path) = true
is_typed_call (Delete dir path) = true
is_typed_call (Rename dir path new) = true
is_typed_call (MoveAndRename dir path to_dir to_path new) = true
is_typed_call (SetFileParms dir bits path tail) = are_bytes tail
is_typed_call (SetDirParms dir bits path tail) = are_bytes tail
is_typed_call (SetFileDirParms dir bits path tail) = are_bytes tail
is_typed_call (SetVolParms bits tail) = are_bytes tail

abbrev pub is_typed_step : TreeStep → Bool
is_typed_step step = is_date (pos step.now) && (is_long step.user && is_typed_call step.call)

-- a volume after a call, which changes nothing where it is refused
abbrev pub unless_refused : Option Code → VolumeState → VolumeState → VolumeState
unless_refused (Some code) old new = old
unless_refused None old new = new

abbrev pub after_step : VolumeState → TreeStep → VolumeState
after_step v step = unless_refused (tree_refusal v step.user step.opens step.call) v (tree_effect v step.user step.now step.call)

abbrev pub after_steps : VolumeState → List TreeStep → VolumeState
after_steps v [] = v
after_steps v (step ∷ steps) = after_steps (after_step v step) steps
