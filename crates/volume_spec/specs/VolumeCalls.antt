-- The calls that change one volume: why each is refused, and its edits (AFP Reference, under these names).
use Rattle.std.specs.Prelude.{ℕ, ◌==◌, ◌&&◌, length, Bool, true, List, [], ◌∷◌, Option}
use Rattle.afp_base.specs.declared.code.Code.{Code}
use Rattle.afp_names.specs.Path.{PathValue}
use Rattle.volume_spec.specs.Appls.{add_appl_edits, add_appl_refusal, remove_appl_edits, remove_appl_refusal}
use Rattle.volume_spec.specs.Comments.{add_comment_edits, add_comment_refusal, remove_comment_edits, remove_comment_refusal}
use Rattle.volume_spec.specs.CopyFile.{Source, copy_file_edits, copy_file_refusal}
use Rattle.volume_spec.specs.CreateDir.{create_dir_edits, create_dir_refusal}
use Rattle.volume_spec.specs.CreateFile.{create_file_edits, create_file_refusal}
use Rattle.volume_spec.specs.Delete.{delete_edits, delete_refusal}
use Rattle.volume_spec.specs.Edit.{Edit, Sets, edits_at}
use Rattle.volume_spec.specs.ExchangeFiles.{exchange_files_edits, exchange_files_refusal}
use Rattle.volume_spec.specs.FileIds.{create_id_edits, create_id_refusal, delete_id_edits, delete_id_refusal}
use Rattle.volume_spec.specs.Icons.{add_icon_edits, add_icon_refusal}
use Rattle.volume_spec.specs.MoveAndRename.{move_edits, move_refusal}
use Rattle.volume_spec.specs.Rename.{rename_edits, rename_refusal}
use Rattle.volume_spec.specs.SetFileDirParms.{set_dir_parms_refusal, set_file_dir_parms_refusal, set_file_parms_refusal, settings_in}
use Rattle.volume_spec.specs.SetVolParms.{set_vol_parms_edits, set_vol_parms_refusal}
use Rattle.volume_spec.specs.Shared.{Opened}
use Rattle.volume_spec.specs.SoundVolume.{code_size, is_formed, is_icon}
use Rattle.volume_spec.specs.VolumeState.{Icon, VolumeState}
use Rattle.volume_spec.specs.Walk.{is_named_path, found}

-- a call that changes a volume
pub data VolumeCall : Type 0 where
  CreateDir : ℕ → PathValue → VolumeCall
  CreateFile : Bool → ℕ → PathValue → VolumeCall
  Delete : ℕ → PathValue → VolumeCall
  Rename : ℕ → PathValue → PathValue → VolumeCall
  MoveAndRename : ℕ → PathValue → ℕ → PathValue → PathValue → VolumeCall
  SetFileParms : ℕ → ℕ → PathValue → List ℕ → VolumeCall
  SetDirParms : ℕ → ℕ → PathValue → List ℕ → VolumeCall
  SetFileDirParms : ℕ → ℕ → PathValue → List ℕ → VolumeCall
  SetVolParms : ℕ → List ℕ → VolumeCall
  CopyFile : Source → ℕ → PathValue → PathValue → VolumeCall
  ExchangeFiles : ℕ → PathValue → ℕ → PathValue → VolumeCall
  CreateID : ℕ → PathValue → VolumeCall
  DeleteID : ℕ → VolumeCall
  AddIcon : Icon → VolumeCall
  AddAPPL : ℕ → List ℕ → ℕ → PathValue → VolumeCall
  RemoveAPPL : ℕ → List ℕ → PathValue → VolumeCall
  AddComment : ℕ → PathValue → List ℕ → VolumeCall
  RemoveComment : ℕ → PathValue → VolumeCall

-- why a call of a user is refused, where these forks are open
abbrev pub volume_refusal : VolumeState → ℕ → List Opened → VolumeCall → Option Code
volume_refusal v user opens (CreateDir dir path) = create_dir_refusal v user dir path
volume_refusal v user opens (CreateFile hard dir path) = create_file_refusal v user opens hard dir path
volume_refusal v user opens (Delete dir path) = delete_refusal v user opens dir path
volume_refusal v user opens (Rename dir path new) = rename_refusal v user dir path new
volume_refusal v user opens (MoveAndRename dir path to_dir to_path new) = move_refusal v user dir path to_dir to_path new
volume_refusal v user opens (SetFileParms dir bits path tail) = set_file_parms_refusal v user dir bits path tail
volume_refusal v user opens (SetDirParms dir bits path tail) = set_dir_parms_refusal v user dir bits path tail
volume_refusal v user opens (SetFileDirParms dir bits path tail) = set_file_dir_parms_refusal v user dir bits path tail
volume_refusal v user opens (SetVolParms bits tail) = set_vol_parms_refusal bits tail
volume_refusal v user opens (CopyFile source dir path new) = copy_file_refusal v user source dir path new
volume_refusal v user opens (ExchangeFiles dir path second_dir second_path) = exchange_files_refusal v user dir path second_dir second_path
volume_refusal v user opens (CreateID dir path) = create_id_refusal v user dir path
volume_refusal v user opens (DeleteID id) = delete_id_refusal v user id
volume_refusal v user opens (AddIcon icon) = add_icon_refusal v icon
volume_refusal v user opens (AddAPPL dir creator tag path) = add_appl_refusal v user dir creator path
volume_refusal v user opens (RemoveAPPL dir creator path) = remove_appl_refusal v user dir creator path
volume_refusal v user opens (AddComment dir path text) = add_comment_refusal v user dir path
volume_refusal v user opens (RemoveComment dir path) = remove_comment_refusal v user dir path

-- the settings of a tail for the node that was found
abbrev pub sets_parms : VolumeState → ℕ → ℕ → ℕ → PathValue → List ℕ → List Edit
sets_parms v user dir bits path tail = edits_at (found v.rows user dir path) (λ id. Sets id (settings_in bits tail) ∷ [])

-- what a call of a user does that is not refused
unfoldable pub call_edits : VolumeState → ℕ → ℕ → VolumeCall → List Edit
call_edits v user now (CreateDir dir path) = create_dir_edits v user now dir path
call_edits v user now (CreateFile hard dir path) = create_file_edits v user now dir path
call_edits v user now (Delete dir path) = delete_edits v user now dir path
call_edits v user now (Rename dir path new) = rename_edits v user now dir path new
call_edits v user now (MoveAndRename dir path to_dir to_path new) = move_edits v user now dir path to_dir to_path new
call_edits v user now (SetFileParms dir bits path tail) = sets_parms v user dir bits path tail
call_edits v user now (SetDirParms dir bits path tail) = sets_parms v user dir bits path tail
call_edits v user now (SetFileDirParms dir bits path tail) = sets_parms v user dir bits path tail
call_edits v user now (SetVolParms bits tail) = set_vol_parms_edits tail
call_edits v user now (CopyFile source dir path new) = copy_file_edits v user now source dir path new
call_edits v user now (ExchangeFiles dir path second_dir second_path) = exchange_files_edits v user dir path second_dir second_path
call_edits v user now (CreateID dir path) = create_id_edits v user dir path
call_edits v user now (DeleteID id) = delete_id_edits id
call_edits v user now (AddIcon icon) = add_icon_edits icon
call_edits v user now (AddAPPL dir creator tag path) = add_appl_edits v user dir creator tag path
call_edits v user now (RemoveAPPL dir creator path) = remove_appl_edits v user dir creator path
call_edits v user now (AddComment dir path text) = add_comment_edits v user dir path text
call_edits v user now (RemoveComment dir path) = remove_comment_edits v user dir path

-- whether the names of a call are names, what is copied is formed, and what is put into the desktop database has the form of that
abbrev pub is_formed_call : VolumeCall → Bool
is_formed_call (CreateDir dir path) = is_named_path path
is_formed_call (CreateFile hard dir path) = is_named_path path
is_formed_call (Rename dir path new) = is_named_path new
is_formed_call (MoveAndRename dir path to_dir to_path new) = is_named_path new
is_formed_call (CopyFile source dir path new) = is_formed source.file && is_named_path new
is_formed_call (AddIcon icon) = is_icon icon
is_formed_call (AddAPPL dir creator tag path) = length creator == code_size
is_formed_call call = true
