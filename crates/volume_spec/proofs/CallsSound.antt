-- Each call of the tree that is not refused keeps a sound volume sound, since its edits do.
use Rattle.std.proofs.Common.{◌≡◌, subst, ℕ, Bool, true, List, [], ◌∷◌, None}
use Rattle.afp_names.specs.Path.{PathValue}
use Rattle.volume_spec.proofs.CallsMay.{create-dir-may, create-file-may, delete-may, move-may, rename-may, set-dir-may, set-file-dir-may, set-file-may}
use Rattle.volume_spec.proofs.EditsSound.{call-sound}
use Rattle.volume_spec.proofs.EffectEdits.{effects-are}
use Rattle.volume_spec.specs.CreateDir.{create_dir_refusal, create_dir_effect}
use Rattle.volume_spec.specs.CreateFile.{create_file_refusal, create_file_effect}
use Rattle.volume_spec.specs.Delete.{delete_refusal, delete_effect}
use Rattle.volume_spec.specs.Edit.{Sets, BacksUp, edited}
use Rattle.volume_spec.specs.EditLaws.{MayEditAll, volume_call}
use Rattle.volume_spec.specs.MoveAndRename.{move_refusal, move_effect}
use Rattle.volume_spec.specs.Parms.{date_in}
use Rattle.volume_spec.specs.Rename.{rename_refusal, rename_effect}
use Rattle.volume_spec.specs.SetFileDirParms.{Settings, are_fit_settings, with_node_set, set_file_parms_refusal, set_dir_parms_refusal, set_file_dir_parms_refusal, set_parms_effect}
use Rattle.volume_spec.specs.SetVolParms.{set_vol_parms_effect}
use Rattle.volume_spec.specs.Shared.{Opened}
use Rattle.volume_spec.specs.SoundVolume.{IsSoundVolume}
use Rattle.volume_spec.specs.TreeSteps as tree
use Rattle.volume_spec.specs.TreeSteps.{TreeCall, tree_effect}
use Rattle.volume_spec.specs.VolumeCalls.{call_edits}
use Rattle.volume_spec.specs.VolumeState.{VolumeState}
use Rattle.volume_spec.specs.Walk.{is_named_path}

-- the effect of a call is sound where its edits may be made
by-edits : (v : VolumeState) (user : ℕ) (now : ℕ) (call : TreeCall) → MayEditAll v (call_edits v user now (volume_call call)) → IsSoundVolume v → IsSoundVolume (tree_effect v user now call)
by-edits v user now call may s = subst IsSoundVolume (effects-are v user now call) (call-sound v now (call_edits v user now (volume_call call)) may s)

pub create-dir-sound : (v : VolumeState) (user : ℕ) (now dir : ℕ) (path : PathValue) → is_named_path path ≡ true → create_dir_refusal v user dir path ≡ None → IsSoundVolume v → IsSoundVolume (create_dir_effect v user now dir path)
create-dir-sound v user now dir path named passes s = by-edits v user now (tree.CreateDir dir path) (create-dir-may v user now dir path named passes s) s

pub create-file-sound : (v : VolumeState) (user : ℕ) (opens : List Opened) (hard : Bool) (now dir : ℕ) (path : PathValue) → is_named_path path ≡ true → create_file_refusal v user opens hard dir path ≡ None → IsSoundVolume v → IsSoundVolume (create_file_effect v user now dir path)
create-file-sound v user opens hard now dir path named passes s = by-edits v user now (tree.CreateFile hard dir path) (create-file-may v user opens hard now dir path named passes s) s

pub delete-sound : (v : VolumeState) (user : ℕ) (opens : List Opened) (now dir : ℕ) (path : PathValue) → delete_refusal v user opens dir path ≡ None → IsSoundVolume v → IsSoundVolume (delete_effect v user now dir path)
delete-sound v user opens now dir path passes s = by-edits v user now (tree.Delete dir path) (delete-may v user opens now dir path passes) s

pub rename-sound : (v : VolumeState) (user : ℕ) (now dir : ℕ) (path new : PathValue) → is_named_path new ≡ true → rename_refusal v user dir path new ≡ None → IsSoundVolume v → IsSoundVolume (rename_effect v user now dir path new)
rename-sound v user now dir path new named passes s = by-edits v user now (tree.Rename dir path new) (rename-may v user now dir path new named passes s) s

pub move-sound : (v : VolumeState) (user : ℕ) (now dir : ℕ) (path : PathValue) (to_dir : ℕ) (to_path new : PathValue) → is_named_path new ≡ true → move_refusal v user dir path to_dir to_path new ≡ None → IsSoundVolume v → IsSoundVolume (move_effect v user now dir path to_dir to_path new)
move-sound v user now dir path to_dir to_path new named passes s = by-edits v user now (tree.MoveAndRename dir path to_dir to_path new) (move-may v user now dir path to_dir to_path new named passes s) s

pub node-set-sound : (v : VolumeState) (now id : ℕ) (s : Settings) → are_fit_settings s ≡ true → IsSoundVolume v → IsSoundVolume (with_node_set now id s v)
unfolding with_node_set edited
node-set-sound v now id s fit h = call-sound v now (Sets id s ∷ []) (fit, tt) h

pub set-file-sound : (v : VolumeState) (user : ℕ) (now dir bits : ℕ) (path : PathValue) (tail : List ℕ) → set_file_parms_refusal v user dir bits path tail ≡ None → IsSoundVolume v → IsSoundVolume (set_parms_effect v user now dir bits path tail)
set-file-sound v user now dir bits path tail passes s = by-edits v user now (tree.SetFileParms dir bits path tail) (set-file-may v user now dir bits path tail passes) s

pub set-dir-sound : (v : VolumeState) (user : ℕ) (now dir bits : ℕ) (path : PathValue) (tail : List ℕ) → set_dir_parms_refusal v user dir bits path tail ≡ None → IsSoundVolume v → IsSoundVolume (set_parms_effect v user now dir bits path tail)
set-dir-sound v user now dir bits path tail passes s = by-edits v user now (tree.SetDirParms dir bits path tail) (set-dir-may v user now dir bits path tail passes) s

pub set-file-dir-sound : (v : VolumeState) (user : ℕ) (now dir bits : ℕ) (path : PathValue) (tail : List ℕ) → set_file_dir_parms_refusal v user dir bits path tail ≡ None → IsSoundVolume v → IsSoundVolume (set_parms_effect v user now dir bits path tail)
set-file-dir-sound v user now dir bits path tail passes s = by-edits v user now (tree.SetFileDirParms dir bits path tail) (set-file-dir-may v user now dir bits path tail passes) s

pub set-volume-sound : (v : VolumeState) (now : ℕ) (tail : List ℕ) → IsSoundVolume v → IsSoundVolume (set_vol_parms_effect v now tail)
unfolding set_vol_parms_effect edited
set-volume-sound v now tail s = call-sound v now (BacksUp (date_in tail) ∷ []) (tt, tt) s
