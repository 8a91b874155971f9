-- What the calls owe that change the tree of a volume.
use Rattle.std.proofs.Common.{refl, ℕ, ◌&&◌, List, None}
use Rattle.std.proofs.lemmas.Bool.{and_from}
use Rattle.afp_base.specs.declared.ids.NodeId.{NodeId}
use Rattle.afp_base.specs.declared.ids.VolumeId.{VolumeId}
use Rattle.afp_names.specs.Path.{PathValue}
use Rattle.afp_replies.specs.declared.reply.Reply.TheVariants.{Empty, Node}
use Rattle.afp_replies.specs.Commands.{rows, shape_in, shape_of}
use Rattle.afp_calls_grammar.specs.grammar.Words.{pathname, tail}
use Rattle.afp_calls_grammar.specs.declared.grammar.call.Call.TheVariants as calls
use Rattle.afp_serial.proofs.LawfulCalls.{field-lawful}
use Rattle.afp_serial.proofs.OnVolumeRows.{Asks, changes-sound}
use Rattle.afp_serial.proofs.SoundRow.{IsSoundRow}
use Rattle.afp_serial.proofs.ToldReplies.{empty-told, made-told-to}
use Rattle.afp_serial.specs.CreateDir.{create_dir_row}
use Rattle.afp_serial.specs.CreateFile.{create_file_row}
use Rattle.afp_serial.specs.Place.{delete_row, move_and_rename_row, rename_row}
use Rattle.afp_serial.specs.SetFileDirParms.{set_dir_parms_row, set_file_dir_parms_row, set_file_parms_row}
use Rattle.afp_serial.specs.SetVolParms.{set_vol_parms_row}
use Rattle.volume_spec.specs.CreateFile.{is_hard}
use Rattle.volume_spec.specs.TreeSteps.{CreateDir, CreateFile, Delete, MoveAndRename, Rename, SetDirParms, SetFileDirParms, SetFileParms, SetVolParms}
use Rattle.volume_spec.specs.Walk.{is_named_path}
use Rattle.afp_serial.specs.World.{user_of}
use Rattle.afp_serial.specs.Users.{user_ids}
use Rattle.afp_serial.proofs.VolumeCodes.{nobody-refuses}
use Rattle.volume_spec.specs.SetFileDirParms.{set_dir_parms_behind}

-- FPCreateDir

create-dir-asks : (volume : VolumeId) (dir : NodeId) (path : PathValue) (n : NodeId) → Asks (calls.CreateDir volume dir path) (Node n)
unfolding shape_of shape_in rows
create-dir-asks volume dir path n = refl

pub create-dir-sound : (volume : VolumeId) (dir : NodeId) (path : PathValue) → IsSoundRow (calls.CreateDir volume dir path) (create_dir_row volume.0 dir.0 path)
create-dir-sound volume dir path =
    changes-sound (calls.CreateDir volume dir path) volume.0 (CreateDir dir.0 path) (λ w. None) _ (λ w. refl)
    (λ lawful. (field-lawful (calls.CreateDir volume dir path) 4 (pathname path) lawful refl, refl))
    (λ w s v served passes. made-told-to (calls.CreateDir volume dir path) v (user_of s) dir.0 path (create-dir-asks volume dir path) passes)

-- FPCreateFile

create-file-asks : (flag : ℕ) (volume : VolumeId) (dir : NodeId) (path : PathValue) → Asks (calls.CreateFile flag volume dir path) Empty
unfolding shape_of shape_in rows
create-file-asks flag volume dir path = refl

pub create-file-sound : (flag : ℕ) (volume : VolumeId) (dir : NodeId) (path : PathValue) → IsSoundRow (calls.CreateFile flag volume dir path) (create_file_row flag volume.0 dir.0 path)
create-file-sound flag volume dir path =
    changes-sound (calls.CreateFile flag volume dir path) volume.0 (CreateFile (is_hard flag) dir.0 path) (λ w. None) _ (λ w. refl)
    (λ lawful. (field-lawful (calls.CreateFile flag volume dir path) 4 (pathname path) lawful refl, refl))
    (λ w s v served passes. empty-told (calls.CreateFile flag volume dir path) (create-file-asks flag volume dir path))

-- FPDelete

delete-asks : (volume : VolumeId) (dir : NodeId) (path : PathValue) → Asks (calls.Delete volume dir path) Empty
unfolding shape_of shape_in rows
delete-asks volume dir path = refl

pub delete-sound : (volume : VolumeId) (dir : NodeId) (path : PathValue) → IsSoundRow (calls.Delete volume dir path) (delete_row volume.0 dir.0 path)
delete-sound volume dir path =
    changes-sound (calls.Delete volume dir path) volume.0 (Delete dir.0 path) (λ w. None) _ (λ w. refl)
    (λ lawful. (field-lawful (calls.Delete volume dir path) 4 (pathname path) lawful refl, refl))
    (λ w s v served passes. empty-told (calls.Delete volume dir path) (delete-asks volume dir path))

-- FPRename

rename-asks : (volume : VolumeId) (dir : NodeId) (path new_path : PathValue) → Asks (calls.Rename volume dir path new_path) Empty
unfolding shape_of shape_in rows
rename-asks volume dir path new_path = refl

pub rename-sound : (volume : VolumeId) (dir : NodeId) (path new_path : PathValue) → IsSoundRow (calls.Rename volume dir path new_path) (rename_row volume.0 dir.0 path new_path)
rename-sound volume dir path new_path =
    changes-sound (calls.Rename volume dir path new_path) volume.0 (Rename dir.0 path new_path) (λ w. None) _ (λ w. refl)
    (λ lawful. (and_from (is_named_path path) (is_named_path new_path) (field-lawful (calls.Rename volume dir path new_path) 4 (pathname path) lawful refl) (field-lawful (calls.Rename volume dir path new_path) 5 (pathname new_path) lawful refl), refl))
    (λ w s v served passes. empty-told (calls.Rename volume dir path new_path) (rename-asks volume dir path new_path))

-- FPMoveAndRename

move-and-rename-asks : (volume : VolumeId) (dir target_dir : NodeId) (path target_path new_path : PathValue) → Asks (calls.MoveAndRename volume dir target_dir path target_path new_path) Empty
unfolding shape_of shape_in rows
move-and-rename-asks volume dir target_dir path target_path new_path = refl

pub move-and-rename-sound : (volume : VolumeId) (dir target_dir : NodeId) (path target_path new_path : PathValue) → IsSoundRow (calls.MoveAndRename volume dir target_dir path target_path new_path) (move_and_rename_row volume.0 dir.0 path target_dir.0 target_path new_path)
move-and-rename-sound volume dir target_dir path target_path new_path =
    changes-sound (calls.MoveAndRename volume dir target_dir path target_path new_path) volume.0 (MoveAndRename dir.0 path target_dir.0 target_path new_path) (λ w. None) _ (λ w. refl)
    (λ lawful. (
      and_from (is_named_path path) (is_named_path target_path && is_named_path new_path) (field-lawful (calls.MoveAndRename volume dir target_dir path target_path new_path) 5 (pathname path) lawful refl)
          (and_from (is_named_path target_path) (is_named_path new_path) (field-lawful (calls.MoveAndRename volume dir target_dir path target_path new_path) 6 (pathname target_path) lawful refl) (field-lawful (calls.MoveAndRename volume dir target_dir path target_path new_path) 7 (pathname new_path) lawful refl)),
      refl,
    ))
    (λ w s v served passes. empty-told (calls.MoveAndRename volume dir target_dir path target_path new_path) (move-and-rename-asks volume dir target_dir path target_path new_path))

-- FPSetFileParms

set-file-parms-asks : (volume : VolumeId) (dir : NodeId) (bits : ℕ) (path : PathValue) (rest : List ℕ) → Asks (calls.SetFileParms volume dir bits path rest) Empty
unfolding shape_of shape_in rows
set-file-parms-asks volume dir bits path rest = refl

pub set-file-parms-sound : (volume : VolumeId) (dir : NodeId) (bits : ℕ) (path : PathValue) (rest : List ℕ) → IsSoundRow (calls.SetFileParms volume dir bits path rest) (set_file_parms_row volume.0 dir.0 bits path rest)
set-file-parms-sound volume dir bits path rest =
    changes-sound (calls.SetFileParms volume dir bits path rest) volume.0 (SetFileParms dir.0 bits path rest) (λ w. None) _ (λ w. refl)
    (λ lawful. (field-lawful (calls.SetFileParms volume dir bits path rest) 5 (pathname path) lawful refl, field-lawful (calls.SetFileParms volume dir bits path rest) 7 (tail rest) lawful refl))
    (λ w s v served passes. empty-told (calls.SetFileParms volume dir bits path rest) (set-file-parms-asks volume dir bits path rest))

-- FPSetDirParms

set-dir-parms-asks : (volume : VolumeId) (dir : NodeId) (bits : ℕ) (path : PathValue) (rest : List ℕ) → Asks (calls.SetDirParms volume dir bits path rest) Empty
unfolding shape_of shape_in rows
set-dir-parms-asks volume dir bits path rest = refl

pub set-dir-parms-sound : (volume : VolumeId) (dir : NodeId) (bits : ℕ) (path : PathValue) (rest : List ℕ) → IsSoundRow (calls.SetDirParms volume dir bits path rest) (set_dir_parms_row volume.0 dir.0 bits path rest)
set-dir-parms-sound volume dir bits path rest =
    changes-sound (calls.SetDirParms volume dir bits path rest) volume.0 (SetDirParms dir.0 bits path rest) (λ w. set_dir_parms_behind (user_ids w.house.users) bits rest) _ (λ w. nobody-refuses (user_ids w.house.users) bits rest)
    (λ lawful. (field-lawful (calls.SetDirParms volume dir bits path rest) 5 (pathname path) lawful refl, field-lawful (calls.SetDirParms volume dir bits path rest) 7 (tail rest) lawful refl))
    (λ w s v served passes. empty-told (calls.SetDirParms volume dir bits path rest) (set-dir-parms-asks volume dir bits path rest))

-- FPSetFileDirParms

set-file-dir-parms-asks : (volume : VolumeId) (dir : NodeId) (bits : ℕ) (path : PathValue) (rest : List ℕ) → Asks (calls.SetFileDirParms volume dir bits path rest) Empty
unfolding shape_of shape_in rows
set-file-dir-parms-asks volume dir bits path rest = refl

pub set-file-dir-parms-sound : (volume : VolumeId) (dir : NodeId) (bits : ℕ) (path : PathValue) (rest : List ℕ) → IsSoundRow (calls.SetFileDirParms volume dir bits path rest) (set_file_dir_parms_row volume.0 dir.0 bits path rest)
set-file-dir-parms-sound volume dir bits path rest =
    changes-sound (calls.SetFileDirParms volume dir bits path rest) volume.0 (SetFileDirParms dir.0 bits path rest) (λ w. None) _ (λ w. refl)
    (λ lawful. (field-lawful (calls.SetFileDirParms volume dir bits path rest) 5 (pathname path) lawful refl, field-lawful (calls.SetFileDirParms volume dir bits path rest) 7 (tail rest) lawful refl))
    (λ w s v served passes. empty-told (calls.SetFileDirParms volume dir bits path rest) (set-file-dir-parms-asks volume dir bits path rest))

-- FPSetVolParms

set-vol-parms-asks : (volume : VolumeId) (bits : ℕ) (rest : List ℕ) → Asks (calls.SetVolParms volume bits rest) Empty
unfolding shape_of shape_in rows
set-vol-parms-asks volume bits rest = refl

pub set-vol-parms-sound : (volume : VolumeId) (bits : ℕ) (rest : List ℕ) → IsSoundRow (calls.SetVolParms volume bits rest) (set_vol_parms_row volume.0 bits rest)
set-vol-parms-sound volume bits rest =
    changes-sound (calls.SetVolParms volume bits rest) volume.0 (SetVolParms bits rest) (λ w. None) _ (λ w. refl)
    (λ lawful. (refl, field-lawful (calls.SetVolParms volume bits rest) 4 (tail rest) lawful refl))
    (λ w s v served passes. empty-told (calls.SetVolParms volume bits rest) (set-vol-parms-asks volume bits rest))
