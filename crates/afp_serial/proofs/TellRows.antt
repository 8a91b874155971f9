-- What the calls owe that tell something of a volume.
use Rattle.std.proofs.Common.{refl, ℕ, true, false, List, None}
use Rattle.std.proofs.lemmas.Bool.{ltb-true}
use Rattle.afp_base.specs.declared.ids.NodeId.{NodeId}
use Rattle.afp_base.specs.declared.ids.VolumeId.{VolumeId}
use Rattle.afp_names.specs.Path.{PathValue}
use Rattle.afp_bitmap.specs.declared.params.Values.{Values}
use Rattle.afp_bitmap.specs.declared.params.Values.TheVariants.{Volume}
use Rattle.afp_bitmap.specs.declared.volume.VolumeValues.{VolumeValues}
use Rattle.afp_replies.specs.declared.list.ListEntry.{ListEntry}
use Rattle.afp_replies.specs.declared.reply.Reply.TheVariants as replies
use Rattle.afp_replies.specs.declared.reply.Reply.TheVariants.{Empty, FileDirParams, Node, Params}
use Rattle.afp_replies.specs.Commands.{rows, shape_in, shape_of}
use Rattle.afp_calls_grammar.specs.grammar.Words.{u16}
use Rattle.afp_calls_grammar.specs.declared.grammar.call.Call.TheVariants.{CloseDir, Enumerate, EnumerateExt, EnumerateExt2, Flush, GetFileDirParms, GetVolParms, OpenDir}
use Rattle.afp_serial.proofs.LawfulCalls.{field-lawful}
use Rattle.afp_serial.proofs.OnVolumeRows.{Asks, keeper-there, on-refused, tells-sound, told-shown}
use Rattle.afp_serial.proofs.SoundRow.{IsSoundRow, no-keeper, no_more-refuses}
use Rattle.afp_serial.proofs.ToldReplies.{dir-told-to, empty-told, list-told-to, node-values-told-to, volume-told-to}
use Rattle.afp_serial.proofs.VolumeCodes.{list-refuses, node-refuses, open-dir-refuses, volume-refuses}
use Rattle.afp_serial.specs.SessionLaws.{all_stay}
use Rattle.afp_serial.specs.Enumerate.{enumerate_ext2_row, enumerate_ext_row, enumerate_row}
use Rattle.afp_serial.specs.Flush.{flush_row}
use Rattle.afp_serial.specs.GetFileDirParms.{get_file_dir_parms_row}
use Rattle.afp_serial.specs.GetVolParms.{get_vol_parms_row}
use Rattle.afp_serial.specs.OnVolume.{on_volume, opened_on}
use Rattle.afp_serial.specs.OpenDir.{close_dir_row, open_dir_row}
use Rattle.volume_spec.specs.Enumerate.{asked_narrow, asked_wide}
use Rattle.afp_serial.specs.World.{user_of}

-- rows that are refused where the volume is not open, and do and tell nothing else

close-dir-asks : (volume : VolumeId) (dir : NodeId) → Asks (CloseDir volume dir) Empty
unfolding shape_of shape_in rows
close-dir-asks volume dir = refl

pub close-dir-sound : (volume : VolumeId) (dir : NodeId) → IsSoundRow (CloseDir volume dir) (close_dir_row volume.0)
close-dir-sound volume dir = record {
  refuses = λ w s r is h. no_more-refuses (CloseDir volume dir) ((close_dir_row volume.0).refusals w s) r is refl;
  sound = λ w s test lawful found passes h. h;
  fits = λ w s lawful passes h. refl;
  shown = λ w s lawful passes h known. told-shown (CloseDir volume dir) _ (empty-told (CloseDir volume dir) (close-dir-asks volume dir));
  apart = λ w s test found a. a;
  next = λ w s. refl;
  keeper = λ w s index passes commits. no-keeper w index commits;
  old = λ w s n h. h;
  cached = λ w s test found p h. h;
  leaves = λ stays w s. all_stay refl;
}

flush-asks : (volume : VolumeId) → Asks (Flush volume) Empty
unfolding shape_of shape_in rows
flush-asks volume = refl

pub flush-sound : (volume : VolumeId) → IsSoundRow (Flush volume) (flush_row volume.0)
flush-sound volume = record {
  refuses = λ w s r is h. no_more-refuses (Flush volume) (on_volume w s volume.0 (λ v. None)) r is (on-refused w s volume.0 (λ v. None) (λ v. refl));
  sound = λ w s test lawful found passes h. h;
  fits = λ w s lawful passes h. refl;
  shown = λ w s lawful passes h known. told-shown (Flush volume) _ (empty-told (Flush volume) (flush-asks volume));
  apart = λ w s test found a. a;
  next = λ w s. refl;
  keeper = λ w s index passes commits. keeper-there w s volume.0 index (λ v. None) passes commits;
  old = λ w s n h. h;
  cached = λ w s test found p h. h;
  leaves = λ stays w s. all_stay refl;
}

-- of a volume

get-vol-parms-asks : (volume : VolumeId) (bits : ℕ) (values : VolumeValues) → Asks (GetVolParms volume bits) (Params bits (Volume values))
unfolding shape_of shape_in rows
get-vol-parms-asks volume bits values = (refl, refl)

pub get-vol-parms-sound : (volume : VolumeId) (bits : ℕ) → IsSoundRow (GetVolParms volume bits) (get_vol_parms_row volume.0 bits)
get-vol-parms-sound volume bits =
    tells-sound (GetVolParms volume bits) volume.0 _ _ (λ w s v. volume-refuses bits)
    (λ w s v lawful served passes. volume-told-to (GetVolParms volume bits) v volume.0 bits (get-vol-parms-asks volume bits) served passes)

-- of a node

open-dir-asks : (volume : VolumeId) (dir : NodeId) (path : PathValue) (n : NodeId) → Asks (OpenDir volume dir path) (Node n)
unfolding shape_of shape_in rows
open-dir-asks volume dir path n = refl

pub open-dir-sound : (volume : VolumeId) (dir : NodeId) (path : PathValue) → IsSoundRow (OpenDir volume dir path) (open_dir_row volume.0 dir.0 path)
open-dir-sound volume dir path =
    tells-sound (OpenDir volume dir path) volume.0 _ _ (λ w s v. open-dir-refuses v (user_of s) dir.0 path)
    (λ w s v lawful served passes. dir-told-to (OpenDir volume dir path) v (user_of s) volume.0 dir.0 path (open-dir-asks volume dir path) served passes)

get-file-dir-parms-asks : (volume : VolumeId) (dir : NodeId) (file_bits dir_bits : ℕ) (path : PathValue) (values : Values) → Asks (GetFileDirParms volume dir file_bits dir_bits path) (FileDirParams file_bits dir_bits values)
unfolding shape_of shape_in rows
get-file-dir-parms-asks volume dir file_bits dir_bits path values = (refl, refl, refl)

pub get-file-dir-parms-sound : (volume : VolumeId) (dir : NodeId) (file_bits dir_bits : ℕ) (path : PathValue) → IsSoundRow (GetFileDirParms volume dir file_bits dir_bits path) (get_file_dir_parms_row volume.0 dir.0 file_bits dir_bits path)
get-file-dir-parms-sound volume dir file_bits dir_bits path =
    tells-sound (GetFileDirParms volume dir file_bits dir_bits path) volume.0 _ _ (λ w s v. node-refuses v (user_of s) file_bits dir_bits dir.0 path)
    (λ w s v lawful served passes. node-values-told-to (GetFileDirParms volume dir file_bits dir_bits path) v (user_of s) (opened_on w volume.0) volume.0 file_bits dir_bits dir.0 path
    (get-file-dir-parms-asks volume dir file_bits dir_bits path) served passes)

-- of the children of a directory

enumerate-asks : (volume : VolumeId) (dir : NodeId) (file_bits dir_bits count start size : ℕ) (path : PathValue) (entries : List ListEntry) → Asks (Enumerate volume dir file_bits dir_bits count start size path) (replies.List false file_bits dir_bits entries)
unfolding shape_of shape_in rows
enumerate-asks volume dir file_bits dir_bits count start size path entries = (refl, refl, refl)

pub enumerate-sound : (volume : VolumeId) (dir : NodeId) (file_bits dir_bits count start size : ℕ) (path : PathValue) → IsSoundRow (Enumerate volume dir file_bits dir_bits count start size path) (enumerate_row volume.0 dir.0 file_bits dir_bits count start size path)
enumerate-sound volume dir file_bits dir_bits count start size path =
    tells-sound (Enumerate volume dir file_bits dir_bits count start size path) volume.0 _ _ (λ w s v. list-refuses v (opened_on w volume.0) (asked_narrow (user_of s) file_bits dir_bits count start size) dir.0 path)
    (λ w s v lawful served passes. list-told-to (Enumerate volume dir file_bits dir_bits count start size path) v (opened_on w volume.0) (asked_narrow (user_of s) file_bits dir_bits count start size) volume.0 dir.0 path
    (enumerate-asks volume dir file_bits dir_bits count start size path)
    (ltb-true count 65536 (field-lawful (Enumerate volume dir file_bits dir_bits count start size path) 6 (u16 count) lawful refl)) served passes)

enumerate-ext-asks : (volume : VolumeId) (dir : NodeId) (file_bits dir_bits count start size : ℕ) (path : PathValue) (entries : List ListEntry) → Asks (EnumerateExt volume dir file_bits dir_bits count start size path) (replies.List true file_bits dir_bits entries)
unfolding shape_of shape_in rows
enumerate-ext-asks volume dir file_bits dir_bits count start size path entries = (refl, refl, refl)

pub enumerate-ext-sound : (volume : VolumeId) (dir : NodeId) (file_bits dir_bits count start size : ℕ) (path : PathValue) → IsSoundRow (EnumerateExt volume dir file_bits dir_bits count start size path) (enumerate_ext_row volume.0 dir.0 file_bits dir_bits count start size path)
enumerate-ext-sound volume dir file_bits dir_bits count start size path =
    tells-sound (EnumerateExt volume dir file_bits dir_bits count start size path) volume.0 _ _ (λ w s v. list-refuses v (opened_on w volume.0) (asked_wide (user_of s) file_bits dir_bits count start size) dir.0 path)
    (λ w s v lawful served passes. list-told-to (EnumerateExt volume dir file_bits dir_bits count start size path) v (opened_on w volume.0) (asked_wide (user_of s) file_bits dir_bits count start size) volume.0 dir.0 path
    (enumerate-ext-asks volume dir file_bits dir_bits count start size path)
    (ltb-true count 65536 (field-lawful (EnumerateExt volume dir file_bits dir_bits count start size path) 6 (u16 count) lawful refl)) served passes)

enumerate-ext2-asks : (volume : VolumeId) (dir : NodeId) (file_bits dir_bits count start size : ℕ) (path : PathValue) (entries : List ListEntry) → Asks (EnumerateExt2 volume dir file_bits dir_bits count start size path) (replies.List true file_bits dir_bits entries)
unfolding shape_of shape_in rows
enumerate-ext2-asks volume dir file_bits dir_bits count start size path entries = (refl, refl, refl)

pub enumerate-ext2-sound : (volume : VolumeId) (dir : NodeId) (file_bits dir_bits count start size : ℕ) (path : PathValue) → IsSoundRow (EnumerateExt2 volume dir file_bits dir_bits count start size path) (enumerate_ext2_row volume.0 dir.0 file_bits dir_bits count start size path)
enumerate-ext2-sound volume dir file_bits dir_bits count start size path =
    tells-sound (EnumerateExt2 volume dir file_bits dir_bits count start size path) volume.0 _ _ (λ w s v. list-refuses v (opened_on w volume.0) (asked_wide (user_of s) file_bits dir_bits count start size) dir.0 path)
    (λ w s v lawful served passes. list-told-to (EnumerateExt2 volume dir file_bits dir_bits count start size path) v (opened_on w volume.0) (asked_wide (user_of s) file_bits dir_bits count start size) volume.0 dir.0 path
    (enumerate-ext2-asks volume dir file_bits dir_bits count start size path)
    (ltb-true count 65536 (field-lawful (EnumerateExt2 volume dir file_bits dir_bits count start size path) 6 (u16 count) lawful refl)) served passes)
