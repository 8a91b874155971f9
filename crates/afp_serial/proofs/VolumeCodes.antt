-- Each refusal of a call on one volume has a code under which no more is told.
use Rattle.std.proofs.Common.{◌==◌, ◌≡◌, refl, ℕ, Bool, true, not, ◌&&◌, List, [], ◌∷◌, length, take, Option, Some, None, false}
use Rattle.std.specs.Prelude.{bit_and, Result, Ok, Err, nat_lt}
use Rattle.std.specs.List.{list_all}
use Rattle.std.proofs.lemmas.Bool.{and_parts, cond_both}
use Rattle.afp_base.specs.Choice.{first_holding}
use Rattle.afp_base.specs.declared.code.Code.{Code}
use Rattle.afp_base.specs.declared.code.Code.TheVariants.{AccessDenied, BadIDErr, BitmapErr, CantMove, CantRename, DirNotEmpty, DirNotFound, DiskFull, FileBusy, IDExists, IDNotFound, ItemNotFound, ObjectExists, ObjectLocked, ObjectNotFound, ObjectTypeErr, ParamErr, SameObjectErr}
use Rattle.afp_bitmap.specs.Bits.{dir_mask, file_mask, is_outside}
use Rattle.afp_names.specs.Name.{name_key}
use Rattle.afp_names.specs.Path.{PathValue}
use Rattle.afp_names.specs.declared.path.Step.{Step}
use Rattle.afp_names.specs.declared.path.Step.TheVariants.{Down, Up}
use Rattle.afp_serial.proofs.SoundRow.{tells_no_more}
use Rattle.volume_spec.specs.Appls.{add_appl_refusal, get_appl_refusal, remove_appl_refusal}
use Rattle.volume_spec.specs.Comments.{add_comment_refusal, get_comment_refusal, remove_comment_refusal}
use Rattle.volume_spec.specs.CopyFile.{copied_refusal}
use Rattle.volume_spec.specs.ExchangeFiles.{exchange_files_refusal, lacks_either}
use Rattle.volume_spec.specs.FileIds.{create_id_refusal, delete_id_refusal, resolve_id_refusal}
use Rattle.volume_spec.specs.Icons.{add_icon_refusal, get_icon_info_refusal, get_icon_refusal}
use Rattle.volume_spec.specs.Edits.{has_children}
use Rattle.volume_spec.specs.Rights.{is_closed, is_owner, lacks, read_right, write_right}
use Rattle.volume_spec.specs.Shared.{Opened, behind, delete_inhibit, first_or, has_attribute, is_busy, lacks_above, refused_else, write_inhibit}
use Rattle.volume_spec.specs.SoundVolume.{has_file}
use Rattle.volume_spec.specs.CreateDir.{create_dir_refusal}
use Rattle.volume_spec.specs.CreateFile.{create_file_refusal, create_file_there}
use Rattle.volume_spec.specs.Delete.{delete_refusal}
use Rattle.volume_spec.specs.Enumerate.{ListAsked, counted_children, enumerate_refusal, fits_reply, from_start}
use Rattle.volume_spec.specs.GetFileDirParms.{get_file_dir_parms_refusal}
use Rattle.volume_spec.specs.GetVolParms.{get_vol_parms_refusal}
use Rattle.volume_spec.specs.MoveAndRename.{move_refusal}
use Rattle.volume_spec.specs.OpenDir.{open_dir_refusal}
use Rattle.volume_spec.specs.OpenFork.{open_fork_refusal}
use Rattle.volume_spec.specs.Rename.{rename_refusal}
use Rattle.volume_spec.specs.SetFileDirParms.{is_short_tail, owner_bits, set_dir_parms_behind, set_dir_parms_refusal, set_file_dir_parms_refusal, set_file_parms_refusal}
use Rattle.volume_spec.specs.SetVolParms.{set_vol_parms_refusal}
use Rattle.volume_spec.specs.TreeSteps.{TreeCall, CreateDir, CreateFile, Delete, MoveAndRename, Rename, SetDirParms, SetFileDirParms, SetFileParms, SetVolParms, tree_refusal}
use Rattle.volume_spec.specs.VolumeState.{Icon, Row, VolumeState, root_id, root_parent}
use Rattle.volume_spec.specs.Walk.{before_down, child, child_by_key, failed_down, found, has_directory, is_start, named_in, new_place, not_above_root, one_down, one_down_or, onward, parent_at, place_behind, unless_closed, walk, walk_from}

-- such a code, or none
abbrev pub is_refusal : Option Code → Bool
is_refusal None = true
is_refusal (Some code) = tells_no_more code

-- a result that fails with such a code
abbrev pub fails_rightly : {A : Type 0} → Result A Code → Bool
fails_rightly (Ok a) = true
fails_rightly (Err code) = tells_no_more code

-- conditions with such codes
abbrev pub are_refusals : List (Bool × Code) → Bool
are_refusals rows = list_all (λ row. tells_no_more row.1) rows

-- lists of conditions, and what stands behind walks

first-refuses : (rows : List (Bool × Code)) → are_refusals rows ≡ true → is_refusal (first_holding rows) ≡ true
first-refuses [] h = refl
first-refuses (row ∷ rows) h =
    let e = and_parts (tells_no_more row.1) (are_refusals rows) h in
    cond_both row.0 (Some row.1) (first_holding rows) (λ o. is_refusal o ≡ true) (λ holds. e.0) (λ other. first-refuses rows e.1)

or-refuses : (rows : List (Bool × Code)) (rest : Option Code) → are_refusals rows ≡ true → is_refusal rest ≡ true → is_refusal (first_or rows rest) ≡ true
or-refuses [] rest h k = k
or-refuses (row ∷ rows) rest h k =
    let e = and_parts (tells_no_more row.1) (are_refusals rows) h in
    cond_both row.0 (Some row.1) (first_or rows rest) (λ o. is_refusal o ≡ true) (λ holds. e.0) (λ other. or-refuses rows rest e.1 k)

behind-refuses : {A : Type 0} (r : Result A Code) (refused : A → Option Code) → fails_rightly r ≡ true → ((a : A) → is_refusal (refused a) ≡ true) → is_refusal (behind r refused) ≡ true
behind-refuses (Ok a) refused h gives = gives a
behind-refuses (Err code) refused h gives = h

-- walks

onward-fails : (o : Option ℕ) (code : Code) (rest : ℕ → Result ℕ Code) → tells_no_more code ≡ true → ((id : ℕ) → fails_rightly (rest id) ≡ true) → fails_rightly (onward o code rest) ≡ true
onward-fails None code rest h gives = h
onward-fails (Some id) code rest h gives = gives id

missing-down : (missing : Code) (steps : List Step) → tells_no_more missing ≡ true → tells_no_more (failed_down missing steps) ≡ true
missing-down missing [] h = h
missing-down missing (step ∷ steps) h = refl

closed-fails : (closed : Bool) (goes : Result ℕ Code) → fails_rightly goes ≡ true → fails_rightly (unless_closed closed goes) ≡ true
closed-fails true goes h = refl
closed-fails false goes h = h

from-fails : (rows : List Row) (user kind : ℕ) (missing : Code) (steps : List Step) (here : ℕ) → tells_no_more missing ≡ true → fails_rightly (walk_from rows user kind missing steps here) ≡ true
from-fails rows user kind missing [] here h = refl
from-fails rows user kind missing (Up ∷ steps) here h = onward-fails (parent_at rows here) ObjectNotFound (walk_from rows user kind missing steps) refl (λ id. from-fails rows user kind missing steps id h)
from-fails rows user kind missing (Down name ∷ steps) here h =
    closed-fails (is_closed rows user here) _
    (onward-fails (child rows kind here name) (failed_down missing steps) (walk_from rows user kind missing steps) (missing-down missing steps h) (λ id. from-fails rows user kind missing steps id h))

above-fails : (r : Result ℕ Code) → fails_rightly r ≡ true → fails_rightly (not_above_root r) ≡ true
above-fails (Ok id) h = cond_both (id == root_parent) (Err ObjectNotFound) (Ok id) (λ r. fails_rightly r ≡ true) (λ above. refl) (λ other. refl)
above-fails (Err code) h = h

walk-fails : (rows : List Row) (user kind : ℕ) (missing : Code) (dir : ℕ) (steps : List Step) → tells_no_more missing ≡ true → fails_rightly (walk rows user kind missing dir steps) ≡ true
unfolding walk
walk-fails rows user kind missing dir steps h =
    cond_both (is_start rows dir) (not_above_root (walk_from rows user kind missing steps dir)) (Err DirNotFound) (λ r. fails_rightly r ≡ true)
    (λ starts. above-fails (walk_from rows user kind missing steps dir) (from-fails rows user kind missing steps dir h))
    (λ no. refl)

pub found-fails : (rows : List Row) (user dir : ℕ) (path : PathValue) → fails_rightly (found rows user dir path) ≡ true
found-fails rows user dir path = walk-fails rows user path.kind ObjectNotFound dir path.steps refl

place-fails : (rows : List Row) (user dir : ℕ) (path : PathValue) → fails_rightly (new_place rows user dir path) ≡ true
unfolding new_place
place-fails rows user dir path = by (before_down path.steps)
  where
    in-dir : (name : List ℕ) (r : Result ℕ Code) → fails_rightly r ≡ true → fails_rightly (named_in rows name r) ≡ true
    in-dir name (Ok d) h = cond_both (has_directory rows d) (Ok (record { dir = d; name = name })) (Err DirNotFound) (λ r. fails_rightly r ≡ true) (λ there. refl) (λ other. refl)
    in-dir name (Err code) h = h

    by : (o : Option (List Step × List ℕ)) → fails_rightly (place_behind rows user path.kind dir o) ≡ true
    by None = refl
    by (Some split) = in-dir split.1 (walk rows user path.kind DirNotFound dir split.0) (walk-fails rows user path.kind DirNotFound dir split.0 refl)

down-fails : (steps : List Step) → fails_rightly (one_down steps) ≡ true
down-fails [] = refl
down-fails (Up ∷ steps) = refl
down-fails (Down name ∷ []) = refl
down-fails (Down name ∷ step ∷ steps) = refl

pub down-or-fails : (old : List ℕ) (steps : List Step) → fails_rightly (one_down_or old steps) ≡ true
down-or-fails old [] = refl
down-or-fails old (Up ∷ steps) = refl
down-or-fails old (Down name ∷ []) = refl
down-or-fails old (Down name ∷ step ∷ steps) = refl

-- the calls that change a tree

there-refuses : (v : VolumeState) (opens : List Opened) (hard : Bool) (o : Option ℕ) → is_refusal (create_file_there v opens hard o) ≡ true
there-refuses v opens hard None = first-refuses ((_, DiskFull) ∷ []) refl
there-refuses v opens hard (Some old) = first-refuses ((_, ObjectTypeErr) ∷ (_, ObjectExists) ∷ (_, FileBusy) ∷ (_, ObjectLocked) ∷ (_, DiskFull) ∷ []) refl

pub tree-refuses : (v : VolumeState) (user : ℕ) (opens : List Opened) (call : TreeCall) → is_refusal (tree_refusal v user opens call) ≡ true
unfolding create_dir_refusal create_file_refusal delete_refusal rename_refusal move_refusal set_file_parms_refusal set_dir_parms_refusal set_file_dir_parms_refusal set_vol_parms_refusal
tree-refuses v user opens (CreateDir dir path) = behind-refuses (new_place v.rows user dir path) _ (place-fails v.rows user dir path) (λ place. first-refuses ((_, AccessDenied) ∷ (_, ObjectExists) ∷ (_, DiskFull) ∷ []) refl)
tree-refuses v user opens (CreateFile hard dir path) = behind-refuses (new_place v.rows user dir path) _ (place-fails v.rows user dir path) (λ place. or-refuses ((_, AccessDenied) ∷ []) _ refl (there-refuses v opens hard (child_by_key v.rows place.dir (name_key place.name))))
tree-refuses v user opens (Delete dir path) = behind-refuses (found v.rows user dir path) _ (found-fails v.rows user dir path) (λ id. first-refuses ((id == root_id, AccessDenied) ∷ (lacks_above v.rows user write_right id, AccessDenied) ∷ (has_attribute v.rows delete_inhibit id, ObjectLocked) ∷ (is_busy opens id, FileBusy) ∷ (has_children v.rows id, DirNotEmpty) ∷ []) refl)
tree-refuses v user opens (Rename dir path new) = behind-refuses (found v.rows user dir path) _ (found-fails v.rows user dir path) (λ id. or-refuses ((_, CantRename) ∷ (_, AccessDenied) ∷ []) _ refl
    (behind-refuses (one_down new.steps) _ (down-fails new.steps) (λ name. first-refuses ((_, ObjectLocked) ∷ (_, ObjectExists) ∷ []) refl)))
tree-refuses v user opens (MoveAndRename dir path to_dir to_path new) = behind-refuses (found v.rows user dir path) _ (found-fails v.rows user dir path) (λ id. or-refuses ((_, CantMove) ∷ []) _ refl
    (behind-refuses (found v.rows user to_dir to_path) _ (found-fails v.rows user to_dir to_path) (λ target. or-refuses ((_, ObjectTypeErr) ∷ (_, AccessDenied) ∷ (_, AccessDenied) ∷ []) _ refl
    (behind-refuses (one_down_or _ new.steps) _ (down-or-fails _ new.steps) (λ name. first-refuses ((_, CantMove) ∷ (_, ObjectLocked) ∷ (_, ObjectExists) ∷ []) refl)))))
tree-refuses v user opens (SetFileParms dir bits path tail) = or-refuses ((_, BitmapErr) ∷ []) _ refl (behind-refuses (found v.rows user dir path) _ (found-fails v.rows user dir path) (λ id. first-refuses ((_, ObjectTypeErr) ∷ (_, AccessDenied) ∷ (_, ParamErr) ∷ []) refl))
tree-refuses v user opens (SetDirParms dir bits path tail) = or-refuses ((_, BitmapErr) ∷ []) _ refl (behind-refuses (found v.rows user dir path) _ (found-fails v.rows user dir path) (λ id. first-refuses ((not (has_directory v.rows id), ObjectTypeErr) ∷ (lacks_above v.rows user write_right id, AccessDenied) ∷ (not (bit_and bits owner_bits == 0) && not (is_owner v.rows user id), AccessDenied) ∷ (is_short_tail bits tail, ParamErr) ∷ []) refl))
tree-refuses v user opens (SetFileDirParms dir bits path tail) = or-refuses ((_, BitmapErr) ∷ []) _ refl (behind-refuses (found v.rows user dir path) _ (found-fails v.rows user dir path) (λ id. first-refuses ((_, AccessDenied) ∷ (_, ParamErr) ∷ []) refl))
tree-refuses v user opens (SetVolParms bits tail) = first-refuses ((_, BitmapErr) ∷ (_, ParamErr) ∷ []) refl

-- what is refused behind that

pub else-refuses : (o first : Option Code) → is_refusal o ≡ true → is_refusal first ≡ true → is_refusal (refused_else o first) ≡ true
else-refuses None first h k = k
else-refuses (Some code) None h k = h
else-refuses (Some code) (Some other) h k = k

pub nobody-refuses : (users : List ℕ) (bits : ℕ) (tail : List ℕ) → is_refusal (set_dir_parms_behind users bits tail) ≡ true
unfolding set_dir_parms_behind
nobody-refuses users bits tail = first-refuses ((_, ItemNotFound) ∷ []) refl

-- the calls that tell of a volume

pub volume-refuses : (bits : ℕ) → is_refusal (get_vol_parms_refusal bits) ≡ true
unfolding get_vol_parms_refusal
volume-refuses bits = first-refuses ((_, BitmapErr) ∷ []) refl

pub open-dir-refuses : (v : VolumeState) (user : ℕ) (dir : ℕ) (path : PathValue) → is_refusal (open_dir_refusal v user dir path) ≡ true
unfolding open_dir_refusal
open-dir-refuses v user dir path = behind-refuses (found v.rows user dir path) _ (found-fails v.rows user dir path) (λ id. first-refuses ((_, ObjectTypeErr) ∷ []) refl)

pub node-refuses : (v : VolumeState) (user : ℕ) (file_bits dir_bits dir : ℕ) (path : PathValue) → is_refusal (get_file_dir_parms_refusal v user file_bits dir_bits dir path) ≡ true
unfolding get_file_dir_parms_refusal
node-refuses v user file_bits dir_bits dir path = or-refuses ((_, BitmapErr) ∷ (_, BitmapErr) ∷ []) _ refl (behind-refuses (found v.rows user dir path) _ (found-fails v.rows user dir path) (λ id. refl))

pub list-refuses : (v : VolumeState) (opens : List Opened) (asked : ListAsked) (dir : ℕ) (path : PathValue) → is_refusal (enumerate_refusal v opens asked dir path) ≡ true
unfolding enumerate_refusal
list-refuses v opens asked dir path =
    or-refuses ((is_outside file_mask asked.file_bits, BitmapErr) ∷ (is_outside dir_mask asked.dir_bits, BitmapErr) ∷ ((asked.file_bits == 0) && (asked.dir_bits == 0), BitmapErr) ∷ []) _ refl
    (behind-refuses (found v.rows asked.user dir path) (λ id. first_holding (rows id)) (found-fails v.rows asked.user dir path) (λ id. first-refuses (rows id) refl))
  where
    rows : ℕ → List (Bool × Code)
    rows id =
        (not (has_directory v.rows id), ObjectTypeErr) ∷ (lacks v.rows asked.user read_right id, AccessDenied)
        ∷ (asked.count == 0, ParamErr)
        ∷ (asked.start == 0, ParamErr)
        ∷ (nat_lt (length (counted_children v.rows asked id)) asked.start, ObjectNotFound)
        ∷ (not (fits_reply v.rows opens asked (take 1 (from_start v.rows asked id))), ParamErr)
        ∷ []

pub open-fork-refuses : (v : VolumeState) (user : ℕ) (bits : ℕ) (reads writes : Bool) (dir : ℕ) (path : PathValue) → is_refusal (open_fork_refusal v user bits reads writes dir path) ≡ true
unfolding open_fork_refusal
open-fork-refuses v user bits reads writes dir path = or-refuses ((_, BitmapErr) ∷ []) _ refl (behind-refuses (found v.rows user dir path) _ (found-fails v.rows user dir path) (λ id. first-refuses ((not (has_file v.rows id), ObjectTypeErr) ∷ (reads && lacks_above v.rows user read_right id, AccessDenied) ∷ (writes && lacks_above v.rows user write_right id, AccessDenied) ∷ (writes && has_attribute v.rows write_inhibit id, ObjectLocked) ∷ []) refl))

-- the calls that change a volume by edits

pub create-id-refuses : (v : VolumeState) (user dir : ℕ) (path : PathValue) → is_refusal (create_id_refusal v user dir path) ≡ true
unfolding create_id_refusal
create-id-refuses v user dir path = behind-refuses (found v.rows user dir path) _ (found-fails v.rows user dir path) (λ id. first-refuses ((_, ObjectTypeErr) ∷ (_, AccessDenied) ∷ (_, IDExists) ∷ []) refl)

pub delete-id-refuses : (v : VolumeState) (user id : ℕ) → is_refusal (delete_id_refusal v user id) ≡ true
unfolding delete_id_refusal
delete-id-refuses v user id = first-refuses ((_, BadIDErr) ∷ (_, IDNotFound) ∷ (_, AccessDenied) ∷ []) refl

pub exchange-refuses : (v : VolumeState) (user dir : ℕ) (path : PathValue) (second_dir : ℕ) (second_path : PathValue) → is_refusal (exchange_files_refusal v user dir path second_dir second_path) ≡ true
unfolding exchange_files_refusal
exchange-refuses v user dir path second_dir second_path = behind-refuses (found v.rows user dir path) _ (found-fails v.rows user dir path) (λ a. or-refuses ((_, ObjectTypeErr) ∷ []) _ refl
    (behind-refuses (found v.rows user second_dir second_path) _ (found-fails v.rows user second_dir second_path) (λ b. first-refuses (
    (not (has_file v.rows b), ObjectTypeErr)
    ∷ (lacks_either v.rows user a, AccessDenied)
    ∷ (lacks_either v.rows user b, AccessDenied)
    ∷ (a == b, SameObjectErr)
    ∷ []) refl)))

pub add-icon-refuses : (v : VolumeState) (icon : Icon) → is_refusal (add_icon_refusal v icon) ≡ true
unfolding add_icon_refusal
add-icon-refuses v icon = first-refuses ((_, DiskFull) ∷ []) refl

pub add-appl-refuses : (v : VolumeState) (user dir : ℕ) (creator : List ℕ) (path : PathValue) → is_refusal (add_appl_refusal v user dir creator path) ≡ true
unfolding add_appl_refusal
add-appl-refuses v user dir creator path = behind-refuses (found v.rows user dir path) _ (found-fails v.rows user dir path) (λ id. first-refuses ((_, ObjectTypeErr) ∷ (_, AccessDenied) ∷ (_, DiskFull) ∷ []) refl)

pub remove-appl-refuses : (v : VolumeState) (user dir : ℕ) (creator : List ℕ) (path : PathValue) → is_refusal (remove_appl_refusal v user dir creator path) ≡ true
unfolding remove_appl_refusal
remove-appl-refuses v user dir creator path = behind-refuses (found v.rows user dir path) _ (found-fails v.rows user dir path) (λ id. first-refuses ((_, ObjectTypeErr) ∷ (_, AccessDenied) ∷ (_, ItemNotFound) ∷ []) refl)

pub add-comment-refuses : (v : VolumeState) (user dir : ℕ) (path : PathValue) → is_refusal (add_comment_refusal v user dir path) ≡ true
unfolding add_comment_refusal
add-comment-refuses v user dir path = behind-refuses (found v.rows user dir path) _ (found-fails v.rows user dir path) (λ id. first-refuses ((_, AccessDenied) ∷ []) refl)

pub remove-comment-refuses : (v : VolumeState) (user dir : ℕ) (path : PathValue) → is_refusal (remove_comment_refusal v user dir path) ≡ true
unfolding remove_comment_refusal
remove-comment-refuses v user dir path = behind-refuses (found v.rows user dir path) _ (found-fails v.rows user dir path) (λ id. first-refuses ((_, AccessDenied) ∷ (_, ItemNotFound) ∷ []) refl)

pub get-comment-refuses : (v : VolumeState) (user dir : ℕ) (path : PathValue) → is_refusal (get_comment_refusal v user dir path) ≡ true
unfolding get_comment_refusal
get-comment-refuses v user dir path = behind-refuses (found v.rows user dir path) _ (found-fails v.rows user dir path) (λ id. first-refuses ((_, ItemNotFound) ∷ []) refl)

-- a file that is copied, and what is told of ids and of the desktop database

pub copied-refuses : (v : VolumeState) (user dir : ℕ) (path : PathValue) → is_refusal (copied_refusal v user dir path) ≡ true
unfolding copied_refusal
copied-refuses v user dir path = behind-refuses (found v.rows user dir path) _ (found-fails v.rows user dir path) (λ id. first-refuses ((_, ObjectTypeErr) ∷ []) refl)

pub resolve-id-refuses : (v : VolumeState) (user id bits : ℕ) → is_refusal (resolve_id_refusal v user id bits) ≡ true
unfolding resolve_id_refusal
resolve-id-refuses v user id bits = first-refuses ((_, BitmapErr) ∷ (_, BadIDErr) ∷ (_, IDNotFound) ∷ (_, ObjectTypeErr) ∷ (_, AccessDenied) ∷ []) refl

pub get-icon-refuses : (v : VolumeState) (creator kind : List ℕ) (icon_kind : ℕ) → is_refusal (get_icon_refusal v creator kind icon_kind) ≡ true
unfolding get_icon_refusal
get-icon-refuses v creator kind icon_kind = first-refuses ((_, ItemNotFound) ∷ []) refl

pub get-icon-info-refuses : (v : VolumeState) (creator : List ℕ) (index : ℕ) → is_refusal (get_icon_info_refusal v creator index) ≡ true
unfolding get_icon_info_refusal
get-icon-info-refuses v creator index = first-refuses ((_, ParamErr) ∷ (_, ItemNotFound) ∷ []) refl

pub get-appl-refuses : (v : VolumeState) (creator : List ℕ) (index bits : ℕ) → is_refusal (get_appl_refusal v creator index bits) ≡ true
unfolding get_appl_refusal
get-appl-refuses v creator index bits = first-refuses ((_, BitmapErr) ∷ (_, ItemNotFound) ∷ []) refl
