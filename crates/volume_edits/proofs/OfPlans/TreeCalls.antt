-- Calls of a tree: their effects are their edits, and where one is not refused it has an edit.
use Rattle.std.proofs.Common.{◌≡◌, ◌∙◌, ◌==◌, ℕ, Bool, true, false, not, ◌&&◌, List, [], ◌∷◌, ◌++◌, length, Option, Some, None, Result, Ok, Err, refl, sym, ap}
use Rattle.std.specs.Prelude.{IfOk, IfSome, IsSome, bit_and, is_some}
use Rattle.afp_base.proofs.ListFacts.{length-mapped}
use Rattle.afp_base.specs.Choice.{first_holding}
use Rattle.afp_base.specs.declared.code.Code.{Code}
use Rattle.afp_base.specs.declared.code.Code.TheVariants.{AccessDenied, BitmapErr, CantMove, CantRename, DirNotEmpty, DiskFull, FileBusy, ObjectExists, ObjectLocked, ObjectTypeErr, ParamErr}
use Rattle.afp_bitmap.specs.Bits.{is_outside}
use Rattle.afp_names.specs.Name.{name_key}
use Rattle.afp_names.specs.Path.{PathValue}
use Rattle.volume_spec.specs.CreateDir.{create_dir_refusal}
use Rattle.volume_spec.specs.CreateFile.{create_file_refusal, create_file_there, replaces}
use Rattle.volume_spec.specs.Delete.{delete_refusal}
use Rattle.volume_spec.specs.Edit.{Edit, Goes, Moves, Renames, Sets, after_call, creates, dated, edits_at}
use Rattle.volume_spec.specs.EditLaws.{EffectsAreEdits, volume_call}
use Rattle.volume_spec.specs.Edits.{has_children, is_below, is_taken}
use Rattle.volume_spec.specs.MoveAndRename.{move_refusal}
use Rattle.volume_spec.specs.Rename.{rename_refusal}
use Rattle.volume_spec.specs.Rights.{is_owner, lacks, write_right}
use Rattle.volume_spec.specs.SetFileDirParms.{is_short_tail, owner_bits, set_dir_parms_refusal, set_file_dir_parms_refusal, set_file_parms_refusal, settable_bits, settable_dir_bits, settings_in}
use Rattle.volume_spec.specs.Shared.{Opened, behind, delete_inhibit, directory_of, first_or, has_attribute, has_no_room, is_busy, lacks_above, name_of, rename_inhibit}
use Rattle.volume_spec.specs.SoundVolume.{has_file}
use Rattle.volume_spec.specs.TreeSteps.{TreeCall, CreateDir, CreateFile, Delete, Rename, MoveAndRename, SetFileParms, SetDirParms, SetFileDirParms, SetVolParms, tree_effect, tree_refusal}
use Rattle.volume_spec.specs.VolumeCalls.{call_edits}
use Rattle.volume_spec.specs.VolumeState.{VolumeState, root_id}
use Rattle.volume_spec.specs.Walk.{Place, child_by_key, found, has_directory, new_place, one_down, one_down_or}
use Rattle.volume_tree.specs.Answered.{Refuses}
use Rattle.volume_tree.specs.declared.resolve.PlanFault.{PlanFault}
use Rattle.volume_edits.specs.edits.Planned.{EditValue, PlanValue, edits_of}
use Rattle.volume_edits.specs.plans.Plans.{Plans}

pub tree-effect : (v : VolumeState) (user now : ℕ) (asked : Option TreeCall) (r : Result PlanValue PlanFault) → EffectsAreEdits → IfOk r (λ plan. IfSome asked (λ call. Plans v user now (volume_call call) plan))
    → IfOk r (λ plan. IfSome asked (λ call. after_call v now (edits_of plan.edits) ≡ tree_effect v user now call))
tree-effect v user now None (Ok plan) effects h = tt
tree-effect v user now (Some call) (Ok plan) effects h = ap (after_call v now) h.edits ∙ effects v user now call
tree-effect v user now asked (Err f) effects h = tt

abbrev HasOne : List Edit → Type 0
HasOne edits = (length edits == 0) ≡ false

behind-one : {A : Type 0} (r : Result A Code) (refused : A → Option Code) (edits : A → List Edit) → ((a : A) → refused a ≡ None → HasOne (edits a)) → behind r refused ≡ None → HasOne (edits_at r edits)
behind-one (Ok a) refused edits one h = one a h
behind-one (Err code) refused edits one h = absurd (cc)

rest-none : (rows : List (Bool × Code)) (rest : Option Code) → first_or rows rest ≡ None → rest ≡ None
rest-none [] rest h = h
rest-none ((true, code) ∷ rows) rest h = absurd (cc)
rest-none ((false, code) ∷ rows) rest h = rest-none rows rest h

creates-one : (old : Option ℕ) (dir : Bool) (user now : ℕ) (v : VolumeState) (place : Place) → HasOne (replaces old ++ creates dir user now v place)
creates-one None dir user now v place = refl
creates-one (Some old) dir user now v place = refl

abbrev rename-last : VolumeState → ℕ → List ℕ → Option Code
rename-last v id name = first_holding ((has_attribute v.rows rename_inhibit id, ObjectLocked) ∷ (is_taken v.rows id (directory_of v.rows id) name, ObjectExists) ∷ [])

abbrev move-last : VolumeState → ℕ → ℕ → List ℕ → Option Code
move-last v id target name = first_holding ((is_below v.rows (length v.rows) id target, CantMove) ∷ (has_attribute v.rows rename_inhibit id, ObjectLocked) ∷ (is_taken v.rows id target name, ObjectExists) ∷ [])

abbrev move-denied : VolumeState → ℕ → ℕ → ℕ → List (Bool × Code)
move-denied v user id target =
    (not (has_directory v.rows target), ObjectTypeErr) ∷ (lacks_above v.rows user write_right id, AccessDenied) ∷ (lacks v.rows user write_right target, AccessDenied) ∷ []

abbrev move-more : VolumeState → ℕ → ℕ → PathValue → ℕ → Option Code
move-more v user id new target = first_or (move-denied v user id target) (behind (one_down_or (name_of v.rows id) new.steps) (move-last v id target))

abbrev move-edits : VolumeState → ℕ → ℕ → PathValue → ℕ → List Edit
move-edits v now id new target = edits_at (one_down_or (name_of v.rows id) new.steps) (λ name. Moves id target name ∷ dated now (directory_of v.rows id) ∷ dated now target ∷ [])

tree-one : (v : VolumeState) (user : ℕ) (opens : List Opened) (now : ℕ) (call : TreeCall) → tree_refusal v user opens call ≡ None → HasOne (call_edits v user now (volume_call call))
unfolding call_edits create_dir_refusal create_file_refusal delete_refusal rename_refusal move_refusal set_file_parms_refusal set_dir_parms_refusal set_file_dir_parms_refusal
tree-one v user opens now (CreateDir dir path) h =
    behind-one (new_place v.rows user dir path) (λ (place : Place). first_holding ((lacks v.rows user write_right place.dir, AccessDenied) ∷ (is_some (child_by_key v.rows place.dir (name_key place.name)), ObjectExists) ∷ (has_no_room v, DiskFull) ∷ [])) (creates true user now v) (λ place passes. refl) h
tree-one v user opens now (CreateFile hard dir path) h =
    behind-one (new_place v.rows user dir path) (λ (place : Place). first_or ((lacks v.rows user write_right place.dir, AccessDenied) ∷ []) (create_file_there v opens hard (child_by_key v.rows place.dir (name_key place.name))))
    (λ (place : Place). replaces (child_by_key v.rows place.dir (name_key place.name)) ++ creates false user now v place) (λ place passes. creates-one (child_by_key v.rows place.dir (name_key place.name)) false user now v place) h
tree-one v user opens now (Delete dir path) h =
    behind-one (found v.rows user dir path) (λ id. first_holding ((id == root_id, AccessDenied) ∷ (lacks_above v.rows user write_right id, AccessDenied) ∷ (has_attribute v.rows delete_inhibit id, ObjectLocked) ∷ (is_busy opens id, FileBusy) ∷ (has_children v.rows id, DirNotEmpty) ∷ []))
    (λ id. Goes id ∷ dated now (directory_of v.rows id) ∷ []) (λ id passes. refl) h
tree-one v user opens now (Rename dir path new) h =
    behind-one (found v.rows user dir path) (λ id. first_or ((id == root_id, CantRename) ∷ (lacks_above v.rows user write_right id, AccessDenied) ∷ []) (behind (one_down new.steps) (rename-last v id)))
    (λ id. edits_at (one_down new.steps) (λ name. Renames id name ∷ dated now (directory_of v.rows id) ∷ []))
    (λ id passes. behind-one (one_down new.steps) (rename-last v id) (λ name. Renames id name ∷ dated now (directory_of v.rows id) ∷ []) (λ name last. refl) (rest-none ((id == root_id, CantRename) ∷ (lacks_above v.rows user write_right id, AccessDenied) ∷ []) (behind (one_down new.steps) (rename-last v id)) passes)) h
tree-one v user opens now (MoveAndRename dir path to_dir to_path new) h =
    behind-one (found v.rows user dir path) (λ id. first_or ((id == root_id, CantMove) ∷ []) (behind (found v.rows user to_dir to_path) (move-more v user id new)))
    (λ id. edits_at (found v.rows user to_dir to_path) (move-edits v now id new))
    (λ id passes. behind-one (found v.rows user to_dir to_path) (move-more v user id new) (move-edits v now id new)
    (λ target more. behind-one (one_down_or (name_of v.rows id) new.steps) (move-last v id target) (λ name. Moves id target name ∷ dated now (directory_of v.rows id) ∷ dated now target ∷ []) (λ name last. refl)
    (rest-none (move-denied v user id target) (behind (one_down_or (name_of v.rows id) new.steps) (move-last v id target)) more))
    (rest-none ((id == root_id, CantMove) ∷ []) (behind (found v.rows user to_dir to_path) (move-more v user id new)) passes)) h
tree-one v user opens now (SetFileParms dir bits path tail) h =
    let rest : ℕ → Option Code = λ id. first_holding ((not (has_file v.rows id), ObjectTypeErr) ∷ (lacks_above v.rows user write_right id, AccessDenied) ∷ (is_short_tail bits tail, ParamErr) ∷ []) in
    behind-one (found v.rows user dir path) rest (λ id. Sets id (settings_in bits tail) ∷ []) (λ id passes. refl) (rest-none ((is_outside settable_bits bits, BitmapErr) ∷ []) (behind (found v.rows user dir path) rest) h)
tree-one v user opens now (SetDirParms dir bits path tail) h =
    let rest : ℕ → Option Code = λ id. first_holding ((not (has_directory v.rows id), ObjectTypeErr) ∷ (lacks_above v.rows user write_right id, AccessDenied) ∷ (not (bit_and bits owner_bits == 0) && not (is_owner v.rows user id), AccessDenied) ∷ (is_short_tail bits tail, ParamErr) ∷ []) in
    behind-one (found v.rows user dir path) rest (λ id. Sets id (settings_in bits tail) ∷ []) (λ id passes. refl) (rest-none ((is_outside settable_dir_bits bits, BitmapErr) ∷ []) (behind (found v.rows user dir path) rest) h)
tree-one v user opens now (SetFileDirParms dir bits path tail) h =
    let rest : ℕ → Option Code = λ id. first_holding ((lacks_above v.rows user write_right id, AccessDenied) ∷ (is_short_tail bits tail, ParamErr) ∷ []) in
    behind-one (found v.rows user dir path) rest (λ id. Sets id (settings_in bits tail) ∷ []) (λ id passes. refl) (rest-none ((is_outside settable_bits bits, BitmapErr) ∷ []) (behind (found v.rows user dir path) rest) h)
tree-one v user opens now (SetVolParms bits tail) h = refl

pub tree-some : (v : VolumeState) (user : ℕ) (opens : List Opened) (now : ℕ) (asked : Option TreeCall) (r : Result PlanValue PlanFault) → IsSome asked → IfSome asked (λ call. Refuses r (tree_refusal v user opens call))
    → IfOk r (λ plan. IfSome asked (λ call. Plans v user now (volume_call call) plan)) → IfOk r (λ plan. (length plan.edits == 0) ≡ false)
tree-some v user opens now None r asked refused h = absurd (cc)
tree-some v user opens now (Some call) (Ok plan) asked refused h =
    ap (λ n. n == 0) (sym (length-mapped (λ (e : EditValue). e.edit) plan.edits)) ∙ ap (λ (edits : List Edit). length edits == 0) h.edits ∙ tree-one v user opens now call refused
tree-some v user opens now (Some call) (Err f) asked refused h = tt
