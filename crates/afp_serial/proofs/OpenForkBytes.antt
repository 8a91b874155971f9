-- A call of the tree that is not refused lets the bytes of each fork be that is open.
use Rattle.std.proofs.Common.{◌==◌, ◌≡◌, ◌∙◌, ap, sym, refl, ℕ, Bool, true, false, cond, List, [], ◌∷◌, ◌++◌, Option, Some, None}
use Rattle.std.specs.Prelude.{Result, Ok, Err, find, not, option_map}
use Rattle.std.proofs.lemmas.Bool.{cond_both, eqb-true}
use Rattle.afp_base.specs.declared.code.Code.{Code}
use Rattle.afp_base.specs.declared.code.Code.TheVariants.{AccessDenied, DirNotEmpty, DiskFull, FileBusy, ObjectExists, ObjectLocked, ObjectTypeErr}
use Rattle.afp_names.specs.Name.{name_key}
use Rattle.afp_names.specs.Path.{PathValue}
use Rattle.volume_spec.proofs.Refusals.{at-found, none-first, none-holds}
use Rattle.volume_spec.proofs.SeenRows.{changes-let-be, changes-seen, gone-lets-be}
use Rattle.volume_spec.specs.Shared.{Opened, created, delete_inhibit, directory_of, done_at, has_attribute, has_no_ids, is_busy, name_of, lacks_above}
use Rattle.volume_spec.specs.CreateDir.{create_dir_effect}
use Rattle.volume_spec.specs.CreateFile.{create_file_effect, create_file_refusal, create_file_there, without_replaced}
use Rattle.volume_spec.specs.Delete.{delete_effect, delete_refusal}
use Rattle.volume_spec.specs.Edits.{at_place, changed_at, children_changed, has_children, modified_at, named, renamed, with_changed, with_moved, with_new, with_row, without_node}
use Rattle.volume_spec.specs.ForkEffect.{fork_of}
use Rattle.volume_spec.specs.MoveAndRename.{move_effect}
use Rattle.volume_spec.specs.Rename.{rename_effect}
use Rattle.volume_spec.specs.SetFileDirParms.{set_parms_effect, settings_in, with_node_set, with_settings}
use Rattle.volume_spec.specs.SetVolParms.{set_vol_parms_effect}
use Rattle.volume_spec.specs.TreeSteps.{TreeCall, CreateDir, CreateFile, Delete, MoveAndRename, Rename, SetDirParms, SetFileDirParms, SetFileParms, SetVolParms, tree_effect, tree_refusal}
use Rattle.volume_spec.specs.VolumeState.{Row as File, VolumeState, root_id, new_row}
use Rattle.volume_spec.specs.Walk.{Place, child_by_key, found, has_directory, new_place, one_down, one_down_or, row_at}
use Rattle.volume_spec.proofs.OpenFiles.{another}
use Rattle.volume_spec.specs.Rights.{lacks, write_right}

-- the fork of a node has these bytes
abbrev pub Has : ℕ → Bool → List ℕ → VolumeState → Type 0
Has id resource bytes v = option_map (fork_of resource) (row_at v.rows id) ≡ Some bytes

-- a volume has them where another has
abbrev pub LetsBe : ℕ → VolumeState → VolumeState → Type 0
LetsBe id v w = (resource : Bool) (bytes : List ℕ) → Has id resource bytes v → Has id resource bytes w

-- a change that keeps the forks of a row
pub record KeepsForks (change : File → File) : Type 0 where
  pub ids : (row : File) → (change row).id ≡ row.id
  pub forks : (resource : Bool) (row : File) → fork_of resource (change row) ≡ fork_of resource row

pub changed-be : (id : ℕ) (v : VolumeState) (at_id : ℕ) (change : File → File) → KeepsForks change → LetsBe id v (record v { rows = with_changed at_id change v.rows })
changed-be id v at_id change keeps resource bytes h = by (id == at_id) refl
  where
    of-row : (o : Option File) → option_map (fork_of resource) (option_map change o) ≡ option_map (fork_of resource) o
    of-row None = refl
    of-row (Some row) = ap Some (keeps.forks resource row)

    by : (b : Bool) → (id == at_id) ≡ b → option_map (fork_of resource) (row_at (with_changed at_id change v.rows) id) ≡ Some bytes
    by false other = ap (option_map (fork_of resource)) (changes-let-be v.rows at_id id change keeps.ids other) ∙ h
    by true here =
        let is : id ≡ at_id = eqb-true id at_id here in
        ap (λ n. option_map (fork_of resource) (row_at (with_changed at_id change v.rows) n)) is
        ∙ ap (option_map (fork_of resource)) (changes-seen v.rows at_id change keeps.ids)
        ∙ of-row (row_at v.rows at_id)
        ∙ ap (λ n. option_map (fork_of resource) (row_at v.rows n)) (sym is)
        ∙ h

find-longer : (test : File → Bool) (xs ys : List File) (x : File) → find test xs ≡ Some x → find test (xs ++ ys) ≡ Some x
find-longer test [] ys x h = absurd (cc)
find-longer test (y ∷ xs) ys x h =
    cond_both (test y) (Some y) (find test xs) (λ o. o ≡ Some x → cond (test y) (Some y) (find test (xs ++ ys)) ≡ Some x)
    (λ here k. ap (λ b. cond b (Some y) (find test (xs ++ ys))) here ∙ k)
    (λ other k. ap (λ b. cond b (Some y) (find test (xs ++ ys))) other ∙ find-longer test xs ys x k)
    h

pub new-be : (id : ℕ) (v : VolumeState) (row : File) → LetsBe id v (with_row row v)
unfolding row_at
new-be id v row resource bytes h = by (find (λ (r : File). r.id == id) v.rows) refl h
  where
    by : (o : Option File) → find (λ (r : File). r.id == id) v.rows ≡ o → option_map (fork_of resource) o ≡ Some bytes → option_map (fork_of resource) (find (λ (r : File). r.id == id) (v.rows ++ (record row { id = v.next_id }) ∷ [])) ≡ Some bytes
    by None is k = absurd (cc)
    by (Some file) is k = ap (option_map (fork_of resource)) (find-longer (λ (r : File). r.id == id) v.rows ((record row { id = v.next_id }) ∷ []) file is) ∙ k

without-be : (id : ℕ) (v : VolumeState) (gone : ℕ) → (id == gone) ≡ false → LetsBe id v (without_node gone v)
without-be id v gone other resource bytes h = ap (option_map (fork_of resource)) (gone-lets-be v.rows gone id other) ∙ h

-- the dates of a directory and of the volume
modified-keeps : (now : ℕ) → KeepsForks (modified_at now)
modified-keeps now = record { ids = λ row. refl; forks = λ resource row. refl }

touched-be : (id : ℕ) (v w : VolumeState) (now dir : ℕ) → LetsBe id v w → LetsBe id v (changed_at now (children_changed now dir w))
touched-be id v w now dir l resource bytes h = changed-be id w dir (modified_at now) (modified-keeps now) resource bytes (l resource bytes h)

created-be : (id : ℕ) (v w : VolumeState) (dir : Bool) (user now : ℕ) (place : Place) → LetsBe id v w → LetsBe id v (created dir user now w place)
created-be id v w dir user now place l =
    touched-be id v (with_new dir user place.dir place.name now w) now place.dir (λ resource bytes h. new-be id w (new_row dir user w.next_id place.dir place.name now) resource bytes (l resource bytes h))

-- what is done with what was found, if something was
done-be : {A : Type 0} (id : ℕ) (v : VolumeState) (r : Result A Code) (does : A → VolumeState) → ((a : A) → LetsBe id v (does a)) → LetsBe id v (done_at r v does)
done-be id v (Ok a) does gives = gives a
done-be id v (Err code) does gives = λ resource bytes h. h

create-file-be : (id : ℕ) (v : VolumeState) (user : ℕ) (opens : List Opened) (hard : Bool) (now dir : ℕ) (path : PathValue) → is_busy opens id ≡ true → create_file_refusal v user opens hard dir path ≡ None → LetsBe id v (create_file_effect v user now dir path)
unfolding create_file_refusal create_file_effect
create-file-be id v user opens hard now dir path busy passes =
    at-found (LetsBe id v) (new_place v.rows user dir path) _ v _ passes (λ place is clear. by-old place (child_by_key v.rows place.dir (name_key place.name))
    (none-first ((lacks v.rows user write_right place.dir, AccessDenied) ∷ []) _ clear).1)
  where
    by-old : (place : Place) (o : Option ℕ) → create_file_there v opens hard o ≡ None → LetsBe id v (created false user now (without_replaced v o) place)
    by-old place None clear = created-be id v v false user now place (λ resource bytes h. h)
    by-old place (Some old) clear =
        let none = none-holds ((has_directory v.rows old, ObjectTypeErr) ∷ (not hard, ObjectExists) ∷ (is_busy opens old, FileBusy) ∷ (has_attribute v.rows delete_inhibit old, ObjectLocked) ∷ (has_no_ids v, DiskFull) ∷ []) clear in
        created-be id v (without_node old v) false user now place (without-be id v old (another opens id old busy none.1.1.0))

delete-be : (id : ℕ) (v : VolumeState) (user : ℕ) (opens : List Opened) (now dir : ℕ) (path : PathValue) → is_busy opens id ≡ true → delete_refusal v user opens dir path ≡ None → LetsBe id v (delete_effect v user now dir path)
unfolding delete_refusal delete_effect
delete-be id v user opens now dir path busy passes =
    at-found (LetsBe id v) (found v.rows user dir path) _ v _ passes (λ gone is clear.
    let none = none-holds ((gone == root_id, AccessDenied) ∷ (lacks_above v.rows user write_right gone, AccessDenied) ∷ (has_attribute v.rows delete_inhibit gone, ObjectLocked) ∷ (is_busy opens gone, FileBusy) ∷ (has_children v.rows gone, DirNotEmpty) ∷ []) clear in
    touched-be id v (without_node gone v) now (directory_of v.rows gone) (without-be id v gone (another opens id gone busy none.1.1.1.0)))

create-dir-be : (id : ℕ) (v : VolumeState) (user : ℕ) (now dir : ℕ) (path : PathValue) → LetsBe id v (create_dir_effect v user now dir path)
unfolding create_dir_effect
create-dir-be id v user now dir path = done-be id v (new_place v.rows user dir path) (created true user now v) (λ place. created-be id v v true user now place (λ resource bytes h. h))

rename-be : (id : ℕ) (v : VolumeState) (user : ℕ) (now dir : ℕ) (path new : PathValue) → LetsBe id v (rename_effect v user now dir path new)
unfolding rename_effect
rename-be id v user now dir path new =
    done-be id v (found v.rows user dir path) _ (λ node. done-be id v (one_down new.steps) _ (λ name.
    touched-be id v (renamed node name v) now (directory_of v.rows node) (changed-be id v node (named name) (record { ids = λ row. refl; forks = λ resource row. refl }))))

move-be : (id : ℕ) (v : VolumeState) (user : ℕ) (now dir : ℕ) (path : PathValue) (to_dir : ℕ) (to_path new : PathValue) → LetsBe id v (move_effect v user now dir path to_dir to_path new)
unfolding move_effect
move-be id v user now dir path to_dir to_path new =
    done-be id v (found v.rows user dir path) _ (λ node. done-be id v (found v.rows user to_dir to_path) _ (λ target. done-be id v (one_down_or (name_of v.rows node) new.steps) _ (λ name.
    touched-be id v (children_changed now (directory_of v.rows node) (with_moved node target name v)) now target
    (λ resource bytes h. changed-be id (with_moved node target name v) (directory_of v.rows node) (modified_at now) (modified-keeps now) resource bytes
    (changed-be id v node (at_place target name) (record { ids = λ row. refl; forks = λ resource row. refl }) resource bytes h)))))

set-be : (id : ℕ) (v : VolumeState) (user : ℕ) (now dir bits : ℕ) (path : PathValue) (rest : List ℕ) → LetsBe id v (set_parms_effect v user now dir bits path rest)
unfolding set_parms_effect with_node_set with_settings
set-be id v user now dir bits path rest =
    done-be id v (found v.rows user dir path) _ (λ node. changed-be id v node (with_settings (settings_in bits rest)) (record { ids = λ row. refl; forks = λ resource row. refl }))

set-volume-be : (id : ℕ) (v : VolumeState) (now : ℕ) (rest : List ℕ) → LetsBe id v (set_vol_parms_effect v now rest)
unfolding set_vol_parms_effect
set-volume-be id v now rest resource bytes h = h

pub tree-lets-be : (v : VolumeState) (user : ℕ) (opens : List Opened) (now : ℕ) (call : TreeCall) (id : ℕ) → tree_refusal v user opens call ≡ None → is_busy opens id ≡ true → (resource : Bool) (bytes : List ℕ) → Has id resource bytes v → Has id resource bytes (tree_effect v user now call)
tree-lets-be v user opens now (CreateDir dir path) id passes busy = create-dir-be id v user now dir path
tree-lets-be v user opens now (CreateFile hard dir path) id passes busy = create-file-be id v user opens hard now dir path busy passes
tree-lets-be v user opens now (Delete dir path) id passes busy = delete-be id v user opens now dir path busy passes
tree-lets-be v user opens now (Rename dir path new) id passes busy = rename-be id v user now dir path new
tree-lets-be v user opens now (MoveAndRename dir path to_dir to_path new) id passes busy = move-be id v user now dir path to_dir to_path new
tree-lets-be v user opens now (SetFileParms dir bits path rest) id passes busy = set-be id v user now dir bits path rest
tree-lets-be v user opens now (SetDirParms dir bits path rest) id passes busy = set-be id v user now dir bits path rest
tree-lets-be v user opens now (SetFileDirParms dir bits path rest) id passes busy = set-be id v user now dir bits path rest
tree-lets-be v user opens now (SetVolParms bits rest) id passes busy = set-volume-be id v now rest
