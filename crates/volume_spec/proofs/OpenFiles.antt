-- An edit lets the volume's name be; one of a call that is not refused lets each file be of which a fork is open.
use Rattle.std.proofs.Common.{◌==◌, ◌≡◌, ◌∙◌, ap, sym, refl, subst, ℕ, Bool, true, false, not, ◌&&◌, cond, List, [], ◌∷◌, ◌++◌, Option, Some, None}
use Rattle.std.specs.Prelude.{Result, Ok, Err}
use Rattle.std.proofs.lemmas.Bool.{and_parts, and_from, cond_both, eq-eqb, eqb-true, both_ways}
use Rattle.afp_base.specs.declared.code.Code.{Code}
use Rattle.afp_base.specs.declared.code.Code.TheVariants.{ObjectExists, DiskFull, AccessDenied, ObjectLocked, FileBusy, DirNotEmpty, ObjectTypeErr}
use Rattle.afp_names.specs.Name.{name_key}
use Rattle.afp_names.specs.Path.{PathValue}
use Rattle.volume_spec.proofs.EffectEdits.{effects-are}
use Rattle.volume_spec.proofs.NewCalls.{exchange-may}
use Rattle.volume_spec.proofs.Refusals.{none-first, none-holds, at-each, at-found}
use Rattle.volume_spec.specs.Comments.{does_comment}
use Rattle.volume_spec.specs.CreateFile.{create_file_there, create_file_refusal}
use Rattle.volume_spec.specs.Delete.{delete_refusal}
use Rattle.volume_spec.specs.Edit.{Edit, Comes, Goes, Renames, Moves, Sets, Files, Writes, Exchanges, PutsIcon, PutsAppl, TakesAppl, Comments, BacksUp, after_call, after_edits, edited}
use Rattle.volume_spec.specs.EditLaws.{LetsFilesBe, LetFilesBe, MayEditAll, MayExchange, volume_call}
use Rattle.volume_spec.specs.Edits.{at_place, change_at, has_children, named, put, with_changed, with_forks_of, with_row, without, without_node, exchanged_at, filed_as}
use Rattle.volume_spec.specs.ForkEffect.{written}
use Rattle.volume_spec.specs.SetFileDirParms.{with_settings}
use Rattle.volume_spec.specs.Shared.{Opened, delete_inhibit, has_attribute, has_no_ids, is_busy, name_of, lacks_above}
use Rattle.volume_spec.specs.SoundVolume.{has_file, IsSoundVolume}
use Rattle.volume_spec.specs.TreeSteps as tree
use Rattle.volume_spec.specs.TreeSteps.{TreeCall, TreeStep, tree_refusal, tree_effect}
use Rattle.volume_spec.specs.Edit.{creates, edits_at}
use Rattle.volume_spec.specs.CreateFile.{replaces}
use Rattle.volume_spec.specs.VolumeCalls.{VolumeCall, CreateDir, CreateFile, Delete, Rename, MoveAndRename, SetFileParms, SetDirParms, SetFileDirParms, SetVolParms, CopyFile, ExchangeFiles, CreateID, DeleteID, AddIcon, AddAPPL, RemoveAPPL, AddComment, RemoveComment, call_edits, volume_refusal}
use Rattle.volume_spec.specs.VolumeState.{Row, VolumeState, root_id}
use Rattle.volume_spec.specs.Walk.{Place, child_by_key, found, has_directory, new_place, one_down, one_down_or, row_at}
use Rattle.afp_base.proofs.ListFacts.{any-longer, any-map, any-still, any-weaker, find-passes}
use Rattle.volume_spec.specs.Rights.{lacks, write_right}

-- this file stays
abbrev pub LetsBe : ℕ → VolumeState → VolumeState → Type 0
LetsBe id v w = has_file v.rows id ≡ true → has_file w.rows id ≡ true

changed-be : (id : ℕ) (v : VolumeState) (at_id : ℕ) (change : Row → Row) → ((row : Row) → (change row).id ≡ row.id) → ((row : Row) → (change row).dir ≡ row.dir)
    → LetsBe id v (record v { rows = with_changed at_id change v.rows })
unfolding with_changed
changed-be id v at_id change keeps kinds h =
    any-map (λ (row : Row). row.id == id && not row.dir) (change_at at_id change) v.rows
    ∙ any-weaker (λ (row : Row). row.id == id && not row.dir) (λ (row : Row). (change_at at_id change row).id == id && not (change_at at_id change row).dir) v.rows
    (λ row is. (λ i. same-id row i == id && not (same-dir row i)) ∙ is) h
  where
    same-id : (row : Row) → (change_at at_id change row).id ≡ row.id
    same-id row = cond_both (row.id == at_id) (change row) row (λ r. r.id ≡ row.id) (λ is. keeps row) (λ stays. refl)

    same-dir : (row : Row) → (change_at at_id change row).dir ≡ row.dir
    same-dir row = cond_both (row.id == at_id) (change row) row (λ r. r.dir ≡ row.dir) (λ is. kinds row) (λ stays. refl)

new-be : (id : ℕ) (v : VolumeState) (row : Row) → LetsBe id v (with_row row v)
new-be id v row h = any-longer (λ (r : Row). r.id == id && not r.dir) v.rows ((record row { id = v.next_id }) ∷ []) h

-- a busy node is another than one that is not
pub another : (opens : List Opened) (id gone : ℕ) → is_busy opens id ≡ true → is_busy opens gone ≡ false → (id == gone) ≡ false
another opens id gone busy idle = by (id == gone) refl
  where
    by : (b : Bool) → (id == gone) ≡ b → b ≡ false
    by false h = refl
    by true h = absurd (both_ways (is_busy opens gone) idle (ap (is_busy opens) (sym (eqb-true id gone h)) ∙ busy))

without-be : (id : ℕ) (v : VolumeState) (gone : ℕ) → (id == gone) ≡ false → LetsBe id v (without_node gone v)
unfolding without
without-be id v gone other h =
    any-still (λ (row : Row). row.id == id && not row.dir) (λ (row : Row). not (row.id == gone)) v.rows
    (λ row is. ap (λ (n : ℕ). not (n == gone)) (eqb-true row.id id (and_parts (row.id == id) (not row.dir) is).0) ∙ ap not other) h

-- another file in the place of what has that id
put-be : (id : ℕ) (v : VolumeState) (at_id : ℕ) (t : Row) → t.id ≡ at_id → t.dir ≡ false → LetsBe id v (record v { rows = with_changed at_id (put t) v.rows })
unfolding with_changed
put-be id v at_id t is file h =
    any-map (λ (row : Row). row.id == id && not row.dir) (change_at at_id (put t)) v.rows
    ∙ any-weaker (λ (row : Row). row.id == id && not row.dir) (λ (row : Row). (change_at at_id (put t) row).id == id && not (change_at at_id (put t) row).dir) v.rows
    (λ row there. cond_both (row.id == at_id) t row (λ r. (r.id == id && not r.dir) ≡ true)
    (λ here. and_from (t.id == id) (not t.dir) (eq-eqb t.id id (is ∙ sym (eqb-true row.id at_id here) ∙ eqb-true row.id id (and_parts (row.id == id) (not row.dir) there).0)) (ap not file))
    (λ stays. there)) h

exchange-be : (id : ℕ) (v : VolumeState) (a b : ℕ) → MayExchange v a b → LetsBe id v (exchanged_at a b (row_at v.rows a) (row_at v.rows b) v)
unfolding row_at
exchange-be id v a b m =
    let s : Row = m.first in
    let t : Row = m.second in
    let one : s.id ≡ a = eqb-true s.id a (find-passes (λ (r : Row). r.id == a) v.rows s m.first_found) in
    let two : t.id ≡ b = eqb-true t.id b (find-passes (λ (r : Row). r.id == b) v.rows t m.second_found) in
    let u : VolumeState = record v { rows = with_changed a (put (with_forks_of t s)) v.rows } in
    subst (LetsBe id v) (λ i. exchanged_at a b (sym m.first_found i) (sym m.second_found i) v)
    (λ h. put-be id u b (with_forks_of s t) two m.second_file (put-be id v a (with_forks_of t s) one m.first_file h))

pub edit-lets-be : (v : VolumeState) (opens : List Opened) (e : Edit) (id : ℕ) → LetsFilesBe v opens e → is_busy opens id ≡ true → LetsBe id v (edited v e)
unfolding edited with_settings
edit-lets-be v opens (Comes row) id l busy = new-be id v row
edit-lets-be v opens (Goes gone) id l busy = without-be id v gone (another opens id gone busy l)
edit-lets-be v opens (Renames at_id name) id l busy = changed-be id v at_id (named name) (λ row. refl) (λ row. refl)
edit-lets-be v opens (Moves at_id parent name) id l busy = changed-be id v at_id (at_place parent name) (λ row. refl) (λ row. refl)
edit-lets-be v opens (Sets at_id settings) id l busy = changed-be id v at_id (with_settings settings) (λ row. refl) (λ row. refl)
edit-lets-be v opens (Files at_id filed) id l busy = changed-be id v at_id (filed_as filed) (λ row. refl) (λ row. refl)
edit-lets-be v opens (Writes now at_id resource bytes) id l busy = changed-be id v at_id (written now resource bytes true) (λ row. refl) (λ row. refl)
edit-lets-be v opens (Exchanges a b) id l busy = exchange-be id v a b l
edit-lets-be v opens (PutsIcon icon) id l busy = λ h. h
edit-lets-be v opens (PutsAppl appl) id l busy = λ h. h
edit-lets-be v opens (TakesAppl creator node) id l busy = λ h. h
edit-lets-be v opens (Comments node text) id l busy = λ h. h
edit-lets-be v opens (BacksUp date) id l busy = λ h. h

edits-let-be : (v : VolumeState) (opens : List Opened) (edits : List Edit) (id : ℕ) → LetFilesBe v opens edits → is_busy opens id ≡ true → LetsBe id v (after_edits v edits)
edits-let-be v opens [] id l busy h = h
edits-let-be v opens (e ∷ es) id l busy h = edits-let-be (edited v e) opens es id l.1 busy (edit-lets-be v opens e id l.0 busy h)

pub edits-of-call-let-be : (v : VolumeState) (opens : List Opened) (now : ℕ) (edits : List Edit) (id : ℕ) → LetFilesBe v opens edits → is_busy opens id ≡ true → LetsBe id v (after_call v now edits)
edits-of-call-let-be v opens now [] id l busy h = h
edits-of-call-let-be v opens now (e ∷ es) id l busy h = edits-let-be v opens (e ∷ es) id l busy h

-- the edits of calls

create-file-lets : (v : VolumeState) (user : ℕ) (opens : List Opened) (hard : Bool) (now dir : ℕ) (path : PathValue) → create_file_refusal v user opens hard dir path ≡ None → LetFilesBe v opens (call_edits v user now (CreateFile hard dir path))
unfolding create_file_refusal call_edits
create-file-lets v user opens hard now dir path passes =
    at-found (LetFilesBe v opens) (new_place v.rows user dir path) _ [] _ passes (λ place is clear. by-old place (child_by_key v.rows place.dir (name_key place.name)) (none-first ((lacks v.rows user write_right place.dir, AccessDenied) ∷ []) _ clear).1)
  where
    by-old : (place : Place) (o : Option ℕ) → create_file_there v opens hard o ≡ None → LetFilesBe v opens (replaces o ++ creates false user now v place)
    by-old place None clear = (tt, (tt, tt))
    by-old place (Some old) clear =
        let none = none-holds ((has_directory v.rows old, ObjectTypeErr) ∷ (not hard, ObjectExists) ∷ (is_busy opens old, FileBusy) ∷ (has_attribute v.rows delete_inhibit old, ObjectLocked) ∷ (has_no_ids v, DiskFull) ∷ []) clear in
        (none.1.1.0, (tt, (tt, tt)))

delete-lets : (v : VolumeState) (user : ℕ) (opens : List Opened) (now dir : ℕ) (path : PathValue) → delete_refusal v user opens dir path ≡ None → LetFilesBe v opens (call_edits v user now (Delete dir path))
unfolding delete_refusal call_edits
delete-lets v user opens now dir path passes =
    at-found (LetFilesBe v opens) (found v.rows user dir path) _ [] _ passes (λ gone is clear.
    let none = none-holds ((gone == root_id, AccessDenied) ∷ (lacks_above v.rows user write_right gone, AccessDenied) ∷ (has_attribute v.rows delete_inhibit gone, ObjectLocked) ∷ (is_busy opens gone, FileBusy) ∷ (has_children v.rows gone, DirNotEmpty) ∷ []) clear in
    (none.1.1.1.0, (tt, tt)))

tree-lets : (v : VolumeState) (user : ℕ) (opens : List Opened) (now : ℕ) (call : TreeCall) → tree_refusal v user opens call ≡ None → LetFilesBe v opens (call_edits v user now (volume_call call))
unfolding call_edits
tree-lets v user opens now (tree.CreateDir dir path) passes = at-each (LetFilesBe v opens) (new_place v.rows user dir path) [] _ tt (λ place is. (tt, (tt, tt)))
tree-lets v user opens now (tree.CreateFile hard dir path) passes = create-file-lets v user opens hard now dir path passes
tree-lets v user opens now (tree.Delete dir path) passes = delete-lets v user opens now dir path passes
tree-lets v user opens now (tree.Rename dir path new) passes = at-each (LetFilesBe v opens) (found v.rows user dir path) [] _ tt (λ id is. at-each (LetFilesBe v opens) (one_down new.steps) [] _ tt (λ name down. (tt, (tt, tt))))
tree-lets v user opens now (tree.MoveAndRename dir path to_dir to_path new) passes =
    at-each (LetFilesBe v opens) (found v.rows user dir path) [] _ tt (λ id is. at-each (LetFilesBe v opens) (found v.rows user to_dir to_path) [] _ tt (λ target to.
    at-each (LetFilesBe v opens) (one_down_or (name_of v.rows id) new.steps) [] _ tt (λ name down. (tt, (tt, (tt, tt))))))
tree-lets v user opens now (tree.SetFileParms dir bits path tail) passes = at-each (LetFilesBe v opens) (found v.rows user dir path) [] _ tt (λ id is. (tt, tt))
tree-lets v user opens now (tree.SetDirParms dir bits path tail) passes = at-each (LetFilesBe v opens) (found v.rows user dir path) [] _ tt (λ id is. (tt, tt))
tree-lets v user opens now (tree.SetFileDirParms dir bits path tail) passes = at-each (LetFilesBe v opens) (found v.rows user dir path) [] _ tt (λ id is. (tt, tt))
tree-lets v user opens now (tree.SetVolParms bits tail) passes = (tt, tt)

-- two files that may change their forks
exchange-lets : (v : VolumeState) (opens : List Opened) (one two : Result ℕ Code) → MayEditAll v (edits_at one (λ a. edits_at two (λ b. Exchanges a b ∷ []))) → LetFilesBe v opens (edits_at one (λ a. edits_at two (λ b. Exchanges a b ∷ [])))
exchange-lets v opens (Ok a) (Ok b) m = (m.0, tt)
exchange-lets v opens (Ok a) (Err code) m = tt
exchange-lets v opens (Err code) two m = tt

pub calls-let : (v : VolumeState) (user : ℕ) (opens : List Opened) (now : ℕ) (call : VolumeCall) → volume_refusal v user opens call ≡ None → IsSoundVolume v → LetFilesBe v opens (call_edits v user now call)
unfolding call_edits
calls-let v user opens now (CreateDir dir path) passes s = tree-lets v user opens now (tree.CreateDir dir path) passes
calls-let v user opens now (CreateFile hard dir path) passes s = tree-lets v user opens now (tree.CreateFile hard dir path) passes
calls-let v user opens now (Delete dir path) passes s = tree-lets v user opens now (tree.Delete dir path) passes
calls-let v user opens now (Rename dir path new) passes s = tree-lets v user opens now (tree.Rename dir path new) passes
calls-let v user opens now (MoveAndRename dir path to_dir to_path new) passes s = tree-lets v user opens now (tree.MoveAndRename dir path to_dir to_path new) passes
calls-let v user opens now (SetFileParms dir bits path tail) passes s = tree-lets v user opens now (tree.SetFileParms dir bits path tail) passes
calls-let v user opens now (SetDirParms dir bits path tail) passes s = tree-lets v user opens now (tree.SetDirParms dir bits path tail) passes
calls-let v user opens now (SetFileDirParms dir bits path tail) passes s = tree-lets v user opens now (tree.SetFileDirParms dir bits path tail) passes
calls-let v user opens now (SetVolParms bits tail) passes s = (tt, tt)
calls-let v user opens now (CopyFile source dir path new) passes s = at-each (LetFilesBe v opens) (found v.rows user dir path) [] _ tt (λ target is. at-each (LetFilesBe v opens) (one_down_or source.file.name new.steps) [] _ tt (λ name down. (tt, (tt, tt))))
calls-let v user opens now (ExchangeFiles dir path second_dir second_path) passes s = exchange-lets v opens (found v.rows user dir path) (found v.rows user second_dir second_path) (exchange-may v user now dir path second_dir second_path passes s)
calls-let v user opens now (CreateID dir path) passes s = at-each (LetFilesBe v opens) (found v.rows user dir path) [] _ tt (λ id is. (tt, tt))
calls-let v user opens now (DeleteID id) passes s = (tt, tt)
calls-let v user opens now (AddIcon icon) passes s = (tt, tt)
calls-let v user opens now (AddAPPL dir creator tag path) passes s = at-each (LetFilesBe v opens) (found v.rows user dir path) [] _ tt (λ id is. (tt, tt))
calls-let v user opens now (RemoveAPPL dir creator path) passes s = at-each (LetFilesBe v opens) (found v.rows user dir path) [] _ tt (λ id is. (tt, tt))
calls-let v user opens now (AddComment dir path text) passes s = at-each (LetFilesBe v opens) (found v.rows user dir path) [] _ tt (λ id is. by id (does_comment v id text))
  where
    by : (id : ℕ) (b : Bool) → LetFilesBe v opens (cond b (Comments id text ∷ []) [])
    by id true = (tt, tt)
    by id false = tt
calls-let v user opens now (RemoveComment dir path) passes s = at-each (LetFilesBe v opens) (found v.rows user dir path) [] _ tt (λ id is. (tt, tt))

pub call-lets-be : (v : VolumeState) (step : TreeStep) (id : ℕ) → tree_refusal v step.user step.opens step.call ≡ None → is_busy step.opens id ≡ true → LetsBe id v (tree_effect v step.user step.now step.call)
call-lets-be v step id passes busy =
    subst (LetsBe id v) (effects-are v step.user step.now step.call)
    (edits-of-call-let-be v step.opens step.now (call_edits v step.user step.now (volume_call step.call)) id (tree-lets v step.user step.opens step.now step.call passes) busy)

-- the name of the volume

exchange-named : (v : VolumeState) (a b : ℕ) (s t : Option Row) → (exchanged_at a b s t v).name ≡ v.name
exchange-named v a b None t = refl
exchange-named v a b (Some s) None = refl
exchange-named v a b (Some s) (Some t) = refl

pub edit-named : (v : VolumeState) (e : Edit) → (edited v e).name ≡ v.name
unfolding edited
edit-named v (Comes row) = refl
edit-named v (Goes id) = refl
edit-named v (Renames id name) = refl
edit-named v (Moves id parent name) = refl
edit-named v (Sets id settings) = refl
edit-named v (Files id filed) = refl
edit-named v (Writes now id resource bytes) = refl
edit-named v (Exchanges a b) = exchange-named v a b (row_at v.rows a) (row_at v.rows b)
edit-named v (PutsIcon icon) = refl
edit-named v (PutsAppl appl) = refl
edit-named v (TakesAppl creator node) = refl
edit-named v (Comments node text) = refl
edit-named v (BacksUp date) = refl

edits-named : (v : VolumeState) (edits : List Edit) → (after_edits v edits).name ≡ v.name
edits-named v [] = refl
edits-named v (e ∷ es) = edits-named (edited v e) es ∙ edit-named v e

pub edits-of-call-named : (v : VolumeState) (now : ℕ) (edits : List Edit) → (after_call v now edits).name ≡ v.name
edits-of-call-named v now [] = refl
edits-of-call-named v now (e ∷ es) = edits-named v (e ∷ es)

pub call-named : (v : VolumeState) (step : TreeStep) → (tree_effect v step.user step.now step.call).name ≡ v.name
call-named v step = ap (λ (w : VolumeState). w.name) (sym (effects-are v step.user step.now step.call)) ∙ edits-of-call-named v step.now (call_edits v step.user step.now (volume_call step.call))
