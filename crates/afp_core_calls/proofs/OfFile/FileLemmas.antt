-- File ids that are told.
use Rattle.std.proofs.Common.{◌≡◌, ◌∙◌, ap, sym, refl, subst, ℕ, ◌==◌, cond, not, ◌&&◌, ◌||◌, Bool, true, false, List, [], ◌∷◌, ◌++◌, Option, Some, None, if◌then◌else◌}
use Rattle.std.specs.Prelude.{IfOk, Result, Ok, Err, is_some, option_map}
use Rattle.std.specs.List.{find}
use Rattle.afp_base.proofs.Facts.{some-none}
use Rattle.afp_base.specs.declared.bytes.OutOfMemory.{OutOfMemory}
use Rattle.afp_base.specs.declared.code.Code.{Code}
use Rattle.afp_base.specs.declared.ids.NodeId.{NodeId}
use Rattle.afp_bitmap.specs.declared.params.Values.{Values}
use Rattle.afp_names.specs.Path.{PathValue}
use Rattle.afp_replies.specs.Replies.{canonical_reply}
use Rattle.afp_replies.specs.declared.reply.Reply.TheVariants.{Node, Params}
use Rattle.afp_serial.specs.OpenDir.{open_dir_reply}
use Rattle.afp_serial.specs.FileIds.{resolve_id_reply}
use Rattle.volume_spec.proofs.SeenRows.{file-found}
use Rattle.volume_spec.specs.FileIds.{create_id_refusal, created_id, resolve_id_values}
use Rattle.volume_spec.specs.OpenFork.{file_of, fork_values}
use Rattle.volume_spec.specs.Shared.{Opened, done_at}
use Rattle.volume_spec.specs.SoundVolume.{has_file, has_node, IsSoundVolume}
use Rattle.volume_spec.specs.VolumeState.{Row, VolumeState}
use Rattle.volume_spec.specs.Walk.{found, row_at}
use Rattle.volume_tree.specs.Answered.{Answers}
use Rattle.volume_tree.specs.declared.resolve.PlanFault.{PlanFault}
use Rattle.volume_tree.specs.declared.resolve.PlanFault.TheVariants as fault
use Rattle.volume_tree.proofs.Showing.{ids-differ}

-- the row of a file
row-of : (rows : List Row) (node : ℕ) → has_file rows node ≡ true → (file : Row) × (row_at rows node ≡ Some file)
unfolding row_at
row-of [] node h = absurd cc
row-of (row ∷ rows) node h = by (row.id == node) h (row-of rows node)
  where
    by : (b : Bool) → ((b && not row.dir) || has_file rows node) ≡ true → (has_file rows node ≡ true → (file : Row) × (find (λ r. r.id == node) rows ≡ Some file))
        → (file : Row) × (cond b (Some row) (find (λ r. r.id == node) rows) ≡ Some file)
    by true h rest = (row, refl)
    by false h rest = rest h

-- a path that leads nowhere, by its code
pub answers-code : (f : PlanFault) (code : Code) (wanted : Result ℕ Code) → f ≡ fault.Code code → Answers (Err f) wanted → wanted ≡ Err code
answers-code f code wanted is answers = subst (λ (x : PlanFault). Answers (Err x) wanted) is answers

-- the id of the file to which a path leads
pub created-told : (v : VolumeState) (user dir : ℕ) (path : PathValue) (id : NodeId) → found v.rows user dir path ≡ Ok id.0 → canonical_reply (Node id) ≡ canonical_reply (open_dir_reply (created_id v user dir path))
unfolding created_id
created-told v user dir path id leads = ap (λ (r : Result ℕ Code). canonical_reply (open_dir_reply (done_at r None Some))) (sym leads)

-- a path that leads nowhere is refused
pub nowhere-refused : (v : VolumeState) (user dir : ℕ) (path : PathValue) (code : Code) → found v.rows user dir path ≡ Err code → create_id_refusal v user dir path ≡ Some code
unfolding create_id_refusal
nowhere-refused v user dir path code leads = rw leads refl

-- what is told of the file of an id
pub resolved-told : (v : VolumeState) (opens : List Opened) (id bits : ℕ) (before after : List ℕ) → IsSoundVolume v → has_file v.rows id ≡ true
    → ((row : Row) → row_at v.rows id ≡ Some row → after ≡ before ++ canonical_reply (Params bits (fork_values opens bits row))) → after ≡ before ++ canonical_reply (resolve_id_reply bits (resolve_id_values v opens id bits))
unfolding resolve_id_values
resolved-told v opens id bits before after s has told =
    let row = row-of v.rows id has in
    told row.0 row.1
    ∙ ap (λ (o : Option Values). before ++ canonical_reply (resolve_id_reply bits o))
    (sym (ap (λ (o : Option Row). option_map (fork_values opens bits) (file_of o)) row.1
    ∙ ap (λ (d : Bool). option_map (fork_values opens bits) (if d then None else Some row.0)) (file-found v.rows id row.0 (ids-differ v s) row.1 has)))

-- a node that is looked for
pub node-looked : (rows : List Row) (id : ℕ) (looked : Option Row) → looked ≡ row_at rows id → is_some looked ≡ has_node rows id
unfolding row_at
node-looked rows id looked is = ap is_some is ∙ by rows
  where
    by : (rows : List Row) → is_some (find (λ (row : Row). row.id == id) rows) ≡ has_node rows id
    by [] = refl
    by (row ∷ rows) = one (row.id == id) (by rows)
      where
        one : (b : Bool) → is_some (find (λ (row : Row). row.id == id) rows) ≡ has_node rows id → is_some (cond b (Some row) (find (λ (row : Row). row.id == id) rows)) ≡ (b || has_node rows id)
        one true rest = refl
        one false rest = rest

-- the bytes of an id, where the file is to be filed
pub id-bytes : (v : VolumeState) (user dir : ℕ) (path : PathValue) (id : NodeId) (bytes : Result (List ℕ) OutOfMemory) → found v.rows user dir path ≡ Ok id.0 → IfOk bytes (λ block. block ≡ canonical_reply (Node id))
    → IfOk bytes (λ block. create_id_refusal v user dir path ≡ None → block ≡ canonical_reply (open_dir_reply (created_id v user dir path)))
id-bytes v user dir path id (Ok block) leads told = λ passes. told ∙ created-told v user dir path id leads
id-bytes v user dir path id (Err e) leads told = tt

pub nowhere-passes : (v : VolumeState) (user dir : ℕ) (path : PathValue) (code : Code) (block : List ℕ) → found v.rows user dir path ≡ Err code → create_id_refusal v user dir path ≡ None → block ≡ canonical_reply (open_dir_reply (created_id v user dir path))
nowhere-passes v user dir path code block leads passes = absurd (some-none code (sym (nowhere-refused v user dir path code leads) ∙ passes))
