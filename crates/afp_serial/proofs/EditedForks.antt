-- Edits that take no node away and change no fork that is there let the bytes of each fork be; two files that are exchanged have each other's.
use Rattle.std.proofs.Common.{◌==◌, ◌≡◌, ◌∙◌, ap, sym, refl, ℕ, Bool, true, false, cond, List, [], ◌∷◌, map, Option, Some}
use Rattle.std.specs.Prelude.{find, option_map}
use Rattle.std.specs.List.{list_all}
use Rattle.std.proofs.lemmas.Bool.{and_parts, both_ways, cond_both, eq-eqb, eqb-true}
use Rattle.afp_base.proofs.ListFacts.{find-passes}
use Rattle.afp_names.specs.Path.{PathValue}
use Rattle.afp_serial.proofs.OpenForkBytes.{Has, LetsBe, changed-be, new-be}
use Rattle.volume_spec.proofs.Refusals.{at-each}
use Rattle.volume_spec.specs.Comments.{does_comment}
use Rattle.volume_spec.specs.CopyFile.{Source}
use Rattle.volume_spec.specs.Edit.{Edit, Comes, Goes, Renames, Moves, Sets, Files, Writes, Exchanges, PutsIcon, PutsAppl, TakesAppl, Comments as CommentEdit, BacksUp, after_call, after_edits, edited}
use Rattle.volume_spec.specs.EditLaws.{MayExchange}
use Rattle.volume_spec.specs.Edits.{at_place, change_at, exchanged_at, filed_as, named, put, with_changed, with_forks_of}
use Rattle.volume_spec.specs.ExchangeFiles.{Pair}
use Rattle.volume_spec.specs.ForkEffect.{fork_of}
use Rattle.volume_spec.specs.SetFileDirParms.{with_settings}
use Rattle.volume_spec.specs.VolumeCalls.{VolumeCall, CopyFile, CreateID, DeleteID, AddIcon, AddAPPL, RemoveAPPL, AddComment, RemoveComment, call_edits}
use Rattle.volume_spec.specs.VolumeState.{Icon, Row as File, VolumeState}
use Rattle.volume_spec.specs.Walk.{found, one_down_or, row_at}

-- such edits

abbrev pub is_gentle : Edit → Bool
is_gentle (Goes id) = false
is_gentle (Writes now id resource bytes) = false
is_gentle (Exchanges a b) = false
is_gentle e = true

edit-be : (id : ℕ) (v : VolumeState) (e : Edit) → is_gentle e ≡ true → LetsBe id v (edited v e)
unfolding edited with_settings
edit-be id v (Comes row) gentle = new-be id v row
edit-be id v (Goes gone) gentle = absurd (cc)
edit-be id v (Renames n name) gentle = changed-be id v n (named name) (record { ids = λ row. refl; forks = λ resource row. refl })
edit-be id v (Moves n parent name) gentle = changed-be id v n (at_place parent name) (record { ids = λ row. refl; forks = λ resource row. refl })
edit-be id v (Sets n settings) gentle = changed-be id v n (with_settings settings) (record { ids = λ row. refl; forks = λ resource row. refl })
edit-be id v (Files n filed) gentle = changed-be id v n (filed_as filed) (record { ids = λ row. refl; forks = λ resource row. refl })
edit-be id v (Writes now n resource bytes) gentle = absurd (cc)
edit-be id v (Exchanges a b) gentle = absurd (cc)
edit-be id v (PutsIcon icon) gentle = λ resource bytes h. h
edit-be id v (PutsAppl appl) gentle = λ resource bytes h. h
edit-be id v (TakesAppl creator node) gentle = λ resource bytes h. h
edit-be id v (CommentEdit node text) gentle = λ resource bytes h. h
edit-be id v (BacksUp date) gentle = λ resource bytes h. h

edits-be : (id : ℕ) (v : VolumeState) (es : List Edit) → list_all is_gentle es ≡ true → LetsBe id v (after_edits v es)
edits-be id v [] gentle resource bytes h = h
edits-be id v (e ∷ es) gentle resource bytes h =
    let g = and_parts (is_gentle e) (list_all is_gentle es) gentle in
    edits-be id (edited v e) es g.1 resource bytes (edit-be id v e g.0 resource bytes h)

pub gentle-be : (id : ℕ) (v : VolumeState) (now : ℕ) (es : List Edit) → list_all is_gentle es ≡ true → (resource : Bool) (bytes : List ℕ) → Has id resource bytes v → Has id resource bytes (after_call v now es)
gentle-be id v now [] gentle resource bytes h = h
gentle-be id v now (e ∷ es) gentle resource bytes h = edits-be id v (e ∷ es) gentle resource bytes h

-- those of calls

abbrev pub IsGentle : VolumeCall → Type 0
IsGentle change = (v : VolumeState) (user now : ℕ) → list_all is_gentle (call_edits v user now change) ≡ true

abbrev Gentle : List Edit → Type 0
Gentle es = list_all is_gentle es ≡ true

pub copy-gentle : (source : Source) (dir : ℕ) (path new : PathValue) → IsGentle (CopyFile source dir path new)
unfolding call_edits
copy-gentle source dir path new v user now =
    at-each Gentle (found v.rows user dir path) [] _ refl (λ target is. at-each Gentle (one_down_or source.file.name new.steps) [] _ refl (λ name down. refl))

pub create-id-gentle : (dir : ℕ) (path : PathValue) → IsGentle (CreateID dir path)
unfolding call_edits
create-id-gentle dir path v user now = at-each Gentle (found v.rows user dir path) [] _ refl (λ id is. refl)

pub delete-id-gentle : (id : ℕ) → IsGentle (DeleteID id)
unfolding call_edits
delete-id-gentle id v user now = refl

pub add-icon-gentle : (icon : Icon) → IsGentle (AddIcon icon)
unfolding call_edits
add-icon-gentle icon v user now = refl

pub add-appl-gentle : (dir : ℕ) (creator : List ℕ) (tag : ℕ) (path : PathValue) → IsGentle (AddAPPL dir creator tag path)
unfolding call_edits
add-appl-gentle dir creator tag path v user now = at-each Gentle (found v.rows user dir path) [] _ refl (λ id is. refl)

pub remove-appl-gentle : (dir : ℕ) (creator : List ℕ) (path : PathValue) → IsGentle (RemoveAPPL dir creator path)
unfolding call_edits
remove-appl-gentle dir creator path v user now = at-each Gentle (found v.rows user dir path) [] _ refl (λ id is. refl)

pub add-comment-gentle : (dir : ℕ) (path : PathValue) (text : List ℕ) → IsGentle (AddComment dir path text)
unfolding call_edits
add-comment-gentle dir path text v user now =
    at-each Gentle (found v.rows user dir path) [] _ refl (λ id is. cond_both (does_comment v id text) (CommentEdit id text ∷ []) [] Gentle (λ some. refl) (λ none. refl))

pub remove-comment-gentle : (dir : ℕ) (path : PathValue) → IsGentle (RemoveComment dir path)
unfolding call_edits
remove-comment-gentle dir path v user now = at-each Gentle (found v.rows user dir path) [] _ refl (λ id is. refl)

-- another row in the place of one

turned : (a b : ℕ) → (a == b) ≡ false → (b == a) ≡ false
turned a b h = by (b == a) refl
  where
    by : (q : Bool) → (b == a) ≡ q → (b == a) ≡ false
    by false is = is
    by true is = absurd (both_ways (a == b) h (eq-eqb a b (sym (eqb-true b a is))))

put-seen : (rows : List File) (id : ℕ) (s t : File) → t.id ≡ id → row_at rows id ≡ Some s → row_at (with_changed id (put t) rows) id ≡ Some t
unfolding with_changed row_at
put-seen [] id s t its found = absurd (cc)
put-seen (row ∷ rows) id s t its found =
    let rest : Option File = find (λ (r : File). r.id == id) (map (change_at id (put t)) rows) in
    cond_both (row.id == id) (Some row) (find (λ (r : File). r.id == id) rows) (λ o. o ≡ Some s → cond ((change_at id (put t) row).id == id) (Some (change_at id (put t) row)) rest ≡ Some t)
    (λ here h. (λ i. cond ((cond (here i) t row).id == id) (Some (cond (here i) t row)) rest) ∙ ap (λ b. cond b (Some t) rest) (eq-eqb t.id id its))
    (λ other h. (λ i. cond ((cond (other i) t row).id == id) (Some (cond (other i) t row)) rest) ∙ ap (λ b. cond b (Some row) rest) other ∙ put-seen rows id s t its h)
    found

put-lets-be : (rows : List File) (id other : ℕ) (t : File) → t.id ≡ id → (other == id) ≡ false → row_at (with_changed id (put t) rows) other ≡ row_at rows other
unfolding with_changed row_at
put-lets-be [] id other t its apart = refl
put-lets-be (row ∷ rows) id other t its apart =
    let rest : Option File = find (λ (r : File). r.id == other) (map (change_at id (put t)) rows) in
    cond_both (row.id == id) t row (λ r. (row.id == id) ≡ (row.id == id) → cond (r.id == other) (Some r) rest ≡ cond (row.id == other) (Some row) (find (λ (r : File). r.id == other) rows))
    (λ here k.
    let not_its : (t.id == other) ≡ false = ap (λ n. n == other) its ∙ turned other id apart in
    let not_row : (row.id == other) ≡ false = ap (λ n. n == other) (eqb-true row.id id here) ∙ turned other id apart in
    ap (λ b. cond b (Some t) rest) not_its ∙ put-lets-be rows id other t its apart ∙ ap (λ b. cond b (Some row) (find (λ (r : File). r.id == other) rows)) (sym not_row))
    (λ stays k. ap (cond (row.id == other) (Some row)) (put-lets-be rows id other t its apart))
    refl

-- two files that are exchanged

pub record IsExchanged (v new : VolumeState) (pair : Pair) (s t : File) : Type 0 where
  pub first : (resource : Bool) → option_map (fork_of resource) (row_at new.rows pair.first) ≡ Some (fork_of resource t)
  pub second : (resource : Bool) → option_map (fork_of resource) (row_at new.rows pair.second) ≡ Some (fork_of resource s)
  pub others : (id : ℕ) → (id == pair.first) ≡ false → (id == pair.second) ≡ false → row_at new.rows id ≡ row_at v.rows id

forks-given : (resource : Bool) (from to : File) → fork_of resource (with_forks_of from to) ≡ fork_of resource from
forks-given true from to = refl
forks-given false from to = refl

pub pair-exchanged : (v : VolumeState) (now : ℕ) (pair : Pair) (may : MayExchange v pair.first pair.second) → IsExchanged v (after_call v now (Exchanges pair.first pair.second ∷ [])) pair may.first may.second
unfolding edited row_at
pair-exchanged v now pair may =
    let a : ℕ = pair.first in
    let b : ℕ = pair.second in
    let s : File = may.first in
    let t : File = may.second in
    let one : s.id ≡ a = eqb-true s.id a (find-passes (λ (r : File). r.id == a) v.rows s may.first_found) in
    let two : t.id ≡ b = eqb-true t.id b (find-passes (λ (r : File). r.id == b) v.rows t may.second_found) in
    let mid : List File = with_changed a (put (with_forks_of t s)) v.rows in
    let rows : List File = with_changed b (put (with_forks_of s t)) mid in
    let is : (exchanged_at a b (row_at v.rows a) (row_at v.rows b) v).rows ≡ rows = λ i. (exchanged_at a b (may.first_found i) (may.second_found i) v).rows in
    let at_mid : row_at mid b ≡ Some t = put-lets-be v.rows a b (with_forks_of t s) one (turned a b may.apart) ∙ may.second_found in
    let at_a : row_at rows a ≡ Some (with_forks_of t s) = put-lets-be mid b a (with_forks_of s t) two may.apart ∙ put-seen v.rows a s (with_forks_of t s) one may.first_found in
    let at_b : row_at rows b ≡ Some (with_forks_of s t) = put-seen mid b t (with_forks_of s t) two at_mid in
    record {
      first = λ resource. ap (λ l. option_map (fork_of resource) (row_at l a)) is ∙ ap (option_map (fork_of resource)) at_a ∙ ap Some (forks-given resource t s);
      second = λ resource. ap (λ l. option_map (fork_of resource) (row_at l b)) is ∙ ap (option_map (fork_of resource)) at_b ∙ ap Some (forks-given resource s t);
      others = λ id first second. ap (λ l. row_at l id) is ∙ put-lets-be mid b id (with_forks_of s t) two second ∙ put-lets-be v.rows a id (with_forks_of t s) one first;
    }
