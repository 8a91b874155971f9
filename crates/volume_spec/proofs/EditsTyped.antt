-- Each edit keeps a volume's numbers in their ranges, if it brings such.
use Rattle.std.proofs.Common.{◌==◌, ◌≡◌, refl, ℕ, pos, Bool, true, not, List, [], ◌∷◌, length, take, Option, Some, None}
use Rattle.std.specs.Prelude.{bytes_eq, option_map, unwrap_or}
use Rattle.std.specs.List.{list_all}
use Rattle.std.proofs.lemmas.Bool.{and_parts, and_from, cond_both}
use Rattle.volume_spec.proofs.ForkEffects.{written-typed}
use Rattle.volume_spec.proofs.Keys.{put-key-all}
use Rattle.volume_spec.proofs.Ordered.{put-all}
use Rattle.volume_spec.proofs.TypedEdits.{KeepsTyped, TypedParts, TypedSettings, row-parts, row-whole, settings-typed, take-bytes, typed-at, typed-changed, typed-come, typed-moved, typed-parts, typed-renamed, typed-whole, typed-without}
use Rattle.volume_spec.specs.Desktop.{comment_key, pair_key, with_comment, without_comment}
use Rattle.volume_spec.specs.Edit.{Edit, Comes, Goes, Renames, Moves, Sets, Files, Writes, Exchanges, PutsIcon, PutsAppl, TakesAppl, Comments, BacksUp, after_call, after_edits, edited}
use Rattle.volume_spec.specs.EditLaws.{MayEdit, MayEditAll}
use Rattle.volume_spec.specs.EditRanges.{is_typed_edit, is_typed_settings}
use Rattle.volume_spec.specs.Edits.{exchanged, put, with_changed, with_forks_of, exchanged_at, filed_as}
use Rattle.volume_spec.specs.ForkEffect.{written}
use Rattle.volume_spec.specs.SetFileDirParms.{Settings, with_settings}
use Rattle.volume_spec.specs.SoundVolume.{appl_key, icon_key}
use Rattle.volume_spec.specs.TypedVolume.{are_bytes, is_date, is_long, is_typed_appl, is_typed_comment, is_typed_icon, is_typed_row, is_typed_volume}
use Rattle.volume_spec.specs.VolumeState.{Appl, Comment, Row, VolumeState}
use Rattle.volume_spec.specs.Walk.{row_at}
use Rattle.afp_base.proofs.ListFacts.{all-filter, find-all}

-- a file with the forks of another
forks-typed : (from to : Row) → is_typed_row from ≡ true → is_typed_row to ≡ true → is_typed_row (with_forks_of from to) ≡ true
forks-typed from to f t =
    let a = row-parts from f in
    let b = row-parts to t in
    row-whole (with_forks_of from to) (record { id = b.id; parent = b.parent; attributes = b.attributes; created = b.created; modified = a.modified; backup = b.backup; finder = b.finder; privileges = b.privileges; name = b.name; data_fork = a.data_fork; resource_fork = a.resource_fork })

pub exchanged-typed : (v : VolumeState) (a b : ℕ) (s t : Row) → row_at v.rows a ≡ Some s → row_at v.rows b ≡ Some t → is_typed_volume v ≡ true → is_typed_volume (exchanged a b s t v) ≡ true
unfolding row_at
exchanged-typed v a b s t at_a at_b h =
    let p : TypedParts v = typed-parts v h in
    let ts : is_typed_row s ≡ true = find-all (λ (r : Row). r.id == a) is_typed_row v.rows s at_a p.rows in
    let tt' : is_typed_row t ≡ true = find-all (λ (r : Row). r.id == b) is_typed_row v.rows t at_b p.rows in
    let u : VolumeState = record v { rows = with_changed a (put (with_forks_of t s)) v.rows } in
    typed-whole (exchanged a b s t v) (typed-at u b (put (with_forks_of s t)) (λ row is. forks-typed s t ts tt')
    (typed-at v a (put (with_forks_of t s)) (λ row is. forks-typed t s tt' ts) p))

exchange-typed : (v : VolumeState) (a b : ℕ) (s t : Option Row) → row_at v.rows a ≡ s → row_at v.rows b ≡ t → is_typed_volume v ≡ true → is_typed_volume (exchanged_at a b s t v) ≡ true
exchange-typed v a b None t at_a at_b h = h
exchange-typed v a b (Some s) None at_a at_b h = h
exchange-typed v a b (Some s) (Some t) at_a at_b h = exchanged-typed v a b s t at_a at_b h

-- what is set, each apart
set-parts : (s : Settings) → is_typed_settings s ≡ true → TypedSettings s
set-parts s h =
    let a = and_parts (unwrap_or (option_map is_date s.created) true) _ h in
    let b = and_parts (unwrap_or (option_map is_date s.modified) true) _ a.1 in
    let c = and_parts (unwrap_or (option_map is_date s.backup) true) _ b.1 in
    let d = and_parts (unwrap_or (option_map are_bytes s.finder) true) _ c.1 in
    let e = and_parts (unwrap_or (option_map is_long s.owner) true) (unwrap_or (option_map is_long s.group) true) d.1 in
    record { created = a.0; modified = b.0; backup = c.0; finder = d.0; owner = e.0; group = e.1 }

pub set-whole : (s : Settings) → TypedSettings s → is_typed_settings s ≡ true
set-whole s t =
    and_from (unwrap_or (option_map is_date s.created) true) _ t.created
    (and_from (unwrap_or (option_map is_date s.modified) true) _ t.modified
    (and_from (unwrap_or (option_map is_date s.backup) true) _ t.backup
    (and_from (unwrap_or (option_map are_bytes s.finder) true) _ t.finder
    (and_from (unwrap_or (option_map is_long s.owner) true) (unwrap_or (option_map is_long s.group) true) t.owner t.group))))

filed-typed : (filed : Bool) → KeepsTyped (filed_as filed)
filed-typed filed row h =
    let r = row-parts row h in
    row-whole (filed_as filed row) (record { id = r.id; parent = r.parent; attributes = r.attributes; created = r.created; modified = r.modified; backup = r.backup; finder = r.finder; privileges = r.privileges; name = r.name; data_fork = r.data_fork; resource_fork = r.resource_fork })

comments-typed : (node : ℕ) (text : List ℕ) (comments : List Comment) → is_long node ≡ true → are_bytes text ≡ true → list_all is_typed_comment comments ≡ true → list_all is_typed_comment (with_comment node text comments) ≡ true
comments-typed node text comments long small h =
    let rest = all-filter is_typed_comment (λ (comment : Comment). not (comment.node == node)) comments h in
    cond_both (length text == 0) (without_comment node comments) _ (λ cs. list_all is_typed_comment cs ≡ true)
    (λ none. rest)
    (λ some. put-all comment_key is_typed_comment (record { node = node; text = take 199 text }) (without_comment node comments) (and_from (is_long node) (are_bytes (take 199 text)) long (take-bytes 199 text small)) rest)

edit-parts : (v : VolumeState) (e : Edit) → MayEdit v e → is_typed_edit e ≡ true → is_typed_volume v ≡ true → TypedParts v → TypedParts (edited v e)
unfolding edited
edit-parts v (Comes row) m typed h t = typed-come v row typed m.left t
edit-parts v (Goes id) m typed h t = typed-without v id t
edit-parts v (Renames id name) m typed h t = typed-renamed v id name typed t
edit-parts v (Moves id parent name) m typed h t = let e = and_parts (is_long parent) (are_bytes name) typed in typed-moved v id parent name e.0 e.1 t
edit-parts v (Sets id settings) m typed h t = typed-at v id (with_settings settings) (settings-typed settings (set-parts settings typed)) t
edit-parts v (Files id filed) m typed h t = typed-at v id (filed_as filed) (filed-typed filed) t
edit-parts v (Writes now id resource bytes) m typed h t =
    let e = and_parts (is_date (pos now)) (are_bytes bytes) typed in
    typed-at v id (written now resource bytes true) (written-typed now resource true bytes e.0 e.1) t
edit-parts v (Exchanges a b) m typed h t = typed-parts _ (exchange-typed v a b (row_at v.rows a) (row_at v.rows b) refl refl h)
edit-parts v (PutsIcon icon) m typed h t = record { name = t.name; created = t.created; modified = t.modified; backup = t.backup; next = t.next; rows = t.rows; comments = t.comments; icons = put-key-all icon_key is_typed_icon icon v.icons typed t.icons; appls = t.appls }
edit-parts v (PutsAppl appl) m typed h t = record { name = t.name; created = t.created; modified = t.modified; backup = t.backup; next = t.next; rows = t.rows; comments = t.comments; icons = t.icons; appls = put-key-all appl_key is_typed_appl appl v.appls typed t.appls }
edit-parts v (TakesAppl creator node) m typed h t =
    record { name = t.name; created = t.created; modified = t.modified; backup = t.backup; next = t.next; rows = t.rows; comments = t.comments; icons = t.icons; appls = all-filter is_typed_appl (λ (appl : Appl). not (bytes_eq (appl_key appl) (pair_key creator node))) v.appls t.appls }
edit-parts v (Comments node text) m typed h t =
    let e = and_parts (is_long node) (are_bytes text) typed in
    record { name = t.name; created = t.created; modified = t.modified; backup = t.backup; next = t.next; rows = t.rows; comments = comments-typed node text v.comments e.0 e.1 t.comments; icons = t.icons; appls = t.appls }
edit-parts v (BacksUp date) m typed h t = record { name = t.name; created = t.created; modified = t.modified; backup = typed; next = t.next; rows = t.rows; comments = t.comments; icons = t.icons; appls = t.appls }

pub edit-typed : (v : VolumeState) (e : Edit) → MayEdit v e → is_typed_edit e ≡ true → is_typed_volume v ≡ true → is_typed_volume (edited v e) ≡ true
edit-typed v e m typed h = typed-whole (edited v e) (edit-parts v e m typed h (typed-parts v h))

edits-typed : (v : VolumeState) (edits : List Edit) → MayEditAll v edits → list_all is_typed_edit edits ≡ true → is_typed_volume v ≡ true → is_typed_volume (after_edits v edits) ≡ true
edits-typed v [] m typed h = h
edits-typed v (e ∷ es) m typed h =
    let both = and_parts (is_typed_edit e) (list_all is_typed_edit es) typed in
    edits-typed (edited v e) es m.1 both.1 (edit-typed v e m.0 both.0 h)

pub edits-of-call-typed : (v : VolumeState) (now : ℕ) (edits : List Edit) → is_date (pos now) ≡ true → MayEditAll v edits → list_all is_typed_edit edits ≡ true → is_typed_volume v ≡ true → is_typed_volume (after_call v now edits) ≡ true
edits-of-call-typed v now [] moment m typed h = h
edits-of-call-typed v now (e ∷ es) moment m typed h =
    let w : VolumeState = after_edits v (e ∷ es) in
    typed-whole (after_call v now (e ∷ es)) (typed-changed w now moment (typed-parts w (edits-typed v (e ∷ es) m typed h)))
