-- What edits leave of a volume's dates and of its comments.
use Rattle.std.proofs.Common.{◌≡◌, ◌∙◌, ◌==◌, ◌-◌, ℕ, suc, ℤ, pos, Bool, true, false, cond, List, [], ◌∷◌, length, take, Option, Some, None, refl, sym, ap, arith, inl, inr}
use Rattle.std.specs.Prelude.{option_map, if◌then◌else◌}
use Rattle.std.proofs.lemmas.Bool.{cases_Bool, cond-true, cond-false, eqb-true}
use Rattle.volume_spec.proofs.Desktops.{comment-found, comment-gone}
use Rattle.volume_spec.specs.Desktop.{comment_at, comment_key, with_comment, without_comment}
use Rattle.volume_spec.specs.Order.{put_in}
use Rattle.volume_spec.specs.Edit.{Edit, Comes, Goes, Renames, Moves, Sets, Files, Writes, Exchanges, PutsIcon, PutsAppl, TakesAppl, Comments, BacksUp, after_call, after_edits, edited}
use Rattle.volume_spec.specs.Edits.{exchanged_at}
use Rattle.volume_spec.specs.SoundVolume.{longest_comment}
use Rattle.volume_spec.specs.VolumeState.{Comment, Row, VolumeState}
use Rattle.volume_spec.specs.Walk.{row_at}
use Rattle.volume_edits.specs.edits.Planned.{EditValue, edits_of}
use Rattle.volume_edits.specs.edits.lemma.Steps.{backup_left, comment_left, text_of}
use Rattle.volume_edits.proofs.OfEdits.Behind.{Last}

-- what stands of two files that exchange their forks
exchanged-backup : (a b : ℕ) (s t : Option Row) (v : VolumeState) → (exchanged_at a b s t v).backup ≡ v.backup
exchanged-backup a b None t v = refl
exchanged-backup a b (Some s) None v = refl
exchanged-backup a b (Some s) (Some t) v = refl

exchanged-created : (a b : ℕ) (s t : Option Row) (v : VolumeState) → (exchanged_at a b s t v).created ≡ v.created
exchanged-created a b None t v = refl
exchanged-created a b (Some s) None v = refl
exchanged-created a b (Some s) (Some t) v = refl

exchanged-comments : (a b : ℕ) (s t : Option Row) (v : VolumeState) → (exchanged_at a b s t v).comments ≡ v.comments
exchanged-comments a b None t v = refl
exchanged-comments a b (Some s) None v = refl
exchanged-comments a b (Some s) (Some t) v = refl

-- the backup date
backup-then : (v : VolumeState) (e : Edit) → (edited v e).backup ≡ backup_left e v.backup
unfolding edited
backup-then v (Comes row) = refl
backup-then v (Goes gone) = refl
backup-then v (Renames node name) = refl
backup-then v (Moves node parent name) = refl
backup-then v (Sets node settings) = refl
backup-then v (Files node filed) = refl
backup-then v (Writes now node resource bytes) = refl
backup-then v (Exchanges a b) = exchanged-backup a b (row_at v.rows a) (row_at v.rows b) v
backup-then v (PutsIcon icon) = refl
backup-then v (PutsAppl appl) = refl
backup-then v (TakesAppl creator node) = refl
backup-then v (Comments node text) = refl
backup-then v (BacksUp date) = refl

pub backup-behind : (v : VolumeState) (es : List EditValue) (count : ℕ) (backup : ℤ) (e : Edit) → Last v es count e → backup ≡ (after_edits v (edits_of (take (count - 1) es))).backup
    → backup_left e backup ≡ (after_edits v (edits_of (take count es))).backup
backup-behind v es count backup e l is =
    ap (backup_left e) is ∙ sym (ap (λ (w : VolumeState). w.backup) l.after ∙ backup-then (after_edits v (edits_of (take (count - 1) es))) e)

-- the created date
created-then : (v : VolumeState) (e : Edit) → (edited v e).created ≡ v.created
unfolding edited
created-then v (Comes row) = refl
created-then v (Goes gone) = refl
created-then v (Renames node name) = refl
created-then v (Moves node parent name) = refl
created-then v (Sets node settings) = refl
created-then v (Files node filed) = refl
created-then v (Writes now node resource bytes) = refl
created-then v (Exchanges a b) = exchanged-created a b (row_at v.rows a) (row_at v.rows b) v
created-then v (PutsIcon icon) = refl
created-then v (PutsAppl appl) = refl
created-then v (TakesAppl creator node) = refl
created-then v (Comments node text) = refl
created-then v (BacksUp date) = refl

created-behind : (v : VolumeState) (es : List Edit) → v.created ≡ (after_edits v es).created
created-behind v [] = refl
created-behind v (e ∷ es) = sym (created-then v e) ∙ created-behind (edited v e) es

-- a call leaves what its edits leave, but for the modified date
pub created-of-call : (v : VolumeState) (now : ℕ) (es : List Edit) → v.created ≡ (after_call v now es).created
created-of-call v now [] = refl
created-of-call v now (e ∷ es) = created-behind v (e ∷ es)

pub backup-of-call : (v : VolumeState) (now : ℕ) (es : List Edit) → (after_edits v es).backup ≡ (after_call v now es).backup
backup-of-call v now [] = refl
backup-of-call v now (e ∷ es) = refl

pub next-of-call : (v : VolumeState) (now : ℕ) (es : List Edit) → (after_edits v es).next_id ≡ (after_call v now es).next_id
next-of-call v now [] = refl
next-of-call v now (e ∷ es) = refl

pub comments-of-call : (v : VolumeState) (now : ℕ) (es : List Edit) → (after_edits v es).comments ≡ (after_call v now es).comments
comments-of-call v now [] = refl
comments-of-call v now (e ∷ es) = refl

pub modified-of-call : (v : VolumeState) (now : ℕ) (es : List EditValue) → (length es == 0) ≡ false → pos now ≡ (after_call v now (edits_of es)).modified
modified-of-call v now [] some = absurd (cc)
modified-of-call v now (e ∷ es) some = refl

pub none-of-call : (v : VolumeState) (now : ℕ) (es : List EditValue) → (length es == 0) ≡ true → v ≡ after_call v now (edits_of es)
none-of-call v now [] none = refl
none-of-call v now (e ∷ es) none = let h : suc (length es) ≡ 0 = eqb-true (suc (length es)) 0 none in absurd (omega arith)

-- comments
abbrev text_at : ℕ → List Comment → Option (List ℕ)
text_at node comments = option_map (λ (comment : Comment). comment.text) (comment_at node comments)

mapped : (t : Bool) (x o : Option Comment) → option_map (λ (comment : Comment). comment.text) (cond t x o) ≡ cond t (option_map (λ (comment : Comment). comment.text) x) (option_map (λ (comment : Comment). comment.text) o)
mapped true x o = refl
mapped false x o = refl

text-gone : (cs : List Comment) (id node : ℕ) → text_at node (without_comment id cs) ≡ (if id == node then None else text_at node cs)
text-gone cs id node = ap (option_map (λ (comment : Comment). comment.text)) (comment-gone cs id node) ∙ mapped (id == node) None (comment_at node cs)

text-put : (cs : List Comment) (commented node : ℕ) (text : List ℕ) → text_at node (with_comment commented text cs) ≡ (if commented == node then text_of text else text_at node cs)
text-put cs commented node text = elim (cases_Bool (length text == 0)) [
  | inl none ↦
      (ap (text_at node) (cond-true (length text == 0) (without_comment commented cs) (put_in comment_key (record { node = commented; text = take longest_comment text }) (without_comment commented cs)) none)
      ∙ text-gone cs commented node
      ∙ ap (λ (t : Option (List ℕ)). if commented == node then t else text_at node cs) (sym (cond-true (length text == 0) None (Some (take longest_comment text)) none)))
  | inr some ↦
      (ap (option_map (λ (comment : Comment). comment.text)) (comment-found cs commented node text some)
      ∙ mapped (commented == node) (Some (record { node = commented; text = take longest_comment text })) (comment_at node cs)
      ∙ ap (λ (t : Option (List ℕ)). if commented == node then t else text_at node cs) (sym (cond-false (length text == 0) None (Some (take longest_comment text)) some)))
]

text-then : (v : VolumeState) (e : Edit) (node : ℕ) → text_at node (edited v e).comments ≡ comment_left e node (text_at node v.comments)
unfolding edited
text-then v (Comes row) node = refl
text-then v (Goes gone) node = text-gone v.comments gone node
text-then v (Renames id name) node = refl
text-then v (Moves id parent name) node = refl
text-then v (Sets id settings) node = refl
text-then v (Files id filed) node = refl
text-then v (Writes now id resource bytes) node = refl
text-then v (Exchanges a b) node = ap (text_at node) (exchanged-comments a b (row_at v.rows a) (row_at v.rows b) v)
text-then v (PutsIcon icon) node = refl
text-then v (PutsAppl appl) node = refl
text-then v (TakesAppl creator id) node = refl
text-then v (Comments id text) node = text-put v.comments id node text
text-then v (BacksUp date) node = refl

pub text-behind : (v : VolumeState) (es : List EditValue) (count node : ℕ) (e : Edit) (text : Option (List ℕ)) → Last v es count e → text ≡ text_at node (after_edits v (edits_of (take (count - 1) es))).comments
    → comment_left e node text ≡ text_at node (after_edits v (edits_of (take count es))).comments
text-behind v es count node e text l is =
    ap (comment_left e node) is ∙ sym (ap (λ (w : VolumeState). text_at node w.comments) l.after ∙ text-then (after_edits v (edits_of (take (count - 1) es))) e node)
