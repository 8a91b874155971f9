-- What edits leave of icons and mappings.
use Rattle.std.proofs.Common.{◌≡◌, ◌∙◌, ◌==◌, ◌-◌, ℕ, Bool, true, false, cond, not, List, [], ◌∷◌, ◌++◌, take, Option, Some, None, refl, sym, ap, eq-eqb}
use Rattle.std.specs.Prelude.{◌&&◌, bytes_eq, option_map}
use Rattle.std.specs.List.{filter}
use Rattle.std.proofs.lemmas.Bool.{eqb-true, eqb-false, ne_eqb}
use Rattle.afp_base.proofs.Facts.{bytes_same}
use Rattle.volume_spec.proofs.Keys.{finds-gone}
use Rattle.volume_spec.specs.Desktop.{appl_at, icon_at, pair_key}
use Rattle.volume_spec.specs.DesktopLaws.{FindsNoTakenAppl, FindsPutAppl, FindsPutIcon}
use Rattle.volume_spec.specs.Edit.{Edit, Comes, Goes, Renames, Moves, Sets, Files, Writes, Exchanges, PutsIcon, PutsAppl, TakesAppl, Comments, BacksUp, after_call, after_edits, edited}
use Rattle.volume_spec.specs.Edits.{exchanged_at}
use Rattle.volume_spec.specs.SoundVolume.{appl_key, icon_key}
use Rattle.volume_spec.specs.VolumeState.{Appl, Icon, Row, VolumeState}
use Rattle.volume_spec.specs.Walk.{row_at}
use Rattle.volume_edits.specs.edits.Planned.{EditValue, edits_of}
use Rattle.volume_edits.specs.edits.lemma.Steps.{icon_put, tag_left}
use Rattle.volume_edits.proofs.OfEdits.Behind.{Last}

-- what stands of two files that exchange their forks
exchanged-icons : (a b : ℕ) (s t : Option Row) (v : VolumeState) → (exchanged_at a b s t v).icons ≡ v.icons
exchanged-icons a b None t v = refl
exchanged-icons a b (Some s) None v = refl
exchanged-icons a b (Some s) (Some t) v = refl

exchanged-appls : (a b : ℕ) (s t : Option Row) (v : VolumeState) → (exchanged_at a b s t v).appls ≡ v.appls
exchanged-appls a b None t v = refl
exchanged-appls a b (Some s) None v = refl
exchanged-appls a b (Some s) (Some t) v = refl

-- icons
abbrev pub shown : Icon → ℕ × List ℕ
shown icon = (icon.tag, icon.bits)

abbrev pub shown_at : List ℕ → List Icon → Option (ℕ × List ℕ)
shown_at key icons = option_map (λ (icon : Icon). (icon.tag, icon.bits)) (icon_at key icons)

abbrev pub icon_or : Option (ℕ × List ℕ) → Option (ℕ × List ℕ) → Option (ℕ × List ℕ)
icon_or (Some icon) other = Some icon
icon_or None other = other

shown-put : (t : Bool) (icon : Icon) (old : Option Icon) → option_map (λ (i : Icon). (i.tag, i.bits)) (cond t (Some icon) old) ≡ icon_or (cond t (Some (icon.tag, icon.bits)) None) (option_map (λ (i : Icon). (i.tag, i.bits)) old)
shown-put true icon old = refl
shown-put false icon old = refl

icon-then : FindsPutIcon → (v : VolumeState) (e : Edit) (key : List ℕ) → shown_at key (edited v e).icons ≡ icon_or (icon_put e key) (shown_at key v.icons)
unfolding edited
icon-then finds v (Comes row) key = refl
icon-then finds v (Goes gone) key = refl
icon-then finds v (Renames id name) key = refl
icon-then finds v (Moves id parent name) key = refl
icon-then finds v (Sets id settings) key = refl
icon-then finds v (Files id filed) key = refl
icon-then finds v (Writes now id resource bytes) key = refl
icon-then finds v (Exchanges a b) key = ap (shown_at key) (exchanged-icons a b (row_at v.rows a) (row_at v.rows b) v)
icon-then finds v (PutsIcon icon) key = ap (option_map (λ (i : Icon). (i.tag, i.bits))) (finds icon v.icons key) ∙ shown-put (bytes_eq (icon_key icon) key) icon (icon_at key v.icons)
icon-then finds v (PutsAppl appl) key = refl
icon-then finds v (TakesAppl creator id) key = refl
icon-then finds v (Comments id text) key = refl
icon-then finds v (BacksUp date) key = refl

pub icon-behind : FindsPutIcon → (v : VolumeState) (es : List EditValue) (count : ℕ) (key : List ℕ) (e : Edit) (old : Option (ℕ × List ℕ)) → Last v es count e → old ≡ shown_at key (after_edits v (edits_of (take (count - 1) es))).icons
    → icon_or (icon_put e key) old ≡ shown_at key (after_edits v (edits_of (take count es))).icons
icon-behind finds v es count key e old l is =
    ap (icon_or (icon_put e key)) is ∙ sym (ap (λ (w : VolumeState). shown_at key w.icons) l.after ∙ icon-then finds (after_edits v (edits_of (take (count - 1) es))) e key)

pub icons-of-call : (v : VolumeState) (now : ℕ) (es : List Edit) → (after_edits v es).icons ≡ (after_call v now es).icons
icons-of-call v now [] = refl
icons-of-call v now (e ∷ es) = refl

-- mappings
abbrev pub tag_at : List ℕ → ℕ → List Appl → Option ℕ
tag_at creator node appls = option_map (λ (appl : Appl). appl.tag) (appl_at creator node appls)

tag-cond : (t : Bool) (x o : Option Appl) → option_map (λ (appl : Appl). appl.tag) (cond t x o) ≡ cond t (option_map (λ (appl : Appl). appl.tag) x) (option_map (λ (appl : Appl). appl.tag) o)
tag-cond true x o = refl
tag-cond false x o = refl

last-same : (xs ys : List ℕ) (a b : ℕ) → xs ++ a ∷ [] ≡ ys ++ b ∷ [] → a ≡ b
last-same [] [] a b e = cc e
last-same [] (y ∷ []) a b e = absurd (cc e)
last-same [] (y ∷ z ∷ ys) a b e = absurd (cc e)
last-same (x ∷ []) [] a b e = absurd (cc e)
last-same (x ∷ z ∷ xs) [] a b e = absurd (cc e)
last-same (x ∷ xs) (y ∷ ys) a b e = last-same xs ys a b (ap tail_of e)
  where
    tail_of : List ℕ → List ℕ
    tail_of [] = []
    tail_of (x ∷ xs) = xs

gone-tag : (appls : List Appl) (id : ℕ) (creator : List ℕ) (node : ℕ) → appl_at creator node (filter (λ (appl : Appl). not (appl.node == id)) appls) ≡ cond (id == node) None (appl_at creator node appls)
gone-tag appls id creator node =
    finds-gone (λ appl. bytes_eq (appl_key appl) (pair_key creator node)) (λ appl. appl.node == id) (id == node) appls
    (λ here x there. eq-eqb x.node id (last-same x.creator creator x.node node (bytes_same (appl_key x) (pair_key creator node) there) ∙ sym (eqb-true id node here)))
    (λ differ x there. let k : (id ≡ node → ⊥) = eqb-false id node differ in ne_eqb x.node id (λ same. k (sym same ∙ last-same x.creator creator x.node node (bytes_same (appl_key x) (pair_key creator node) there))))

tag-then : FindsPutAppl → FindsNoTakenAppl → (v : VolumeState) (e : Edit) (creator : List ℕ) (node : ℕ) → tag_at creator node (edited v e).appls ≡ tag_left e creator node (tag_at creator node v.appls)
unfolding edited
tag-then put taken v (Comes row) creator node = refl
tag-then put taken v (Goes gone) creator node = ap (option_map (λ (appl : Appl). appl.tag)) (gone-tag v.appls gone creator node) ∙ tag-cond (gone == node) None (appl_at creator node v.appls)
tag-then put taken v (Renames id name) creator node = refl
tag-then put taken v (Moves id parent name) creator node = refl
tag-then put taken v (Sets id settings) creator node = refl
tag-then put taken v (Files id filed) creator node = refl
tag-then put taken v (Writes now id resource bytes) creator node = refl
tag-then put taken v (Exchanges a b) creator node = ap (tag_at creator node) (exchanged-appls a b (row_at v.rows a) (row_at v.rows b) v)
tag-then put taken v (PutsIcon icon) creator node = refl
tag-then put taken v (PutsAppl appl) creator node = ap (option_map (λ (a : Appl). a.tag)) (put appl v.appls creator node) ∙ tag-cond (bytes_eq (appl_key appl) (pair_key creator node)) (Some appl) (appl_at creator node v.appls)
tag-then put taken v (TakesAppl c n) creator node = ap (option_map (λ (a : Appl). a.tag)) (taken v.appls c creator n node) ∙ tag-cond (bytes_eq (pair_key c n) (pair_key creator node)) None (appl_at creator node v.appls)
tag-then put taken v (Comments id text) creator node = refl
tag-then put taken v (BacksUp date) creator node = refl

pub tag-behind : FindsPutAppl → FindsNoTakenAppl → (v : VolumeState) (es : List EditValue) (count : ℕ) (creator : List ℕ) (node : ℕ) (e : Edit) (old : Option ℕ) → Last v es count e
    → old ≡ tag_at creator node (after_edits v (edits_of (take (count - 1) es))).appls → tag_left e creator node old ≡ tag_at creator node (after_edits v (edits_of (take count es))).appls
tag-behind put taken v es count creator node e old l is =
    ap (tag_left e creator node) is ∙ sym (ap (λ (w : VolumeState). tag_at creator node w.appls) l.after ∙ tag-then put taken (after_edits v (edits_of (take (count - 1) es))) e creator node)

pub appls-of-call : (v : VolumeState) (now : ℕ) (es : List Edit) → (after_edits v es).appls ≡ (after_call v now es).appls
appls-of-call v now [] = refl
appls-of-call v now (e ∷ es) = refl

-- a creator and a file are the pair of their key
pub pair-parts : (c d : List ℕ) (m n : ℕ) → (bytes_eq c d && (m == n)) ≡ bytes_eq (pair_key c m) (pair_key d n)
pair-parts [] [] m n = and-true (m == n)
  where
    and-true : (t : Bool) → t ≡ (t && true)
    and-true true = refl
    and-true false = refl
pair-parts [] (y ∷ []) m n = and-none (m == y)
  where
    and-none : (t : Bool) → false ≡ (t && false)
    and-none true = refl
    and-none false = refl
pair-parts [] (y ∷ z ∷ d) m n = and-none (m == y)
  where
    and-none : (t : Bool) → false ≡ (t && false)
    and-none true = refl
    and-none false = refl
pair-parts (x ∷ []) [] m n = and-none (x == n)
  where
    and-none : (t : Bool) → false ≡ (t && false)
    and-none true = refl
    and-none false = refl
pair-parts (x ∷ z ∷ c) [] m n = and-none (x == n)
  where
    and-none : (t : Bool) → false ≡ (t && false)
    and-none true = refl
    and-none false = refl
pair-parts (x ∷ c) (y ∷ d) m n = within (x == y) (pair-parts c d m n)
  where
    within : (t : Bool) → (bytes_eq c d && (m == n)) ≡ bytes_eq (pair_key c m) (pair_key d n) → ((t && bytes_eq c d) && (m == n)) ≡ (t && bytes_eq (pair_key c m) (pair_key d n))
    within true e = e
    within false e = refl
