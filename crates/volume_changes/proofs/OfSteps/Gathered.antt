-- What edits touch, edit by edit.
use Rattle.std.proofs.Common.{◌≡◌, ◌∙◌, ◌==◌, ◌+◌, ◌-◌, ◌≤◌, ◌<◌, ap, sym, refl, subst, ℕ, zero, suc, Bool, true, false, not, cond, ◌||◌, ◌&&◌, List, [], ◌∷◌, ◌++◌, map, length, take, slice_index_or, Option, Some, None, arith, inl, inr}
use Rattle.std.specs.Prelude.{bytes_eq}
use Rattle.std.specs.Bool.{beq}
use Rattle.std.specs.List.{filter, find, list_any}
use Rattle.std.proofs.lemmas.Bool.{and_from, cases_Bool, cond-false, cond_both, eqb-true}
use Rattle.std.proofs.lemmas.List.{append_assoc, take_all}
use Rattle.std.proofs.lemmas.Slice.Eq.{bytes_eq-Decides}
use Rattle.volume_spec.specs.Desktop.{appl_at, pair_key}
use Rattle.volume_spec.specs.DesktopLaws.{FindsNoTakenAppl, FindsPutAppl}
use Rattle.volume_spec.specs.Edit.{Edit, Comes, Goes, Renames, Moves, Sets, Files, Writes, Exchanges, PutsIcon, PutsAppl, TakesAppl, Comments, BacksUp, after_call, after_edits, edited}
use Rattle.volume_spec.specs.Edits.{exchanged_at}
use Rattle.volume_spec.specs.SoundVolume.{appl_key}
use Rattle.volume_spec.specs.VolumeState.{Appl, Row, VolumeState}
use Rattle.volume_spec.specs.Walk.{row_at}
use Rattle.volume_keeper_records.specs.Records.{flag_byte}
use Rattle.volume_changes.specs.declared.records.touched.ForkPlace.{ForkPlace}
use Rattle.volume_changes.specs.declared.records.touched.Mapping.{Mapping}
use Rattle.volume_changes.specs.records.EditTouches.{all_touched, joined, nothing, touches}
use Rattle.volume_changes.specs.records.Laws.{CallsAreWithin}
use Rattle.volume_changes.specs.records.Touched.{HasAll, IsWithin, Touched}
use Rattle.volume_changes.specs.records.TouchedOrder.{AreRising}
use Rattle.volume_edits.specs.edits.Changed.{comment_changed, icon_changed, node_changed, other_changed}
use Rattle.volume_edits.specs.edits.Planned.{EditValue, edits_of}
use Rattle.volume_changes.specs.steps.lemma.Put.{IsWith, fork_key, icon_key, id_key, mapping_key, one_of}
use Rattle.volume_changes.proofs.OfSteps.Putting.{with-joined}
use Rattle.volume_changes.specs.steps.lemma.Touching.{all_appls_in, appls_in, forks_in, mappings_to, nodes_in, places_in}

-- an edit touches what is told of it
pub nodes-of : (v : VolumeState) (e : Edit) → nodes_in e v.next_id ≡ (touches v e).nodes
nodes-of v (Comes row) = refl
nodes-of v (Goes id) = refl
nodes-of v (Renames id name) = refl
nodes-of v (Moves id parent name) = refl
nodes-of v (Sets id settings) = refl
nodes-of v (Files id filed) = refl
nodes-of v (Writes now id resource bytes) = refl
nodes-of v (Exchanges a b) = refl
nodes-of v (PutsIcon icon) = refl
nodes-of v (PutsAppl appl) = refl
nodes-of v (TakesAppl creator node) = refl
nodes-of v (Comments node text) = refl
nodes-of v (BacksUp date) = refl

pub forks-of : (v : VolumeState) (e : Edit) → forks_in e v.next_id ≡ (touches v e).forks
forks-of v (Comes row) = refl
forks-of v (Goes id) = refl
forks-of v (Renames id name) = refl
forks-of v (Moves id parent name) = refl
forks-of v (Sets id settings) = refl
forks-of v (Files id filed) = refl
forks-of v (Writes now id true bytes) = refl
forks-of v (Writes now id false bytes) = refl
forks-of v (Exchanges a b) = refl
forks-of v (PutsIcon icon) = refl
forks-of v (PutsAppl appl) = refl
forks-of v (TakesAppl creator node) = refl
forks-of v (Comments node text) = refl
forks-of v (BacksUp date) = refl

pub comments-of : (v : VolumeState) (e : Edit) → one_of (comment_changed e) ≡ (touches v e).comments
comments-of v (Comes row) = refl
comments-of v (Goes id) = refl
comments-of v (Renames id name) = refl
comments-of v (Moves id parent name) = refl
comments-of v (Sets id settings) = refl
comments-of v (Files id filed) = refl
comments-of v (Writes now id resource bytes) = refl
comments-of v (Exchanges a b) = refl
comments-of v (PutsIcon icon) = refl
comments-of v (PutsAppl appl) = refl
comments-of v (TakesAppl creator node) = refl
comments-of v (Comments node text) = refl
comments-of v (BacksUp date) = refl

pub icons-of : (v : VolumeState) (e : Edit) → one_of (icon_changed e) ≡ (touches v e).icons
icons-of v (Comes row) = refl
icons-of v (Goes id) = refl
icons-of v (Renames id name) = refl
icons-of v (Moves id parent name) = refl
icons-of v (Sets id settings) = refl
icons-of v (Files id filed) = refl
icons-of v (Writes now id resource bytes) = refl
icons-of v (Exchanges a b) = refl
icons-of v (PutsIcon icon) = refl
icons-of v (PutsAppl appl) = refl
icons-of v (TakesAppl creator node) = refl
icons-of v (Comments node text) = refl
icons-of v (BacksUp date) = refl

-- one edit more
end : {A : Type 0} (xs : List A) → xs ++ [] ≡ xs
end [] = refl
end (x ∷ xs) = ap (λ l. x ∷ l) (end xs)

joined-nothing : (t : Touched) → joined t nothing ≡ t
joined-nothing t = λ i. record { nodes = end t.nodes i; forks = end t.forks i; comments = end t.comments i; icons = end t.icons i; appls = end t.appls i }

joined-joined : (a b c : Touched) → joined a (joined b c) ≡ joined (joined a b) c
joined-joined a b c = λ i. record {
  nodes = sym (append_assoc a.nodes b.nodes c.nodes) i;
  forks = sym (append_assoc a.forks b.forks c.forks) i;
  comments = sym (append_assoc a.comments b.comments c.comments) i;
  icons = sym (append_assoc a.icons b.icons c.icons) i;
  appls = sym (append_assoc a.appls b.appls c.appls) i;
}

touched-more : (v : VolumeState) (es : List EditValue) (n : ℕ) (d : EditValue) → n < length es
    → all_touched v (edits_of (take (suc n) es)) ≡ joined (all_touched v (edits_of (take n es))) (touches (after_edits v (edits_of (take n es))) (slice_index_or es n d).edit)
touched-more v [] n d within = absurd (omega arith)
touched-more v (e ∷ es) zero d within = joined-nothing (touches v e.edit)
touched-more v (e ∷ es) (suc n) d within =
    ap (joined (touches v e.edit)) (touched-more (edited v e.edit) es n d (omega arith))
    ∙ joined-joined (touches v e.edit) (all_touched (edited v e.edit) (edits_of (take n es))) (touches (after_edits (edited v e.edit) (edits_of (take n es))) (slice_index_or es n d).edit)

pub touched-last : (v : VolumeState) (es : List EditValue) (count : ℕ) (e : EditValue) → (count ≡ 0 → ⊥) → count ≤ length es → e ≡ slice_index_or es (count - 1) e
    → joined (all_touched v (edits_of (take (count - 1) es))) (touches (after_edits v (edits_of (take (count - 1) es))) e.edit) ≡ all_touched v (edits_of (take count es))
touched-last v es zero e some within at = absurd (some refl)
touched-last v es (suc n) e some within at =
    let less : suc n - 1 ≡ n = omega arith in
    let here : e ≡ slice_index_or es n e = at ∙ ap (λ k. slice_index_or es k e) less in
    (λ i. joined (all_touched v (edits_of (take (less i) es))) (touches (after_edits v (edits_of (take (less i) es))) (here i).edit))
    ∙ sym (touched-more v es n e (omega arith))

appls-more : (appls : List Appl) (es : List EditValue) (n : ℕ) (d : EditValue) → n < length es
    → all_appls_in (edits_of (take (suc n) es)) appls ≡ all_appls_in (edits_of (take n es)) appls ++ appls_in (slice_index_or es n d).edit appls
appls-more appls [] n d within = absurd (omega arith)
appls-more appls (e ∷ es) zero d within = end (appls_in e.edit appls)
appls-more appls (e ∷ es) (suc n) d within =
    ap (λ l. appls_in e.edit appls ++ l) (appls-more appls es n d (omega arith))
    ∙ sym (append_assoc (appls_in e.edit appls) (all_appls_in (edits_of (take n es)) appls) (appls_in (slice_index_or es n d).edit appls))

pub appls-last : (appls : List Appl) (es : List EditValue) (count : ℕ) (e : EditValue) → (count ≡ 0 → ⊥) → count ≤ length es → e ≡ slice_index_or es (count - 1) e
    → all_appls_in (edits_of (take (count - 1) es)) appls ++ appls_in e.edit appls ≡ all_appls_in (edits_of (take count es)) appls
appls-last appls es zero e some within at = absurd (some refl)
appls-last appls es (suc n) e some within at =
    let less : suc n - 1 ≡ n = omega arith in
    let here : e ≡ slice_index_or es n e = at ∙ ap (λ k. slice_index_or es k e) less in
    (λ i. all_appls_in (edits_of (take (less i) es)) appls ++ appls_in (here i).edit appls) ∙ sym (appls-more appls es n e (omega arith))

-- a list with what an edit more touches
pub with-last : {A : Type 0} (key : A → List ℕ) (before more all a b : List A) → before ++ more ≡ all → IsWith key before [] a → IsWith key more a b → IsWith key all [] b
with-last key before more all a b is one two = subst (λ l. IsWith key l [] b) is (with-joined key before more [] a b one two)

-- what tells of a key holds of one key alike
id-alike : (id : ℕ) (y z : ℕ) → id_key y ≡ id_key z → (y == id) ≡ (z == id)
id-alike id y z same = ap (λ n. n == id) (ap first same)
  where
    first : List ℕ → ℕ
    first [] = 0
    first (x ∷ l) = x

flag-alike : (s t : Bool) → flag_byte s ≡ flag_byte t → s ≡ t
flag-alike true true e = refl
flag-alike true false e = absurd (omega (arith, e))
flag-alike false true e = absurd (omega (arith, e))
flag-alike false false e = refl

fork-alike : (id : ℕ) (r : Bool) (y z : ForkPlace) → fork_key y ≡ fork_key z → ((y.node == id) && beq y.resource r) ≡ ((z.node == id) && beq z.resource r)
fork-alike id r y z same =
    let nodes : y.node ≡ z.node = ap first same in
    let flags : flag_byte y.resource ≡ flag_byte z.resource = ap second same in
    let kinds : y.resource ≡ z.resource = flag-alike y.resource z.resource flags in
    λ i. (nodes i == id) && beq (kinds i) r
  where
    first : List ℕ → ℕ
    first [] = 0
    first (x ∷ l) = x

    second : List ℕ → ℕ
    second [] = 0
    second (x ∷ l) = first l

snoc-same : (xs ys : List ℕ) (a b : ℕ) → xs ++ a ∷ [] ≡ ys ++ b ∷ [] → (xs ≡ ys) × (a ≡ b)
snoc-same [] [] a b e = (refl, cc e)
snoc-same [] (y ∷ []) a b e = absurd (cc e)
snoc-same [] (y ∷ z ∷ ys) a b e = absurd (cc e)
snoc-same (x ∷ []) [] a b e = absurd (cc e)
snoc-same (x ∷ z ∷ xs) [] a b e = absurd (cc e)
snoc-same (x ∷ xs) (y ∷ ys) a b e = let rest = snoc-same xs ys a b (ap tail_of e) in let h : x ≡ y = ap head_of e in (λ i. h i ∷ rest.0 i, rest.1)
  where
    tail_of : List ℕ → List ℕ
    tail_of [] = []
    tail_of (x ∷ xs) = xs

    head_of : List ℕ → ℕ
    head_of [] = 0
    head_of (x ∷ xs) = x

mapping-alike : (creator : List ℕ) (node : ℕ) (y z : Mapping) → mapping_key y ≡ mapping_key z → (bytes_eq y.creator creator && (y.node == node)) ≡ (bytes_eq z.creator creator && (z.node == node))
mapping-alike creator node y z same =
    let two = snoc-same y.creator z.creator y.node z.node same in
    λ i. bytes_eq (two.0 i) creator && (two.1 i == node)

key-alike : (key : List ℕ) (y z : List ℕ) → y ≡ z → bytes_eq y key ≡ bytes_eq z key
key-alike key y z same = ap (λ k. bytes_eq k key) same

-- mappings: who is not touched stays, since what goes with a node stood before
or-false : (a b : Bool) → (a || b) ≡ false → (a ≡ false) × (b ≡ false)
or-false true b e = absurd (cc e)
or-false false b e = (refl, e)

any-both : {A : Type 0} (p : A → Bool) (xs ys : List A) → list_any p (xs ++ ys) ≡ false → (list_any p xs ≡ false) × (list_any p ys ≡ false)
any-both p [] ys e = (refl, e)
any-both p (x ∷ xs) ys e = let two = or-false (p x) (list_any p (xs ++ ys)) e in let rest = any-both p xs ys two.1 in (ap (λ t. t || list_any p xs) two.0 ∙ rest.0, rest.1)

abbrev is_mapping : List ℕ → ℕ → Mapping → Bool
is_mapping creator node m = bytes_eq m.creator creator && (m.node == node)

-- a mapping that is found is one of those of its file
none-found : (xs : List Appl) (creator : List ℕ) (node : ℕ) → list_any (is_mapping creator node) (mappings_to node xs) ≡ false → appl_at creator node xs ≡ None
none-found [] creator node e = refl
none-found (x ∷ xs) creator node e = by (x.node == node) refl (λ h. none-found xs creator node h) e
  where
    by : (t : Bool) → (x.node == node) ≡ t → (list_any (is_mapping creator node) (mappings_to node xs) ≡ false → appl_at creator node xs ≡ None)
        → list_any (is_mapping creator node) (map (λ c. record { creator = c; node = node }) (map (λ (appl : Appl). appl.creator) (cond t (x ∷ filter (λ appl. appl.node == node) xs) (filter (λ appl. appl.node == node) xs)))) ≡ false
        → appl_at creator node (x ∷ xs) ≡ None
    by true is rest h =
        let two = or-false (bytes_eq x.creator creator && (node == node)) _ h in
        elim (cases_Bool (bytes_eq (appl_key x) (pair_key creator node))) [
          | inl k ↦ absurd (
              let same = snoc-same x.creator creator x.node node ((bytes_eq-Decides (appl_key x) (pair_key creator node)).0 k) in
              let one : bytes_eq x.creator creator ≡ true = (bytes_eq-Decides x.creator creator).1 same.0 in
              let here : (node == node) ≡ true = grind arith in
              let b : true ≡ false = sym (and_from (bytes_eq x.creator creator) (node == node) one here) ∙ two.0 in
              cc b)
          | inr k ↦ (cond-false (bytes_eq (appl_key x) (pair_key creator node)) (Some x) (appl_at creator node xs) k ∙ rest two.1)
        ]
    by false is rest h =
        elim (cases_Bool (bytes_eq (appl_key x) (pair_key creator node))) [
          | inl k ↦ absurd (
              let same = snoc-same x.creator creator x.node node ((bytes_eq-Decides (appl_key x) (pair_key creator node)).0 k) in
              let at : x.node ≡ node = same.1 in
              let here : (x.node == node) ≡ true = grind (arith, at) in
              let b : true ≡ false = sym here ∙ is in
              cc b)
          | inr k ↦ (cond-false (bytes_eq (appl_key x) (pair_key creator node)) (Some x) (appl_at creator node xs) k ∙ rest h)
        ]

find-stays-none : (p q : Appl → Bool) (xs : List Appl) → find p xs ≡ None → find p (filter q xs) ≡ None
find-stays-none p q [] none = refl
find-stays-none p q (x ∷ xs) none =
    cond_both (p x) (Some x) (find p xs) (λ o. o ≡ None → find p (cond (q x) (x ∷ filter q xs) (filter q xs)) ≡ None)
    (λ here h. absurd (cc h))
    (λ other h. cond_both (q x) (x ∷ filter q xs) (filter q xs) (λ l. find p l ≡ None) (λ kept. cond-false (p x) (Some x) (find p (filter q xs)) other ∙ find-stays-none p q xs h) (λ left. find-stays-none p q xs h))
    none

-- one that is of another file stays where a node goes
find-stays : (creator : List ℕ) (node gone : ℕ) (xs : List Appl) → (gone == node) ≡ false → appl_at creator node xs ≡ appl_at creator node (filter (λ (appl : Appl). not (appl.node == gone)) xs)
find-stays creator node gone [] other = refl
find-stays creator node gone (x ∷ xs) other =
    cond_both (not (x.node == gone)) (x ∷ filter (λ (appl : Appl). not (appl.node == gone)) xs) (filter (λ (appl : Appl). not (appl.node == gone)) xs) (λ l. appl_at creator node (x ∷ xs) ≡ appl_at creator node l)
    (λ kept. ap (cond (bytes_eq (appl_key x) (pair_key creator node)) (Some x)) (find-stays creator node gone xs other))
    (λ left. elim (cases_Bool (bytes_eq (appl_key x) (pair_key creator node))) [
      | inl k ↦ absurd (
          let same = snoc-same x.creator creator x.node node ((bytes_eq-Decides (appl_key x) (pair_key creator node)).0 k) in
          let is : (x.node == gone) ≡ true = turned (x.node == gone) left in
          let at : x.node ≡ gone = eqb-true x.node gone is in
          let n : x.node ≡ node = same.1 in
          let here : (gone == node) ≡ true = grind (arith, at, n) in
          let b : true ≡ false = sym here ∙ other in
          cc b)
      | inr k ↦ (cond-false (bytes_eq (appl_key x) (pair_key creator node)) (Some x) (appl_at creator node xs) k ∙ find-stays creator node gone xs other)
    ])
  where
    turned : (t : Bool) → not t ≡ false → t ≡ true
    turned true h = refl
    turned false h = absurd (cc h)

other-pair : (c d : List ℕ) (m n : ℕ) → (is_mapping d n (record { creator = c; node = m }) || false) ≡ false → bytes_eq (pair_key c m) (pair_key d n) ≡ false
other-pair c d m n e = elim (bytes_eq (pair_key c m) (pair_key d n)) as (λ t. bytes_eq (pair_key c m) (pair_key d n) ≡ t → t ≡ false) [
  | true ↦ λ k.
      let same = snoc-same c d m n ((bytes_eq-Decides (pair_key c m) (pair_key d n)).0 k) in
      let one : bytes_eq c d ≡ true = (bytes_eq-Decides c d).1 same.0 in
      let other : (m == n) ≡ true = (let h = same.1 in grind (arith, h)) in
      sym (and_from (bytes_eq c d) (m == n) one other) ∙ (or-false (bytes_eq c d && (m == n)) false e).0
  | false ↦ λ k. refl
] refl

exchanged-appls : (a b : ℕ) (s t : Option Row) (v : VolumeState) → (exchanged_at a b s t v).appls ≡ v.appls
exchanged-appls a b None t v = refl
exchanged-appls a b (Some s) None v = refl
exchanged-appls a b (Some s) (Some t) v = refl

-- an edit that does not touch a mapping of a volume, whose mappings of that file are all told of where it goes
appl-stays : FindsPutAppl → FindsNoTakenAppl → (v : VolumeState) (e : Edit) (appls : List Appl) (creator : List ℕ) (node : ℕ) → appl_at creator node appls ≡ appl_at creator node v.appls → list_any (is_mapping creator node) (appls_in e appls) ≡ false
    → appl_at creator node v.appls ≡ appl_at creator node (edited v e).appls
unfolding edited
appl-stays put taken v (Comes row) appls creator node same e = refl
appl-stays put taken v (Goes gone) appls creator node same e = elim (cases_Bool (gone == node)) [
  | inl here ↦
      (let is : gone ≡ node = eqb-true gone node here in
      let none : appl_at creator node v.appls ≡ None = sym same ∙ none-found appls creator node (subst (λ n. list_any (is_mapping creator node) (mappings_to n appls) ≡ false) is e) in
      none ∙ sym (find-stays-none (λ x. bytes_eq (appl_key x) (pair_key creator node)) (λ (appl : Appl). not (appl.node == gone)) v.appls none))
  | inr other ↦ find-stays creator node gone v.appls other
]
appl-stays put taken v (Renames id name) appls creator node same e = refl
appl-stays put taken v (Moves id parent name) appls creator node same e = refl
appl-stays put taken v (Sets id settings) appls creator node same e = refl
appl-stays put taken v (Files id filed) appls creator node same e = refl
appl-stays put taken v (Writes now id resource bytes) appls creator node same e = refl
appl-stays put taken v (Exchanges a b) appls creator node same e = sym (ap (appl_at creator node) (exchanged-appls a b (row_at v.rows a) (row_at v.rows b) v))
appl-stays put taken v (PutsIcon icon) appls creator node same e = refl
appl-stays put taken v (PutsAppl appl) appls creator node same e = sym (put appl v.appls creator node ∙ ap (λ t. cond t (Some appl) (appl_at creator node v.appls)) (other-pair appl.creator creator appl.node node e))
appl-stays put taken v (TakesAppl c n) appls creator node same e = sym (taken v.appls c creator n node ∙ ap (λ t. cond t None (appl_at creator node v.appls)) (other-pair c creator n node e))
appl-stays put taken v (Comments id text) appls creator node same e = refl
appl-stays put taken v (BacksUp date) appls creator node same e = refl

appls-stay : FindsPutAppl → FindsNoTakenAppl → (v : VolumeState) (es : List Edit) (appls : List Appl) (creator : List ℕ) (node : ℕ) → appl_at creator node appls ≡ appl_at creator node v.appls → list_any (is_mapping creator node) (all_appls_in es appls) ≡ false
    → appl_at creator node v.appls ≡ appl_at creator node (after_edits v es).appls
appls-stay put taken v [] appls creator node same e = refl
appls-stay put taken v (x ∷ es) appls creator node same e =
    let two = any-both (is_mapping creator node) (appls_in x appls) (all_appls_in es appls) e in
    let here = appl-stays put taken v x appls creator node same two.0 in
    here ∙ appls-stay put taken (edited v x) es appls creator node (same ∙ here) two.1

appls-of-call : (v : VolumeState) (now : ℕ) (es : List Edit) → (after_edits v es).appls ≡ (after_call v now es).appls
appls-of-call v now [] = refl
appls-of-call v now (e ∷ es) = refl

-- beyond what was gathered the volume is the same behind the plan
has-all : (t : Touched) → HasAll t t
has-all t = record { nodes = λ id e. e; forks = λ id r e. e; comments = λ node e. e; icons = λ key e. e; appls = λ creator node e. e }

pub within-touched : CallsAreWithin → FindsPutAppl → FindsNoTakenAppl → (v : VolumeState) (now : ℕ) (es : List Edit) (t : Touched) → IsWith id_key (all_touched v es).nodes [] t.nodes → IsWith fork_key (all_touched v es).forks [] t.forks
    → IsWith id_key (all_touched v es).comments [] t.comments → IsWith icon_key (all_touched v es).icons [] t.icons → IsWith mapping_key (all_appls_in es v.appls) [] t.appls → IsWithin t v (after_call v now es)
within-touched calls put taken v now es t nodes forks comments icons appls =
    let w : IsWithin (all_touched v es) v (after_call v now es) = calls v now es (all_touched v es) (has-all (all_touched v es)) in
    record {
      nodes = λ id e. w.nodes id (nodes.all (λ n. n == id) (id-alike id) e).0;
      forks = λ id r e. w.forks id r (forks.all (λ (p : ForkPlace). (p.node == id) && beq p.resource r) (fork-alike id r) e).0;
      comments = λ node e. w.comments node (comments.all (λ n. n == node) (id-alike node) e).0;
      icons = λ key e. w.icons key (icons.all (λ k. bytes_eq k key) (key-alike key) e).0;
      appls = λ creator node e. appls-stay put taken v es v.appls creator node refl (appls.all (λ (m : Mapping). bytes_eq m.creator creator && (m.node == node)) (mapping-alike creator node) e).0 ∙ ap (appl_at creator node) (appls-of-call v now es);
    }

pub rising-touched : (t : Touched) (a : List ℕ) (b : List ForkPlace) (c : List ℕ) (d : List (List ℕ)) (e : List Mapping) → IsWith id_key a [] t.nodes → IsWith fork_key b [] t.forks → IsWith id_key c [] t.comments → IsWith icon_key d [] t.icons → IsWith mapping_key e [] t.appls
    → AreRising t
rising-touched t a b c d e nodes forks comments icons appls = record { nodes = nodes.rising; forks = forks.rising; comments = comments.rising; icons = icons.rising; appls = appls.rising }

-- one mapping of a volume more
to-cons : (id : ℕ) (a : Appl) (xs ys : List Appl) (more : List Mapping) → mappings_to id xs ++ more ≡ mappings_to id ys → mappings_to id (a ∷ xs) ++ more ≡ mappings_to id (a ∷ ys)
to-cons id a xs ys more same = by (a.node == id)
  where
    to : List Appl → List Mapping
    to l = map (λ creator. record { creator = creator; node = id }) (map (λ (appl : Appl). appl.creator) l)

    by : (t : Bool) → to (cond t (a ∷ filter (λ appl. appl.node == id) xs) (filter (λ appl. appl.node == id) xs)) ++ more ≡ to (cond t (a ∷ filter (λ appl. appl.node == id) ys) (filter (λ appl. appl.node == id) ys))
    by true = ap (λ l. record { creator = a.creator; node = id } ∷ l) same
    by false = same

to-more : (id : ℕ) (appls : List Appl) (i : ℕ) (x : Appl) → i < length appls → x ≡ slice_index_or appls i x → mappings_to id (take i appls) ++ mappings_to id (x ∷ []) ≡ mappings_to id (take (suc i) appls)
to-more id [] i x within at = absurd (omega arith)
to-more id (a ∷ rest) zero x within at = ap (λ y. mappings_to id (y ∷ [])) at
to-more id (a ∷ rest) (suc i) x within at = to-cons id a (take i rest) (take (suc i) rest) (mappings_to id (x ∷ [])) (to-more id rest i x (omega arith) at)

pub with-more : (id : ℕ) (appls : List Appl) (i : ℕ) (x : Appl) (first now next : List Mapping) → i < length appls → x ≡ slice_index_or appls i x → IsWith mapping_key (mappings_to id (take i appls)) first now → IsWith mapping_key (mappings_to id (x ∷ [])) now next
    → IsWith mapping_key (mappings_to id (take (i + 1) appls)) first next
with-more id appls i x first now next within at one two =
    let up : suc i ≡ i + 1 = omega arith in
    subst (λ l. IsWith mapping_key l first next) (to-more id appls i x within at ∙ ap (λ k. mappings_to id (take k appls)) up)
    (with-joined mapping_key (mappings_to id (take i appls)) (mappings_to id (x ∷ [])) first now next one two)

-- what so many edits touch, with the last of them
module _ (v : VolumeState) (es : List EditValue) (count : ℕ) (e : EditValue) (some : count ≡ 0 → ⊥) (within : count ≤ length es) (at : e ≡ slice_index_or es (count - 1) e) where
  abbrev so_far : Touched
  so_far = all_touched v (edits_of (take (count - 1) es))

  abbrev mid_state : VolumeState
  mid_state = after_edits v (edits_of (take (count - 1) es))

  pub nodes-last : (next : ℕ) (n o : Option ℕ) → next ≡ mid_state.next_id → n ≡ node_changed e.edit next → o ≡ other_changed e.edit → so_far.nodes ++ (one_of n ++ one_of o) ≡ (all_touched v (edits_of (take count es))).nodes
  nodes-last next n o is first second =
      (λ i. so_far.nodes ++ (one_of (first i) ++ one_of (second i))) ∙ ap (λ k. so_far.nodes ++ nodes_in e.edit k) is ∙ ap (λ l. so_far.nodes ++ l) (nodes-of mid_state e.edit) ∙ ap (λ (t : Touched). t.nodes) (touched-last v es count e some within at)

  pub forks-last : (next : ℕ) (n o : Option ℕ) → next ≡ mid_state.next_id → n ≡ node_changed e.edit next → o ≡ other_changed e.edit → so_far.forks ++ (places_in e.edit n ++ places_in e.edit o) ≡ (all_touched v (edits_of (take count es))).forks
  forks-last next n o is first second =
      (λ i. so_far.forks ++ (places_in e.edit (first i) ++ places_in e.edit (second i))) ∙ ap (λ k. so_far.forks ++ forks_in e.edit k) is ∙ ap (λ l. so_far.forks ++ l) (forks-of mid_state e.edit)
      ∙ ap (λ (t : Touched). t.forks) (touched-last v es count e some within at)

  pub comments-last : (n : Option ℕ) → n ≡ comment_changed e.edit → so_far.comments ++ one_of n ≡ (all_touched v (edits_of (take count es))).comments
  comments-last n is = ap (λ (o : Option ℕ). so_far.comments ++ one_of o) is ∙ ap (λ l. so_far.comments ++ l) (comments-of mid_state e.edit) ∙ ap (λ (t : Touched). t.comments) (touched-last v es count e some within at)

  pub icons-last : so_far.icons ++ one_of (icon_changed e.edit) ≡ (all_touched v (edits_of (take count es))).icons
  icons-last = ap (λ l. so_far.icons ++ l) (icons-of mid_state e.edit) ∙ ap (λ (t : Touched). t.icons) (touched-last v es count e some within at)

-- all edits of a plan
pub all-edits : (es all : List EditValue) (count : ℕ) → count ≡ length es → es ≡ all → edits_of (take count es) ≡ edits_of all
all-edits es all count is same = ap edits_of (take_all count es (omega (arith, is)) ∙ same)
