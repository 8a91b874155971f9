-- Beyond what an edit touches, a volume is as it was.
use Rattle.std.proofs.Common.{◌≡◌, ◌∙◌, ℕ, Bool, true, false, cond, not, List, [], ◌∷◌, ◌++◌, ◌||◌, map, length, take, refl, sym, ap, subst, arith}
use Rattle.std.specs.Prelude.{Option, Some, None, option_map, ◌&&◌, ◌==◌, bytes_eq}
use Rattle.std.specs.Bool.{beq}
use Rattle.std.specs.List.{filter, list_any}
use Rattle.std.proofs.lemmas.Bool.{and_from, cond-true, eqb-true}
use Rattle.std.proofs.lemmas.Slice.Eq.{bytes_eq-Decides}
use Rattle.volume_spec.proofs.SeenRows.{changes-let-be, changes-seen, gone-lets-be}
use Rattle.volume_spec.proofs.Desktops.{comment-found, comment-gone}
use Rattle.volume_spec.specs.Desktop.{appl_at, comment_at, creators_of, icon_at, pair_key, with_comment, without_comment}
use Rattle.volume_spec.specs.DesktopLaws.{FindsNoTakenAppl, FindsPutAppl, FindsPutIcon}
use Rattle.volume_spec.specs.Edit.{Edit, Comes, Goes, Renames, Moves, Sets, Files, Writes, Exchanges, PutsIcon, PutsAppl, TakesAppl, Comments, BacksUp, after_edits, edited}
use Rattle.volume_spec.specs.Edits.{at_place, named, put, with_changed, with_forks_of, with_row, exchanged_at, filed_as}
use Rattle.volume_spec.specs.ForkEffect.{fork_of, written}
use Rattle.volume_spec.specs.SetFileDirParms.{with_settings}
use Rattle.volume_spec.specs.SoundVolume.{appl_key, icon_key, longest_comment}
use Rattle.volume_spec.specs.VolumeState.{Appl, Comment, Row as VolumeRow, VolumeState}
use Rattle.volume_spec.specs.Walk.{row_at}
use Rattle.volume_keeper_records.specs.Image.{node_of}
use Rattle.volume_keeper_records.specs.Records.{node_record, version}
use Rattle.volume_changes.specs.records.EditTouches.{all_touched, forks_of, joined, node_alone, nothing, touches}
use Rattle.volume_changes.specs.declared.records.touched.ForkPlace.{ForkPlace}
use Rattle.volume_changes.specs.declared.records.touched.Mapping.{Mapping}
use Rattle.volume_changes.specs.records.Touched.{IsWithin, Touched, bytes_at}

-- what the proofs below take of the desktop database
pub record DeskLaws : Type 0 where
  pub icon : FindsPutIcon
  pub appl : FindsPutAppl
  pub appl_taken : FindsNoTakenAppl

abbrev value_of : Option VolumeRow → Option (List ℕ)
value_of o = option_map (λ (r : VolumeRow). (node_record (node_of version r)).value) o

first-false : (a b : Bool) → (a || b) ≡ false → a ≡ false
first-false true b e = e
first-false false b e = refl

turned : (a b : ℕ) → (a == b) ≡ false → (b == a) ≡ false
turned a b e = grind (arith, e)

-- a fork of another node, or the other fork of it, is not touched
another : (id other : ℕ) (r : Bool) → list_any (λ (p : ForkPlace). (p.node == other) && beq p.resource r) (forks_of id) ≡ false → (other == id) ≡ false
another id other r e = elim (id == other) as (λ t. (id == other) ≡ t → (other == id) ≡ false) [
  | true ↦ λ same. absurd (by r (subst (λ t. ((t && beq false r) || ((t && beq true r) || false)) ≡ false) same e))
  | false ↦ λ differ. turned id other differ
] refl
  where
    by : (r : Bool) → ((true && beq false r) || ((true && beq true r) || false)) ≡ false → ⊥
    by true h = cc h
    by false h = cc h

-- rows in which one has changed, and that leaves the bytes of its forks
node-within : (v : VolumeState) (id : ℕ) (change : VolumeRow → VolumeRow) → ((row : VolumeRow) → (change row).id ≡ row.id) → ((row : VolumeRow) (r : Bool) → fork_of r (change row) ≡ fork_of r row)
    → IsWithin (node_alone id) v (record v { rows = with_changed id change v.rows })
node-within v id change keeps bytes = record {
  nodes = λ other e. ap value_of (sym (changes-let-be v.rows id other change keeps (turned id other (first-false (id == other) false e))));
  forks = λ other r e. elim (other == id) as (λ t. (other == id) ≡ t → bytes_at v other r ≡ option_map (fork_of r) (row_at (with_changed id change v.rows) other)) [
    | true ↦ λ same. let is : other ≡ id = eqb-true other id same in
        subst (λ n. option_map (fork_of r) (row_at v.rows n) ≡ option_map (fork_of r) (row_at (with_changed id change v.rows) n)) (sym is)
        (mapped (row_at v.rows id) r ∙ sym (ap (option_map (fork_of r)) (changes-seen v.rows id change keeps)))
    | false ↦ λ differ. ap (option_map (fork_of r)) (sym (changes-let-be v.rows id other change keeps differ))
  ] refl;
  comments = λ node e. refl;
  icons = λ key e. refl;
  appls = λ creator node e. refl;
}
  where
    mapped : (o : Option VolumeRow) (r : Bool) → option_map (fork_of r) o ≡ option_map (fork_of r) (option_map change o)
    mapped None r = refl
    mapped (Some row) r = ap Some (sym (bytes row r))

-- a fork has other bytes
write-within : (v : VolumeState) (now id : ℕ) (resource : Bool) (bytes : List ℕ) → IsWithin (touches v (Writes now id resource bytes)) v (record v { rows = with_changed id (written now resource bytes true) v.rows })
write-within v now id resource bytes = record {
  nodes = λ other e. ap value_of (sym (changes-let-be v.rows id other (written now resource bytes true) (λ row. refl) (turned id other (first-false (id == other) false e))));
  forks = λ other r e. elim (other == id) as (λ t. (other == id) ≡ t → bytes_at v other r ≡ option_map (fork_of r) (row_at (with_changed id (written now resource bytes true) v.rows) other)) [
    | true ↦ λ same. let is : other ≡ id = eqb-true other id same in
        subst (λ n. option_map (fork_of r) (row_at v.rows n) ≡ option_map (fork_of r) (row_at (with_changed id (written now resource bytes true) v.rows) n)) (sym is)
        (mapped (row_at v.rows id) r (other-fork resource r (subst (λ n. (((id == n) && beq resource r) || false) ≡ false) is e)) ∙ sym (ap (option_map (fork_of r)) (changes-seen v.rows id (written now resource bytes true) (λ row. refl))))
    | false ↦ λ differ. ap (option_map (fork_of r)) (sym (changes-let-be v.rows id other (written now resource bytes true) (λ row. refl) differ))
  ] refl;
  comments = λ node e. refl;
  icons = λ key e. refl;
  appls = λ creator node e. refl;
}
  where
    other-fork : (f r : Bool) → (((id == id) && beq f r) || false) ≡ false → beq f r ≡ false
    other-fork f r h = first-false (beq f r) false (subst (λ t. ((t && beq f r) || false) ≡ false) (let k : (id == id) ≡ true = grind arith in k) h)

    untouched : (f r : Bool) (row : VolumeRow) → beq f r ≡ false → fork_of r row ≡ fork_of r (written now f bytes true row)
    untouched true true row h = absurd (cc h)
    untouched true false row h = refl
    untouched false true row h = refl
    untouched false false row h = absurd (cc h)

    mapped : (o : Option VolumeRow) (r : Bool) → beq resource r ≡ false → option_map (fork_of r) o ≡ option_map (fork_of r) (option_map (written now resource bytes true) o)
    mapped None r h = refl
    mapped (Some row) r h = ap Some (untouched resource r row h)

-- a node comes
come-lets-be : (rows : List VolumeRow) (row : VolumeRow) (other : ℕ) → (row.id == other) ≡ false → row_at (rows ++ row ∷ []) other ≡ row_at rows other
unfolding row_at
come-lets-be [] row other e = ap (λ t. cond t (Some row) None) e
come-lets-be (r ∷ rows) row other e = ap (cond (r.id == other) (Some r)) (come-lets-be rows row other e)

come-within : (v : VolumeState) (row : VolumeRow) → IsWithin (touches v (Comes row)) v (with_row row v)
come-within v row = record {
  nodes = λ other e. ap value_of (sym (come-lets-be v.rows (record row { id = v.next_id }) other (first-false (v.next_id == other) false e)));
  forks = λ other r e. ap (option_map (fork_of r)) (sym (come-lets-be v.rows (record row { id = v.next_id }) other (turned other v.next_id (another v.next_id other r e))));
  comments = λ node e. refl;
  icons = λ key e. refl;
  appls = λ creator node e. refl;
}

-- a node goes
snoc-same : (xs ys : List ℕ) (a b : ℕ) → xs ++ a ∷ [] ≡ ys ++ b ∷ [] → (xs ≡ ys) × (a ≡ b)
snoc-same [] [] a b e = (refl, cc e)
snoc-same [] (y ∷ []) a b e = absurd (cc e)
snoc-same [] (y ∷ z ∷ ys) a b e = absurd (cc e)
snoc-same (x ∷ []) [] a b e = absurd (cc e)
snoc-same (x ∷ z ∷ xs) [] a b e = absurd (cc e)
snoc-same (x ∷ xs) (y ∷ ys) a b e = let rest = snoc-same xs ys a b (ap tail_of e) in let h : x ≡ y = ap head_of e in (λ i. h i ∷ rest.0 i, rest.1)
  where
    tail_of : List ℕ → List ℕ
    tail_of [] = []
    tail_of (x ∷ xs) = xs

    head_of : List ℕ → ℕ
    head_of [] = 0
    head_of (x ∷ xs) = x

or-false : (a b : Bool) → (a || b) ≡ false → (a ≡ false) × (b ≡ false)
or-false true b e = absurd (cc e)
or-false false b e = (refl, e)

appls-left : (xs : List Appl) (id : ℕ) (creator : List ℕ) (node : ℕ)
    → list_any (λ (m : Mapping). bytes_eq m.creator creator && (m.node == node)) (map (λ c. record { creator = c; node = id }) (creators_of id xs)) ≡ false
    → appl_at creator node xs ≡ appl_at creator node (filter (λ (appl : Appl). not (appl.node == id)) xs)
appls-left [] id creator node e = refl
appls-left (x ∷ xs) id creator node e = by (x.node == id) refl
    (λ h. appls-left xs id creator node h) e
  where
    key : Bool
    key = bytes_eq (appl_key x) (pair_key creator node)

    by : (t : Bool) → (x.node == id) ≡ t
        → (list_any (λ (m : Mapping). bytes_eq m.creator creator && (m.node == node)) (map (λ c. record { creator = c; node = id }) (creators_of id xs)) ≡ false → appl_at creator node xs ≡ appl_at creator node (filter (λ (appl : Appl). not (appl.node == id)) xs))
        → list_any (λ (m : Mapping). bytes_eq m.creator creator && (m.node == node)) (map (λ c. record { creator = c; node = id }) (map (λ (appl : Appl). appl.creator) (cond t (x ∷ filter (λ appl. appl.node == id) xs) (filter (λ appl. appl.node == id) xs)))) ≡ false
        → cond key (Some x) (appl_at creator node xs) ≡ appl_at creator node (cond (not t) (x ∷ filter (λ (appl : Appl). not (appl.node == id)) xs) (filter (λ (appl : Appl). not (appl.node == id)) xs))
    by true is rest h =
        let two = or-false (bytes_eq x.creator creator && (id == node)) _ h in
        elim key as (λ t. key ≡ t → cond t (Some x) (appl_at creator node xs) ≡ appl_at creator node (filter (λ (appl : Appl). not (appl.node == id)) xs)) [
          | true ↦ λ k. absurd (
              let same = snoc-same x.creator creator x.node node ((bytes_eq-Decides (appl_key x) (pair_key creator node)).0 k) in
              let one : bytes_eq x.creator creator ≡ true = (bytes_eq-Decides x.creator creator).1 same.0 in
              let other : (id == node) ≡ true = (let n : x.node ≡ id = eqb-true x.node id is in let m : x.node ≡ node = same.1 in grind (arith, n, m)) in
              let b : true ≡ false = sym (and_from (bytes_eq x.creator creator) (id == node) one other) ∙ two.0 in
              cc b)
          | false ↦ λ k. rest two.1
        ] refl
    by false is rest h = ap (cond key (Some x)) (rest h)

comment-left : (cs : List Comment) (id node : ℕ) → (id == node) ≡ false → comment_at node cs ≡ comment_at node (without_comment id cs)
comment-left cs id node differ = sym (comment-gone cs id node ∙ ap (λ t. cond t None (comment_at node cs)) differ)

go-within : (v : VolumeState) (id : ℕ) → IsWithin (touches v (Goes id)) v (edited v (Goes id))
unfolding edited
go-within v id = record {
  nodes = λ other e. ap value_of (sym (gone-lets-be v.rows id other (turned id other (first-false (id == other) false e))));
  forks = λ other r e. ap (option_map (fork_of r)) (sym (gone-lets-be v.rows id other (another id other r e)));
  comments = λ node e. comment-left v.comments id node (first-false (id == node) false e);
  icons = λ key e. refl;
  appls = λ creator node e. appls-left v.appls id creator node e;
}

same-within : (t : Touched) (v : VolumeState) → IsWithin t v v
same-within t v = record { nodes = λ id e. refl; forks = λ id r e. refl; comments = λ node e. refl; icons = λ key e. refl; appls = λ creator node e. refl }

any-both : {A : Type 0} (p : A → Bool) (xs ys : List A) → list_any p (xs ++ ys) ≡ false → (list_any p xs ≡ false) × (list_any p ys ≡ false)
any-both p [] ys e = (refl, e)
any-both p (x ∷ xs) ys e = elim (p x) as (λ t. (t || list_any p (xs ++ ys)) ≡ false → ((t || list_any p xs) ≡ false) × (list_any p ys ≡ false)) [
  | true ↦ λ h. absurd (cc h)
  | false ↦ λ h. any-both p xs ys h
] e

-- another pair has another key
other-pair : (c d : List ℕ) (m n : ℕ) → ((bytes_eq c d && (m == n)) || false) ≡ false → bytes_eq (pair_key c m) (pair_key d n) ≡ false
other-pair c d m n e = elim (bytes_eq (pair_key c m) (pair_key d n)) as (λ t. bytes_eq (pair_key c m) (pair_key d n) ≡ t → t ≡ false) [
  | true ↦ λ k.
      let same = snoc-same c d m n ((bytes_eq-Decides (pair_key c m) (pair_key d n)).0 k) in
      let one : bytes_eq c d ≡ true = (bytes_eq-Decides c d).1 same.0 in
      let other : (m == n) ≡ true = (let h = same.1 in grind (arith, h)) in
      sym (and_from (bytes_eq c d) (m == n) one other) ∙ first-false (bytes_eq c d && (m == n)) false e
  | false ↦ λ k. refl
] refl

comment-other : (cs : List Comment) (node other : ℕ) (text : List ℕ) → (node == other) ≡ false → comment_at other cs ≡ comment_at other (with_comment node text cs)
comment-other cs node other text differ = elim (length text == 0) as (λ t. (length text == 0) ≡ t → comment_at other cs ≡ comment_at other (with_comment node text cs)) [
  | true ↦ λ e. comment-left cs node other differ ∙ sym (ap (comment_at other) (cond-true (length text == 0) (without_comment node cs) _ e))
  | false ↦ λ e. sym (comment-found cs node other text e ∙ ap (λ t. cond t (Some (record { node = node; text = take longest_comment text })) (comment_at other cs)) differ)
] refl

-- two files change their forks
other-put : (rows : List VolumeRow) (id other : ℕ) (t : VolumeRow) → t.id ≡ id → (other == id) ≡ false → row_at (with_changed id (put t) rows) other ≡ row_at rows other
unfolding row_at with_changed
other-put [] id other t is differ = refl
other-put (row ∷ rows) id other t is differ = elim (row.id == id) as (λ k. (row.id == id) ≡ k → cond ((cond k t row).id == other) (Some (cond k t row)) (row_at (with_changed id (put t) rows) other) ≡ cond (row.id == other) (Some row) (row_at rows other)) [
  | true ↦ λ same.
      let a : (t.id == other) ≡ false = grind (arith, is, differ) in
      let b : (row.id == other) ≡ false = (let k = eqb-true row.id id same in grind (arith, k, differ)) in
      ap (λ q. cond q (Some t) (row_at (with_changed id (put t) rows) other)) a ∙ other-put rows id other t is differ ∙ sym (ap (λ q. cond q (Some row) (row_at rows other)) b)
  | false ↦ λ stays. ap (cond (row.id == other) (Some row)) (other-put rows id other t is differ)
] refl

found-id : (rows : List VolumeRow) (id : ℕ) (s : VolumeRow) → row_at rows id ≡ Some s → s.id ≡ id
unfolding row_at
found-id [] id s h = absurd (cc h)
found-id (row ∷ rows) id s h = elim (row.id == id) as (λ t. (row.id == id) ≡ t → cond t (Some row) (row_at rows id) ≡ Some s → s.id ≡ id) [
  | true ↦ λ e k. let is : row ≡ s = cc k in ap (λ (r : VolumeRow). r.id) (sym is) ∙ eqb-true row.id id e
  | false ↦ λ e k. found-id rows id s k
] refl h

exchange-within : (v : VolumeState) (a b : ℕ) (s t : Option VolumeRow) → row_at v.rows a ≡ s → row_at v.rows b ≡ t → IsWithin (touches v (Exchanges a b)) v (exchanged_at a b s t v)
exchange-within v a b None t at_a at_b = same-within (touches v (Exchanges a b)) v
exchange-within v a b (Some s) None at_a at_b = same-within (touches v (Exchanges a b)) v
exchange-within v a b (Some s) (Some t) at_a at_b =
    let id_s : s.id ≡ a = found-id v.rows a s at_a in
    let id_t : t.id ≡ b = found-id v.rows b t at_b in
    let left : (other : ℕ) → (other == a) ≡ false → (other == b) ≡ false → row_at v.rows other ≡ row_at (exchanged_at a b (Some s) (Some t) v).rows other = λ other na nb.
    sym (other-put (with_changed a (put (with_forks_of t s)) v.rows) b other (with_forks_of s t) id_t nb ∙ other-put v.rows a other (with_forks_of t s) id_s na) in
    record {
      nodes = λ other e. let two = or-false (a == other) _ e in ap value_of (left other (turned a other two.0) (turned b other (first-false (b == other) false two.1)));
      forks = λ other r e. let two = any-both (λ (p : ForkPlace). (p.node == other) && beq p.resource r) (forks_of a) (forks_of b) e in ap (option_map (fork_of r)) (left other (another a other r two.0) (another b other r two.1));
      comments = λ node e. refl;
      icons = λ key e. refl;
      appls = λ creator node e. refl;
    }

pub edit-within : DeskLaws → (v : VolumeState) (e : Edit) → IsWithin (touches v e) v (edited v e)
unfolding edited with_settings
edit-within laws v (Comes row) = come-within v row
edit-within laws v (Goes id) = go-within v id
edit-within laws v (Renames id name) = node-within v id (named name) (λ row. refl) (λ row r. refl)
edit-within laws v (Moves id parent name) = node-within v id (at_place parent name) (λ row. refl) (λ row r. refl)
edit-within laws v (Sets id settings) = node-within v id (with_settings settings) (λ row. refl) (λ row r. refl)
edit-within laws v (Files id filed) = node-within v id (filed_as filed) (λ row. refl) (λ row r. refl)
edit-within laws v (Writes now id resource bytes) = write-within v now id resource bytes
edit-within laws v (Exchanges a b) = exchange-within v a b (row_at v.rows a) (row_at v.rows b) refl refl
edit-within laws v (PutsIcon icon) = record {
  nodes = λ id e. refl;
  forks = λ id r e. refl;
  comments = λ node e. refl;
  icons = λ key e. sym (laws.icon icon v.icons key ∙ ap (λ t. cond t (Some icon) (icon_at key v.icons)) (first-false (bytes_eq (icon_key icon) key) false e));
  appls = λ creator node e. refl;
}
edit-within laws v (PutsAppl appl) = record {
  nodes = λ id e. refl;
  forks = λ id r e. refl;
  comments = λ node e. refl;
  icons = λ key e. refl;
  appls = λ creator node e. sym (laws.appl appl v.appls creator node ∙ ap (λ t. cond t (Some appl) (appl_at creator node v.appls)) (other-pair appl.creator creator appl.node node e));
}
edit-within laws v (TakesAppl creator node) = record {
  nodes = λ id e. refl;
  forks = λ id r e. refl;
  comments = λ node e. refl;
  icons = λ key e. refl;
  appls = λ c n e. sym (laws.appl_taken v.appls creator c node n ∙ ap (λ t. cond t None (appl_at c n v.appls)) (other-pair creator c node n e));
}
edit-within laws v (Comments node text) = record {
  nodes = λ id e. refl;
  forks = λ id r e. refl;
  comments = λ other e. comment-other v.comments node other text (first-false (node == other) false e);
  icons = λ key e. refl;
  appls = λ creator node e. refl;
}
edit-within laws v (BacksUp date) = record { nodes = λ id e. refl; forks = λ id r e. refl; comments = λ node e. refl; icons = λ key e. refl; appls = λ creator node e. refl }

-- what two steps touch together
pub within-joined : (a b : Touched) (u v w : VolumeState) → IsWithin a u v → IsWithin b v w → IsWithin (joined a b) u w
within-joined a b u v w one two = record {
  nodes = λ id e. let k = any-both (λ n. n == id) a.nodes b.nodes e in one.nodes id k.0 ∙ two.nodes id k.1;
  forks = λ id r e. let k = any-both (λ (p : ForkPlace). (p.node == id) && beq p.resource r) a.forks b.forks e in one.forks id r k.0 ∙ two.forks id r k.1;
  comments = λ node e. let k = any-both (λ n. n == node) a.comments b.comments e in one.comments node k.0 ∙ two.comments node k.1;
  icons = λ key e. let k = any-both (λ k. bytes_eq k key) a.icons b.icons e in one.icons key k.0 ∙ two.icons key k.1;
  appls = λ creator node e. let k = any-both (λ (m : Mapping). bytes_eq m.creator creator && (m.node == node)) a.appls b.appls e in one.appls creator node k.0 ∙ two.appls creator node k.1;
}

pub edits-within : DeskLaws → (v : VolumeState) (edits : List Edit) → IsWithin (all_touched v edits) v (after_edits v edits)
edits-within laws v [] = same-within nothing v
edits-within laws v (e ∷ es) = within-joined (touches v e) (all_touched (edited v e) es) v (edited v e) (after_edits (edited v e) es) (edit-within laws v e) (edits-within laws (edited v e) es)
