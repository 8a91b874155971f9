-- Beyond the keys that are touched the records of two volumes are one.
use Rattle.std.proofs.Common.{◌≡◌, ◌∙◌, ℕ, zero, suc, ◌+◌, ◌<◌, ◌≤◌, ◌^◌, Bool, true, false, cond, List, [], ◌∷◌, ◌++◌, ◌||◌, map, length, refl, sym, ap, subst, arith, nat_eq, ◌⊎◌, inl, inr}
use Rattle.std.specs.Prelude.{Option, Some, None, option_map, flat_map, ◌&&◌, ◌==◌, nat_le, bytes_eq}
use Rattle.std.specs.Bool.{beq}
use Rattle.std.specs.List.{find, list_all, list_any}
use Rattle.std.specs.FinMap.{get}
use Rattle.std.specs.Cmp.Lexicographic.{pointwise, bytes_decides}
use Rattle.std.proofs.lemmas.Bool.{and_parts, eqb-true}
use Rattle.std.proofs.lemmas.Slice.Eq.{bytes_eq-Decides}
use Rattle.volume_spec.specs.ForkEffect.{fork_of}
use Rattle.volume_spec.specs.SoundVolume.{icon_key}
use Rattle.volume_spec.specs.TypedVolume.{is_long}
use Rattle.volume_spec.specs.VolumeState.{Row as VolumeRow, Comment, Icon, Appl, VolumeState}
use Rattle.volume_spec.specs.Walk.{row_at}
use Rattle.fork_bytes.specs.Blocks.{block_at}
use Rattle.volume_keeper_records.specs.declared.rows.TableRow.{TableRow}
use Rattle.volume_keeper_records.specs.declared.rows.TableRow.TheVariants as row
use Rattle.volume_keeper_records.specs.Records.{appl_record, appl_record_key, block_key, block_record, comment_record, comment_record_key, head_key, head_record, icon_record, icon_tag, node_key, node_record, record_of, version}
use Rattle.volume_keeper_records.specs.Image.{fork_blocks, kept_image, node_of, rows_of, tables_of}
use Rattle.volume_keeper_records.proofs.ImageRises.{is_small}
use Rattle.volume_keeper_records.proofs.RowOrder.{is_fit_appl, is_fit_block}
use Rattle.volume_changes.specs.records.Differences.{is_among}
use Rattle.volume_changes.specs.records.Laws.{Covers}
use Rattle.volume_changes.specs.declared.records.touched.ForkPlace.{ForkPlace}
use Rattle.volume_changes.specs.declared.records.touched.Mapping.{Mapping}
use Rattle.volume_changes.specs.records.Touched.{IsWithin, Touched, fork_keys, keys_of, most_blocks, numbers_from}
use Rattle.volume_changes.proofs.OfRecords.LookUps.{are_one, found, got, key_of_row, one_of}
use Rattle.volume_changes.specs.records.Values.{unless_empty}
use Rattle.volume_changes.proofs.OfRecords.Found.{and_then, block_value, past}
use Rattle.volume_changes.proofs.OfRecords.Segments.{Facts, appl_value, block_at_key, comment_value, icon_value, longs, node_at}

-- the keys that records of a volume have
pub data HasShape (q : List ℕ) : Type 0 where
  of_head : q ≡ head_key → HasShape q
  of_node : (id : ℕ) → id < 2 ^ 32 → q ≡ node_key id → HasShape q
  of_block : (id : ℕ) (f : Bool) (i : ℕ) → id < 2 ^ 32 → i < 2 ^ 32 → q ≡ block_key id f i → HasShape q
  of_comment : (node : ℕ) → node < 2 ^ 32 → q ≡ comment_record_key node → HasShape q
  of_icon : (key : List ℕ) → q ≡ icon_tag ∷ key → HasShape q
  of_appl : (creator : List ℕ) (node : ℕ) → length creator ≡ 4 → node < 2 ^ 32 → q ≡ appl_record_key creator node → HasShape q

abbrev AllShaped : List TableRow → Type 0
AllShaped [] = Unit {0}
AllShaped (x ∷ xs) = HasShape (key_of_row x) × AllShaped xs

shaped-append : (xs ys : List TableRow) → AllShaped xs → AllShaped ys → AllShaped (xs ++ ys)
shaped-append [] ys a b = b
shaped-append (x ∷ xs) ys a b = (a.0, shaped-append xs ys a.1 b)

shaped-map : {A : Type 0} (make : A → TableRow) (p : A → Bool) (xs : List A) → ((a : A) → p a ≡ true → HasShape (key_of_row (make a))) → list_all p xs ≡ true → AllShaped (map make xs)
shaped-map make p [] h all = tt
shaped-map make p (x ∷ xs) h all = let e = and_parts (p x) (list_all p xs) all in (h x e.0, shaped-map make p xs h e.1)

shape_found : (xs : List TableRow) (q x : List ℕ) → AllShaped xs → found xs q ≡ Some x → HasShape q
shape_found [] q x all h = absurd (cc h)
shape_found (y ∷ ys) q x all h = elim (are_one q (key_of_row y)) as (λ t. are_one q (key_of_row y) ≡ t → cond t (Some (record_of y).value) (found ys q) ≡ Some x → HasShape q) [
  | true ↦ λ e k. subst HasShape (sym (one_of q (key_of_row y) e)) all.0
  | false ↦ λ e k. shape_found ys q x all.1 k
] refl h

always : {A : Type 0} (xs : List A) → list_all (λ x. true) xs ≡ true
always [] = refl
always (x ∷ xs) = always xs

long_of : (n : ℕ) → is_long n ≡ true → n < 2 ^ 32
long_of n h = grind (arith, h)

nodes-long : (rows : List VolumeRow) → list_all (λ (r : VolumeRow). is_long r.id) rows ≡ true → AllShaped (map (λ n. row.Node n) (map (node_of version) rows))
unfolding node_record
nodes-long [] h = tt
nodes-long (r ∷ rows) h = let e = and_parts (is_long r.id) (list_all (λ (r : VolumeRow). is_long r.id) rows) h in (of_node r.id (long_of r.id e.0) refl, nodes-long rows e.1)

all_shaped : (v : VolumeState) → Facts v → AllShaped (rows_of (tables_of version v))
unfolding head_record block_record comment_record icon_record appl_record
all_shaped v f = (
  of_head refl,
  shaped-append (map (λ n. row.Node n) (map (node_of version) v.rows)) _ (nodes-long v.rows (longs v.rows f.small))
      (shaped-append (map (λ b. row.Block b) (flat_map fork_blocks v.rows)) _
      (shaped-map (λ b. row.Block b) is_fit_block (flat_map fork_blocks v.rows)
      (λ b fit. let e = and_parts (is_long b.node) (is_long b.index) fit in of_block b.node b.is_resource b.index (long_of b.node e.0) (long_of b.index e.1) refl) f.blocks)
      (shaped-append (map (λ c. row.Comment c) v.comments) _
      (shaped-map (λ c. row.Comment c) (λ (c : Comment). is_long c.node) v.comments (λ c long. of_comment c.node (long_of c.node long) refl) f.comments)
      (shaped-append (map (λ i. row.Icon i) v.icons) (map (λ a. row.Appl a) v.appls)
      (shaped-map (λ i. row.Icon i) (λ i. true) v.icons (λ i t. of_icon (icon_key i) refl) (always v.icons))
      (shaped-map (λ a. row.Appl a) is_fit_appl v.appls
      (λ a fit. let e = and_parts (is_long a.node) (length a.creator == 4) fit in of_appl a.creator a.node (eqb-true (length a.creator) 4 e.1) (long_of a.node e.0) refl) f.appls)))),
)

there_shaped : (v : VolumeState) (q x : List ℕ) → Facts v → get (kept_image v) q ≡ Some x → HasShape q
there_shaped v q x f h = shape_found (rows_of (tables_of version v)) q x (all_shaped v f) (sym (got (rows_of (tables_of version v)) q f.rising) ∙ h)

-- what is not among keys

among-append : (q : List ℕ) (ks js : List (List ℕ)) → is_among q (ks ++ js) ≡ false → (is_among q ks ≡ false) × (is_among q js ≡ false)
among-append q [] js h = (refl, h)
among-append q (k ∷ ks) js h = elim (pointwise nat_eq q k) as (λ t. (t || is_among q (ks ++ js)) ≡ false → ((t || is_among q ks) ≡ false) × (is_among q js ≡ false)) [
  | true ↦ λ e. absurd (cc e)
  | false ↦ λ e. among-append q ks js e
] h

same_bytes : (a : List ℕ) → pointwise nat_eq a a ≡ true
same_bytes a = (bytes_decides a a).1 refl

not_among : {A : Type 0} (key : A → List ℕ) (test : A → Bool) (q : List ℕ) (xs : List A) → ((a : A) → test a ≡ true → q ≡ key a) → is_among q (map key xs) ≡ false → list_any test xs ≡ false
not_among key test q [] h none = refl
not_among key test q (x ∷ xs) h none = elim (test x) as (λ t. test x ≡ t → (t || list_any test xs) ≡ false) [
  | true ↦ λ e. absurd (
      let is : pointwise nat_eq q (key x) ≡ true = ap (λ k. pointwise nat_eq q k) (sym (h x e)) ∙ same_bytes q in
      let b : true ≡ false = sym (ap (λ t. t || is_among q (map key xs)) is) ∙ none in
      cc b)
  | false ↦ λ e. not_among key test q xs h (rest (pointwise nat_eq q (key x)) (is_among q (map key xs)) none)
] refl
  where
    rest : (a b : Bool) → (a || b) ≡ false → b ≡ false
    rest true b e = absurd (cc e)
    rest false b e = e

-- an index of a fork that is touched is among its keys, if it is none behind the end
number_among : (i n more : ℕ) (id : ℕ) (f : Bool) → n ≤ i → is_among (block_key id f i) (map (block_key id f) (numbers_from n more)) ≡ false → n + more ≤ i
number_among i n zero id f low none = omega arith
number_among i n (suc more) id f low none = elim (i == n) as (λ t. (i == n) ≡ t → n + suc more ≤ i) [
  | true ↦ λ e. absurd (
      let is = eqb-true i n e in
      let k : pointwise nat_eq (block_key id f i) (block_key id f n) ≡ true = ap (λ j. pointwise nat_eq (block_key id f i) (block_key id f j)) (sym is) ∙ same_bytes (block_key id f i) in
      let b : true ≡ false = sym (ap (λ t. t || is_among (block_key id f i) (map (block_key id f) (numbers_from (n + 1) more))) k) ∙ none in
      cc b)
  | false ↦ λ e. let h = number_among i (n + 1) more id f (grind (arith, e)) (rest (pointwise nat_eq (block_key id f i) (block_key id f n)) _ none) in omega (arith, h)
] refl
  where
    rest : (a b : Bool) → (a || b) ≡ false → b ≡ false
    rest true b e = absurd (cc e)
    rest false b e = e

same_flag : (f g : Bool) → beq f g ≡ true → f ≡ g
same_flag true true e = refl
same_flag false false e = refl
same_flag true false e = absurd (cc e)
same_flag false true e = absurd (cc e)

fork_among : (places : List ForkPlace) (id : ℕ) (f : Bool) (i : ℕ) → is_among (block_key id f i) (flat_map fork_keys places) ≡ false
    → (list_any (λ (p : ForkPlace). (p.node == id) && beq p.resource f) places ≡ false) ⊎ (most_blocks ≤ i)
unfolding fork_keys
fork_among [] id f i none = inl refl
fork_among (p ∷ places) id f i none =
    let both = among-append (block_key id f i) (map (block_key p.node p.resource) (numbers_from 0 most_blocks)) (flat_map fork_keys places) none in
    elim ((p.node == id) && beq p.resource f) as (λ t. ((p.node == id) && beq p.resource f) ≡ t → ((t || list_any (λ (p : ForkPlace). (p.node == id) && beq p.resource f) places) ≡ false) ⊎ (most_blocks ≤ i)) [
      | true ↦ λ e.
          let k = and_parts (p.node == id) (beq p.resource f) e in
          inr (number_among i 0 most_blocks id f (omega arith)
          (subst (λ n. is_among (block_key id f i) (map (block_key n f) (numbers_from 0 most_blocks)) ≡ false) (eqb-true p.node id k.0)
          (subst (λ r. is_among (block_key id f i) (map (block_key p.node r) (numbers_from 0 most_blocks)) ≡ false) (same_flag p.resource f k.1) both.0)))
      | false ↦ λ e. fork_among places id f i both.1
    ] refl

-- a block behind the most there are is none
row_past : (rows : List VolumeRow) (id : ℕ) (f : Bool) (i : ℕ) → most_blocks ≤ i → list_all is_small rows ≡ true → and_then (find (λ (r : VolumeRow). r.id == id) rows) (block_value f i) ≡ None
row_past [] id f i high small = refl
row_past (r ∷ rows) id f i high small =
    let e = and_parts (is_small r) (list_all is_small rows) small in
    let s = and_parts (is_long r.id) (nat_le (length r.data_fork + length r.resource_fork) 268435456) e.0 in
    let few : length r.data_fork + length r.resource_fork ≤ 268435456 = grind (arith, s.1) in
    elim (r.id == id) as (λ t. and_then (cond t (Some r) (find (λ (r : VolumeRow). r.id == id) rows)) (block_value f i) ≡ None) [
      | true ↦ by f few
      | false ↦ row_past rows id f i high e.1
    ]
  where
    by : (f : Bool) → length r.data_fork + length r.resource_fork ≤ 268435456 → block_value f i r ≡ None
    by true few = ap unless_empty (past r.resource_fork i (omega (arith, few, high)))
    by false few = ap unless_empty (past r.data_fork i (omega (arith, few, high)))

-- the value of a block, by the bytes of the fork
by_bytes' : (o : Option VolumeRow) (f : Bool) (i : ℕ) → and_then o (block_value f i) ≡ and_then (option_map (fork_of f) o) (λ bytes. unless_empty (block_at bytes i))
by_bytes' None f i = refl
by_bytes' (Some r) f i = refl

-- the keys of each kind among those that are touched
abbrev rest_keys : Touched → List (List ℕ)
rest_keys t =
    map node_key t.nodes
    ++ (flat_map fork_keys t.forks
    ++ (map comment_record_key t.comments
    ++ (map (λ key. icon_tag ∷ key) t.icons
    ++ map (λ (m : Mapping). appl_record_key m.creator m.node) t.appls)))

or-second : (a b : Bool) → (a || b) ≡ false → b ≡ false
or-second true b e = absurd (cc e)
or-second false b e = e

pub record Parts (t : Touched) (q : List ℕ) : Type 0 where
  pub nodes : is_among q (map node_key t.nodes) ≡ false
  pub forks : is_among q (flat_map fork_keys t.forks) ≡ false
  pub comments : is_among q (map comment_record_key t.comments) ≡ false
  pub icons : is_among q (map (λ key. icon_tag ∷ key) t.icons) ≡ false
  pub appls : is_among q (map (λ (m : Mapping). appl_record_key m.creator m.node) t.appls) ≡ false

parts_of : (t : Touched) (q : List ℕ) → is_among q (keys_of t) ≡ false → Parts t q
parts_of t q none =
    let one = among-append q (map node_key t.nodes) _ (or-second (pointwise nat_eq q head_key) (is_among q (rest_keys t)) none) in
    let two = among-append q (flat_map fork_keys t.forks) _ one.1 in
    let three = among-append q (map comment_record_key t.comments) _ two.1 in
    let four = among-append q (map (λ key. icon_tag ∷ key) t.icons) _ three.1 in
    record { nodes = one.0; forks = two.0; comments = three.0; icons = four.0; appls = four.1 }

none_at : (u : VolumeState) → Facts u → (id : ℕ) (r : Bool) (i : ℕ) → most_blocks ≤ i → and_then (row_at u.rows id) (block_value r i) ≡ None
unfolding row_at
none_at u h id r i high = row_past u.rows id r i high h.small

module _ (t : Touched) (v w : VolumeState) (f : Facts v) (g : Facts w) (within : IsWithin t v w) where
  block_same : (id : ℕ) (r : Bool) (i : ℕ) → id < 2 ^ 32 → i < 2 ^ 32 → is_among (block_key id r i) (flat_map fork_keys t.forks) ≡ false → get (kept_image v) (block_key id r i) ≡ get (kept_image w) (block_key id r i)
  block_same id r i l m none = elim (fork_among t.forks id r i none) [
    | inl free ↦ block_at_key v id r i f l m ∙ by_bytes' (row_at v.rows id) r i ∙ ap (λ o. and_then o (λ bytes. unless_empty (block_at bytes i))) (within.forks id r free) ∙ sym (by_bytes' (row_at w.rows id) r i) ∙ sym (block_at_key w id r i g l m)
    | inr high ↦ block_at_key v id r i f l m ∙ none_at v f id r i high ∙ sym (none_at w g id r i high) ∙ sym (block_at_key w id r i g l m)
  ]

  at_key : (q k : List ℕ) → q ≡ k → (is_among k (keys_of t) ≡ false → get (kept_image v) k ≡ get (kept_image w) k) → is_among q (keys_of t) ≡ false → get (kept_image v) q ≡ get (kept_image w) q
  at_key q k e h none = subst (λ j. get (kept_image v) j ≡ get (kept_image w) j) (sym e) (h (subst (λ j. is_among j (keys_of t) ≡ false) e none))

  node_same : (id : ℕ) → id < 2 ^ 32 → is_among (node_key id) (keys_of t) ≡ false → get (kept_image v) (node_key id) ≡ get (kept_image w) (node_key id)
  node_same id l none =
      let p : Parts t (node_key id) = parts_of t (node_key id) none in
      node_at v id f l ∙ within.nodes id (not_among node_key (λ n. n == id) (node_key id) t.nodes (λ n is. ap node_key (sym (eqb-true n id is))) p.nodes) ∙ sym (node_at w id g l)

  comment_same : (node : ℕ) → node < 2 ^ 32 → is_among (comment_record_key node) (keys_of t) ≡ false → get (kept_image v) (comment_record_key node) ≡ get (kept_image w) (comment_record_key node)
  comment_same node l none =
      let p : Parts t (comment_record_key node) = parts_of t (comment_record_key node) none in
      comment_value v node f l
      ∙ ap (option_map (λ (c : Comment). c.text)) (within.comments node (not_among comment_record_key (λ n. n == node) (comment_record_key node) t.comments (λ n is. ap comment_record_key (sym (eqb-true n node is))) p.comments))
      ∙ sym (comment_value w node g l)

  icon_same : (key : List ℕ) → is_among (icon_tag ∷ key) (keys_of t) ≡ false → get (kept_image v) (icon_tag ∷ key) ≡ get (kept_image w) (icon_tag ∷ key)
  icon_same key none =
      let p : Parts t (icon_tag ∷ key) = parts_of t (icon_tag ∷ key) none in
      icon_value v key f
      ∙ ap (option_map (λ (i : Icon). (icon_record i).value)) (within.icons key (not_among (λ k. icon_tag ∷ k) (λ k. bytes_eq k key) (icon_tag ∷ key) t.icons (λ k is. ap (λ j. icon_tag ∷ j) (sym ((bytes_eq-Decides k key).0 is))) p.icons))
      ∙ sym (icon_value w key g)

  appl_same : (creator : List ℕ) (node : ℕ) → length creator ≡ 4 → node < 2 ^ 32 → is_among (appl_record_key creator node) (keys_of t) ≡ false → get (kept_image v) (appl_record_key creator node) ≡ get (kept_image w) (appl_record_key creator node)
  appl_same creator node size l none =
      let p : Parts t (appl_record_key creator node) = parts_of t (appl_record_key creator node) none in
      appl_value v creator node f size l
      ∙ ap (option_map (λ (a : Appl). (appl_record a).value)) (within.appls creator node (not_among (λ (m : Mapping). appl_record_key m.creator m.node) (λ (m : Mapping). bytes_eq m.creator creator && (m.node == node)) (appl_record_key creator node) t.appls
      (λ m is. let k = and_parts (bytes_eq m.creator creator) (m.node == node) is in (λ i. appl_record_key (sym ((bytes_eq-Decides m.creator creator).0 k.0) i) (sym (eqb-true m.node node k.1) i)))
      p.appls))
      ∙ sym (appl_value w creator node g size l)

  shape_same : (q : List ℕ) → HasShape q → is_among q (keys_of t) ≡ false → get (kept_image v) q ≡ get (kept_image w) q
  shape_same q (of_head e) none = absurd (let b : true ≡ false = sym (ap (λ k. pointwise nat_eq k head_key || is_among k (rest_keys t)) e) ∙ none in cc b)
  shape_same q (of_node id l e) none = at_key q (node_key id) e (node_same id l) none
  shape_same q (of_block id r i l m e) none = at_key q (block_key id r i) e (λ n. block_same id r i l m (parts_of t (block_key id r i) n).forks) none
  shape_same q (of_comment node l e) none = at_key q (comment_record_key node) e (comment_same node l) none
  shape_same q (of_icon key e) none = at_key q (icon_tag ∷ key) e (icon_same key) none
  shape_same q (of_appl creator node size l e) none = at_key q (appl_record_key creator node) e (appl_same creator node size l) none

  pub covers : Covers (keys_of t) (kept_image v) (kept_image w)
  covers q none = by (get (kept_image v) q) (get (kept_image w) q) refl refl
    where
      by : (a b : Option (List ℕ)) → get (kept_image v) q ≡ a → get (kept_image w) q ≡ b → get (kept_image v) q ≡ get (kept_image w) q
      by (Some x) b h k = shape_same q (there_shaped v q x f h) none
      by None (Some x) h k = shape_same q (there_shaped w q x g k) none
      by None None h k = h ∙ sym k
