-- The keys of rows of one kind stand in the order of the rows.
use Rattle.std.proofs.Common.{◌≡◌, ◌∙◌, ℕ, ◌<◌, ◌≤◌, ◌^◌, Bool, true, false, List, [], ◌∷◌, ◌++◌, map, length, refl, sym, ap, arith, inl, inr}
use Rattle.std.specs.Prelude.{nat_le, nat_lt, ◌&&◌, ◌||◌, ◌==◌}
use Rattle.std.specs.List.{list_all}
use Rattle.std.specs.Cmp.{tied_itself}
use Rattle.std.specs.Cmp.Lexicographic.{slice_cmp, nat_list_cmp_total}
use Rattle.std.specs.Ordering.{nat_cmp, is_lt}
use Rattle.std.specs.declared.cmp.Ordering.TheVariants.{Less}
use Rattle.std.proofs.lemmas.Bool.{and_from, eq-eqb, eqb-true, leb-true, lt-ltb, ltb-true, or_left, or_right}
use Rattle.volume_spec.specs.VolumeState.{Comment, Icon, Appl}
use Rattle.volume_spec.specs.SoundVolume.{icon_key, appl_key}
use Rattle.volume_spec.specs.TypedVolume.{is_long}
use Rattle.volume_spec.specs.Order.{stands_before}
use Rattle.volume_keeper_records.specs.declared.rows.Node.{Node}
use Rattle.volume_keeper_records.specs.declared.rows.ForkBlock.{ForkBlock}
use Rattle.volume_keeper_records.specs.declared.rows.TableRow.{TableRow}
use Rattle.volume_keeper_records.specs.declared.rows.TableRow.TheVariants as row
use Rattle.volume_keeper_records.specs.Records.{record_of, node_record, block_record, comment_record, icon_record, appl_record, long_bytes, flag_byte}
use Rattle.volume_keeper_records.specs.KeyOrder.{IsBelow, RisesByKey}
use Rattle.volume_keeper_records.proofs.ByteOrder.{long_less, long_of, byte_less, byte_of, front_same}
use Rattle.volume_keeper_records.proofs.Chains.{Chain}
use Rattle.volume_keeper_records.proofs.RowKinds.{tag_of, key_rest, key_is}
use Rattle.afp_base.proofs.Facts.{either, is_lt_less, left_true, right_true}
use Rattle.afp_base.proofs.ListFacts.{all-always}

-- ---- any kind

module _ {A : Type 0} (make : A → TableRow) (R : A → A → Bool) (p : A → Bool) where
  below_each : ((a b : A) → p a ≡ true → p b ≡ true → slice_cmp nat_cmp (record_of (make a)).key (record_of (make b)).key ≡ Less → R a b ≡ true)
      → (a : A) → p a ≡ true → (xs : List A) → list_all p xs ≡ true → IsBelow (record_of (make a)).key (map record_of (map make xs)) → list_all (R a) xs ≡ true
  below_each h a pa [] f b = refl
  below_each h a pa (x ∷ xs) f b = and_from _ _ (h a x pa (left_true (p x) (list_all p xs) f) b.0) (below_each h a pa xs (right_true (p x) (list_all p xs) f) b.1)

  -- rising keys are rows in their order
  pub in_chain : ((a b : A) → p a ≡ true → p b ≡ true → slice_cmp nat_cmp (record_of (make a)).key (record_of (make b)).key ≡ Less → R a b ≡ true)
      → (xs : List A) → list_all p xs ≡ true → RisesByKey (map record_of (map make xs)) → Chain R xs
  in_chain h [] f s = tt
  in_chain h (x ∷ xs) f s = (below_each h x (left_true (p x) (list_all p xs) f) xs (right_true (p x) (list_all p xs) f) s.0, in_chain h xs (right_true (p x) (list_all p xs) f) s.1)

  each_below : ((a b : A) → p a ≡ true → p b ≡ true → R a b ≡ true → slice_cmp nat_cmp (record_of (make a)).key (record_of (make b)).key ≡ Less)
      → (a : A) → p a ≡ true → (xs : List A) → list_all p xs ≡ true → list_all (R a) xs ≡ true → IsBelow (record_of (make a)).key (map record_of (map make xs))
  each_below h a pa [] f e = tt
  each_below h a pa (x ∷ xs) f e = (h a x pa (left_true (p x) (list_all p xs) f) (left_true (R a x) (list_all (R a) xs) e), each_below h a pa xs (right_true (p x) (list_all p xs) f) (right_true (R a x) (list_all (R a) xs) e))

  -- rows in their order have rising keys
  pub chain_up : ((a b : A) → p a ≡ true → p b ≡ true → R a b ≡ true → slice_cmp nat_cmp (record_of (make a)).key (record_of (make b)).key ≡ Less)
      → (xs : List A) → list_all p xs ≡ true → Chain R xs → RisesByKey (map record_of (map make xs))
  chain_up h [] f c = tt
  chain_up h (x ∷ xs) f c = (each_below h x (left_true (p x) (list_all p xs) f) xs (right_true (p x) (list_all p xs) f) c.0, chain_up h xs (right_true (p x) (list_all p xs) f) c.1)

-- ---- orders as tests

pub before_itself : (k : List ℕ) → stands_before k k ≡ false
before_itself k = ap is_lt (tied_itself nat_list_cmp_total k)

fits : (n : ℕ) → is_long n ≡ true → n < 2 ^ 32
fits n e = let l : n < 4294967296 = ltb-true _ _ e in omega (arith, l)

-- ---- nodes and comments, by number

node_of_key : (a b : Node) → is_long a.id ≡ true → is_long b.id ≡ true → slice_cmp nat_cmp (record_of (row.Node a)).key (record_of (row.Node b)).key ≡ Less → nat_lt a.id b.id ≡ true
unfolding node_record
node_of_key a b p q e = elim (long_of a.id b.id [] [] (fits a.id p) (fits b.id q) e) [ inl l ↦ lt-ltb _ _ l | inr r ↦ absurd (let k = r.1 in cc k) ]

key_of_node : (a b : Node) → is_long a.id ≡ true → is_long b.id ≡ true → nat_lt a.id b.id ≡ true → slice_cmp nat_cmp (record_of (row.Node a)).key (record_of (row.Node b)).key ≡ Less
unfolding node_record
key_of_node a b p q e = long_less a.id b.id [] [] (ltb-true _ _ e) (fits b.id q)

comment_of_key : (a b : Comment) → is_long a.node ≡ true → is_long b.node ≡ true → slice_cmp nat_cmp (record_of (row.Comment a)).key (record_of (row.Comment b)).key ≡ Less → nat_lt a.node b.node ≡ true
unfolding comment_record
comment_of_key a b p q e = elim (long_of a.node b.node [] [] (fits a.node p) (fits b.node q) e) [ inl l ↦ lt-ltb _ _ l | inr r ↦ absurd (let k = r.1 in cc k) ]

key_of_comment : (a b : Comment) → is_long a.node ≡ true → is_long b.node ≡ true → nat_lt a.node b.node ≡ true → slice_cmp nat_cmp (record_of (row.Comment a)).key (record_of (row.Comment b)).key ≡ Less
unfolding comment_record
key_of_comment a b p q e = long_less a.node b.node [] [] (ltb-true _ _ e) (fits b.node q)

pub nodes_in_chain : (ns : List Node) → list_all (λ n. is_long n.id) ns ≡ true → RisesByKey (map record_of (map (λ n. row.Node n) ns)) → Chain (λ a b. nat_lt a.id b.id) ns
nodes_in_chain = in_chain (λ n. row.Node n) (λ a b. nat_lt a.id b.id) (λ n. is_long n.id) node_of_key

pub nodes_up : (ns : List Node) → list_all (λ n. is_long n.id) ns ≡ true → Chain (λ a b. nat_lt a.id b.id) ns → RisesByKey (map record_of (map (λ n. row.Node n) ns))
nodes_up = chain_up (λ n. row.Node n) (λ a b. nat_lt a.id b.id) (λ n. is_long n.id) key_of_node

pub comments_in_chain : (ns : List Comment) → list_all (λ (n : Comment). is_long n.node) ns ≡ true → RisesByKey (map record_of (map (λ n. row.Comment n) ns)) → Chain (λ a b. nat_lt a.node b.node) ns
comments_in_chain = in_chain (λ n. row.Comment n) (λ a b. nat_lt a.node b.node) (λ n. is_long n.node) comment_of_key

pub comments_up : (ns : List Comment) → list_all (λ (n : Comment). is_long n.node) ns ≡ true → Chain (λ a b. nat_lt a.node b.node) ns → RisesByKey (map record_of (map (λ n. row.Comment n) ns))
comments_up = chain_up (λ n. row.Comment n) (λ a b. nat_lt a.node b.node) (λ n. is_long n.node) key_of_comment

-- ---- icons and APPL mappings, by key

abbrev pub icon_before : Icon → Icon → Bool
icon_before a b = stands_before (icon_key a) (icon_key b)

abbrev pub appl_before : Appl → Appl → Bool
appl_before a b = stands_before (appl_key a) (appl_key b)

icon_of_key : (a b : Icon) → (true ≡ true) → (true ≡ true) → slice_cmp nat_cmp (record_of (row.Icon a)).key (record_of (row.Icon b)).key ≡ Less → icon_before a b ≡ true
unfolding icon_record
icon_of_key a b p q e = ap is_lt e

key_of_icon : (a b : Icon) → (true ≡ true) → (true ≡ true) → icon_before a b ≡ true → slice_cmp nat_cmp (record_of (row.Icon a)).key (record_of (row.Icon b)).key ≡ Less
unfolding icon_record
key_of_icon a b p q e = is_lt_less (slice_cmp nat_cmp (icon_key a) (icon_key b)) e

pub icons_in_chain : (xs : List Icon) → RisesByKey (map record_of (map (λ n. row.Icon n) xs)) → Chain icon_before xs
icons_in_chain xs s = in_chain (λ n. row.Icon n) icon_before (λ n. true) icon_of_key xs (all-always xs) s

pub icons_up : (xs : List Icon) → Chain icon_before xs → RisesByKey (map record_of (map (λ n. row.Icon n) xs))
icons_up xs c = chain_up (λ n. row.Icon n) icon_before (λ n. true) key_of_icon xs (all-always xs) c

abbrev pub is_fit_appl : Appl → Bool
is_fit_appl a = is_long a.node && (length a.creator == 4)

-- two lists of one length, each with a tail: another tail that decides alike may stand there
pub tails_for : (xs ys us vs ps qs : List ℕ) → length xs ≡ length ys → (slice_cmp nat_cmp us vs ≡ Less → slice_cmp nat_cmp ps qs ≡ Less) → slice_cmp nat_cmp (xs ++ us) (ys ++ vs) ≡ Less → slice_cmp nat_cmp (xs ++ ps) (ys ++ qs) ≡ Less
tails_for [] [] us vs ps qs l h e = h e
tails_for [] (y ∷ ys) us vs ps qs l h e = absurd (omega arith)
tails_for (x ∷ xs) [] us vs ps qs l h e = absurd (omega arith)
tails_for (x ∷ xs) (y ∷ ys) us vs ps qs l h e = elim (byte_of x y (xs ++ us) (ys ++ vs) e) [
  | inl less ↦ byte_less x y (xs ++ ps) (ys ++ qs) less
  | inr same ↦
      let rest = tails_for xs ys us vs ps qs (let k : length xs ≡ length ys = omega arith in k) h same.1 in
      ap (λ z. slice_cmp nat_cmp (z ∷ (xs ++ ps)) (y ∷ (ys ++ qs))) same.0 ∙ front_same (y ∷ []) (xs ++ ps) (ys ++ qs) ∙ rest
]

appl_of_key : (a b : Appl) → is_fit_appl a ≡ true → is_fit_appl b ≡ true → slice_cmp nat_cmp (record_of (row.Appl a)).key (record_of (row.Appl b)).key ≡ Less → appl_before a b ≡ true
unfolding appl_record
appl_of_key a b p q e =
    let i : length a.creator ≡ 4 = eqb-true _ _ (right_true (is_long a.node) (length a.creator == 4) p) in
    let j : length b.creator ≡ 4 = eqb-true _ _ (right_true (is_long b.node) (length b.creator == 4) q) in
    ap is_lt (tails_for a.creator b.creator (long_bytes a.node) (long_bytes b.node) (a.node ∷ []) (b.node ∷ []) (i ∙ sym j)
    (λ less. elim (long_of a.node b.node [] [] (fits a.node (left_true (is_long a.node) (length a.creator == 4) p)) (fits b.node (left_true (is_long b.node) (length b.creator == 4) q)) less) [
      | inl l ↦ byte_less a.node b.node [] [] l
      | inr r ↦ absurd (let k = r.1 in cc k)
    ]) e)

key_of_appl : (a b : Appl) → is_fit_appl a ≡ true → is_fit_appl b ≡ true → appl_before a b ≡ true → slice_cmp nat_cmp (record_of (row.Appl a)).key (record_of (row.Appl b)).key ≡ Less
unfolding appl_record
key_of_appl a b p q e =
    let i : length a.creator ≡ 4 = eqb-true _ _ (right_true (is_long a.node) (length a.creator == 4) p) in
    let j : length b.creator ≡ 4 = eqb-true _ _ (right_true (is_long b.node) (length b.creator == 4) q) in
    tails_for a.creator b.creator (a.node ∷ []) (b.node ∷ []) (long_bytes a.node) (long_bytes b.node) (i ∙ sym j)
    (λ less. elim (byte_of a.node b.node [] [] less) [
      | inl l ↦ long_less a.node b.node [] [] l (fits b.node (left_true (is_long b.node) (length b.creator == 4) q))
      | inr r ↦ absurd (let k = r.1 in cc k)
    ]) (is_lt_less (slice_cmp nat_cmp (appl_key a) (appl_key b)) e)

pub appls_in_chain : (xs : List Appl) → list_all is_fit_appl xs ≡ true → RisesByKey (map record_of (map (λ n. row.Appl n) xs)) → Chain appl_before xs
appls_in_chain = in_chain (λ n. row.Appl n) appl_before is_fit_appl appl_of_key

pub appls_up : (xs : List Appl) → list_all is_fit_appl xs ≡ true → Chain appl_before xs → RisesByKey (map record_of (map (λ n. row.Appl n) xs))
appls_up = chain_up (λ n. row.Appl n) appl_before is_fit_appl key_of_appl

-- ---- blocks, by node, fork and index

abbrev pub fork_before : ForkBlock → ForkBlock → Bool
fork_before a b = nat_lt (flag_byte a.is_resource) (flag_byte b.is_resource) || ((flag_byte a.is_resource == flag_byte b.is_resource) && nat_lt a.index b.index)

abbrev pub block_before : ForkBlock → ForkBlock → Bool
block_before a b = nat_lt a.node b.node || ((a.node == b.node) && fork_before a b)

abbrev pub is_fit_block : ForkBlock → Bool
is_fit_block b = is_long b.node && is_long b.index

block_of_key : (a b : ForkBlock) → is_fit_block a ≡ true → is_fit_block b ≡ true → slice_cmp nat_cmp (record_of (row.Block a)).key (record_of (row.Block b)).key ≡ Less → block_before a b ≡ true
unfolding block_record
block_of_key a b p q e =
    elim (long_of a.node b.node (flag_byte a.is_resource ∷ long_bytes a.index) (flag_byte b.is_resource ∷ long_bytes b.index) (fits a.node (left_true _ (is_long a.index) p)) (fits b.node (left_true _ (is_long b.index) q)) e) [
      | inl l ↦ or_left _ ((a.node == b.node) && fork_before a b) (lt-ltb _ _ l)
      | inr r ↦ or_right (nat_lt a.node b.node) _ (and_from (a.node == b.node) (fork_before a b) (eq-eqb _ _ r.0)
          (elim (byte_of (flag_byte a.is_resource) (flag_byte b.is_resource) (long_bytes a.index) (long_bytes b.index) r.1) [
            | inl l ↦ or_left _ ((flag_byte a.is_resource == flag_byte b.is_resource) && nat_lt a.index b.index) (lt-ltb _ _ l)
            | inr s ↦ or_right (nat_lt (flag_byte a.is_resource) (flag_byte b.is_resource)) _ (and_from (flag_byte a.is_resource == flag_byte b.is_resource) (nat_lt a.index b.index) (eq-eqb _ _ s.0)
                (elim (long_of a.index b.index [] [] (fits a.index (right_true (is_long a.node) _ p)) (fits b.index (right_true (is_long b.node) _ q)) s.1) [
                  | inl l ↦ lt-ltb _ _ l
                  | inr t ↦ absurd (let k = t.1 in cc k)
                ]))
          ]))
    ]

key_of_block : (a b : ForkBlock) → is_fit_block a ≡ true → is_fit_block b ≡ true → block_before a b ≡ true → slice_cmp nat_cmp (record_of (row.Block a)).key (record_of (row.Block b)).key ≡ Less
unfolding block_record
key_of_block a b p q e =
    let end_a : List ℕ = flag_byte a.is_resource ∷ long_bytes a.index in
    let end_b : List ℕ = flag_byte b.is_resource ∷ long_bytes b.index in
    either (nat_lt a.node b.node) ((a.node == b.node) && fork_before a b) e
    (λ l. long_less a.node b.node end_a end_b (ltb-true _ _ l) (fits b.node (left_true _ (is_long b.index) q)))
    (λ r.
    let same : a.node ≡ b.node = eqb-true _ _ (left_true (a.node == b.node) (fork_before a b) r) in
    let forks = right_true (a.node == b.node) (fork_before a b) r in
    ap (λ n. slice_cmp nat_cmp (long_bytes n ++ end_a) (long_bytes b.node ++ end_b)) same ∙ front_same (long_bytes b.node) end_a end_b
    ∙ either (nat_lt (flag_byte a.is_resource) (flag_byte b.is_resource)) ((flag_byte a.is_resource == flag_byte b.is_resource) && nat_lt a.index b.index) forks
    (λ l. byte_less (flag_byte a.is_resource) (flag_byte b.is_resource) (long_bytes a.index) (long_bytes b.index) (ltb-true _ _ l))
    (λ s.
    let fork : flag_byte a.is_resource ≡ flag_byte b.is_resource = eqb-true _ _ (left_true (flag_byte a.is_resource == flag_byte b.is_resource) (nat_lt a.index b.index) s) in
    let index : a.index < b.index = ltb-true _ _ (right_true (flag_byte a.is_resource == flag_byte b.is_resource) (nat_lt a.index b.index) s) in
    ap (λ n. slice_cmp nat_cmp (n ∷ long_bytes a.index) (flag_byte b.is_resource ∷ long_bytes b.index)) fork
    ∙ front_same (flag_byte b.is_resource ∷ []) (long_bytes a.index) (long_bytes b.index) ∙ long_less a.index b.index [] [] index (fits b.index (right_true (is_long b.node) _ q))))

pub blocks_in_chain : (xs : List ForkBlock) → list_all is_fit_block xs ≡ true → RisesByKey (map record_of (map (λ n. row.Block n) xs)) → Chain block_before xs
blocks_in_chain = in_chain (λ n. row.Block n) block_before is_fit_block block_of_key

pub blocks_up : (xs : List ForkBlock) → list_all is_fit_block xs ≡ true → Chain block_before xs → RisesByKey (map record_of (map (λ n. row.Block n) xs))
blocks_up = chain_up (λ n. row.Block n) block_before is_fit_block key_of_block

-- ---- rows of several kinds

pub below_front : (k : List ℕ) (xs ys : List TableRow) → IsBelow k (map record_of (xs ++ ys)) → IsBelow k (map record_of xs)
below_front k [] ys b = tt
below_front k (x ∷ xs) ys b = (b.0, below_front k xs ys b.1)

pub rows_ends : (xs ys : List TableRow) → RisesByKey (map record_of (xs ++ ys)) → RisesByKey (map record_of xs) × RisesByKey (map record_of ys)
rows_ends [] ys s = (tt, s)
rows_ends (x ∷ xs) ys s = let rest = rows_ends xs ys s.1 in ((below_front (record_of x).key xs ys s.0, rest.0), rest.1)

tags_less : (x y : TableRow) → tag_of x < tag_of y → slice_cmp nat_cmp (record_of x).key (record_of y).key ≡ Less
tags_less x y h = (λ i. slice_cmp nat_cmp (key_is x i) (key_is y i)) ∙ byte_less (tag_of x) (tag_of y) (key_rest x) (key_rest y) h

below_later : (x : TableRow) (k : ℕ) (ys : List TableRow) → tag_of x ≤ k → list_all (λ y. nat_lt k (tag_of y)) ys ≡ true → IsBelow (record_of x).key (map record_of ys)
below_later x k [] h e = tt
below_later x k (y ∷ ys) h e = (tags_less x y (let l : k < tag_of y = ltb-true _ _ (left_true _ _ e) in omega arith), below_later x k ys h (right_true _ _ e))

below_both : (k : List ℕ) (xs ys : List TableRow) → IsBelow k (map record_of xs) → IsBelow k (map record_of ys) → IsBelow k (map record_of (xs ++ ys))
below_both k [] ys b c = c
below_both k (x ∷ xs) ys b c = (b.0, below_both k xs ys b.1 c)

-- rows whose first bytes are at most a number, and behind them rows whose first bytes are above it
pub rows_both : (k : ℕ) (xs ys : List TableRow) → list_all (λ x. nat_le (tag_of x) k) xs ≡ true → list_all (λ y. nat_lt k (tag_of y)) ys ≡ true → RisesByKey (map record_of xs) → RisesByKey (map record_of ys) → RisesByKey (map record_of (xs ++ ys))
rows_both k [] ys f g s r = r
rows_both k (x ∷ xs) ys f g s r =
    (below_both (record_of x).key xs ys s.0 (below_later x k ys (leb-true _ _ (left_true _ _ f)) g), rows_both k xs ys (right_true _ _ f) g s.1 r)
