-- Rows by rising key are the rows of tables: the head, then the nodes, blocks, comments, icons and APPL mappings.
use Rattle.std.proofs.Common.{◌≡◌, ◌∙◌, ℕ, ◌<◌, ◌≤◌, true, cond, List, [], ◌∷◌, ◌++◌, map, refl, sym, ap, subst, Option, ⊎_elim, ◌⊎◌, inl, inr}
use Rattle.std.specs.Prelude.{Some, None, nat_le, ◌||◌, ◌==◌, bytes_eq}
use Rattle.std.specs.List.{list_all, list_any, filter, filter_map, cons_option}
use Rattle.std.specs.Cmp.{nat_cmp_is}
use Rattle.std.specs.Cmp.Lexicographic.{slice_cmp}
use Rattle.std.specs.Ordering.{nat_cmp, ordering_then}
use Rattle.std.specs.declared.cmp.Ordering.TheVariants.{Less, Greater}
use Rattle.std.proofs.lemmas.Bool.{cases_lt, and_from, le-leb}
use Rattle.std.proofs.lemmas.List.{append-nil}
use Rattle.volume_spec.specs.VolumeState.{Comment, Icon, Appl}
use Rattle.volume_spec.specs.SoundVolume.{icon_key}
use Rattle.volume_keeper_records.specs.declared.rows.Head.{Head}
use Rattle.volume_keeper_records.specs.declared.rows.Node.{Node}
use Rattle.volume_keeper_records.specs.declared.rows.ForkBlock.{ForkBlock}
use Rattle.volume_keeper_records.specs.declared.rows.TableRow.{TableRow}
use Rattle.volume_keeper_records.specs.declared.rows.TableRow.TheVariants as row
use Rattle.volume_keeper_records.specs.Records.{record_of, head_record, node_record, block_record, comment_record, icon_record, appl_record, long_bytes, flag_byte, head_key}
use Rattle.volume_keeper_records.specs.KeyOrder.{IsBelow, RisesByKey}
use Rattle.volume_keeper_records.specs.lemma.KeyOrder.{has_key}
use Rattle.volume_keeper_records.specs.Image.{Tables, rows_of, tables_in, first_head, as_head, as_node, as_block, as_comment, as_icon, as_appl}
use Rattle.volume_keeper_records.proofs.Parted.{Climbs, parted}
use Rattle.afp_base.proofs.Facts.{cases}

-- the first byte of a row's key, and what stands behind it
abbrev pub tag_of : TableRow → ℕ
tag_of (row.Head h) = 0
tag_of (row.Node n) = 1
tag_of (row.Block b) = 2
tag_of (row.Comment c) = 3
tag_of (row.Icon i) = 4
tag_of (row.Appl a) = 5

abbrev pub key_rest : TableRow → List ℕ
key_rest (row.Head h) = []
key_rest (row.Node n) = long_bytes n.id
key_rest (row.Block b) = long_bytes b.node ++ (flag_byte b.is_resource ∷ long_bytes b.index)
key_rest (row.Comment c) = long_bytes c.node
key_rest (row.Icon i) = icon_key i
key_rest (row.Appl a) = a.creator ++ long_bytes a.node

pub key_is : (x : TableRow) → (record_of x).key ≡ tag_of x ∷ key_rest x
unfolding head_record node_record block_record comment_record icon_record appl_record
key_is (row.Head h) = refl
key_is (row.Node n) = refl
key_is (row.Block b) = refl
key_is (row.Comment c) = refl
key_is (row.Icon i) = refl
key_is (row.Appl a) = refl

first_le : (a b : ℕ) (xs ys : List ℕ) → slice_cmp nat_cmp (a ∷ xs) (b ∷ ys) ≡ Less → a ≤ b
first_le a b xs ys e = ⊎_elim (λ (l : a ≤ b). l)
    (λ (l : b < a). absurd (let g : Greater ≡ Less = ap (λ r. ordering_then r (slice_cmp nat_cmp xs ys)) (nat_cmp_is a b Greater l) ∙ e in cc)) (cases_order a b)
  where
    cases_order : (a b : ℕ) → (a ≤ b) ⊎ (b < a)
    cases_order a b = ⊎_elim (λ (l : b < a). inr l) (λ (l : a ≤ b). inl l) (cases_lt b a)

tags_le : (x y : TableRow) → slice_cmp nat_cmp (record_of x).key (record_of y).key ≡ Less → tag_of x ≤ tag_of y
tags_le x y e = first_le (tag_of x) (tag_of y) (key_rest x) (key_rest y) ((λ i. slice_cmp nat_cmp (sym (key_is x) i) (sym (key_is y) i)) ∙ e)

tags_above : (x : TableRow) (xs : List TableRow) → IsBelow (record_of x).key (map record_of xs) → list_all (λ y. nat_le (tag_of x) (tag_of y)) xs ≡ true
tags_above x [] b = refl
tags_above x (y ∷ xs) b = and_from _ _ (le-leb _ _ (tags_le x y b.0)) (tags_above x xs b.1)

pub tags_climb : (xs : List TableRow) → RisesByKey (map record_of xs) → Climbs tag_of xs
tags_climb [] s = tt
tags_climb (x ∷ xs) s = (tags_above x xs s.0, tags_climb xs s.1)

abbrev pub tags : List ℕ
tags = 0 ∷ 1 ∷ 2 ∷ 3 ∷ 4 ∷ 5 ∷ []

is_tag : (x : TableRow) → list_any (λ n. n == tag_of x) tags ≡ true
is_tag (row.Head h) = refl
is_tag (row.Node n) = refl
is_tag (row.Block b) = refl
is_tag (row.Comment c) = refl
is_tag (row.Icon i) = refl
is_tag (row.Appl a) = refl

are_tags : (xs : List TableRow) → list_all (λ x. list_any (λ n. n == tag_of x) tags) xs ≡ true
are_tags [] = refl
are_tags (x ∷ xs) = and_from _ _ (is_tag x) (are_tags xs)

one_head : (x : TableRow) (rest : List TableRow) (hs : List Head) → rest ≡ map (λ h. row.Head h) hs → cond (0 == tag_of x) (x ∷ rest) rest ≡ map (λ h. row.Head h) (cons_option (as_head x) hs)
one_head (row.Head h) rest hs e = ap (λ l. row.Head h ∷ l) e
one_head _ rest hs e = e

one_node : (x : TableRow) (rest : List TableRow) (hs : List Node) → rest ≡ map (λ h. row.Node h) hs → cond (1 == tag_of x) (x ∷ rest) rest ≡ map (λ h. row.Node h) (cons_option (as_node x) hs)
one_node (row.Node h) rest hs e = ap (λ l. row.Node h ∷ l) e
one_node _ rest hs e = e

one_block : (x : TableRow) (rest : List TableRow) (hs : List ForkBlock) → rest ≡ map (λ h. row.Block h) hs → cond (2 == tag_of x) (x ∷ rest) rest ≡ map (λ h. row.Block h) (cons_option (as_block x) hs)
one_block (row.Block h) rest hs e = ap (λ l. row.Block h ∷ l) e
one_block _ rest hs e = e

one_comment : (x : TableRow) (rest : List TableRow) (hs : List Comment) → rest ≡ map (λ h. row.Comment h) hs → cond (3 == tag_of x) (x ∷ rest) rest ≡ map (λ h. row.Comment h) (cons_option (as_comment x) hs)
one_comment (row.Comment h) rest hs e = ap (λ l. row.Comment h ∷ l) e
one_comment _ rest hs e = e

one_icon : (x : TableRow) (rest : List TableRow) (hs : List Icon) → rest ≡ map (λ h. row.Icon h) hs → cond (4 == tag_of x) (x ∷ rest) rest ≡ map (λ h. row.Icon h) (cons_option (as_icon x) hs)
one_icon (row.Icon h) rest hs e = ap (λ l. row.Icon h ∷ l) e
one_icon _ rest hs e = e

one_appl : (x : TableRow) (rest : List TableRow) (hs : List Appl) → rest ≡ map (λ h. row.Appl h) hs → cond (5 == tag_of x) (x ∷ rest) rest ≡ map (λ h. row.Appl h) (cons_option (as_appl x) hs)
one_appl (row.Appl h) rest hs e = ap (λ l. row.Appl h ∷ l) e
one_appl _ rest hs e = e

heads_are : (xs : List TableRow) → filter (λ x. 0 == tag_of x) xs ≡ map (λ h. row.Head h) (filter_map as_head xs)
heads_are [] = refl
heads_are (x ∷ xs) = one_head x _ _ (heads_are xs)

nodes_are : (xs : List TableRow) → filter (λ x. 1 == tag_of x) xs ≡ map (λ h. row.Node h) (filter_map as_node xs)
nodes_are [] = refl
nodes_are (x ∷ xs) = one_node x _ _ (nodes_are xs)

blocks_are : (xs : List TableRow) → filter (λ x. 2 == tag_of x) xs ≡ map (λ h. row.Block h) (filter_map as_block xs)
blocks_are [] = refl
blocks_are (x ∷ xs) = one_block x _ _ (blocks_are xs)

comments_are : (xs : List TableRow) → filter (λ x. 3 == tag_of x) xs ≡ map (λ h. row.Comment h) (filter_map as_comment xs)
comments_are [] = refl
comments_are (x ∷ xs) = one_comment x _ _ (comments_are xs)

icons_are : (xs : List TableRow) → filter (λ x. 4 == tag_of x) xs ≡ map (λ h. row.Icon h) (filter_map as_icon xs)
icons_are [] = refl
icons_are (x ∷ xs) = one_icon x _ _ (icons_are xs)

appls_are : (xs : List TableRow) → filter (λ x. 5 == tag_of x) xs ≡ map (λ h. row.Appl h) (filter_map as_appl xs)
appls_are [] = refl
appls_are (x ∷ xs) = one_appl x _ _ (appls_are xs)

-- what stands behind the head
abbrev pub behind_head : Tables → List TableRow
behind_head t =
    map (λ node. row.Node node) t.nodes
    ++ (map (λ block. row.Block block) t.blocks
    ++ (map (λ comment. row.Comment comment) t.comments
    ++ (map (λ icon. row.Icon icon) t.icons
    ++ map (λ appl. row.Appl appl) t.appls)))

pub by_kind : (xs : List TableRow) → RisesByKey (map record_of xs) → map (λ h. row.Head h) (filter_map as_head xs) ++ behind_head (tables_in xs) ≡ xs
by_kind xs s =
    sym (λ i. heads_are xs i ++ (nodes_are xs i ++ (blocks_are xs i ++ (comments_are xs i ++ (icons_are xs i ++ (ap (λ l. l ++ []) (appls_are xs) ∙ append-nil (map (λ h. row.Appl h) (filter_map as_appl xs))) i)))))
    ∙ parted tag_of (λ n. n) tags xs (tags_climb xs s) ((refl, (refl, (refl, (refl, (refl, (refl, tt))))))) (are_tags xs)

-- ---- there is just one head

two_heads : (h k : Head) → slice_cmp nat_cmp (head_record h).key (head_record k).key ≡ Less → ⊥
unfolding head_record
two_heads h k e = absurd (cc)

has_head : (x : TableRow) → bytes_eq (record_of x).key head_key ≡ true → (h : Head) × (as_head x ≡ Some h)
unfolding head_record node_record block_record comment_record icon_record appl_record
has_head (row.Head h) e = (h, refl)
has_head (row.Node n) e = absurd (cc)
has_head (row.Block b) e = absurd (cc)
has_head (row.Comment c) e = absurd (cc)
has_head (row.Icon i) e = absurd (cc)
has_head (row.Appl a) e = absurd (cc)

-- some list that is not empty
abbrev pub IsSomeList : {A : Type 0} → List A → Type 0
IsSomeList {A} xs = (x : A) × (rest : List A) × (xs ≡ x ∷ rest)

cons_some : {A : Type 0} (o : Option A) (rest : List A) → IsSomeList rest → IsSomeList (cons_option o rest)
cons_some None rest s = s
cons_some (Some x) rest s = (x, rest, refl)

pub some_head : (xs : List TableRow) → has_key head_key (map record_of xs) ≡ true → IsSomeList (filter_map as_head xs)
some_head [] e = absurd (cc)
some_head (x ∷ xs) e = cases (bytes_eq (record_of x).key head_key)
    (λ t. let h = has_head x t in (h.0, filter_map as_head xs, ap (λ o. cons_option o (filter_map as_head xs)) h.1))
    (λ f. cons_some (as_head x) (filter_map as_head xs) (some_head xs (ap (λ b. b || has_key head_key (map record_of xs)) (sym f) ∙ e)))

one_only : (hs : List Head) (ys : List TableRow) → RisesByKey (map record_of (map (λ h. row.Head h) hs ++ ys)) → IsSomeList hs → hs ≡ first_head hs ∷ []
one_only [] ys s e = absurd (cc e.2)
one_only (h ∷ []) ys s e = refl
one_only (h ∷ k ∷ hs) ys s e = absurd (two_heads h k s.0.0)

-- rows by rising key among which is a head are those of their tables
pub rows_are : (xs : List TableRow) → RisesByKey (map record_of xs) → has_key head_key (map record_of xs) ≡ true → rows_of (tables_in xs) ≡ xs
rows_are xs s e =
    let there = some_head xs e in
    let whole = by_kind xs s in
    let one = one_only (filter_map as_head xs) (behind_head (tables_in xs)) (subst (λ (l : List TableRow). RisesByKey (map record_of l)) (sym whole) s) there in
    ap (λ (l : List Head). map (λ h. row.Head h) l ++ behind_head (tables_in xs)) (sym one) ∙ whole
