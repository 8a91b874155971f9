-- What stands at a key of each kind in the records of a volume.
use Rattle.std.proofs.Common.{◌≡◌, ◌∙◌, ℕ, ◌+◌, ◌<◌, ◌^◌, Bool, true, false, cond, List, [], ◌∷◌, ◌++◌, map, take, drop, length, refl, sym, ap, arith}
use Rattle.std.specs.Prelude.{Option, Some, None, option_map, flat_map, ◌==◌, nat_le, bytes_eq}
use Rattle.std.specs.List.{find, list_all}
use Rattle.std.specs.FinMap.{get}
use Rattle.std.proofs.lemmas.Bool.{and_from, and_parts, eqb-true}
use Rattle.std.proofs.lemmas.Slice.Eq.{bytes_eq-Decides}
use Rattle.afp_base.specs.Apart.{are_apart}
use Rattle.volume_spec.specs.Desktop.{appl_at, comment_at, icon_at, pair_key}
use Rattle.volume_spec.specs.SoundVolume.{appl_key, icon_key}
use Rattle.volume_spec.specs.TypedVolume.{is_long}
use Rattle.volume_spec.specs.VolumeState.{Row as VolumeRow, Comment, Icon, Appl, VolumeState}
use Rattle.volume_spec.specs.Walk.{row_at}
use Rattle.record_keeper.specs.Reading.{RisesByKey}
use Rattle.volume_keeper_records.specs.declared.rows.TableRow.{TableRow}
use Rattle.volume_keeper_records.specs.declared.rows.TableRow.TheVariants as row
use Rattle.volume_keeper_records.specs.Records.{appl_record, appl_record_key, block_key, block_record, comment_record, comment_record_key, head_key, head_record, icon_record, icon_tag, long_bytes, node_key, node_record, record_of, version}
use Rattle.volume_keeper_records.specs.Image.{fork_blocks, image, kept_image, node_of, rows_of, tables_of}
use Rattle.volume_keeper_records.proofs.ImageRises.{is_small}
use Rattle.volume_keeper_records.proofs.RowOrder.{is_fit_appl, is_fit_block}
use Rattle.volume_changes.proofs.OfRecords.LookUps.{are_one, found, found-append, got, key_of_row, or_then}
use Rattle.volume_changes.proofs.OfRecords.Found.{and_then, block_value, blocks_found, eqb-is, rest_of, long_same, nodes_found, same_key, value_of_node}

-- what is needed of a volume
pub record Facts (v : VolumeState) : Type 0 where
  pub rising : RisesByKey (image v)
  pub apart : are_apart (λ (a : VolumeRow) b. a.id == b.id) v.rows ≡ true
  pub small : list_all is_small v.rows ≡ true
  pub blocks : list_all is_fit_block (flat_map fork_blocks v.rows) ≡ true
  pub comments : list_all (λ (c : Comment). is_long c.node) v.comments ≡ true
  pub appls : list_all is_fit_appl v.appls ≡ true

-- tables of one kind

table_found : {A : Type 0} (make : A → TableRow) (q : List ℕ) (p test : A → Bool) (xs : List A) → ((a : A) → p a ≡ true → are_one q (key_of_row (make a)) ≡ test a) → list_all p xs ≡ true
    → found (map make xs) q ≡ option_map (λ a. (record_of (make a)).value) (find test xs)
table_found make q p test [] h all = refl
table_found make q p test (x ∷ xs) h all =
    let e = and_parts (p x) (list_all p xs) all in
    ap (λ b. cond b (Some (record_of (make x)).value) (found (map make xs) q)) (h x e.0)
    ∙ elim (test x) as (λ b. cond b (Some (record_of (make x)).value) (found (map make xs) q) ≡ option_map (λ a. (record_of (make a)).value) (cond b (Some x) (find test xs))) [
      | true ↦ refl
      | false ↦ table_found make q p test xs h e.1
    ]

table_missed : {A : Type 0} (make : A → TableRow) (q : List ℕ) (xs : List A) → ((a : A) → are_one q (key_of_row (make a)) ≡ false) → found (map make xs) q ≡ None
table_missed make q [] h = refl
table_missed make q (x ∷ xs) h = ap (λ b. cond b (Some (record_of (make x)).value) (found (map make xs) q)) (h x) ∙ table_missed make q xs h

-- the tables of a volume, one after another
abbrev heads : VolumeState → List TableRow
heads v = row.Head (tables_of version v).head ∷ []

abbrev nodes : VolumeState → List TableRow
nodes v = map (λ n. row.Node n) (map (node_of version) v.rows)

abbrev blocks : VolumeState → List TableRow
blocks v = map (λ b. row.Block b) (flat_map fork_blocks v.rows)

abbrev comments : VolumeState → List TableRow
comments v = map (λ c. row.Comment c) v.comments

abbrev icons : VolumeState → List TableRow
icons v = map (λ i. row.Icon i) v.icons

abbrev appls : VolumeState → List TableRow
appls v = map (λ a. row.Appl a) v.appls

abbrev at : VolumeState → List ℕ → Option (List ℕ)
at v q = or_then (found (heads v) q) (or_then (found (nodes v) q) (or_then (found (blocks v) q) (or_then (found (comments v) q) (or_then (found (icons v) q) (found (appls v) q)))))

pub whole_at : (v : VolumeState) (q : List ℕ) → RisesByKey (image v) → get (kept_image v) q ≡ at v q
whole_at v q rising =
    got (rows_of (tables_of version v)) q rising
    ∙ found-append (heads v) (nodes v ++ (blocks v ++ (comments v ++ (icons v ++ appls v)))) q
    ∙ ap (or_then (found (heads v) q)) (found-append (nodes v) (blocks v ++ (comments v ++ (icons v ++ appls v))) q
    ∙ ap (or_then (found (nodes v) q)) (found-append (blocks v) (comments v ++ (icons v ++ appls v)) q
    ∙ ap (or_then (found (blocks v) q)) (found-append (comments v) (icons v ++ appls v) q
    ∙ ap (or_then (found (comments v) q)) (found-append (icons v) (appls v) q))))

or_none : (o : Option (List ℕ)) → or_then o None ≡ o
or_none None = refl
or_none (Some x) = refl

-- one of six stands, the others are not there
first : (h a b c d e : Option (List ℕ)) → a ≡ None → b ≡ None → c ≡ None → d ≡ None → e ≡ None → or_then h (or_then a (or_then b (or_then c (or_then d e)))) ≡ h
first h a b c d e na nb nc nd ne = (λ i. or_then h (or_then (na i) (or_then (nb i) (or_then (nc i) (or_then (nd i) (ne i)))))) ∙ or_none h

second : (h a b c d e : Option (List ℕ)) → h ≡ None → b ≡ None → c ≡ None → d ≡ None → e ≡ None → or_then h (or_then a (or_then b (or_then c (or_then d e)))) ≡ a
second h a b c d e nh nb nc nd ne = (λ i. or_then (nh i) (or_then a (or_then (nb i) (or_then (nc i) (or_then (nd i) (ne i)))))) ∙ or_none a

third : (h a b c d e : Option (List ℕ)) → h ≡ None → a ≡ None → c ≡ None → d ≡ None → e ≡ None → or_then h (or_then a (or_then b (or_then c (or_then d e)))) ≡ b
third h a b c d e nh na nc nd ne = (λ i. or_then (nh i) (or_then (na i) (or_then b (or_then (nc i) (or_then (nd i) (ne i)))))) ∙ or_none b

fourth : (h a b c d e : Option (List ℕ)) → h ≡ None → a ≡ None → b ≡ None → d ≡ None → e ≡ None → or_then h (or_then a (or_then b (or_then c (or_then d e)))) ≡ c
fourth h a b c d e nh na nb nd ne = (λ i. or_then (nh i) (or_then (na i) (or_then (nb i) (or_then c (or_then (nd i) (ne i)))))) ∙ or_none c

fifth : (h a b c d e : Option (List ℕ)) → h ≡ None → a ≡ None → b ≡ None → c ≡ None → e ≡ None → or_then h (or_then a (or_then b (or_then c (or_then d e)))) ≡ d
fifth h a b c d e nh na nb nc ne = (λ i. or_then (nh i) (or_then (na i) (or_then (nb i) (or_then (nc i) (or_then d (ne i)))))) ∙ or_none d

sixth : (h a b c d e : Option (List ℕ)) → h ≡ None → a ≡ None → b ≡ None → c ≡ None → d ≡ None → or_then h (or_then a (or_then b (or_then c (or_then d e)))) ≡ e
sixth h a b c d e nh na nb nc nd = (λ i. or_then (nh i) (or_then (na i) (or_then (nb i) (or_then (nc i) (or_then (nd i) e)))))

-- keys of one kind are none of another: their first bytes differ

pub head_at : (v : VolumeState) → Facts v → get (kept_image v) head_key ≡ Some (head_record (tables_of version v).head).value
unfolding head_record node_record block_record comment_record icon_record appl_record
head_at v f = whole_at v head_key f.rising ∙ first (found (heads v) head_key) _ _ _ _ _
    (table_missed (λ n. row.Node n) head_key (map (node_of version) v.rows) (λ n. refl))
    (table_missed (λ b. row.Block b) head_key (flat_map fork_blocks v.rows) (λ b. refl))
    (table_missed (λ c. row.Comment c) head_key v.comments (λ c. refl))
    (table_missed (λ i. row.Icon i) head_key v.icons (λ i. refl))
    (table_missed (λ a. row.Appl a) head_key v.appls (λ a. refl))

pub longs : (rows : List VolumeRow) → list_all is_small rows ≡ true → list_all (λ (r : VolumeRow). is_long r.id) rows ≡ true
longs [] h = refl
longs (r ∷ rows) h =
    let e = and_parts (is_small r) (list_all is_small rows) h in
    and_from (is_long r.id) (list_all (λ (r : VolumeRow). is_long r.id) rows) (and_parts (is_long r.id) (nat_le (length r.data_fork + length r.resource_fork) 268435456) e.0).0 (longs rows e.1)

pub node_at : (v : VolumeState) (id : ℕ) → Facts v → id < 2 ^ 32 → get (kept_image v) (node_key id) ≡ option_map value_of_node (row_at v.rows id)
unfolding row_at head_record node_record block_record comment_record icon_record appl_record
node_at v id f l = whole_at v (node_key id) f.rising ∙ second _ (found (nodes v) (node_key id)) _ _ _ _ refl
    (table_missed (λ b. row.Block b) (node_key id) (flat_map fork_blocks v.rows) (λ b. refl))
    (table_missed (λ c. row.Comment c) (node_key id) v.comments (λ c. refl))
    (table_missed (λ i. row.Icon i) (node_key id) v.icons (λ i. refl))
    (table_missed (λ a. row.Appl a) (node_key id) v.appls (λ a. refl))
    ∙ nodes_found v.rows id l (longs v.rows f.small)

pub block_at_key : (v : VolumeState) (id : ℕ) (r : Bool) (i : ℕ) → Facts v → id < 2 ^ 32 → i < 2 ^ 32 → get (kept_image v) (block_key id r i) ≡ and_then (row_at v.rows id) (block_value r i)
unfolding row_at head_record node_record block_record comment_record icon_record appl_record
block_at_key v id r i f l m = whole_at v (block_key id r i) f.rising ∙ third _ _ (found (blocks v) (block_key id r i)) _ _ _ refl
    (table_missed (λ n. row.Node n) (block_key id r i) (map (node_of version) v.rows) (λ n. refl))
    (table_missed (λ c. row.Comment c) (block_key id r i) v.comments (λ c. refl))
    (table_missed (λ i. row.Icon i) (block_key id r i) v.icons (λ i. refl))
    (table_missed (λ a. row.Appl a) (block_key id r i) v.appls (λ a. refl))
    ∙ blocks_found v.rows id r i l m f.apart f.small

comment_keys : (node : ℕ) (c : Comment) → node < 2 ^ 32 → is_long c.node ≡ true → are_one (comment_record_key node) (comment_record_key c.node) ≡ (c.node == node)
comment_keys node c l m = same_key (comment_record_key node) (comment_record_key c.node) (c.node == node)
    (λ e. ap comment_record_key (sym (eqb-true c.node node e)))
    (λ e. let few : c.node < 2 ^ 32 = grind (arith, m) in eqb-is c.node node (sym (long_same node c.node l few (ap rest_of e))))

pub comment_value : (v : VolumeState) (node : ℕ) → Facts v → node < 2 ^ 32 → get (kept_image v) (comment_record_key node) ≡ option_map (λ (c : Comment). c.text) (comment_at node v.comments)
unfolding head_record node_record block_record comment_record icon_record appl_record
comment_value v node f l = whole_at v (comment_record_key node) f.rising ∙ fourth _ _ _ (found (comments v) (comment_record_key node)) _ _ refl
    (table_missed (λ n. row.Node n) (comment_record_key node) (map (node_of version) v.rows) (λ n. refl))
    (table_missed (λ b. row.Block b) (comment_record_key node) (flat_map fork_blocks v.rows) (λ b. refl))
    (table_missed (λ i. row.Icon i) (comment_record_key node) v.icons (λ i. refl))
    (table_missed (λ a. row.Appl a) (comment_record_key node) v.appls (λ a. refl))
    ∙ table_found (λ c. row.Comment c) (comment_record_key node) (λ (c : Comment). is_long c.node) (λ (c : Comment). c.node == node) v.comments (λ c m. comment_keys node c l m) f.comments

icon_keys : (key : List ℕ) (i : Icon) → are_one (icon_tag ∷ key) (icon_tag ∷ icon_key i) ≡ bytes_eq (icon_key i) key
icon_keys key i = same_key (icon_tag ∷ key) (icon_tag ∷ icon_key i) (bytes_eq (icon_key i) key)
    (λ e. ap (λ k. icon_tag ∷ k) (sym ((bytes_eq-Decides (icon_key i) key).0 e)))
    (λ e. (bytes_eq-Decides (icon_key i) key).1 (sym (ap rest_of e)))

always : {A : Type 0} (xs : List A) → list_all (λ x. true) xs ≡ true
always [] = refl
always (x ∷ xs) = always xs

pub icon_value : (v : VolumeState) (key : List ℕ) → Facts v → get (kept_image v) (icon_tag ∷ key) ≡ option_map (λ (i : Icon). (icon_record i).value) (icon_at key v.icons)
unfolding head_record node_record block_record comment_record icon_record appl_record
icon_value v key f = whole_at v (icon_tag ∷ key) f.rising ∙ fifth _ _ _ _ (found (icons v) (icon_tag ∷ key)) _ refl
    (table_missed (λ n. row.Node n) (icon_tag ∷ key) (map (node_of version) v.rows) (λ n. refl))
    (table_missed (λ b. row.Block b) (icon_tag ∷ key) (flat_map fork_blocks v.rows) (λ b. refl))
    (table_missed (λ c. row.Comment c) (icon_tag ∷ key) v.comments (λ c. refl))
    (table_missed (λ a. row.Appl a) (icon_tag ∷ key) v.appls (λ a. refl))
    ∙ table_found (λ i. row.Icon i) (icon_tag ∷ key) (λ i. true) (λ (i : Icon). bytes_eq (icon_key i) key) v.icons (λ i m. icon_keys key i) (always v.icons)

-- a creator of four bytes and a node are told by the key
four : (a b xs ys : List ℕ) → length a ≡ 4 → length b ≡ 4 → a ++ xs ≡ b ++ ys → (a ≡ b) × (xs ≡ ys)
four (a ∷ b ∷ c ∷ d ∷ []) (x ∷ y ∷ z ∷ w ∷ []) xs ys m n e = (ap (take 4) e, ap (drop 4) e)
four [] b xs ys m n e = absurd (cc m)
four (a ∷ []) b xs ys m n e = absurd (cc m)
four (a ∷ c ∷ []) b xs ys m n e = absurd (cc m)
four (a ∷ c ∷ d ∷ []) b xs ys m n e = absurd (cc m)
four (a ∷ c ∷ d ∷ f ∷ g ∷ ms) b xs ys m n e = absurd (omega (arith, m))
four ms [] xs ys m n e = absurd (cc n)
four ms (a ∷ []) xs ys m n e = absurd (cc n)
four ms (a ∷ c ∷ []) xs ys m n e = absurd (cc n)
four ms (a ∷ c ∷ d ∷ []) xs ys m n e = absurd (cc n)
four ms (a ∷ c ∷ d ∷ f ∷ g ∷ bs) xs ys m n e = absurd (omega (arith, n))

appl_keys : (creator : List ℕ) (node : ℕ) (a : Appl) → length creator ≡ 4 → node < 2 ^ 32 → is_fit_appl a ≡ true → are_one (appl_record_key creator node) (appl_record_key a.creator a.node) ≡ bytes_eq (appl_key a) (pair_key creator node)
appl_keys creator node a m l fit =
    let e = and_parts (is_long a.node) (length a.creator == 4) fit in
    let few : a.node < 2 ^ 32 = grind (arith, e.0) in
    let size : length a.creator ≡ 4 = eqb-true (length a.creator) 4 e.1 in
    same_key (appl_record_key creator node) (appl_record_key a.creator a.node) (bytes_eq (appl_key a) (pair_key creator node))
    (λ h. let both = four a.creator creator (a.node ∷ []) (node ∷ []) size m ((bytes_eq-Decides (appl_key a) (pair_key creator node)).0 h) in
    (λ i. appl_record_key (sym both.0 i) (sym (ap head_of both.1) i)))
    (λ h. let both = four creator a.creator (long_bytes node) (long_bytes a.node) m size (ap rest_of h) in
    (bytes_eq-Decides (appl_key a) (pair_key creator node)).1 (λ i. sym both.0 i ++ sym (long_same node a.node l few both.1) i ∷ []))
  where
    head_of : List ℕ → ℕ
    head_of [] = 0
    head_of (x ∷ xs) = x

pub appl_value : (v : VolumeState) (creator : List ℕ) (node : ℕ) → Facts v → length creator ≡ 4 → node < 2 ^ 32 → get (kept_image v) (appl_record_key creator node) ≡ option_map (λ (a : Appl). (appl_record a).value) (appl_at creator node v.appls)
unfolding head_record node_record block_record comment_record icon_record appl_record
appl_value v creator node f m l = whole_at v (appl_record_key creator node) f.rising ∙ sixth _ _ _ _ _ (found (appls v) (appl_record_key creator node)) refl
    (table_missed (λ n. row.Node n) (appl_record_key creator node) (map (node_of version) v.rows) (λ n. refl))
    (table_missed (λ b. row.Block b) (appl_record_key creator node) (flat_map fork_blocks v.rows) (λ b. refl))
    (table_missed (λ c. row.Comment c) (appl_record_key creator node) v.comments (λ c. refl))
    (table_missed (λ i. row.Icon i) (appl_record_key creator node) v.icons (λ i. refl))
    ∙ table_found (λ a. row.Appl a) (appl_record_key creator node) is_fit_appl (λ (a : Appl). bytes_eq (appl_key a) (pair_key creator node)) v.appls (λ a fit. appl_keys creator node a m l fit) f.appls
