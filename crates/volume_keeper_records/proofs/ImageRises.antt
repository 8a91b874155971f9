-- The records of a sound volume rise by key.
use Rattle.std.proofs.Common.{◌≡◌, ◌∙◌, ℕ, ◌+◌, ◌*◌, ◌<◌, ◌≤◌, Bool, true, false, not, List, [], ◌∷◌, ◌++◌, map, length, refl, sym, ap, arith}
use Rattle.std.specs.Prelude.{nat_le, nat_lt, ◌&&◌, ◌||◌, ◌==◌, bytes_eq, flat_map}
use Rattle.std.specs.List.{list_all, list_any}
use Rattle.std.proofs.lemmas.Bool.{and_from, eqb-true, leb-true, lt-ltb, ltb-true}
use Rattle.std.proofs.lemmas.List.Folds.{list_all-map}
use Rattle.fork_bytes.specs.declared.block.Block.{Block}
use Rattle.afp_base.specs.Limits.{block_size, most_fork_bytes}
use Rattle.fork_bytes.specs.Blocks.{blocks_of, trimmed}
use Rattle.fork_bytes.specs.Kept.{is_kept}
use Rattle.volume_spec.specs.VolumeState.{Comment, Appl, VolumeState, root_id, root_parent, first_id, Row as VolumeRow}
use Rattle.volume_spec.specs.SoundVolume.{IsSoundVolume, is_in_place, leads_to_root, has_node, has_file, last_next_id, code_size}
use Rattle.volume_spec.specs.TypedVolume.{is_long}
use Rattle.volume_keeper_records.specs.declared.rows.Node.{Node}
use Rattle.volume_keeper_records.specs.declared.rows.TableRow.{TableRow}
use Rattle.volume_keeper_records.specs.declared.rows.TableRow.TheVariants as row
use Rattle.volume_keeper_records.specs.Records.{record_of}
use Rattle.volume_keeper_records.specs.Image.{Tables, rows_of, tables_of, node_of, fork_block_of, fork_blocks, image_in}
use Rattle.volume_keeper_records.specs.KeyOrder.{RisesByKey}
use Rattle.volume_keeper_records.proofs.Chains.{chain-map}
use Rattle.volume_keeper_records.proofs.Counts.{sum_each}
use Rattle.volume_keeper_records.proofs.RowKinds.{tag_of}
use Rattle.volume_keeper_records.proofs.RowOrder.{rows_both, nodes_up, comments_up, icons_up, appls_up, blocks_up, is_fit_block}
use Rattle.volume_keeper_records.proofs.ForkParts.{ForkLaw}
use Rattle.volume_keeper_records.proofs.SoundFacts.{SoundFacts, sound_facts}
use Rattle.volume_keeper_records.proofs.ImageBlocks.{all_chain, all-pass}
use Rattle.afp_base.proofs.Facts.{cases, else_of, left_true, right_true}
use Rattle.afp_base.proofs.ListFacts.{all-and, all-append, all-weaker}

-- ---- rows of several kinds

tags_at_most : {A : Type 0} (make : A → TableRow) (k : ℕ) → ((a : A) → nat_le (tag_of (make a)) k ≡ true) → (xs : List A) → list_all (λ x. nat_le (tag_of x) k) (map make xs) ≡ true
tags_at_most make k h xs = list_all-map (λ x. nat_le (tag_of x) k) make xs ∙ all-pass (λ a. nat_le (tag_of (make a)) k) h xs

tags_over : {A : Type 0} (make : A → TableRow) (k : ℕ) → ((a : A) → nat_lt k (tag_of (make a)) ≡ true) → (xs : List A) → list_all (λ x. nat_lt k (tag_of x)) (map make xs) ≡ true
tags_over make k h xs = list_all-map (λ x. nat_lt k (tag_of x)) make xs ∙ all-pass (λ a. nat_lt k (tag_of (make a))) h xs

pub rows_rise : (t : Tables) → RisesByKey (map record_of (map (λ x. row.Node x) t.nodes)) → RisesByKey (map record_of (map (λ x. row.Block x) t.blocks)) → RisesByKey (map record_of (map (λ x. row.Comment x) t.comments))
    → RisesByKey (map record_of (map (λ x. row.Icon x) t.icons)) → RisesByKey (map record_of (map (λ x. row.Appl x) t.appls)) → RisesByKey (map record_of (rows_of t))
rows_rise t n b c i a =
    let appls : List TableRow = map (λ x. row.Appl x) t.appls in
    let icons : List TableRow = map (λ x. row.Icon x) t.icons in
    let comments : List TableRow = map (λ x. row.Comment x) t.comments in
    let blocks : List TableRow = map (λ x. row.Block x) t.blocks in
    let nodes : List TableRow = map (λ x. row.Node x) t.nodes in
    let over : (k : ℕ) (xs ys : List TableRow) → list_all (λ x. nat_lt k (tag_of x)) xs ≡ true → list_all (λ x. nat_lt k (tag_of x)) ys ≡ true → list_all (λ x. nat_lt k (tag_of x)) (xs ++ ys) ≡ true = λ k xs ys p q. all-append (λ x. nat_lt k (tag_of x)) xs ys p q in
    let four = rows_both 4 icons appls (tags_at_most (λ x. row.Icon x) 4 (λ x. refl) t.icons) (tags_over (λ x. row.Appl x) 4 (λ x. refl) t.appls) i a in
    let three = rows_both 3 comments (icons ++ appls) (tags_at_most (λ x. row.Comment x) 3 (λ x. refl) t.comments) (over 3 icons appls (tags_over (λ x. row.Icon x) 3 (λ x. refl) t.icons) (tags_over (λ x. row.Appl x) 3 (λ x. refl) t.appls)) c four in
    let two = rows_both 2 blocks (comments ++ (icons ++ appls)) (tags_at_most (λ x. row.Block x) 2 (λ x. refl) t.blocks)
    (over 2 comments (icons ++ appls) (tags_over (λ x. row.Comment x) 2 (λ x. refl) t.comments) (over 2 icons appls (tags_over (λ x. row.Icon x) 2 (λ x. refl) t.icons) (tags_over (λ x. row.Appl x) 2 (λ x. refl) t.appls))) b three in
    let one = rows_both 1 nodes (blocks ++ (comments ++ (icons ++ appls))) (tags_at_most (λ x. row.Node x) 1 (λ x. refl) t.nodes)
    (over 1 blocks (comments ++ (icons ++ appls)) (tags_over (λ x. row.Block x) 1 (λ x. refl) t.blocks)
    (over 1 comments (icons ++ appls) (tags_over (λ x. row.Comment x) 1 (λ x. refl) t.comments) (over 1 icons appls (tags_over (λ x. row.Icon x) 1 (λ x. refl) t.icons) (tags_over (λ x. row.Appl x) 1 (λ x. refl) t.appls)))) n two in
    rows_both 0 (row.Head t.head ∷ []) (nodes ++ (blocks ++ (comments ++ (icons ++ appls)))) refl
    (over 0 nodes (blocks ++ (comments ++ (icons ++ appls))) (tags_over (λ x. row.Node x) 0 (λ x. refl) t.nodes)
    (over 0 blocks (comments ++ (icons ++ appls)) (tags_over (λ x. row.Block x) 0 (λ x. refl) t.blocks)
    (over 0 comments (icons ++ appls) (tags_over (λ x. row.Comment x) 0 (λ x. refl) t.comments) (over 0 icons appls (tags_over (λ x. row.Icon x) 0 (λ x. refl) t.icons) (tags_over (λ x. row.Appl x) 0 (λ x. refl) t.appls)))))
    (tt, tt) one

-- ---- numbers of a sound volume

-- an id is the root's, or one that was drawn
long_id : (v : VolumeState) → SoundFacts v → (r : VolumeRow) → is_in_place v r ≡ true → is_long r.id ≡ true
long_id v s r place = cases (r.id == root_id)
    (λ e. let is : r.id ≡ 2 = eqb-true r.id root_id e in lt-ltb r.id 4294967296 (omega (arith, is)))
    (λ e.
    let range = left_true (nat_le first_id r.id && nat_lt r.id v.next_id) (leads_to_root v.rows (length v.rows) r.parent) (else_of (r.id == root_id) (r.dir && ((r.parent == root_parent) && bytes_eq r.name v.name)) ((nat_le first_id r.id && nat_lt r.id v.next_id) && leads_to_root v.rows (length v.rows) r.parent) e place) in
    let below : r.id < v.next_id = ltb-true _ _ (right_true (nat_le first_id r.id) (nat_lt r.id v.next_id) range) in
    let most : v.next_id ≤ 4294967296 = leb-true _ _ (right_true (nat_le first_id v.next_id) (nat_le v.next_id last_next_id) s.next) in
    lt-ltb r.id 4294967296 (omega (arith, below, most)))

pub long_rows : (v : VolumeState) → SoundFacts v → list_all (λ (r : VolumeRow). is_long r.id) v.rows ≡ true
long_rows v s = all-weaker (is_in_place v) (λ (r : VolumeRow). is_long r.id) v.rows (long_id v s) s.places

-- what stands on a row has its id
pub on_row : (p : VolumeRow → Bool) (rs : List VolumeRow) (id : ℕ) → ((r : VolumeRow) → p r ≡ true → r.id ≡ id) → list_all (λ (r : VolumeRow). is_long r.id) rs ≡ true → list_any p rs ≡ true → is_long id ≡ true
on_row p [] id h e a = absurd (cc)
on_row p (r ∷ rs) id h e a = cases (p r)
    (λ t. ap is_long (sym (h r t)) ∙ left_true (is_long r.id) (list_all (λ (r : VolumeRow). is_long r.id) rs) e)
    (λ f. on_row p rs id h (right_true (is_long r.id) (list_all (λ (r : VolumeRow). is_long r.id) rs) e) (ap (λ b. b || list_any p rs) (sym f) ∙ a))

fit_index : (id len : ℕ) (f : Bool) (b : Block) → is_long id ≡ true → len ≤ 268435456 → is_kept len b ≡ true → is_fit_block (fork_block_of id f b) ≡ true
fit_index id len f b i small kept =
    let sizes = right_true (bytes_eq (trimmed b.bytes) b.bytes) (nat_le (length b.bytes) block_size && nat_le (block_size * b.index + length b.bytes) len) kept in
    let within : 4096 * b.index + length b.bytes ≤ len = leb-true _ _ (right_true (nat_le (length b.bytes) block_size) (nat_le (block_size * b.index + length b.bytes) len) sizes) in
    and_from (is_long id) (is_long b.index) i (lt-ltb b.index 4294967296 (omega (arith, within, small)))

fit_fork : ForkLaw → (id : ℕ) (f : Bool) (bytes : List ℕ) → is_long id ≡ true → length bytes ≤ 268435456 → list_all is_fit_block (map (fork_block_of id f) (blocks_of bytes)) ≡ true
fit_fork law id f bytes i small = list_all-map is_fit_block (fork_block_of id f) (blocks_of bytes) ∙ all-weaker (is_kept (length bytes)) (λ b. is_fit_block (fork_block_of id f b)) (blocks_of bytes) (λ b k. fit_index id (length bytes) f b i small k) (law.kept bytes)

abbrev pub is_small : VolumeRow → Bool
is_small r = is_long r.id && nat_le (length r.data_fork + length r.resource_fork) most_fork_bytes

pub fit_blocks : ForkLaw → (rs : List VolumeRow) → list_all is_small rs ≡ true → list_all is_fit_block (flat_map fork_blocks rs) ≡ true
fit_blocks law [] e = refl
fit_blocks law (r ∷ rs) e =
    let here = left_true (is_small r) (list_all is_small rs) e in
    let id = left_true (is_long r.id) (nat_le (length r.data_fork + length r.resource_fork) most_fork_bytes) here in
    let small : length r.data_fork + length r.resource_fork ≤ 268435456 = leb-true _ _ (right_true (is_long r.id) (nat_le (length r.data_fork + length r.resource_fork) most_fork_bytes) here) in
    all-append is_fit_block (fork_blocks r) (flat_map fork_blocks rs)
    (all-append is_fit_block (map (fork_block_of r.id false) (blocks_of r.data_fork)) (map (fork_block_of r.id true) (blocks_of r.resource_fork))
    (fit_fork law r.id false r.data_fork id (omega (arith, small))) (fit_fork law r.id true r.resource_fork id (omega (arith, small))))
    (fit_blocks law rs (right_true (is_small r) (list_all is_small rs) e))

pub image_rises : (version : ℕ) → ForkLaw → (v : VolumeState) → IsSoundVolume v → RisesByKey (image_in version v)
image_rises version law v sound =
    let s = sound_facts v sound in
    let ids = long_rows v s in
    let small = all-and (λ (r : VolumeRow). is_long r.id) (λ r. nat_le (length r.data_fork + length r.resource_fork) most_fork_bytes) v.rows ids (sum_each (λ (r : VolumeRow). length r.data_fork + length r.resource_fork) v.rows most_fork_bytes s.few_bytes) in
    let on_node : (id : ℕ) → has_node v.rows id ≡ true → is_long id ≡ true = λ id. on_row (λ (r : VolumeRow). r.id == id) v.rows id (λ r t. eqb-true r.id id t) ids in
    let on_file : (id : ℕ) → has_file v.rows id ≡ true → is_long id ≡ true = λ id. on_row (λ (r : VolumeRow). (r.id == id) && not r.dir) v.rows id (λ r t. eqb-true r.id id (left_true (r.id == id) (not r.dir) t)) ids in
    rows_rise (tables_of version v)
    (nodes_up (map (node_of version) v.rows) (list_all-map (λ (n : Node). is_long n.id) (node_of version) v.rows ∙ ids) (chain-map (λ (a : Node) b. nat_lt a.id b.id) (node_of version) v.rows s.ids))
    (blocks_up (flat_map fork_blocks v.rows) (fit_blocks law v.rows small) (all_chain law v.rows s.ids))
    (comments_up v.comments (all-weaker (λ (c : Comment). has_node v.rows c.node) (λ (c : Comment). is_long c.node) v.comments (λ c e. on_node c.node e) s.commented) s.comment_order)
    (icons_up v.icons s.icon_order)
    (appls_up v.appls
    (all-and (λ (a : Appl). is_long a.node) (λ (a : Appl). length a.creator == code_size) v.appls
    (all-weaker (λ (a : Appl). has_file v.rows a.node) (λ (a : Appl). is_long a.node) v.appls (λ a e. on_file a.node e) s.filed) s.creators)
    s.appl_order)
