-- The tables of the volume that whole tables say are those tables, and its numbers are in their ranges.
use Rattle.std.proofs.Common.{◌≡◌, ◌∙◌, ℕ, zero, suc, ◌+◌, ◌*◌, ◌/◌, ◌%◌, Bool, true, false, cond, not, List, [], ◌∷◌, ◌++◌, map, length, get_or, refl, sym, ap}
use Rattle.std.specs.Prelude.{nat_le, nat_lt, ◌&&◌, ◌||◌, ◌==◌, bytes_eq, flat_map, unwrap_or, is_none, Some, None, Option}
use Rattle.std.specs.List.{list_all, list_any}
use Rattle.std.proofs.lemmas.Bool.{and_from, eqb-true, le-leb, ltb-false, not-false, not-true}
use Rattle.std.proofs.lemmas.List.Folds.{list_all-map}
use Rattle.fork_bytes.specs.declared.block.Block.{Block}
use Rattle.afp_base.specs.Limits.{block_size}
use Rattle.fork_bytes.specs.Kept.{bytes_of, bytes_in, byte_at, each_of}
use Rattle.volume_spec.specs.VolumeState.{root_id, root_parent, first_id, Row as VolumeRow, Privileges, guest, new_privileges}
use Rattle.volume_spec.specs.SoundVolume.{has_file, has_node, is_formed as is_formed_row, is_comment, is_icon, last_next_id}
use Rattle.volume_spec.specs.TypedVolume.{is_byte, is_long, is_date, are_bytes, is_typed_row, is_typed_volume, is_typed_comment, is_typed_icon, is_typed_appl, is_word}
use Rattle.volume_keeper_records.specs.declared.rows.Node.{Node}
use Rattle.volume_keeper_records.specs.declared.rows.ForkBlock.{ForkBlock}
use Rattle.volume_keeper_records.specs.declared.rows.TableRow.TheVariants as row
use Rattle.volume_keeper_records.specs.Shape.{bare_row, is_formed_record, is_formed_node, is_formed_block, is_formed_comment, is_formed_icon, is_formed_appl, has_fit_forks, is_root_or_other, Label, is_sound_node, is_sound_head, is_of_version}
use Rattle.volume_keeper_records.specs.Image.{Tables, tables_of, node_of, fork_blocks, IsOld}
use Rattle.volume_keeper_records.specs.FirstBad.{tree_of, fork_length}
use Rattle.volume_keeper_records.proofs.Chains.{Chain, chain-more, all-filter}
use Rattle.volume_keeper_records.proofs.Parted.{parted}
use Rattle.volume_keeper_records.proofs.ReadBack.{node_parts, sound_nodes}
use Rattle.volume_keeper_records.proofs.RowOrder.{block_before}
use Rattle.volume_keeper_records.specs.Records.{flag_byte, old_version}
use Rattle.volume_keeper_records.proofs.Whole.{IsWhole, is_clear}
use Rattle.volume_keeper_records.proofs.Facts.{each_kind, is_free, in_order}
use Rattle.volume_keeper_records.proofs.ForkParts.{ForkLaw, piece_of, own, fork_part, pieces, row_from, volume_of, is_good_block, blocks_of_node, by_node}
use Rattle.afp_base.proofs.Facts.{bytes_same, cases, left_true, rest_false, right_true, then_of}
use Rattle.afp_base.proofs.ListFacts.{all-always, all-and, all-kept, all-swap, all-weaker, any-map, any-weaker, none-any}

-- ---- the nodes

said_again : (old d : Bool) (o : Option Privileges) → cond old (is_none o) (not (is_none o)) ≡ true → cond old None (Some (unwrap_or o (new_privileges d guest))) ≡ o
said_again true d None e = refl
said_again false d None e = absurd (cc)
said_again true d (Some p) e = absurd (cc)
said_again false d (Some p) e = refl

node_again : (label : Label) → ForkLaw → (blocks : List ForkBlock) (n : Node) → is_formed_node label n ≡ true → node_of label.version (row_from blocks n) ≡ n
node_again label law blocks n f =
    let privileges = said_again (label.version == old_version) n.is_directory n.privileges (left_true (is_of_version label.version n.privileges) (is_sound_node label.name n) f) in
    λ k. record {
      id = n.id;
      is_directory = n.is_directory;
      parent = n.parent;
      attributes = n.attributes;
      created = n.created;
      modified = n.modified;
      backup = n.backup;
      finder = n.finder;
      is_filed = n.is_filed;
      data_length = law.size n.data_length (pieces blocks n.id 0) k;
      resource_length = law.size n.resource_length (pieces blocks n.id 1) k;
      privileges = privileges k;
      name = n.name;
    }

nodes_again : (label : Label) → ForkLaw → (blocks : List ForkBlock) (ns : List Node) → list_all (is_formed_node label) ns ≡ true → map (node_of label.version) (map (row_from blocks) ns) ≡ ns
nodes_again label law blocks [] f = refl
nodes_again label law blocks (n ∷ ns) f = λ i. node_again label law blocks n (left_true (is_formed_node label n) (list_all (is_formed_node label) ns) f) i ∷ nodes_again label law blocks ns (right_true (is_formed_node label n) (list_all (is_formed_node label) ns) f) i

-- where records are of the older version, the volume is one that it says
nodes_old : (blocks : List ForkBlock) (ns : List Node) → list_all (λ (n : Node). is_none n.privileges) ns ≡ true
    → map (λ (r : VolumeRow). r.privileges) (map (row_from blocks) ns) ≡ map (λ (r : VolumeRow). new_privileges r.dir guest) (map (row_from blocks) ns)
nodes_old blocks [] e = refl
nodes_old blocks (n ∷ ns) e = λ i. none_default n.is_directory n.privileges (left_true (is_none n.privileges) (list_all (λ (m : Node). is_none m.privileges) ns) e) i ∷ nodes_old blocks ns (right_true (is_none n.privileges) (list_all (λ (m : Node). is_none m.privileges) ns) e) i
  where
    none_default : (d : Bool) (o : Option Privileges) → is_none o ≡ true → unwrap_or o (new_privileges d guest) ≡ new_privileges d guest
    none_default d None e = refl
    none_default d (Some p) e = absurd (cc)

-- ---- the blocks

-- a block lies within its fork, for each node that has its id
abbrev pub reaches_past : Node → ForkBlock → Bool
reaches_past n b = nat_lt (fork_length b.is_resource n) (block_size * b.index + length b.bytes)

all_within : (t : Tables) → list_all (λ b. is_clear t (row.Block b)) t.blocks ≡ true → list_all (λ n. list_all (λ b. not ((n.id == b.node) && reaches_past n b)) t.blocks) t.nodes ≡ true
all_within t c = all-swap (λ (n : Node) (b : ForkBlock). not ((n.id == b.node) && reaches_past n b)) t.nodes t.blocks
    (all-weaker (λ b. is_clear t (row.Block b)) (λ b. list_all (λ n. not ((n.id == b.node) && reaches_past n b)) t.nodes) t.blocks
    (λ b e. none-any (λ n. (n.id == b.node) && reaches_past n b) t.nodes (is_free t (row.Block b) e).inside) c)

good_one : (n : Node) (b : ForkBlock) → (is_formed_block b && not ((n.id == b.node) && reaches_past n b)) ≡ true → (n.id == b.node) ≡ true → is_good_block n b ≡ true
good_one n b f i =
    and_from (is_formed_block b) (nat_le (block_size * b.index + length b.bytes) (fork_length b.is_resource n)) (left_true (is_formed_block b) (not ((n.id == b.node) && reaches_past n b)) f)
    (le-leb _ _ (ltb-false (fork_length b.is_resource n) (block_size * b.index + length b.bytes)
    (rest_false (n.id == b.node) (reaches_past n b) i (not-true _ (right_true (is_formed_block b) (not ((n.id == b.node) && reaches_past n b)) f)))))

good_own : (n : Node) (blocks : List ForkBlock) → list_all is_formed_block blocks ≡ true → list_all (λ b. not ((n.id == b.node) && reaches_past n b)) blocks ≡ true → list_all (is_good_block n) (own blocks n.id) ≡ true
good_own n blocks f w =
    let both = all-and is_formed_block (λ b. not ((n.id == b.node) && reaches_past n b)) blocks f w in
    let mine = all-and (λ b. is_formed_block b && not ((n.id == b.node) && reaches_past n b)) (λ b. n.id == b.node) (own blocks n.id)
    (all-filter (λ (b : ForkBlock). n.id == b.node) (λ b. is_formed_block b && not ((n.id == b.node) && reaches_past n b)) blocks both) (all-kept (λ (b : ForkBlock). n.id == b.node) blocks) in
    all-weaker (λ b. (is_formed_block b && not ((n.id == b.node) && reaches_past n b)) && (n.id == b.node)) (is_good_block n) (own blocks n.id)
    (λ b e. good_one n b (left_true (is_formed_block b && not ((n.id == b.node) && reaches_past n b)) (n.id == b.node) e) (right_true (is_formed_block b && not ((n.id == b.node) && reaches_past n b)) (n.id == b.node) e)) mine

node_by_node : ForkLaw → (blocks : List ForkBlock) → Chain block_before blocks → list_all is_formed_block blocks ≡ true → (ns : List Node)
    → list_all (λ n. list_all (λ b. not ((n.id == b.node) && reaches_past n b)) blocks) ns ≡ true → flat_map fork_blocks (map (row_from blocks) ns) ≡ flat_map (λ (n : Node). own blocks n.id) ns
node_by_node law blocks c f [] w = refl
node_by_node law blocks c f (n ∷ ns) w = λ i.
    blocks_of_node law n blocks c (good_own n blocks f (left_true (list_all (λ b. not ((n.id == b.node) && reaches_past n b)) blocks) (list_all (λ n. list_all (λ b. not ((n.id == b.node) && reaches_past n b)) blocks) ns) w)) i
    ++ node_by_node law blocks c f ns (right_true (list_all (λ b. not ((n.id == b.node) && reaches_past n b)) blocks) (list_all (λ n. list_all (λ b. not ((n.id == b.node) && reaches_past n b)) blocks) ns) w) i

-- each block's node is there
owned : (t : Tables) → list_all (λ b. is_clear t (row.Block b)) t.blocks ≡ true → list_all (λ (b : ForkBlock). list_any (λ (n : Node). n.id == b.node) t.nodes) t.blocks ≡ true
owned t c = all-weaker (λ b. is_clear t (row.Block b)) (λ (b : ForkBlock). list_any (λ (n : Node). n.id == b.node) t.nodes) t.blocks
    (λ b e. any-weaker (λ n. (n.id == b.node) && not n.is_directory) (λ n. n.id == b.node) t.nodes (λ n h. left_true (n.id == b.node) (not n.is_directory) h)
    (sym (any-map (λ (r : VolumeRow). r.id == b.node && not r.dir) bare_row t.nodes) ∙ not-false (has_file (tree_of t) b.node) (is_free t (row.Block b) e).placed)) c

blocks_again : ForkLaw → (label : Label) (t : Tables) → IsWhole label t → flat_map fork_blocks (map (row_from t.blocks) t.nodes) ≡ t.blocks
blocks_again law label t w =
    let formed = each_kind (is_formed_record label) t w.formed in
    let clear = each_kind (is_clear t) t w.clear in
    let order = in_order label t w in
    node_by_node law t.blocks order.blocks formed.blocks t.nodes (all_within t clear.blocks)
    ∙ parted (λ (b : ForkBlock). b.node) (λ (n : Node). n.id) t.nodes t.blocks
    (chain-more block_before (λ a b. nat_le a.node b.node) (λ b. true) t.blocks (λ a b p q e. by_node a b e) (all-always t.blocks) order.blocks)
    order.nodes (owned t clear.blocks)

pub tables_again : ForkLaw → (label : Label) (t : Tables) → IsWhole label t → tables_of label.version (volume_of label.name t) ≡ t
tables_again law label t w =
    let formed = each_kind (is_formed_record label) t w.formed in
    let first = left_true ((t.head.version == label.version) && is_word t.head.version) (is_sound_head t.head) formed.head in
    let version : t.head.version ≡ label.version = eqb-true _ _ (left_true (t.head.version == label.version) (is_word t.head.version) first) in
    λ i. record { head = record t.head { version = sym version i }; nodes = nodes_again label law t.blocks t.nodes formed.nodes i; blocks = blocks_again law label t w i; comments = t.comments; icons = t.icons; appls = t.appls }

pub volume_old : (label : Label) (t : Tables) → IsWhole label t → (label.version == old_version) ≡ true → IsOld (volume_of label.name t)
volume_old label t w old =
    let formed = each_kind (is_formed_record label) t w.formed in
    nodes_old t.blocks t.nodes (all-weaker (is_formed_node label) (λ (n : Node). is_none n.privileges) t.nodes
    (λ n f. then_of (label.version == old_version) (is_none n.privileges) (not (is_none n.privileges)) old (left_true (is_of_version label.version n.privileges) (is_sound_node label.name n) f)) formed.nodes)

-- ---- ranges

byte_in : (bytes : List ℕ) (k : ℕ) → are_bytes bytes ≡ true → is_byte (get_or bytes k 0) ≡ true
byte_in [] k e = refl
byte_in (b ∷ bs) zero e = left_true (is_byte b) (are_bytes bs) e
byte_in (b ∷ bs) (suc k) e = byte_in bs k (right_true (is_byte b) (are_bytes bs) e)

pub each_byte : (n : ℕ) (byte : ℕ → ℕ) → ((k : ℕ) → is_byte (byte k) ≡ true) → are_bytes (each_of n byte) ≡ true
each_byte zero byte h = refl
each_byte (suc n) byte h = and_from (is_byte (byte 0)) (are_bytes (each_of n (λ k. byte (suc k)))) (h 0) (each_byte n (λ k. byte (suc k)) (λ k. h (suc k)))

block_bytes : (bs : List Block) (i : ℕ) → list_all (λ (b : Block). are_bytes b.bytes) bs ≡ true → are_bytes (bytes_in bs i) ≡ true
block_bytes [] i e = refl
block_bytes (b ∷ bs) i e = elim (b.index == i) as (λ t. are_bytes (cond t b.bytes (bytes_in bs i)) ≡ true) [
  | true ↦ left_true (are_bytes b.bytes) (list_all (λ (b : Block). are_bytes b.bytes) bs) e
  | false ↦ block_bytes bs i (right_true (are_bytes b.bytes) (list_all (λ (b : Block). are_bytes b.bytes) bs) e)
]

fork_typed : (len : ℕ) (bs : List Block) → list_all (λ (b : Block). are_bytes b.bytes) bs ≡ true → are_bytes (bytes_of len bs) ≡ true
fork_typed len bs e = each_byte len (byte_at bs) (λ k. byte_in (bytes_in bs (k / block_size)) (k % block_size) (block_bytes bs (k / block_size) e))

block_typed : (b : ForkBlock) → is_formed_block b ≡ true → are_bytes b.bytes ≡ true
block_typed b f = right_true (is_long b.index) (are_bytes b.bytes) (right_true (is_long b.node) (is_long b.index && are_bytes b.bytes) (left_true (is_long b.node && (is_long b.index && are_bytes b.bytes)) _ f))

pieces_typed : (blocks : List ForkBlock) (id fork : ℕ) → list_all is_formed_block blocks ≡ true → list_all (λ (b : Block). are_bytes b.bytes) (pieces blocks id fork) ≡ true
pieces_typed blocks id fork f =
    list_all-map (λ (b : Block). are_bytes b.bytes) piece_of (fork_part (own blocks id) fork)
    ∙ all-filter (λ (b : ForkBlock). fork == flag_byte b.is_resource) (λ (b : ForkBlock). are_bytes b.bytes) (own blocks id)
    (all-filter (λ (b : ForkBlock). id == b.node) (λ (b : ForkBlock). are_bytes b.bytes) blocks (all-weaker is_formed_block (λ (b : ForkBlock). are_bytes b.bytes) blocks block_typed f))

row_typed : (name : List ℕ) (blocks : List ForkBlock) → list_all is_formed_block blocks ≡ true → (n : Node) → is_sound_node name n ≡ true → is_typed_row (row_from blocks n) ≡ true
row_typed name blocks f n g =
    let p = node_parts name n g in
    let data_fork = fork_typed n.data_length (pieces blocks n.id 0) (pieces_typed blocks n.id 0 f) in
    let resource_fork = fork_typed n.resource_length (pieces blocks n.id 1) (pieces_typed blocks n.id 1 f) in
    λ i. p.id i && (p.parent i && (p.attributes i && (p.created i && (p.modified i && (p.backup i && (p.finder i && (p.owners i && (p.name i && (data_fork i && resource_fork i)))))))))

-- the root has the volume's name
root_named : (name : List ℕ) (ns : List Node) → list_all (is_sound_node name) ns ≡ true → has_node (map bare_row ns) root_id ≡ true → are_bytes name ≡ true
root_named name [] f e = absurd (cc)
root_named name (n ∷ ns) f e = cases (n.id == root_id)
    (λ t.
    let formed = left_true (is_sound_node name n) (list_all (is_sound_node name) ns) f in
    let other = right_true (has_fit_forks n) (is_root_or_other name n) (right_true (is_formed_row (bare_row n)) (has_fit_forks n && is_root_or_other name n) (right_true (is_typed_row (bare_row n)) (is_formed_row (bare_row n) && (has_fit_forks n && is_root_or_other name n)) formed)) in
    let three = then_of (n.id == root_id) (n.is_directory && ((n.parent == root_parent) && bytes_eq n.name name)) true t other in
    let same = bytes_same n.name name (right_true (n.parent == root_parent) (bytes_eq n.name name) (right_true n.is_directory ((n.parent == root_parent) && bytes_eq n.name name) three)) in
    ap are_bytes (sym same) ∙ (node_parts name n formed).name)
    (λ t. root_named name ns (right_true (is_sound_node name n) (list_all (is_sound_node name) ns) f) (ap (λ b. b || has_node (map bare_row ns) root_id) (sym t) ∙ e))

pub volume_typed : (label : Label) (t : Tables) → IsWhole label t → is_typed_volume (volume_of label.name t) ≡ true
unfolding is_typed_volume
volume_typed label t w =
    let formed = each_kind (is_formed_record label) t w.formed in
    let head = right_true ((t.head.version == label.version) && is_word t.head.version) (is_sound_head t.head) formed.head in
    let nodes = sound_nodes label t.nodes formed.nodes in
    let dates = left_true (is_date t.head.created && (is_date t.head.modified && is_date t.head.backup)) (nat_le first_id t.head.next_id && nat_le t.head.next_id last_next_id) head in
    let named = root_named label.name t.nodes nodes w.root in
    let created = left_true (is_date t.head.created) (is_date t.head.modified && is_date t.head.backup) dates in
    let later = right_true (is_date t.head.created) (is_date t.head.modified && is_date t.head.backup) dates in
    let modified = left_true (is_date t.head.modified) (is_date t.head.backup) later in
    let backup = right_true (is_date t.head.modified) (is_date t.head.backup) later in
    let next = right_true (nat_le first_id t.head.next_id) (nat_le t.head.next_id last_next_id) (right_true (is_date t.head.created && (is_date t.head.modified && is_date t.head.backup)) (nat_le first_id t.head.next_id && nat_le t.head.next_id last_next_id) head) in
    let rows = list_all-map is_typed_row (row_from t.blocks) t.nodes ∙ all-weaker (is_sound_node label.name) (λ n. is_typed_row (row_from t.blocks n)) t.nodes (row_typed label.name t.blocks formed.blocks) nodes in
    let comments = all-weaker is_formed_comment is_typed_comment t.comments (λ c f. left_true (is_typed_comment c) (is_comment c) f) formed.comments in
    let icons = all-weaker is_formed_icon is_typed_icon t.icons (λ c f. left_true (is_typed_icon c) (is_icon c) f) formed.icons in
    let appls = all-weaker is_formed_appl is_typed_appl t.appls (λ c f. left_true (is_typed_appl c) (length c.creator == 4) f) formed.appls in
    λ i. named i && (created i && (modified i && (backup i && (next i && (rows i && (comments i && (icons i && appls i)))))))
