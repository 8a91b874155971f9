-- What is known of each table of whole tables.
use Rattle.std.proofs.Common.{◌≡◌, ◌∙◌, ℕ, ◌≤◌, Bool, true, false, List, ◌++◌, map, length, refl, sym, ap, arith}
use Rattle.std.specs.Prelude.{None, is_none, nat_le, nat_lt, ◌&&◌, ◌==◌, bytes_eq, unwrap_or}
use Rattle.std.specs.List.{list_all}
use Rattle.std.proofs.lemmas.Bool.{and_from, leb-true, lt-ltb}
use Rattle.std.proofs.lemmas.List.Folds.{list_all-map}
use Rattle.volume_spec.specs.VolumeState.{Comment, Appl, guest, new_privileges}
use Rattle.volume_spec.specs.SoundVolume.{is_comment, is_formed as is_formed_row, is_named, has_fit_privileges}
use Rattle.volume_spec.specs.TypedVolume.{is_typed_row, is_long, are_bytes, is_typed_comment, is_typed_appl}
use Rattle.volume_keeper_records.specs.declared.rows.Node.{Node}
use Rattle.volume_keeper_records.specs.declared.rows.ForkBlock.{ForkBlock}
use Rattle.volume_keeper_records.specs.declared.rows.Reason.TheVariants.{Parent, Twin, Range, Limit}
use Rattle.volume_keeper_records.specs.declared.rows.TableRow.{TableRow}
use Rattle.volume_keeper_records.specs.declared.rows.TableRow.TheVariants as row
use Rattle.volume_keeper_records.specs.Shape.{is_formed_record, is_formed_block, is_formed_comment, is_formed_appl, bare_row, has_fit_forks, is_root_or_other, Label, is_sound_node}
use Rattle.volume_keeper_records.specs.Records.{record_of}
use Rattle.volume_keeper_records.specs.KeyOrder.{RisesByKey}
use Rattle.volume_keeper_records.specs.Image.{Tables, rows_of}
use Rattle.volume_keeper_records.specs.FirstBad.{first_of, lacks_parent, is_twin, is_out_of_range, passes_limit}
use Rattle.volume_keeper_records.proofs.ReadBack.{node_parts, sound_nodes}
use Rattle.volume_keeper_records.proofs.Chains.{Chain}
use Rattle.volume_keeper_records.proofs.RowOrder.{rows_ends, nodes_in_chain, comments_in_chain, icons_in_chain, appls_in_chain, blocks_in_chain, block_before, icon_before, appl_before, is_fit_block, is_fit_appl}
use Rattle.volume_keeper_records.proofs.Whole.{IsWhole, is_clear}
use Rattle.volume_keeper_records.proofs.RowKinds.{behind_head}
use Rattle.afp_base.specs.Limits.{block_size}
use Rattle.fork_bytes.specs.Blocks.{trimmed}
use Rattle.afp_names.specs.Name.{name_fault}
use Rattle.afp_base.proofs.Facts.{left_true, none_from_is_none, right_true}
use Rattle.afp_base.proofs.ListFacts.{all-append, all-ends, all-weaker}

-- no rule holds
pub record IsFree (t : Tables) (x : TableRow) : Type 0 where
  pub placed : lacks_parent t x ≡ false
  pub lone : is_twin t x ≡ false
  pub inside : is_out_of_range t x ≡ false
  pub few : passes_limit t x ≡ false

free_of : (t : Tables) (x : TableRow) (a b c d : Bool) → lacks_parent t x ≡ a → is_twin t x ≡ b → is_out_of_range t x ≡ c → passes_limit t x ≡ d
    → is_none (first_of a Parent (first_of b Twin (first_of c Range (first_of d Limit None)))) ≡ true → IsFree t x
free_of t x true b c d i j k l e = absurd (cc)
free_of t x false true c d i j k l e = absurd (cc)
free_of t x false false true d i j k l e = absurd (cc)
free_of t x false false false true i j k l e = absurd (cc)
free_of t x false false false false i j k l e = record { placed = i; lone = j; inside = k; few = l }

pub is_free : (t : Tables) (x : TableRow) → is_clear t x ≡ true → IsFree t x
is_free t x e = free_of t x (lacks_parent t x) (is_twin t x) (is_out_of_range t x) (passes_limit t x) refl refl refl refl e

pub free_clear : (t : Tables) (x : TableRow) → IsFree t x → is_clear t x ≡ true
free_clear t x f =
    ap (λ a. is_none (first_of a Parent (first_of (is_twin t x) Twin (first_of (is_out_of_range t x) Range (first_of (passes_limit t x) Limit None))))) f.placed
    ∙ ap (λ b. is_none (first_of b Twin (first_of (is_out_of_range t x) Range (first_of (passes_limit t x) Limit None)))) f.lone
    ∙ ap (λ c. is_none (first_of c Range (first_of (passes_limit t x) Limit None))) f.inside
    ∙ ap (λ d. is_none (first_of d Limit None)) f.few

-- a test of all rows, kind by kind
pub record EachKind (p : TableRow → Bool) (t : Tables) : Type 0 where
  pub head : p (row.Head t.head) ≡ true
  pub nodes : list_all (λ x. p (row.Node x)) t.nodes ≡ true
  pub blocks : list_all (λ x. p (row.Block x)) t.blocks ≡ true
  pub comments : list_all (λ x. p (row.Comment x)) t.comments ≡ true
  pub icons : list_all (λ x. p (row.Icon x)) t.icons ≡ true
  pub appls : list_all (λ x. p (row.Appl x)) t.appls ≡ true

pub each_kind : (p : TableRow → Bool) (t : Tables) → list_all p (rows_of t) ≡ true → EachKind p t
each_kind p t e =
    let appls : List TableRow = map (λ x. row.Appl x) t.appls in
    let icons : List TableRow = map (λ x. row.Icon x) t.icons in
    let comments : List TableRow = map (λ x. row.Comment x) t.comments in
    let blocks : List TableRow = map (λ x. row.Block x) t.blocks in
    let nodes : List TableRow = map (λ x. row.Node x) t.nodes in
    let one = all-ends p nodes (blocks ++ (comments ++ (icons ++ appls))) (right_true (p (row.Head t.head)) (list_all p (nodes ++ (blocks ++ (comments ++ (icons ++ appls))))) e) in
    let two = all-ends p blocks (comments ++ (icons ++ appls)) one.1 in
    let three = all-ends p comments (icons ++ appls) two.1 in
    let four = all-ends p icons appls three.1 in
    record {
      head = left_true (p (row.Head t.head)) (list_all p (nodes ++ (blocks ++ (comments ++ (icons ++ appls))))) e;
      nodes = sym (list_all-map p (λ x. row.Node x) t.nodes) ∙ one.0;
      blocks = sym (list_all-map p (λ x. row.Block x) t.blocks) ∙ two.0;
      comments = sym (list_all-map p (λ x. row.Comment x) t.comments) ∙ three.0;
      icons = sym (list_all-map p (λ x. row.Icon x) t.icons) ∙ four.0;
      appls = sym (list_all-map p (λ x. row.Appl x) t.appls) ∙ four.1;
    }

pub all_kinds : (p : TableRow → Bool) (t : Tables) → EachKind p t → list_all p (rows_of t) ≡ true
all_kinds p t k =
    let appls : List TableRow = map (λ x. row.Appl x) t.appls in
    let icons : List TableRow = map (λ x. row.Icon x) t.icons in
    let comments : List TableRow = map (λ x. row.Comment x) t.comments in
    let blocks : List TableRow = map (λ x. row.Block x) t.blocks in
    let nodes : List TableRow = map (λ x. row.Node x) t.nodes in
    and_from (p (row.Head t.head)) (list_all p (nodes ++ (blocks ++ (comments ++ (icons ++ appls))))) k.head
    (all-append p nodes (blocks ++ (comments ++ (icons ++ appls))) (list_all-map p (λ x. row.Node x) t.nodes ∙ k.nodes)
    (all-append p blocks (comments ++ (icons ++ appls)) (list_all-map p (λ x. row.Block x) t.blocks ∙ k.blocks)
    (all-append p comments (icons ++ appls) (list_all-map p (λ x. row.Comment x) t.comments ∙ k.comments)
    (all-append p icons appls (list_all-map p (λ x. row.Icon x) t.icons ∙ k.icons) (list_all-map p (λ x. row.Appl x) t.appls ∙ k.appls)))))

-- the orders of the tables
pub record InOrder (t : Tables) : Type 0 where
  pub nodes : Chain (λ (a : Node) b. nat_lt a.id b.id) t.nodes
  pub blocks : Chain block_before t.blocks
  pub comments : Chain (λ (a : Comment) b. nat_lt a.node b.node) t.comments
  pub icons : Chain icon_before t.icons
  pub appls : Chain appl_before t.appls

pub fit_block : (b : ForkBlock) → is_formed_block b ≡ true → is_fit_block b ≡ true
fit_block b f =
    let numbers = left_true (is_long b.node && (is_long b.index && are_bytes b.bytes)) _ f in
    and_from (is_long b.node) (is_long b.index) (left_true (is_long b.node) (is_long b.index && are_bytes b.bytes) numbers)
    (left_true (is_long b.index) (are_bytes b.bytes) (right_true (is_long b.node) (is_long b.index && are_bytes b.bytes) numbers))

pub fit_appl : (a : Appl) → is_formed_appl a ≡ true → is_fit_appl a ≡ true
fit_appl a f =
    let typed = right_true (are_bytes a.creator) (is_long a.node && is_long a.tag) (left_true (is_typed_appl a) _ f) in
    and_from (is_long a.node) _ (left_true (is_long a.node) (is_long a.tag) typed) (right_true (is_typed_appl a) _ f)

-- what stands behind the head, where its rows are formed and rise
pub order_behind : (label : Label) (t : Tables) → RisesByKey (map record_of (behind_head t)) → list_all (is_formed_record label) (behind_head t) ≡ true → InOrder t
order_behind label t rises e =
    let p : TableRow → Bool = is_formed_record label in
    let appls : List TableRow = map (λ x. row.Appl x) t.appls in
    let icons : List TableRow = map (λ x. row.Icon x) t.icons in
    let comments : List TableRow = map (λ x. row.Comment x) t.comments in
    let blocks : List TableRow = map (λ x. row.Block x) t.blocks in
    let nodes : List TableRow = map (λ x. row.Node x) t.nodes in
    let one = rows_ends nodes (blocks ++ (comments ++ (icons ++ appls))) rises in
    let two = rows_ends blocks (comments ++ (icons ++ appls)) one.1 in
    let three = rows_ends comments (icons ++ appls) two.1 in
    let four = rows_ends icons appls three.1 in
    let f1 = all-ends (is_formed_record label) nodes (blocks ++ (comments ++ (icons ++ appls))) e in
    let f2 = all-ends (is_formed_record label) blocks (comments ++ (icons ++ appls)) f1.1 in
    let f3 = all-ends (is_formed_record label) comments (icons ++ appls) f2.1 in
    let f4 = all-ends (is_formed_record label) icons appls f3.1 in
    let fn : list_all (is_sound_node label.name) t.nodes ≡ true = sound_nodes label t.nodes (sym (list_all-map (is_formed_record label) (λ x. row.Node x) t.nodes) ∙ f1.0) in
    let fb : list_all is_formed_block t.blocks ≡ true = sym (list_all-map (is_formed_record label) (λ x. row.Block x) t.blocks) ∙ f2.0 in
    let fc : list_all is_formed_comment t.comments ≡ true = sym (list_all-map (is_formed_record label) (λ x. row.Comment x) t.comments) ∙ f3.0 in
    let fa : list_all is_formed_appl t.appls ≡ true = sym (list_all-map (is_formed_record label) (λ x. row.Appl x) t.appls) ∙ f4.1 in
    record {
      nodes = nodes_in_chain t.nodes (all-weaker (is_sound_node label.name) (λ n. is_long n.id) t.nodes (λ n f. (node_parts label.name n f).id) fn) one.0;
      blocks = blocks_in_chain t.blocks (all-weaker is_formed_block is_fit_block t.blocks fit_block fb) two.0;
      comments = comments_in_chain t.comments (all-weaker is_formed_comment (λ c. is_long c.node) t.comments (λ c f. left_true (is_long c.node) (are_bytes c.text) (left_true (is_typed_comment c) (is_comment c) f)) fc) three.0;
      icons = icons_in_chain t.icons four.0;
      appls = appls_in_chain t.appls (all-weaker is_formed_appl is_fit_appl t.appls fit_appl fa) four.1;
    }

pub in_order : (label : Label) (t : Tables) → IsWhole label t → InOrder t
in_order label t w = order_behind label t w.rises.1 (right_true (is_formed_record label (row.Head t.head)) (list_all (is_formed_record label) (behind_head t)) w.formed)

-- a formed block is short, and a formed node has a name
pub short_block : (b : ForkBlock) → is_formed_block b ≡ true → nat_lt (length b.bytes) 5000 ≡ true
short_block b f =
    let rest = right_true (is_long b.node && (is_long b.index && are_bytes b.bytes)) (nat_le 1 (length b.bytes) && (nat_le (length b.bytes) block_size && bytes_eq (trimmed b.bytes) b.bytes)) f in
    let short = left_true (nat_le (length b.bytes) block_size) (bytes_eq (trimmed b.bytes) b.bytes) (right_true (nat_le 1 (length b.bytes)) (nat_le (length b.bytes) block_size && bytes_eq (trimmed b.bytes) b.bytes) rest) in
    lt-ltb (length b.bytes) 5000 (let l : length b.bytes ≤ 4096 = leb-true _ _ short in omega arith)

pub node_name : (name : List ℕ) (n : Node) → is_sound_node name n ≡ true → name_fault n.name ≡ None
node_name name n f =
    let formed = left_true (is_formed_row (bare_row n)) (has_fit_forks n && is_root_or_other name n) (right_true (is_typed_row (bare_row n)) (is_formed_row (bare_row n) && (has_fit_forks n && is_root_or_other name n)) f) in
    none_from_is_none (name_fault n.name) (left_true (is_none (name_fault n.name)) (length n.finder == 32) (left_true (is_named (bare_row n)) _ (right_true (has_fit_privileges n.is_directory (unwrap_or n.privileges (new_privileges n.is_directory guest))) _ formed)))
