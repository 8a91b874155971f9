-- The volume that whole tables say is sound.
use Rattle.std.proofs.Common.{◌≡◌, ◌∙◌, ℕ, zero, suc, ◌+◌, ◌<◌, ◌≤◌, Bool, true, false, cond, not, List, [], ◌∷◌, ◌++◌, map, length, refl, sym, ap, arith}
use Rattle.std.specs.Prelude.{nat_le, nat_lt, ◌&&◌, ◌||◌, ◌==◌, bytes_eq, bit_and, sum_by, unwrap_or}
use Rattle.std.specs.List.{list_all, list_any, filter}
use Rattle.std.proofs.lemmas.Bool.{and_from, eqb-true, le-leb, lt-ltb, ltb-false, ltb-true, ne_eqb, not-false, not-true, not_from_false, or_parts}
use Rattle.std.proofs.lemmas.List.Folds.{list_all-map}
use Rattle.volume_spec.specs.VolumeState.{Comment, Icon, Appl, root_id, root_parent, first_id, Row as VolumeRow, guest, new_privileges}
use Rattle.volume_spec.specs.Order.{stands_before}
use Rattle.afp_base.specs.Apart.{are_apart}
use Rattle.afp_base.specs.Limits.{most_fork_bytes}
use Rattle.volume_spec.specs.SoundVolume.{IsSoundVolume, is_tree, is_in_place, has_apart_names, are_named_alike, has_noted_nodes, keeps_limits, is_formed_volume, is_in_order, has_rising_ids, has_node, has_file, leads_to_root, is_named, is_comment, is_icon, are_one_icon, are_one_appl, icon_key, appl_key, most_nodes, most_icons, most_appls, last_next_id, code_size, file_attributes, dir_attributes, is_formed as is_formed_row, has_fit_privileges}
use Rattle.volume_spec.specs.TypedVolume.{is_date, is_quad, is_typed_row, is_typed_comment, is_typed_icon, is_typed_appl, is_word}
use Rattle.volume_keeper_records.specs.declared.rows.Node.{Node}
use Rattle.volume_keeper_records.specs.declared.rows.ForkBlock.{ForkBlock}
use Rattle.volume_keeper_records.specs.declared.rows.TableRow.TheVariants as row
use Rattle.volume_keeper_records.specs.Shape.{bare_row, is_formed_record, is_formed_comment, is_formed_icon, is_formed_appl, has_fit_forks, is_root_or_other, Label, is_sound_node, is_sound_head}
use Rattle.volume_keeper_records.specs.Image.{Tables}
use Rattle.volume_keeper_records.specs.FirstBad.{tree_of, nodes_to, icons_to, appls_to}
use Rattle.volume_keeper_records.proofs.Chains.{Chain, chain-map, chain-apart, top, sum-map, chain-rises, all-from}
use Rattle.volume_keeper_records.proofs.RowOrder.{icon_before, appl_before, before_itself}
use Rattle.volume_keeper_records.proofs.Whole.{IsWhole, is_clear}
use Rattle.volume_keeper_records.proofs.Facts.{each_kind, IsFree, is_free, in_order}
use Rattle.volume_keeper_records.proofs.ForkParts.{ForkLaw, pieces, row_from, volume_of}
use Rattle.afp_base.proofs.Facts.{bytes_same, cases, left_true, pick, rest_false, right_true, then_of}
use Rattle.afp_base.proofs.ListFacts.{all-and, all-weaker, any-map, any-none, any-same, filter-all, length-mapped, none-any}
use Rattle.volume_keeper_records.proofs.Passing.{below_le}
use Rattle.volume_spec.proofs.Ordered.{before-not-back}
use Rattle.volume_keeper_records.proofs.ReadBack.{sound_nodes}

-- ---- the tree

nodes_alike : (blocks : List ForkBlock) (ns : List Node) (id : ℕ) → has_node (map (row_from blocks) ns) id ≡ has_node (map bare_row ns) id
nodes_alike blocks ns id = any-map (λ (r : VolumeRow). r.id == id) (row_from blocks) ns ∙ sym (any-map (λ (r : VolumeRow). r.id == id) bare_row ns)

files_alike : (blocks : List ForkBlock) (ns : List Node) (id : ℕ) → has_file (map (row_from blocks) ns) id ≡ has_file (map bare_row ns) id
files_alike blocks ns id = any-map (λ (r : VolumeRow). r.id == id && not r.dir) (row_from blocks) ns ∙ sym (any-map (λ (r : VolumeRow). r.id == id && not r.dir) bare_row ns)

leads_alike : (blocks : List ForkBlock) (ns : List Node) (steps id : ℕ) → leads_to_root (map (row_from blocks) ns) steps id ≡ leads_to_root (map bare_row ns) steps id
leads_alike blocks ns zero id = refl
leads_alike blocks ns (suc steps) id = ap (λ b. (id == root_id) || b)
    (any-map (λ (r : VolumeRow). (r.id == id) && (r.dir && leads_to_root (map (row_from blocks) ns) steps r.parent)) (row_from blocks) ns
    ∙ any-same (λ (n : Node). (n.id == id) && (n.is_directory && leads_to_root (map (row_from blocks) ns) steps n.parent)) (λ (n : Node). (n.id == id) && (n.is_directory && leads_to_root (map bare_row ns) steps n.parent)) ns
    (λ n. ap (λ b. (n.id == id) && (n.is_directory && b)) (leads_alike blocks ns steps n.parent))
    ∙ sym (any-map (λ (r : VolumeRow). (r.id == id) && (r.dir && leads_to_root (map bare_row ns) steps r.parent)) bare_row ns))

not_both : (a b : Bool) → a ≡ false → (not a && not b) ≡ false → b ≡ true
not_both true b e f = absurd (cc)
not_both false b e f = not-false b f

not_le : (a b : ℕ) → nat_le b a ≡ false → nat_lt a b ≡ true
not_le a b e = grind (arith, e)

in_place_one : (name : List ℕ) (t : Tables) (n : Node) → is_sound_node name n ≡ true → IsFree t (row.Node n) → is_in_place (volume_of name t) (row_from t.blocks n) ≡ true
in_place_one name t n f free =
    let formed = right_true (has_fit_forks n) (is_root_or_other name n) (right_true (is_formed_row (bare_row n)) (has_fit_forks n && is_root_or_other name n) (right_true (is_typed_row (bare_row n)) (is_formed_row (bare_row n) && (has_fit_forks n && is_root_or_other name n)) f)) in
    pick (n.id == root_id) (n.is_directory && ((n.parent == root_parent) && bytes_eq n.name name))
    ((nat_le first_id n.id && nat_lt n.id t.head.next_id) && leads_to_root (map (row_from t.blocks) t.nodes) (length (map (row_from t.blocks) t.nodes)) n.parent)
    (λ e. then_of (n.id == root_id) (n.is_directory && ((n.parent == root_parent) && bytes_eq n.name name)) true e formed)
    (λ e.
    let range = or_parts (nat_lt n.id first_id) (nat_le t.head.next_id n.id) (rest_false (not (n.id == root_id)) (nat_lt n.id first_id || nat_le t.head.next_id n.id) (ap not e) free.inside) in
    let low : nat_le first_id n.id ≡ true = le-leb _ _ (ltb-false n.id first_id range.0) in
    let high : nat_lt n.id t.head.next_id ≡ true = not_le n.id t.head.next_id range.1 in
    let both = not_both (n.id == root_id) (has_node (tree_of t) root_id && leads_to_root (tree_of t) (length (tree_of t)) n.parent) e free.placed in
    let leads = right_true (has_node (tree_of t) root_id) (leads_to_root (tree_of t) (length (tree_of t)) n.parent) both in
    let same : leads_to_root (map (row_from t.blocks) t.nodes) (length (map (row_from t.blocks) t.nodes)) n.parent ≡ true =
    ap (λ k. leads_to_root (map (row_from t.blocks) t.nodes) k n.parent) (length-mapped (row_from t.blocks) t.nodes ∙ sym (length-mapped bare_row t.nodes)) ∙ leads_alike t.blocks t.nodes (length (map bare_row t.nodes)) n.parent ∙ leads in
    λ i. (low i && high i) && same i)

lower_differ : (a b : VolumeRow) → nat_lt a.id b.id ≡ true → (a.id == b.id) ≡ false
lower_differ a b e = ne_eqb a.id b.id (λ h. absurd (let l : a.id < b.id = ltb-true _ _ e in omega arith))

tree_made : (label : Label) (t : Tables) → IsWhole label t → is_tree (volume_of label.name t) ≡ true
unfolding is_tree
tree_made label t w =
    let formed = each_kind (is_formed_record label) t w.formed in
    let clear = each_kind (is_clear t) t w.clear in
    let order = in_order label t w in
    let rows : List VolumeRow = map (row_from t.blocks) t.nodes in
    let apart = chain-apart (λ (a : VolumeRow) b. nat_lt a.id b.id) (λ a b. a.id == b.id) lower_differ (map (row_from t.blocks) t.nodes) (chain-map (λ (a : VolumeRow) b. nat_lt a.id b.id) (row_from t.blocks) t.nodes order.nodes) in
    let root = nodes_alike t.blocks t.nodes root_id ∙ w.root in
    let nodes = sound_nodes label t.nodes formed.nodes in
    let places = list_all-map (is_in_place (volume_of label.name t)) (row_from t.blocks) t.nodes
    ∙ all-weaker (λ n. is_sound_node label.name n && is_clear t (row.Node n)) (λ n. is_in_place (volume_of label.name t) (row_from t.blocks n)) t.nodes
    (λ n e. in_place_one label.name t n (left_true (is_sound_node label.name n) (is_clear t (row.Node n)) e) (is_free t (row.Node n) (right_true (is_sound_node label.name n) (is_clear t (row.Node n)) e)))
    (all-and (is_sound_node label.name) (λ n. is_clear t (row.Node n)) t.nodes nodes clear.nodes) in
    λ i. apart i && (root i && places i)

-- ---- names

abbrev pub alike : Node → Node → Bool
alike a b = are_named_alike (bare_row a) (bare_row b)

-- no node has a twin of lower id
abbrev pub no_twins : List Node → List Node → Bool
no_twins os ns = list_all (λ (n : Node). list_all (λ (o : Node). not (nat_lt o.id n.id && alike o n)) os) ns

drop_first : (x : Node) (os ns : List Node) → no_twins (x ∷ os) ns ≡ true → no_twins os ns ≡ true
drop_first x os ns e = all-weaker (λ (n : Node). list_all (λ (o : Node). not (nat_lt o.id n.id && alike o n)) (x ∷ os)) (λ (n : Node). list_all (λ (o : Node). not (nat_lt o.id n.id && alike o n)) os) ns
    (λ n h. right_true (not (nat_lt x.id n.id && alike x n)) (list_all (λ (o : Node). not (nat_lt o.id n.id && alike o n)) os) h) e

first_apart : (x : Node) (os ns : List Node) → list_all (λ (n : Node). nat_lt x.id n.id) ns ≡ true → no_twins (x ∷ os) ns ≡ true → list_all (λ n. not (alike x n)) ns ≡ true
first_apart x os ns c e =
    all-weaker (λ (n : Node). nat_lt x.id n.id && list_all (λ (o : Node). not (nat_lt o.id n.id && alike o n)) (x ∷ os)) (λ n. not (alike x n)) ns
    (λ n h.
    let lower = left_true (nat_lt x.id n.id) (list_all (λ (o : Node). not (nat_lt o.id n.id && alike o n)) (x ∷ os)) h in
    let none = left_true (not (nat_lt x.id n.id && alike x n)) (list_all (λ (o : Node). not (nat_lt o.id n.id && alike o n)) os) (right_true (nat_lt x.id n.id) (list_all (λ (o : Node). not (nat_lt o.id n.id && alike o n)) (x ∷ os)) h) in
    not_from_false (alike x n) (rest_false (nat_lt x.id n.id) (alike x n) lower (not-true _ none)))
    (all-and (λ (n : Node). nat_lt x.id n.id) (λ (n : Node). list_all (λ (o : Node). not (nat_lt o.id n.id && alike o n)) (x ∷ os)) ns c e)

pub apart_made : (ns : List Node) → Chain (λ (a : Node) b. nat_lt a.id b.id) ns → no_twins ns ns ≡ true → are_apart alike ns ≡ true
apart_made [] c e = refl
apart_made (x ∷ xs) c e =
    let behind = right_true (list_all (λ (o : Node). not (nat_lt o.id x.id && alike o x)) (x ∷ xs)) (no_twins (x ∷ xs) xs) e in
    and_from (not (list_any (alike x) xs)) (are_apart alike xs) (not_from_false (list_any (alike x) xs) (any-none (alike x) xs (first_apart x xs xs c.0 behind))) (apart_made xs c.1 (drop_first x xs xs behind))

apart_map : (f : Node → VolumeRow) → ((a b : Node) → are_named_alike (f a) (f b) ≡ alike a b) → (ns : List Node) → are_apart are_named_alike (map f ns) ≡ are_apart alike ns
apart_map f h [] = refl
apart_map f h (n ∷ ns) = λ i. not ((any-map (are_named_alike (f n)) f ns ∙ any-same (λ m. are_named_alike (f n) (f m)) (alike n) ns (h n)) i) && apart_map f h ns i

names_made : (label : Label) (t : Tables) → IsWhole label t → has_apart_names (volume_of label.name t) ≡ true
unfolding has_apart_names
names_made label t w =
    let clear = each_kind (is_clear t) t w.clear in
    let order = in_order label t w in
    let twins = all-weaker (λ n. is_clear t (row.Node n)) (λ (n : Node). list_all (λ (o : Node). not (nat_lt o.id n.id && alike o n)) t.nodes) t.nodes
    (λ n e. none-any (λ (o : Node). nat_lt o.id n.id && alike o n) t.nodes (is_free t (row.Node n) e).lone) clear.nodes in
    apart_map (row_from t.blocks) (λ a b. refl) t.nodes ∙ apart_made t.nodes order.nodes twins

-- ---- comments and APPL mappings

notes_made : (label : Label) (t : Tables) → IsWhole label t → has_noted_nodes (volume_of label.name t) ≡ true
unfolding has_noted_nodes
notes_made label t w =
    let clear = each_kind (is_clear t) t w.clear in
    let comments = all-weaker (λ c. is_clear t (row.Comment c)) (λ (c : Comment). has_node (map (row_from t.blocks) t.nodes) c.node) t.comments
    (λ c e. nodes_alike t.blocks t.nodes c.node ∙ not-false _ (is_free t (row.Comment c) e).placed) clear.comments in
    let appls = all-weaker (λ c. is_clear t (row.Appl c)) (λ (c : Appl). has_file (map (row_from t.blocks) t.nodes) c.node) t.appls
    (λ c e. files_alike t.blocks t.nodes c.node ∙ not-false _ (is_free t (row.Appl c) e).placed) clear.appls in
    λ i. comments i && appls i

-- ---- limits

at_top : {A : Type 0} (R le : A → A → Bool) → ((a b : A) → R a b ≡ true → le a b ≡ true) → ((a : A) → le a a ≡ true) → (count : List A → ℕ) (most : ℕ) → nat_le (count []) most ≡ true → (xs : List A)
    → Chain R xs → list_all (λ m. not (nat_lt most (count (filter (λ o. le o m) xs)))) xs ≡ true → nat_le (count xs) most ≡ true
at_top R le h s count most none [] c e = none
at_top R le h s count most none (x ∷ xs) c e =
    let t = top R le h s x xs c in
    let last = t.2 (λ m. not (nat_lt most (count (filter (λ o. le o m) (x ∷ xs))))) e in
    le-leb _ _ (ltb-false most (count (x ∷ xs)) (ap (λ l. nat_lt most (count l)) (sym (filter-all (λ o. le o t.0) (x ∷ xs) t.1)) ∙ not-true _ last))

limits_made : ForkLaw → (label : Label) (t : Tables) → IsWhole label t → keeps_limits (volume_of label.name t) ≡ true
unfolding keeps_limits
limits_made law label t w =
    let clear = each_kind (is_clear t) t w.clear in
    let order = in_order label t w in
    let both = λ (n : Node) (e : is_clear t (row.Node n) ≡ true). or_parts (nat_lt most_nodes (length (nodes_to n t))) (nat_lt most_fork_bytes (sum_by (λ (o : Node). o.data_length + o.resource_length) (nodes_to n t))) (is_free t (row.Node n) e).few in
    let nodes = at_top (λ (a : Node) b. nat_lt a.id b.id) (λ a b. nat_le a.id b.id) below_le (λ a. le-leb _ _ (let l : a.id ≤ a.id = omega arith in l)) length most_nodes refl t.nodes order.nodes
    (all-weaker (λ n. is_clear t (row.Node n)) (λ n. not (nat_lt most_nodes (length (nodes_to n t)))) t.nodes (λ n e. not_from_false _ (both n e).0) clear.nodes) in
    let bytes = at_top (λ (a : Node) b. nat_lt a.id b.id) (λ a b. nat_le a.id b.id) below_le (λ a. le-leb _ _ (let l : a.id ≤ a.id = omega arith in l)) (sum_by (λ (o : Node). o.data_length + o.resource_length)) most_fork_bytes refl t.nodes order.nodes
    (all-weaker (λ n. is_clear t (row.Node n)) (λ n. not (nat_lt most_fork_bytes (sum_by (λ (o : Node). o.data_length + o.resource_length) (nodes_to n t)))) t.nodes (λ n e. not_from_false _ (both n e).1) clear.nodes) in
    let icons = at_top icon_before (λ o m. not (stands_before (icon_key m) (icon_key o))) (λ a b e. before-not-back (icon_key a) (icon_key b) e) (λ a. not_from_false _ (before_itself (icon_key a))) length most_icons refl t.icons order.icons
    (all-weaker (λ n. is_clear t (row.Icon n)) (λ n. not (nat_lt most_icons (length (icons_to n t)))) t.icons (λ n e. not_from_false _ (is_free t (row.Icon n) e).few) clear.icons) in
    let appls = at_top appl_before (λ o m. not (stands_before (appl_key m) (appl_key o))) (λ a b e. before-not-back (appl_key a) (appl_key b) e) (λ a. not_from_false _ (before_itself (appl_key a))) length most_appls refl t.appls order.appls
    (all-weaker (λ n. is_clear t (row.Appl n)) (λ n. not (nat_lt most_appls (length (appls_to n t)))) t.appls (λ n e. not_from_false _ (is_free t (row.Appl n) e).few) clear.appls) in
    let count = ap (λ k. nat_le k most_nodes) (length-mapped (row_from t.blocks) t.nodes) ∙ nodes in
    let sum = ap (λ k. nat_le k most_fork_bytes) (sum-map (λ (r : VolumeRow). length r.data_fork + length r.resource_fork) (row_from t.blocks) (λ (o : Node). o.data_length + o.resource_length) t.nodes
    (λ n. λ i. law.size n.data_length (pieces t.blocks n.id 0) i + law.size n.resource_length (pieces t.blocks n.id 1) i)) ∙ bytes in
    λ i. count i && (sum i && (icons i && appls i))

-- ---- the rest

fit_lengths : (d named attr_d attr_f filed x y : Bool) → (named && cond d (attr_d && (true && (true && not filed))) attr_f) ≡ true → (cond d (x && y) true) ≡ true → (named && cond d (attr_d && (x && (y && not filed))) attr_f) ≡ true
fit_lengths true named attr_d attr_f filed true true e f = e
fit_lengths true named attr_d attr_f filed true false e f = absurd (cc)
fit_lengths true named attr_d attr_f filed false y e f = absurd (cc)
fit_lengths false named attr_d attr_f filed x y e f = e

row_formed : ForkLaw → (name : List ℕ) (blocks : List ForkBlock) (n : Node) → is_sound_node name n ≡ true → is_formed_row (row_from blocks n) ≡ true
row_formed law name blocks n f =
    let behind = right_true (is_typed_row (bare_row n)) (is_formed_row (bare_row n) && (has_fit_forks n && is_root_or_other name n)) f in
    let formed = left_true (is_formed_row (bare_row n)) (has_fit_forks n && is_root_or_other name n) behind in
    let forks = left_true (has_fit_forks n) (is_root_or_other name n) (right_true (is_formed_row (bare_row n)) (has_fit_forks n && is_root_or_other name n) behind) in
    let fit = left_true (has_fit_privileges n.is_directory (unwrap_or n.privileges (new_privileges n.is_directory guest))) _ formed in
    let shape = right_true (has_fit_privileges n.is_directory (unwrap_or n.privileges (new_privileges n.is_directory guest))) _ formed in
    let lengths = right_true (is_quad n.data_length && is_quad n.resource_length) (cond n.is_directory ((n.data_length == 0) && (n.resource_length == 0)) true) forks in
    and_from (has_fit_privileges n.is_directory (unwrap_or n.privileges (new_privileges n.is_directory guest))) _ fit
    ((λ i. is_named (bare_row n) && cond n.is_directory ((bit_and n.attributes dir_attributes == n.attributes) && ((law.size n.data_length (pieces blocks n.id 0) i == 0) && ((law.size n.resource_length (pieces blocks n.id 1) i == 0) && not n.is_filed)))
    (bit_and n.attributes file_attributes == n.attributes))
    ∙ fit_lengths n.is_directory (is_named (bare_row n)) (bit_and n.attributes dir_attributes == n.attributes) (bit_and n.attributes file_attributes == n.attributes) n.is_filed (n.data_length == 0) (n.resource_length == 0) shape lengths)

-- what is one icon, or one mapping, has one key
icon_apart : (a b : Icon) → icon_before a b ≡ true → are_one_icon a b ≡ false
icon_apart a b e = cases (are_one_icon a b)
    (λ h.
    let c : a.creator ≡ b.creator = bytes_same _ _ (left_true (bytes_eq a.creator b.creator) (bytes_eq a.kind b.kind && (a.icon_kind == b.icon_kind)) h) in
    let r = right_true (bytes_eq a.creator b.creator) (bytes_eq a.kind b.kind && (a.icon_kind == b.icon_kind)) h in
    let k : a.kind ≡ b.kind = bytes_same _ _ (left_true (bytes_eq a.kind b.kind) (a.icon_kind == b.icon_kind) r) in
    let i : a.icon_kind ≡ b.icon_kind = eqb-true _ _ (right_true (bytes_eq a.kind b.kind) (a.icon_kind == b.icon_kind) r) in
    let same : icon_key a ≡ icon_key b = λ j. c j ++ k j ++ i j ∷ [] in
    absurd (let x : true ≡ false = sym e ∙ ap (λ l. stands_before l (icon_key b)) same ∙ before_itself (icon_key b) in cc))
    (λ h. h)

appl_apart : (a b : Appl) → appl_before a b ≡ true → are_one_appl a b ≡ false
appl_apart a b e = cases (are_one_appl a b)
    (λ h.
    let c : a.creator ≡ b.creator = bytes_same _ _ (left_true (bytes_eq a.creator b.creator) (a.node == b.node) h) in
    let i : a.node ≡ b.node = eqb-true _ _ (right_true (bytes_eq a.creator b.creator) (a.node == b.node) h) in
    let same : appl_key a ≡ appl_key b = λ j. c j ++ i j ∷ [] in
    absurd (let x : true ≡ false = sym e ∙ ap (λ l. stands_before l (appl_key b)) same ∙ before_itself (appl_key b) in cc))
    (λ h. h)

comment_apart : (a b : Comment) → nat_lt a.node b.node ≡ true → (a.node == b.node) ≡ false
comment_apart a b e = ne_eqb a.node b.node (λ h. absurd (let l : a.node < b.node = ltb-true _ _ e in omega arith))

formed_made : ForkLaw → (label : Label) (t : Tables) → IsWhole label t → is_formed_volume (volume_of label.name t) ≡ true
unfolding is_formed_volume
formed_made law label t w =
    let formed = each_kind (is_formed_record label) t w.formed in
    let head = right_true ((t.head.version == label.version) && is_word t.head.version) (is_sound_head t.head) formed.head in
    let nodes = sound_nodes label t.nodes formed.nodes in
    let order = in_order label t w in
    let next = right_true (is_date t.head.created && (is_date t.head.modified && is_date t.head.backup)) (nat_le first_id t.head.next_id && nat_le t.head.next_id last_next_id) head in
    let rows = list_all-map is_formed_row (row_from t.blocks) t.nodes ∙ all-weaker (is_sound_node label.name) (λ n. is_formed_row (row_from t.blocks n)) t.nodes (row_formed law label.name t.blocks) nodes in
    let comments = chain-apart (λ (a : Comment) b. nat_lt a.node b.node) (λ a b. a.node == b.node) comment_apart t.comments order.comments in
    let texts = all-weaker is_formed_comment is_comment t.comments (λ c f. right_true (is_typed_comment c) (is_comment c) f) formed.comments in
    let icons = chain-apart icon_before are_one_icon icon_apart t.icons order.icons in
    let bits = all-weaker is_formed_icon is_icon t.icons (λ c f. right_true (is_typed_icon c) (is_icon c) f) formed.icons in
    let appls = chain-apart appl_before are_one_appl appl_apart t.appls order.appls in
    let creators = all-weaker is_formed_appl (λ (a : Appl). length a.creator == code_size) t.appls (λ c f. right_true (is_typed_appl c) (length c.creator == code_size) f) formed.appls in
    λ i. next i && (rows i && (comments i && (texts i && (icons i && (bits i && (appls i && creators i))))))

-- ids are above 0, and so are those of comments
id_above : (t : Tables) (n : Node) → IsFree t (row.Node n) → nat_lt 0 n.id ≡ true
id_above t n free = cases (n.id == root_id)
    (λ e. let s : n.id ≡ root_id = eqb-true _ _ e in lt-ltb _ _ (omega arith))
    (λ e.
    let range = or_parts (nat_lt n.id first_id) (nat_le t.head.next_id n.id) (rest_false (not (n.id == root_id)) (nat_lt n.id first_id || nat_le t.head.next_id n.id) (ap not e) free.inside) in
    let low : first_id ≤ n.id = ltb-false n.id first_id range.0 in
    lt-ltb _ _ (omega arith))

above_there : (ns : List Node) (id : ℕ) → list_all (λ (n : Node). nat_lt 0 n.id) ns ≡ true → has_node (map bare_row ns) id ≡ true → nat_lt 0 id ≡ true
above_there [] id e h = absurd (cc)
above_there (n ∷ ns) id e h = cases (n.id == id)
    (λ t. ap (nat_lt 0) (sym (eqb-true n.id id t)) ∙ left_true (nat_lt 0 n.id) (list_all (λ (n : Node). nat_lt 0 n.id) ns) e)
    (λ t. above_there ns id (right_true (nat_lt 0 n.id) (list_all (λ (n : Node). nat_lt 0 n.id) ns) e) (ap (λ b. b || has_node (map bare_row ns) id) (sym t) ∙ h))

order_made : (label : Label) (t : Tables) → IsWhole label t → is_in_order (volume_of label.name t) ≡ true
unfolding is_in_order has_rising_ids
order_made label t w =
    let clear = each_kind (is_clear t) t w.clear in
    let order = in_order label t w in
    let low = all-weaker (λ n. is_clear t (row.Node n)) (λ (n : Node). nat_lt 0 n.id) t.nodes (λ n e. id_above t n (is_free t (row.Node n) e)) clear.nodes in
    let rows = all-from (λ (r : VolumeRow). r.id) 0 (map (row_from t.blocks) t.nodes) (list_all-map (λ (r : VolumeRow). nat_lt 0 r.id) (row_from t.blocks) t.nodes ∙ low) (chain-map (λ (a : VolumeRow) b. nat_lt a.id b.id) (row_from t.blocks) t.nodes order.nodes) in
    let comments = all-from (λ (c : Comment). c.node) 0 t.comments
    (all-weaker (λ c. is_clear t (row.Comment c)) (λ (c : Comment). nat_lt 0 c.node) t.comments (λ c e. above_there t.nodes c.node low (not-false _ (is_free t (row.Comment c) e).placed)) clear.comments) order.comments in
    let icons = chain-rises icon_key t.icons order.icons in
    let appls = chain-rises appl_key t.appls order.appls in
    λ i. rows i && (comments i && (icons i && appls i))

pub volume_sound : ForkLaw → (label : Label) (t : Tables) → IsWhole label t → IsSoundVolume (volume_of label.name t)
volume_sound law label t w = record {
  tree = tree_made label t w;
  names = names_made label t w;
  notes = notes_made label t w;
  limits = limits_made law label t w;
  formed = formed_made law label t w;
  order = order_made label t w;
}
