-- A volume whose forks have zeros alone, and whose desktop database is empty, is sound where the volume is.
use Rattle.std.proofs.Common.{◌≡◌, ◌∙◌, ℕ, zero, suc, ◌+◌, Bool, true, false, cond, not, List, [], ◌∷◌, ◌++◌, ◌||◌, map, length, refl, ap}
use Rattle.std.specs.Prelude.{Option, Some, None, IfSome, is_some, option_map, unwrap_or, nat_le, nat_lt, ◌&&◌, ◌==◌, bit_and, bytes_eq, fold, flat_map, replicate}
use Rattle.std.specs.List.{find, list_all, list_any}
use Rattle.std.proofs.lemmas.Slice.Eq.{bytes_eq-Decides}
use Rattle.std.proofs.lemmas.Bool.{and_from}
use Rattle.std.proofs.lemmas.List.{append-nil}
use Rattle.std.proofs.lemmas.List.Concat.{flat_map-append}
use Rattle.std.proofs.lemmas.List.Folds.{list_all-map}
use Rattle.afp_base.specs.Apart.{are_apart}
use Rattle.volume_spec.specs.VolumeState.{Row as VolumeRow, VolumeState, root_id, root_parent, first_id}
use Rattle.volume_spec.specs.Shared.{name_of}
use Rattle.volume_spec.specs.Order.{rises_from}
use Rattle.afp_base.specs.Limits.{most_fork_bytes}
use Rattle.volume_spec.specs.SoundVolume.{IsSoundVolume, is_tree, is_in_place, leads_to_root, has_node, has_apart_names, are_named_alike, has_noted_nodes, keeps_limits, fork_bytes, is_formed_volume, is_formed, has_fit_privileges, is_named, is_in_order, has_rising_ids, most_nodes, last_next_id, file_attributes, dir_attributes}
use Rattle.volume_spec.specs.Walk.{row_at}
use Rattle.volume_keeper_records.specs.declared.rows.TableRow.{TableRow}
use Rattle.volume_keeper_records.specs.declared.rows.TableRow.TheVariants as row
use Rattle.volume_keeper_records.specs.Records.{version}
use Rattle.volume_keeper_records.specs.Image.{node_of, rows_of, tables_of, fork_blocks}
use Rattle.volume_tree.specs.Restored.{loaded_row, restored}
use Rattle.volume_keeper.specs.loading.lemma.Rebuilt.{head_said, nodes_said}
use Rattle.afp_base.proofs.Facts.{left_true, right_true, then_of}
use Rattle.afp_base.proofs.ListFacts.{any-map, any-same, apart-map, length-mapped}

-- a row with zeros for the bytes of its forks
abbrev pub zeroed : VolumeRow → VolumeRow
zeroed r = record r { data_fork = replicate (length r.data_fork) 0; resource_fork = replicate (length r.resource_fork) 0 }

abbrev pub start : VolumeState → VolumeState
start v = record v { rows = map zeroed v.rows; comments = []; icons = []; appls = [] }

-- ---- tests over a list that was mapped

all-same : {A : Type 0} (p q : A → Bool) (xs : List A) → ((x : A) → p x ≡ q x) → list_all p xs ≡ list_all q xs
all-same p q [] e = refl
all-same p q (x ∷ xs) e = λ i. e x i && all-same p q xs e i

rises-map : {A B : Type 0} (n : B → ℕ) (f : A → B) (low : ℕ) (xs : List A) → rises_from n low (map f xs) ≡ rises_from (λ x. n (f x)) low xs
rises-map n f low [] = refl
rises-map n f low (x ∷ xs) = ap (λ b. nat_lt low (n (f x)) && b) (rises-map n f (n (f x)) xs)

pub find-map : {A B : Type 0} (p : B → Bool) (f : A → B) (xs : List A) → find p (map f xs) ≡ option_map f (find (λ x. p (f x)) xs)
find-map p f [] = refl
find-map p f (x ∷ xs) = elim (p (f x)) as (λ b. cond b (Some (f x)) (find p (map f xs)) ≡ option_map f (cond b (Some x) (find (λ x. p (f x)) xs))) [ true ↦ refl | false ↦ find-map p f xs ]

length-zeros : (n : ℕ) → length {A = ℕ} (replicate n 0) ≡ n
length-zeros zero = refl
length-zeros (suc n) = ap suc (length-zeros n)

fold-map : {A B : Type 0} (f : B → ℕ) (g : A → B) (h : A → ℕ) → ((x : A) → f (g x) ≡ h x) → (a : ℕ) (xs : List A) → fold (λ b x. b + f x) a (map g xs) ≡ fold (λ b x. b + h x) a xs
fold-map f g h e a [] = refl
fold-map f g h e a (x ∷ xs) = ap (λ n. fold (λ b x. b + f x) (a + n) (map g xs)) (e x) ∙ fold-map f g h e (a + h x) xs

-- ---- each thing that holds

leads_same : (rows : List VolumeRow) (steps id : ℕ) → leads_to_root (map zeroed rows) steps id ≡ leads_to_root rows steps id
leads_same rows zero id = refl
leads_same rows (suc steps) id = ap (λ b. (id == root_id) || b)
    (any-map (λ (r : VolumeRow). (r.id == id) && (r.dir && leads_to_root (map zeroed rows) steps r.parent)) zeroed rows
    ∙ any-same (λ (r : VolumeRow). (r.id == id) && (r.dir && leads_to_root (map zeroed rows) steps r.parent)) (λ (r : VolumeRow). (r.id == id) && (r.dir && leads_to_root rows steps r.parent)) rows
    (λ r. ap (λ b. (r.id == id) && (r.dir && b)) (leads_same rows steps r.parent)))

place_same : (v : VolumeState) (r : VolumeRow) → is_in_place (start v) (zeroed r) ≡ is_in_place v r
place_same v r = ap (λ b. cond (r.id == root_id) (r.dir && ((r.parent == root_parent) && bytes_eq r.name v.name)) ((nat_le first_id r.id && nat_lt r.id v.next_id) && b))
    (ap (λ n. leads_to_root (map zeroed v.rows) n r.parent) (length-mapped zeroed v.rows) ∙ leads_same v.rows (length v.rows) r.parent)

tree_kept : (v : VolumeState) → is_tree v ≡ true → is_tree (start v) ≡ true
unfolding is_tree
tree_kept v e =
    (λ i. apart-map (λ (a : VolumeRow) b. a.id == b.id) zeroed v.rows i && (any-map (λ (r : VolumeRow). r.id == root_id) zeroed v.rows i && (list_all-map (is_in_place (start v)) zeroed v.rows ∙ all-same (λ r. is_in_place (start v) (zeroed r)) (is_in_place v) v.rows (place_same v)) i)) ∙ e

names_kept : (v : VolumeState) → has_apart_names v ≡ true → has_apart_names (start v) ≡ true
unfolding has_apart_names
names_kept v e = apart-map are_named_alike zeroed v.rows ∙ e

notes_kept : (v : VolumeState) → has_noted_nodes (start v) ≡ true
unfolding has_noted_nodes
notes_kept v = refl

limits_kept : (v : VolumeState) → keeps_limits v ≡ true → keeps_limits (start v) ≡ true
unfolding keeps_limits
limits_kept v e =
    let rest = right_true (nat_le (length v.rows) most_nodes) _ e in
    and_from _ _ (ap (λ n. nat_le n most_nodes) (length-mapped zeroed v.rows) ∙ left_true (nat_le (length v.rows) most_nodes) _ e)
    (and_from (nat_le (fork_bytes (map zeroed v.rows)) most_fork_bytes) true
    (ap (λ n. nat_le n most_fork_bytes)
    (fold-map (λ (r : VolumeRow). length r.data_fork + length r.resource_fork) zeroed (λ (r : VolumeRow). length r.data_fork + length r.resource_fork) (λ r i. length-zeros (length r.data_fork) i + length-zeros (length r.resource_fork) i) 0 v.rows)
    ∙ left_true (nat_le (fork_bytes v.rows) most_fork_bytes) _ rest) refl)

row_formed : (r : VolumeRow) → is_formed (zeroed r) ≡ is_formed r
row_formed r = λ i. has_fit_privileges r.dir r.privileges && (is_named r && cond r.dir ((bit_and r.attributes dir_attributes == r.attributes) && ((length-zeros (length r.data_fork) i == 0) && ((length-zeros (length r.resource_fork) i == 0) && not r.filed))) (bit_and r.attributes file_attributes == r.attributes))

formed_kept : (v : VolumeState) → is_formed_volume v ≡ true → is_formed_volume (start v) ≡ true
unfolding is_formed_volume
formed_kept v e =
    let rest = right_true (nat_le first_id v.next_id && nat_le v.next_id last_next_id) _ e in
    and_from _ _ (left_true (nat_le first_id v.next_id && nat_le v.next_id last_next_id) _ e)
    (and_from (list_all is_formed (map zeroed v.rows)) true (list_all-map is_formed zeroed v.rows ∙ all-same (λ r. is_formed (zeroed r)) is_formed v.rows row_formed ∙ left_true (list_all is_formed v.rows) _ rest) refl)

order_kept : (v : VolumeState) → is_in_order v ≡ true → is_in_order (start v) ≡ true
unfolding is_in_order has_rising_ids
order_kept v e = and_from (rises_from (λ (r : VolumeRow). r.id) 0 (map zeroed v.rows)) true (rises-map (λ (r : VolumeRow). r.id) zeroed 0 v.rows ∙ left_true (rises_from (λ (r : VolumeRow). r.id) 0 v.rows) _ e) refl

pub start_sound : (v : VolumeState) → IsSoundVolume v → IsSoundVolume (start v)
start_sound v s = record {
  tree = tree_kept v s.tree;
  names = names_kept v s.names;
  notes = notes_kept v;
  limits = limits_kept v s.limits;
  formed = formed_kept v s.formed;
  order = order_kept v s.order;
}

-- ---- the volume that is restored

flat-none : {A : Type 0} (make : A → TableRow) → ((a : A) → nodes_said (make a) ≡ []) → (xs : List A) → flat_map nodes_said (map make xs) ≡ []
flat-none make none [] = refl
flat-none make none (x ∷ xs) = (λ i. none x i ++ flat-none make none xs i)

flat-nodes : (rows : List VolumeRow) → map loaded_row (flat_map nodes_said (map (λ n. row.Node n) (map (node_of version) rows))) ≡ map zeroed rows
flat-nodes [] = refl
flat-nodes (r ∷ rows) = ap (λ l. zeroed r ∷ l) (flat-nodes rows)

said : (v : VolumeState) → map loaded_row (flat_map nodes_said (rows_of (tables_of version v))) ≡ map zeroed v.rows
said v =
    let nodes : List TableRow = map (λ n. row.Node n) (map (node_of version) v.rows) in
    let blocks : List TableRow = map (λ b. row.Block b) (flat_map fork_blocks v.rows) in
    let comments : List TableRow = map (λ c. row.Comment c) v.comments in
    let icons : List TableRow = map (λ i. row.Icon i) v.icons in
    let appls : List TableRow = map (λ a. row.Appl a) v.appls in
    let none : flat_map nodes_said (blocks ++ (comments ++ (icons ++ appls))) ≡ [] =
    flat_map-append nodes_said blocks (comments ++ (icons ++ appls))
    ∙ (λ i. flat-none (λ b. row.Block b) (λ b. refl) (flat_map fork_blocks v.rows) i
    ++ (flat_map-append nodes_said comments (icons ++ appls)
    ∙ (λ j. flat-none (λ c. row.Comment c) (λ c. refl) v.comments j
    ++ (flat_map-append nodes_said icons appls ∙ (λ k. flat-none (λ x. row.Icon x) (λ x. refl) v.icons k ++ flat-none (λ a. row.Appl a) (λ a. refl) v.appls k)) j)) i) in
    ap (map loaded_row) (flat_map-append nodes_said nodes (blocks ++ (comments ++ (icons ++ appls))) ∙ ap (λ l. flat_map nodes_said nodes ++ l) none ∙ append-nil (flat_map nodes_said nodes))
    ∙ flat-nodes v.rows

-- the root has the volume's name
some_found : {A : Type 0} (p : A → Bool) (xs : List A) → is_some (find p xs) ≡ list_any p xs
some_found p [] = refl
some_found p (x ∷ xs) = elim (p x) as (λ b. is_some (cond b (Some x) (find p xs)) ≡ (b || list_any p xs)) [ true ↦ refl | false ↦ some_found p xs ]

found_both : {A : Type 0} (p q : A → Bool) (xs : List A) → list_all q xs ≡ true → IfSome (find p xs) (λ x. (p x ≡ true) × (q x ≡ true))
found_both p q [] a = tt
found_both p q (x ∷ xs) a = elim (p x) as (λ b. p x ≡ b → IfSome (cond b (Some x) (find p xs)) (λ x. (p x ≡ true) × (q x ≡ true))) [
  | true ↦ λ e. (e, left_true (q x) _ a)
  | false ↦ λ e. found_both p q xs (right_true (q x) _ a)
] refl

named_root : (v : VolumeState) (o : Option VolumeRow) → IfSome o (λ r. ((r.id == root_id) ≡ true) × (is_in_place v r ≡ true)) → is_some o ≡ true → unwrap_or (option_map (λ (r : VolumeRow). r.name) (option_map zeroed o)) [] ≡ v.name
named_root v None two some = absurd (cc)
named_root v (Some r) two some =
    let place = then_of (r.id == root_id) (r.dir && ((r.parent == root_parent) && bytes_eq r.name v.name)) _ two.0 two.1 in
    (bytes_eq-Decides r.name v.name).0 (right_true (r.parent == root_parent) _ (right_true r.dir _ place))

rooted : (v : VolumeState) → is_tree v ≡ true → (has_node v.rows root_id ≡ true) × (list_all (is_in_place v) v.rows ≡ true)
unfolding is_tree
rooted v e =
    let two = right_true (are_apart (λ (a : VolumeRow) b. a.id == b.id) v.rows) _ e in
    (left_true (has_node v.rows root_id) _ two, right_true (has_node v.rows root_id) _ two)

root_name : (v : VolumeState) → IsSoundVolume v → name_of (map zeroed v.rows) root_id ≡ v.name
unfolding row_at
root_name v s =
    let two = rooted v s.tree in
    ap (λ o. unwrap_or (option_map (λ (r : VolumeRow). r.name) o) []) (find-map (λ (r : VolumeRow). r.id == root_id) zeroed v.rows)
    ∙ named_root v (find (λ (r : VolumeRow). r.id == root_id) v.rows) (found_both (λ (r : VolumeRow). r.id == root_id) (is_in_place v) v.rows two.1) (some_found (λ (r : VolumeRow). r.id == root_id) v.rows ∙ two.0)

pub restored_is : (v : VolumeState) → IsSoundVolume v → restored (head_said (row.Head (tables_of version v).head)) (flat_map nodes_said (rows_of (tables_of version v))) ≡ start v
unfolding restored
restored_is v s =
    (λ i. record { name = name_of (said v i) root_id; created = v.created; modified = v.modified; backup = v.backup; next_id = v.next_id; rows = said v i; comments = []; icons = []; appls = [] })
    ∙ ap (λ (name : List ℕ). record (start v) { name = name }) (root_name v s)
