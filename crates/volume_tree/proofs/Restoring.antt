-- A volume made of nodes with the lengths of their forks.
use Rattle.std.proofs.Common.{◌==◌, ◌≡◌, ◌∙◌, ap, sym, refl, subst, ℕ, ◌+◌, ◌≤◌, ◌<◌, Bool, true, false, not, ◌&&◌, ◌||◌, cond, List, [], ◌∷◌, ◌++◌, map, length, take, Option, Some, None, arith}
use Rattle.std.specs.Prelude.{bit_and, is_some, nat_le, nat_lt, option_map, replicate, slice_index_or, sum_by, unwrap_or}
use Rattle.std.specs.List.{list_any, list_all, find}
use Rattle.std.specs.Ordering.{nat_cmp}
use Rattle.std.proofs.lemmas.Bool.{and_parts, and_from, cond_both, cond-true, cond-false, eqb-true, eq-eqb, ne_eqb, lt-ltb, ltb-true, le-leb, not-true}
use Rattle.std.proofs.lemmas.List.{length-replicate, take_more}
use Rattle.std.proofs.lemmas.List.Sums.{sum_by-cons}
use Rattle.afp_base.specs.Apart.{are_apart}
use Rattle.volume_spec.specs.Shared.{name_of}
use Rattle.volume_spec.specs.Order.{rises_from}
use Rattle.afp_base.specs.Limits.{most_fork_bytes}
use Rattle.volume_spec.specs.SoundVolume.{IsSoundVolume, are_named_alike, fork_bytes, has_apart_names, has_fit_privileges, has_node, has_rising_ids, is_formed, is_in_place, is_named, dir_attributes, file_attributes, row_bytes, last_next_id}
use Rattle.volume_spec.specs.VolumeState.{Row, VolumeState, root_id, first_id}
use Rattle.volume_spec.specs.Walk.{row_at}
use Rattle.volume_spec.proofs.Formed.{formed-parts, limit-parts}
use Rattle.volume_spec.proofs.Orders.{order-parts}
use Rattle.volume_spec.proofs.Trees.{drawn, tree-parts}
use Rattle.node_rows.specs.Kept.{RowsValue}
use Rattle.sorted_map.specs.map.Entries.{at}
use Rattle.volume_tree.specs.Kept.{Forks, data_of, resource_of, rows_of, state_of}
use Rattle.volume_tree.specs.lemma.Kept.{IsKeptVolume, has_forks}
use Rattle.volume_tree.specs.Restored.{IsRestorable, restored, loaded_row}
use Rattle.volume_tree.specs.lemma.Restored.{forks_in, has_short_forks, loaded_bytes, loaded_node, or_forks, own_forks}
use Rattle.volume_tree.specs.declared.head.Dates.{Dates}
use Rattle.volume_tree.specs.declared.head.VolumeHead.{VolumeHead}
use Rattle.volume_tree.specs.declared.forks.FileForks.{FileForks}
use Rattle.volume_tree.specs.declared.restore.LoadedNode.{LoadedNode}
use Rattle.afp_base.proofs.Facts.{never, never_both, or-true}
use Rattle.afp_base.proofs.ListFacts.{any-at, apart-map, find-none, none-all}

other-way : (a b : ℕ) → (a == b) ≡ false → (b == a) ≡ false
other-way a b h = cond_both (b == a) true false (λ t. (b == a) ≡ false) (λ is. absurd (never_both (a == b) (eq-eqb a b (sym (eqb-true b a is))) h)) (λ other. other)

-- one more node

or-assoc : (a b c : Option FileForks) → or_forks (or_forks a b) c ≡ or_forks a (or_forks b c)
or-assoc None b c = refl
or-assoc (Some a) b c = refl

or-none : (a : Option FileForks) → or_forks a None ≡ a
or-none None = refl
or-none (Some a) = refl

pub forks-last : (nodes : List LoadedNode) (l : LoadedNode) (q : ℕ) → forks_in (nodes ++ l ∷ []) q ≡ or_forks (own_forks l q) (forks_in nodes q)
forks-last [] l q = sym (or-none (own_forks l q))
forks-last (x ∷ nodes) l q = ap (λ o. or_forks o (own_forks x q)) (forks-last nodes l q) ∙ or-assoc (own_forks l q) (forks_in nodes q) (own_forks x q)

pub forks-next : (nodes : List LoadedNode) (i : ℕ) (l : LoadedNode) (q : ℕ) → i < length nodes → l ≡ slice_index_or nodes i l → or_forks (own_forks l q) (forks_in (take i nodes) q) ≡ forks_in (take (i + 1) nodes) q
forks-next nodes i l q within is =
    sym (forks-last (take i nodes) l q) ∙ ap (λ (r : LoadedNode). forks_in (take i nodes ++ r ∷ []) q) is ∙ ap (λ (t : List LoadedNode). forks_in t q) (sym (take_more nodes i l within))

-- what is asked of the nodes is what is asked of their rows

pub same-rising : (low : ℕ) (nodes : List LoadedNode) → rises_from (λ (row : Row). row.id) low (map loaded_node nodes) ≡ rises_from (λ (row : Row). row.id) low (map loaded_row nodes)
same-rising low [] = refl
same-rising low (l ∷ nodes) = ap (λ t. nat_lt low l.node.id && t) (same-rising l.node.id nodes)

pub same-names : (nodes : List LoadedNode) → are_apart are_named_alike (map loaded_node nodes) ≡ are_apart are_named_alike (map loaded_row nodes)
same-names nodes = apart-map are_named_alike loaded_node nodes ∙ sym (apart-map are_named_alike loaded_row nodes)

pub same-node : (id : ℕ) (nodes : List LoadedNode) → has_node (map loaded_node nodes) id ≡ has_node (map loaded_row nodes) id
same-node id [] = refl
same-node id (l ∷ nodes) = ap (λ t. (l.node.id == id) || t) (same-node id nodes)

pub same-name : (id : ℕ) (nodes : List LoadedNode) → name_of (map loaded_node nodes) id ≡ name_of (map loaded_row nodes) id
unfolding row_at
same-name id nodes = ap (λ o. unwrap_or o []) (found nodes)
  where
    found : (nodes : List LoadedNode) → option_map (λ (row : Row). row.name) (find (λ (row : Row). row.id == id) (map loaded_node nodes)) ≡ option_map (λ (row : Row). row.name) (find (λ (row : Row). row.id == id) (map loaded_row nodes))
    found [] = refl
    found (l ∷ nodes) =
        cond_both (l.node.id == id) (Some (loaded_row l)) (find (λ (row : Row). row.id == id) (map loaded_row nodes))
        (λ o. option_map (λ (row : Row). row.name) (cond (l.node.id == id) (Some l.node) (find (λ (row : Row). row.id == id) (map loaded_node nodes))) ≡ option_map (λ (row : Row). row.name) o)
        (λ here. ap (λ o. option_map (λ (row : Row). row.name) o) (cond-true (l.node.id == id) (Some l.node) (find (λ (row : Row). row.id == id) (map loaded_node nodes)) here))
        (λ other. ap (λ o. option_map (λ (row : Row). row.name) o) (cond-false (l.node.id == id) (Some l.node) (find (λ (row : Row). row.id == id) (map loaded_node nodes)) other) ∙ found nodes)

-- ids are below the next one
pub below-next : (v : VolumeState) (row : Row) → first_id ≤ v.next_id → is_in_place v row ≡ true → nat_lt row.id v.next_id ≡ true
below-next v row low placed =
    cond_both (row.id == root_id) true false (λ t. nat_lt row.id v.next_id ≡ true)
    (λ here. let is : row.id ≡ 2 = eqb-true row.id root_id here in lt-ltb row.id v.next_id (omega arith))
    (λ other. let d = (drawn v row other placed).high in lt-ltb row.id v.next_id d)

pub all-below : (v : VolumeState) (nodes : List LoadedNode) → first_id ≤ v.next_id → list_all (is_in_place v) (map loaded_row nodes) ≡ true → list_all (λ (row : Row). nat_lt row.id v.next_id) (map loaded_node nodes) ≡ true
all-below v [] low h = refl
all-below v (l ∷ nodes) low h =
    let e = and_parts (is_in_place v (loaded_row l)) (list_all (is_in_place v) (map loaded_row nodes)) h in
    and_from (nat_lt l.node.id v.next_id) (list_all (λ (row : Row). nat_lt row.id v.next_id) (map loaded_node nodes)) (below-next v (loaded_row l) low e.0) (all-below v nodes low e.1)

-- bytes

row-bytes : (l : LoadedNode) → row_bytes (loaded_row l) ≡ loaded_bytes l
row-bytes l = λ i. length-replicate {A = ℕ} l.data_len 0 i + length-replicate {A = ℕ} l.resource_len 0 i

pub all-bytes : (nodes : List LoadedNode) → fork_bytes (map loaded_row nodes) ≡ sum_by loaded_bytes nodes
all-bytes [] = refl
all-bytes (l ∷ nodes) = sum_by-cons row_bytes (loaded_row l) (map loaded_row nodes) ∙ (λ i. row-bytes l i + all-bytes nodes i) ∙ sym (sum_by-cons loaded_bytes l nodes)

pub all-short : (nodes : List LoadedNode) → sum_by loaded_bytes nodes ≤ most_fork_bytes → list_all has_short_forks nodes ≡ true
all-short [] few = refl
all-short (l ∷ nodes) few =
    let whole : sum_by loaded_bytes (l ∷ nodes) ≡ loaded_bytes l + sum_by loaded_bytes nodes = sum_by-cons loaded_bytes l nodes in
    and_from (has_short_forks l) (list_all has_short_forks nodes)
    (and_from (nat_le l.data_len most_fork_bytes) (nat_le l.resource_len most_fork_bytes) (le-leb l.data_len most_fork_bytes (omega arith)) (le-leb l.resource_len most_fork_bytes (omega arith)))
    (all-short nodes (omega arith))

-- forks by id

-- what is found shows each node's lengths, and the forks of files are there
pub Each : (ℕ → Option FileForks) → List LoadedNode → Type 0
Each found [] = Unit {0}
Each found (l ∷ nodes) = (data_of (found l.node.id) ≡ replicate l.data_len 0) × (resource_of (found l.node.id) ≡ replicate l.resource_len 0) × ((l.node.dir || is_some (found l.node.id)) ≡ true) × Each found nodes

none-own : (l : LoadedNode) (q : ℕ) → (q == l.node.id) ≡ false → own_forks l q ≡ None
none-own l q other =
    let kept : FileForks = record { data_fork = replicate l.data_len 0; resource_fork = replicate l.resource_len 0 } in
    let here : Option FileForks = cond (q == l.node.id) (Some kept) None in
    elim l.node.dir as (λ t. cond t None here ≡ None) [ true ↦ refl | false ↦ cond-false (q == l.node.id) (Some kept) None other ]

pub absent : (nodes : List LoadedNode) (q : ℕ) → list_all (λ (l : LoadedNode). not (q == l.node.id)) nodes ≡ true → forks_in nodes q ≡ None
absent [] q h = refl
absent (l ∷ nodes) q h =
    let e = and_parts (not (q == l.node.id)) (list_all (λ (l : LoadedNode). not (q == l.node.id)) nodes) h in
    ap (λ o. or_forks o (own_forks l q)) (absent nodes q e.1) ∙ none-own l q (not-true (q == l.node.id) e.0)

-- the forks of one more node, in front, are seen at its id alone
before : (l : LoadedNode) (nodes : List LoadedNode) (q : ℕ) → (q == l.node.id) ≡ false → forks_in (l ∷ nodes) q ≡ forks_in nodes q
before l nodes q other = ap (λ o. or_forks (forks_in nodes q) o) (none-own l q other) ∙ or-none (forks_in nodes q)

each-same : (f g : ℕ → Option FileForks) (test : LoadedNode → Bool) (nodes : List LoadedNode) → ((l : LoadedNode) → test l ≡ true → g l.node.id ≡ f l.node.id) → list_all test nodes ≡ true → Each f nodes → Each g nodes
unfolding Each
each-same f g test [] same h each = tt
each-same f g test (l ∷ nodes) same h each =
    let e = and_parts (test l) (list_all test nodes) h in
    let is : g l.node.id ≡ f l.node.id = same l e.0 in (
      ap data_of is ∙ each.0,
      ap resource_of is ∙ each.1,
      ap (λ o. l.node.dir || is_some o) is ∙ each.2,
      each-same f g test nodes same e.1 each.3,
    )

-- a directory has no bytes
empty-dir : (l : LoadedNode) → is_formed (loaded_row l) ≡ true → l.node.dir ≡ true → (l.data_len ≡ 0) × (l.resource_len ≡ 0)
empty-dir l formed dir =
    let bytes : List ℕ = replicate l.data_len 0 in
    let resource : List ℕ = replicate l.resource_len 0 in
    let attributes : ℕ = l.node.attributes in
    let as_dir : Bool = (bit_and attributes dir_attributes == attributes) && ((length bytes == 0) && ((length resource == 0) && not l.node.filed)) in
    let as_file : Bool = bit_and attributes file_attributes == attributes in
    let f = and_parts (has_fit_privileges l.node.dir l.node.privileges) (is_named (loaded_row l) && cond l.node.dir as_dir as_file) formed in
    let a = and_parts (is_named (loaded_row l)) (cond l.node.dir as_dir as_file) f.1 in
    let b = and_parts (bit_and attributes dir_attributes == attributes) ((length bytes == 0) && ((length resource == 0) && not l.node.filed)) (sym (cond-true l.node.dir as_dir as_file dir) ∙ a.1) in
    let d = and_parts (length bytes == 0) ((length resource == 0) && not l.node.filed) b.1 in
    let e = and_parts (length resource == 0) (not l.node.filed) d.1 in
    (sym (length-replicate {A = ℕ} l.data_len 0) ∙ eqb-true (length bytes) 0 d.0, sym (length-replicate {A = ℕ} l.resource_len 0) ∙ eqb-true (length resource) 0 e.0)

-- a node's own forks
OwnShown : LoadedNode → Option FileForks → Type 0
OwnShown l o = (data_of o ≡ replicate l.data_len 0) × (resource_of o ≡ replicate l.resource_len 0) × ((l.node.dir || is_some o) ≡ true)

own-shown : (l : LoadedNode) → is_formed (loaded_row l) ≡ true → OwnShown l (own_forks l l.node.id)
unfolding OwnShown
own-shown l formed =
    let kept : FileForks = record { data_fork = replicate l.data_len 0; resource_fork = replicate l.resource_len 0 } in
    let here : Option FileForks = cond (l.node.id == l.node.id) (Some kept) None in
    let is : here ≡ Some kept = cond-true (l.node.id == l.node.id) (Some kept) None (eq-eqb l.node.id l.node.id refl) in
    cond_both l.node.dir None here (λ o. OwnShown l o)
    (λ dir.
    let none = empty-dir l formed dir in
    (ap (λ n. replicate n 0) (sym none.0), ap (λ n. replicate n 0) (sym none.1), ap (λ t. t || false) dir))
    (λ file. subst (λ o. OwnShown l o) (sym is) (refl, refl, or-true l.node.dir))

pub all-each : (nodes : List LoadedNode) → are_apart (λ (a : LoadedNode) b. a.node.id == b.node.id) nodes ≡ true → list_all is_formed (map loaded_row nodes) ≡ true → Each (λ q. forks_in nodes q) nodes
unfolding Each OwnShown
all-each [] apart formed = tt
all-each (l ∷ nodes) apart formed =
    let e = and_parts (not (list_any (λ (b : LoadedNode). l.node.id == b.node.id) nodes)) (are_apart (λ (a : LoadedNode) b. a.node.id == b.node.id) nodes) apart in
    let f = and_parts (is_formed (loaded_row l)) (list_all is_formed (map loaded_row nodes)) formed in
    let others : list_all (λ (b : LoadedNode). not (l.node.id == b.node.id)) nodes ≡ true = none-all (λ (b : LoadedNode). l.node.id == b.node.id) nodes e.0 in
    let own = own-shown l f.0 in
    let is : forks_in (l ∷ nodes) l.node.id ≡ own_forks l l.node.id = ap (λ o. or_forks o (own_forks l l.node.id)) (absent nodes l.node.id others) in (
      ap data_of is ∙ own.0,
      ap resource_of is ∙ own.1,
      ap (λ o. l.node.dir || is_some o) is ∙ own.2,
      each-same (λ q. forks_in nodes q) (λ q. forks_in (l ∷ nodes) q) (λ (b : LoadedNode). not (l.node.id == b.node.id)) nodes
          (λ b other. before l nodes b.node.id (other-way l.node.id b.node.id (not-true (l.node.id == b.node.id) other))) others (all-each nodes e.1 f.1),
    )

-- so the rows are the nodes with their lengths, and each file's forks are kept
pub rows-are : (forks : Forks) (nodes : List LoadedNode) → Each (λ q. at nat_cmp forks q) nodes → rows_of forks (map loaded_node nodes) ≡ map loaded_row nodes
unfolding rows_of Each
rows-are forks [] each = refl
rows-are forks (l ∷ nodes) each =
    λ i. record l.node { data_fork = each.0 i; resource_fork = each.1 i } ∷ rows-are forks nodes each.3 i

pub files-are : (forks : Forks) (nodes : List LoadedNode) → Each (λ q. at nat_cmp forks q) nodes → list_all (has_forks forks) (map loaded_node nodes) ≡ true
unfolding Each
files-are forks [] each = refl
files-are forks (l ∷ nodes) each = and_from (has_forks forks l.node) (list_all (has_forks forks) (map loaded_node nodes)) each.2 (files-are forks nodes each.3)

pub each-found : (f g : ℕ → Option FileForks) (nodes : List LoadedNode) → ((q : ℕ) → g q ≡ f q) → Each f nodes → Each g nodes
unfolding Each
each-found f g [] same each = tt
each-found f g (l ∷ nodes) same each = (
  ap data_of (same l.node.id) ∙ each.0,
  ap resource_of (same l.node.id) ∙ each.1,
  ap (λ o. l.node.dir || is_some o) (same l.node.id) ∙ each.2,
  each-found f g nodes same each.3,
)

-- no id is as high as the next one
pub none-high : (nodes : List LoadedNode) (next q : ℕ) → next ≤ q → list_all (λ (row : Row). nat_lt row.id next) (map loaded_node nodes) ≡ true → list_all (λ (l : LoadedNode). not (q == l.node.id)) nodes ≡ true
none-high [] next q high h = refl
none-high (l ∷ nodes) next q high h =
    let e = and_parts (nat_lt l.node.id next) (list_all (λ (row : Row). nat_lt row.id next) (map loaded_node nodes)) h in
    let below : l.node.id < next = ltb-true l.node.id next e.0 in
    and_from (not (q == l.node.id)) (list_all (λ (l : LoadedNode). not (q == l.node.id)) nodes) (ap not (ne_eqb q l.node.id (λ same. omega arith))) (none-high nodes next q high e.1)

-- a node that is there is found
pub found-there : (rows : List Row) (id : ℕ) → row_at rows id ≡ None → has_node rows id ≡ true → ⊥
unfolding row_at
found-there rows id none there =
    any-at (λ (row : Row). row.id == id) (λ (row : Row). not (row.id == id)) rows there (find-none (λ (row : Row). row.id == id) rows none) (λ row is other. never (row.id == id) is other)

-- all that is needed of what is to be restored
pub record RestoreParts (head : VolumeHead) (nodes : List LoadedNode) : Type 0 where
  pub few : sum_by loaded_bytes nodes ≤ most_fork_bytes
  pub rising : has_rising_ids (map loaded_node nodes) ≡ true
  pub below : list_all (λ (row : Row). nat_lt row.id head.next_id) (map loaded_node nodes) ≡ true
  pub names : are_apart are_named_alike (map loaded_node nodes) ≡ true
  pub low : first_id ≤ head.next_id
  pub high : head.next_id ≤ last_next_id
  pub root : has_node (map loaded_node nodes) root_id ≡ true
  pub each : Each (λ q. forks_in nodes q) nodes

pub restore-parts : (head : VolumeHead) (nodes : List LoadedNode) → IsRestorable head nodes → RestoreParts head nodes
unfolding restored has_rising_ids has_apart_names
restore-parts head nodes r =
    let v : VolumeState = restored head nodes in
    let tree = tree-parts v r.sound.tree in
    let formed = formed-parts v r.sound.formed in
    let limits = limit-parts v r.sound.limits in
    let bytes : fork_bytes (map loaded_row nodes) ≤ most_fork_bytes = limits.bytes in
    let are : fork_bytes (map loaded_row nodes) ≡ sum_by loaded_bytes nodes = all-bytes nodes in
    record {
      few = omega (arith, bytes, are);
      rising = same-rising 0 nodes ∙ (order-parts v r.sound.order).rows;
      below = all-below v nodes formed.low tree.placed;
      names = same-names nodes ∙ r.sound.names;
      low = formed.low;
      high = formed.high;
      root = same-node root_id nodes ∙ tree.root;
      each = all-each nodes (sym (apart-map (λ (a : Row) b. a.id == b.id) loaded_row nodes) ∙ tree.apart) formed.rows;
    }

-- what was made of it
pub record Restored (head : VolumeHead) (nodes : List LoadedNode) (name : List ℕ) (dates : Dates) (rows : RowsValue) (forks : Forks) (used : ℕ) : Type 0 where
  pub may : IsRestorable head nodes
  pub name_is : name ≡ name_of rows.rows root_id
  pub dates_are : dates ≡ record { created = head.created; modified = head.modified; backup = head.backup }
  pub rows_are : rows.rows ≡ map loaded_node nodes
  pub next_is : rows.next_id ≡ head.next_id
  pub forks_are : (q : ℕ) → at nat_cmp forks q ≡ forks_in nodes q
  pub used_is : used ≡ sum_by loaded_bytes nodes

shown-rows : {head : VolumeHead} {nodes : List LoadedNode} {name : List ℕ} {dates : Dates} {rows : RowsValue} {forks : Forks} {used : ℕ} → Restored head nodes name dates rows forks used → rows_of forks rows.rows ≡ map loaded_row nodes
shown-rows {head} {nodes} {name} {dates} {rows} {forks} r =
    ap (λ l. rows_of forks l) r.rows_are
    ∙ rows-are forks nodes (each-found (λ q. forks_in nodes q) (λ q. at nat_cmp forks q) nodes r.forks_are (restore-parts head nodes r.may).each)

pub restored-state : {head : VolumeHead} {nodes : List LoadedNode} {name : List ℕ} {dates : Dates} {rows : RowsValue} {forks : Forks} {used : ℕ} → Restored head nodes name dates rows forks used
    → state_of name dates rows forks ≡ restored head nodes
unfolding restored
restored-state {head} {nodes} {name} {dates} {rows} {forks} r =
    let named : name ≡ name_of (map loaded_row nodes) root_id = r.name_is ∙ ap (λ l. name_of l root_id) r.rows_are ∙ same-name root_id nodes in
    let shown = shown-rows r in
    λ i. record {
      name = named i;
      created = (r.dates_are i).created;
      modified = (r.dates_are i).modified;
      backup = (r.dates_are i).backup;
      next_id = r.next_is i;
      rows = shown i;
      comments = [];
      icons = [];
      appls = [];
    }

pub restored-kept : {head : VolumeHead} {nodes : List LoadedNode} {name : List ℕ} {dates : Dates} {rows : RowsValue} {forks : Forks} {used : ℕ} → Restored head nodes name dates rows forks used → IsKeptVolume name dates rows forks used
restored-kept {head} {nodes} {name} {dates} {rows} {forks} {used} r =
    let parts = restore-parts head nodes r.may in
    let each : Each (λ q. at nat_cmp forks q) nodes = each-found (λ q. forks_in nodes q) (λ q. at nat_cmp forks q) nodes r.forks_are parts.each in
    let high : (q : ℕ) → head.next_id ≤ q → at nat_cmp forks q ≡ None = λ q above. r.forks_are q ∙ absent nodes q (none-high nodes head.next_id q above parts.below) in
    let next : at nat_cmp forks rows.next_id ≡ None = ap (λ n. at nat_cmp forks n) r.next_is ∙ high head.next_id (omega arith) in
    record {
      sound = subst IsSoundVolume (sym (restored-state r)) r.may.sound;
      files = ap (λ l. list_all (has_forks forks) l) r.rows_are ∙ files-are forks nodes each;
      no_data = ap data_of next;
      no_resource = ap resource_of next;
      none_behind = λ id behind. high id (let n = r.next_is in omega arith);
      bytes = r.used_is ∙ sym (all-bytes nodes) ∙ sym (ap fork_bytes (shown-rows r));
    }
