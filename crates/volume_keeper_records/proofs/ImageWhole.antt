-- The tables of a sound volume are whole.
use Rattle.std.proofs.Common.{◌≡◌, ◌∙◌, ℕ, zero, suc, ◌+◌, ◌<◌, ◌≤◌, Bool, true, false, cond, not, List, [], ◌∷◌, map, length, refl, sym, ap, arith}
use Rattle.std.specs.Prelude.{nat_le, nat_lt, ◌&&◌, ◌||◌, ◌==◌, bytes_eq, bit_and, sum_by, unwrap_or, is_none, Some, None}
use Rattle.std.specs.List.{list_all, list_any}
use Rattle.std.proofs.lemmas.Bool.{and_from, and_parts, eq-eqb, le-ltb, leb-true, lt-ltb, ltb-true, ne_eqb, not-true, not_from_false, or_from, or_left, or_right}
use Rattle.volume_spec.specs.VolumeState.{VolumeState, root_id, root_parent, first_id, Row as VolumeRow, Privileges, guest, new_privileges}
use Rattle.afp_base.specs.Apart.{are_apart}
use Rattle.afp_base.specs.Limits.{most_fork_bytes}
use Rattle.volume_spec.specs.SoundVolume.{is_in_place, are_named_alike, has_node, has_file, leads_to_root, is_named, most_nodes, file_attributes, dir_attributes, is_formed as is_formed_row, has_fit_privileges}
use Rattle.volume_spec.specs.TypedVolume.{is_quad, is_typed_row, are_typed}
use Rattle.volume_keeper_records.specs.declared.rows.Node.{Node}
use Rattle.volume_keeper_records.specs.declared.rows.TableRow.TheVariants as row
use Rattle.volume_keeper_records.specs.Shape.{bare_row, is_formed_node, is_root_or_other, is_sound_node, is_of_version}
use Rattle.volume_keeper_records.specs.Image.{tables_of, node_of}
use Rattle.volume_keeper_records.specs.FirstBad.{nodes_to, lacks_parent, is_out_of_range, passes_limit}
use Rattle.volume_keeper_records.proofs.Chains.{Chain, sum-filter, sum-map}
use Rattle.volume_keeper_records.proofs.VolumeSound.{alike, no_twins}
use Rattle.volume_keeper_records.proofs.SoundFacts.{SoundFacts}
use Rattle.afp_base.proofs.Facts.{cases, else_of, left_true, pick, right_true, then_of}
use Rattle.afp_base.proofs.ListFacts.{all-and, all-weaker, any-map, any-same, length-filter-le, length-mapped, none-any}
use Rattle.volume_keeper_records.specs.Records.{old_version}
use Rattle.volume_spec.proofs.TypedEdits.{TypedRow, row-parts, row-whole}

-- ---- the tree is the same with no bytes in its forks

pub nodes_same : (version : ℕ) (rs : List VolumeRow) (id : ℕ) → has_node (map bare_row (map (node_of version) rs)) id ≡ has_node rs id
nodes_same version rs id = any-map (λ (r : VolumeRow). r.id == id) bare_row (map (node_of version) rs) ∙ any-map (λ (n : Node). n.id == id) (node_of version) rs

pub files_same : (version : ℕ) (rs : List VolumeRow) (id : ℕ) → has_file (map bare_row (map (node_of version) rs)) id ≡ has_file rs id
files_same version rs id = any-map (λ (r : VolumeRow). r.id == id && not r.dir) bare_row (map (node_of version) rs) ∙ any-map (λ (n : Node). n.id == id && not n.is_directory) (node_of version) rs

leads_same : (version : ℕ) (rs : List VolumeRow) (steps id : ℕ) → leads_to_root (map bare_row (map (node_of version) rs)) steps id ≡ leads_to_root rs steps id
leads_same version rs zero id = refl
leads_same version rs (suc steps) id = ap (λ b. (id == root_id) || b)
    (any-map (λ (r : VolumeRow). (r.id == id) && (r.dir && leads_to_root (map bare_row (map (node_of version) rs)) steps r.parent)) bare_row (map (node_of version) rs)
    ∙ any-map (λ (n : Node). (n.id == id) && (n.is_directory && leads_to_root (map bare_row (map (node_of version) rs)) steps n.parent)) (node_of version) rs
    ∙ any-same (λ (r : VolumeRow). (r.id == id) && (r.dir && leads_to_root (map bare_row (map (node_of version) rs)) steps r.parent)) (λ (r : VolumeRow). (r.id == id) && (r.dir && leads_to_root rs steps r.parent)) rs
    (λ r. ap (λ b. (r.id == id) && (r.dir && b)) (leads_same version rs steps r.parent)))

-- ---- the shape of nodes

-- owner, group and rights as records of a version say them are fit and in their ranges
told_fit : (old d : Bool) (p : Privileges) → has_fit_privileges d p ≡ true → has_fit_privileges d (unwrap_or (cond old None (Some p)) (new_privileges d guest)) ≡ true
told_fit false d p h = h
told_fit true true p h = refl
told_fit true false p h = refl

told_typed : (old d : Bool) (p : Privileges) → are_typed p ≡ true → are_typed (unwrap_or (cond old None (Some p)) (new_privileges d guest)) ≡ true
told_typed false d p h = h
told_typed true true p h = refl
told_typed true false p h = refl

told_of : (old : Bool) (p : Privileges) → cond old (is_none (cond old None (Some p))) (not (is_none (cond old None (Some p)))) ≡ true
told_of true p = refl
told_of false p = refl

formed_bare : (d named attr_d attr_f filed x y : Bool) → (named && cond d (attr_d && (x && (y && not filed))) attr_f) ≡ true → ((named && cond d (attr_d && (true && (true && not filed))) attr_f) ≡ true) × (cond d (x && y) true ≡ true)
formed_bare true true true attr_f false true true e = (refl, refl)
formed_bare true true true attr_f true true true e = absurd (cc)
formed_bare true true true attr_f filed true false e = absurd (cc)
formed_bare true true true attr_f filed false y e = absurd (cc)
formed_bare true true false attr_f filed x y e = absurd (cc)
formed_bare true false attr_d attr_f filed x y e = absurd (cc)
formed_bare false named attr_d attr_f filed x y e = (e, refl)

small_fork : (k m : ℕ) → k ≤ m → m ≤ 268435456 → is_quad k ≡ true
small_fork k m h l = lt-ltb k 18446744073709551616 (omega (arith, h, l))

-- what is known of each row
abbrev pub is_good_row : VolumeState → VolumeRow → Bool
is_good_row v r = (is_typed_row r && is_formed_row r) && (is_in_place v r && nat_le (length r.data_fork + length r.resource_fork) most_fork_bytes)

pub node_formed : (version : ℕ) (v : VolumeState) (r : VolumeRow) → is_good_row v r ≡ true → is_sound_node v.name (node_of version r) ≡ true
node_formed version v r g =
    let first = left_true (is_typed_row r && is_formed_row r) (is_in_place v r && nat_le (length r.data_fork + length r.resource_fork) most_fork_bytes) g in
    let second = right_true (is_typed_row r && is_formed_row r) (is_in_place v r && nat_le (length r.data_fork + length r.resource_fork) most_fork_bytes) g in
    let place = left_true (is_in_place v r) (nat_le (length r.data_fork + length r.resource_fork) most_fork_bytes) second in
    let small : length r.data_fork + length r.resource_fork ≤ 268435456 = leb-true _ _ (right_true (is_in_place v r) (nat_le (length r.data_fork + length r.resource_fork) most_fork_bytes) second) in
    let t : TypedRow r = row-parts r (left_true (is_typed_row r) (is_formed_row r) first) in
    let whole = right_true (is_typed_row r) (is_formed_row r) first in
    let fit = told_fit (version == old_version) r.dir r.privileges (left_true (has_fit_privileges r.dir r.privileges) _ whole) in
    let typed = row-whole (bare_row (node_of version r)) (record { id = t.id; parent = t.parent; attributes = t.attributes; created = t.created; modified = t.modified; backup = t.backup; finder = t.finder; privileges = told_typed (version == old_version) r.dir r.privileges t.privileges; name = t.name; data_fork = refl; resource_fork = refl }) in
    let formed = formed_bare r.dir (is_named r) (bit_and r.attributes dir_attributes == r.attributes) (bit_and r.attributes file_attributes == r.attributes) r.filed (length r.data_fork == 0) (length r.resource_fork == 0) (right_true (has_fit_privileges r.dir r.privileges) _ whole) in
    let data_length = small_fork (length r.data_fork) 268435456 (omega (arith, small)) (omega arith) in
    let resource_length = small_fork (length r.resource_fork) 268435456 (omega (arith, small)) (omega arith) in
    let root : is_root_or_other v.name (node_of version r) ≡ true = pick (r.id == root_id) (r.dir && ((r.parent == root_parent) && bytes_eq r.name v.name)) true
    (λ e. then_of (r.id == root_id) (r.dir && ((r.parent == root_parent) && bytes_eq r.name v.name)) ((nat_le first_id r.id && nat_lt r.id v.next_id) && leads_to_root v.rows (length v.rows) r.parent) e place) (λ e. refl) in
    λ i. typed i && ((fit i && formed.0 i) && (((data_length i && resource_length i) && formed.1 i) && root i))

pub node_labelled : (version : ℕ) (v : VolumeState) (r : VolumeRow) → is_good_row v r ≡ true → is_formed_node (record { version = version; name = v.name }) (node_of version r) ≡ true
node_labelled version v r g = and_from (is_of_version version (node_of version r).privileges) (is_sound_node v.name (node_of version r)) (told_of (version == old_version) r.privileges) (node_formed version v r g)

-- ---- no rule holds of a node

not_below : (a b : ℕ) → nat_lt a b ≡ true → nat_le b a ≡ false
not_below a b e = grind (arith, e)

root_low : (id next : ℕ) → (id == root_id) ≡ true → (not (id == root_id) && (nat_lt id first_id || nat_le next id)) ≡ false
root_low id next e = ap (λ b. not b && (nat_lt id first_id || nat_le next id)) e

module _ (version : ℕ) (v : VolumeState) (facts : SoundFacts v) where
  pub node_placed : (r : VolumeRow) → is_in_place v r ≡ true → lacks_parent (tables_of version v) (row.Node (node_of version r)) ≡ false
  node_placed r place = cases (r.id == root_id)
      (λ e. ap (λ b. not b && not (has_node (map bare_row (map (node_of version) v.rows)) root_id && leads_to_root (map bare_row (map (node_of version) v.rows)) (length (map bare_row (map (node_of version) v.rows))) r.parent)) e)
      (λ e.
      let leads = right_true (nat_le first_id r.id && nat_lt r.id v.next_id) (leads_to_root v.rows (length v.rows) r.parent) (else_of (r.id == root_id) (r.dir && ((r.parent == root_parent) && bytes_eq r.name v.name)) ((nat_le first_id r.id && nat_lt r.id v.next_id) && leads_to_root v.rows (length v.rows) r.parent) e place) in
      let root = nodes_same version v.rows root_id ∙ facts.root in
      let same : leads_to_root (map bare_row (map (node_of version) v.rows)) (length (map bare_row (map (node_of version) v.rows))) r.parent ≡ true =
      ap (λ k. leads_to_root (map bare_row (map (node_of version) v.rows)) k r.parent) (length-mapped bare_row (map (node_of version) v.rows) ∙ length-mapped (node_of version) v.rows) ∙ leads_same version v.rows (length v.rows) r.parent ∙ leads in
      λ i. not (e i) && not (root i && same i))

  pub node_inside : (r : VolumeRow) → is_in_place v r ≡ true → is_out_of_range (tables_of version v) (row.Node (node_of version r)) ≡ false
  node_inside r place = cases (r.id == root_id)
      (λ e. root_low r.id v.next_id e)
      (λ e.
      let range = left_true (nat_le first_id r.id && nat_lt r.id v.next_id) (leads_to_root v.rows (length v.rows) r.parent) (else_of (r.id == root_id) (r.dir && ((r.parent == root_parent) && bytes_eq r.name v.name)) ((nat_le first_id r.id && nat_lt r.id v.next_id) && leads_to_root v.rows (length v.rows) r.parent) e place) in
      let low = le-ltb r.id first_id (leb-true _ _ (left_true (nat_le first_id r.id) (nat_lt r.id v.next_id) range)) in
      let high = not_below r.id v.next_id (right_true (nat_le first_id r.id) (nat_lt r.id v.next_id) range) in
      λ i. not (e i) && (low i || high i))

  pub node_few : (r : VolumeRow) → passes_limit (tables_of version v) (row.Node (node_of version r)) ≡ false
  node_few r =
      let count = le-ltb most_nodes (length (nodes_to (node_of version r) (tables_of version v))) (let a = length-filter-le (λ (o : Node). nat_le o.id r.id) (map (node_of version) v.rows) in let b = length-mapped (node_of version) v.rows in let c = facts.few_rows in omega (arith, a, b, c)) in
      let sum = le-ltb most_fork_bytes (sum_by (λ (o : Node). o.data_length + o.resource_length) (nodes_to (node_of version r) (tables_of version v)))
      (let a = sum-filter (λ (o : Node). o.data_length + o.resource_length) (λ o. nat_le o.id r.id) (map (node_of version) v.rows) in
      let b = sum-map (λ (o : Node). o.data_length + o.resource_length) (node_of version) (λ (s : VolumeRow). length s.data_fork + length s.resource_fork) v.rows (λ s. refl) in
      let c = facts.few_bytes in omega (arith, a, b, c)) in
      or_from _ _ count sum

-- nodes whose names are apart have no twins
later_none : (x : Node) (xs : List Node) → list_all (λ (n : Node). nat_lt x.id n.id) xs ≡ true → list_all (λ (o : Node). not (nat_lt o.id x.id && alike o x)) xs ≡ true
later_none x xs c = all-weaker (λ (n : Node). nat_lt x.id n.id) (λ (o : Node). not (nat_lt o.id x.id && alike o x)) xs
    (λ o e. let low : nat_lt o.id x.id ≡ false = le-ltb _ _ (let l : x.id < o.id = ltb-true _ _ e in omega arith) in ap (λ b. not (b && alike o x)) low) c

not_and : (a b : Bool) → b ≡ false → not (a && b) ≡ true
not_and true b e = not_from_false b e
not_and false b e = refl

pub no_twins_apart : (ns : List Node) → Chain (λ (a : Node) b. nat_lt a.id b.id) ns → are_apart alike ns ≡ true → no_twins ns ns ≡ true
no_twins_apart [] c e = refl
no_twins_apart (x ∷ xs) c e =
    let two = and_parts (not (list_any (alike x) xs)) (are_apart alike xs) e in
    let itself : not (nat_lt x.id x.id && alike x x) ≡ true = ap (λ b. not (b && alike x x)) (le-ltb x.id x.id (omega arith)) in
    let rest = no_twins_apart xs c.1 two.1 in
    and_from (list_all (λ (o : Node). not (nat_lt o.id x.id && alike o x)) (x ∷ xs)) (no_twins (x ∷ xs) xs)
    (and_from (not (nat_lt x.id x.id && alike x x)) (list_all (λ (o : Node). not (nat_lt o.id x.id && alike o x)) xs) itself (later_none x xs c.0))
    (all-weaker (λ (n : Node). not (alike x n) && list_all (λ (o : Node). not (nat_lt o.id n.id && alike o n)) xs) (λ (n : Node). list_all (λ (o : Node). not (nat_lt o.id n.id && alike o n)) (x ∷ xs)) xs
    (λ n h. and_from (not (nat_lt x.id n.id && alike x n)) (list_all (λ (o : Node). not (nat_lt o.id n.id && alike o n)) xs)
    (not_and (nat_lt x.id n.id) (alike x n) (not-true (alike x n) (left_true (not (alike x n)) (list_all (λ (o : Node). not (nat_lt o.id n.id && alike o n)) xs) h)))
    (right_true (not (alike x n)) (list_all (λ (o : Node). not (nat_lt o.id n.id && alike o n)) xs) h))
    (all-and (λ (n : Node). not (alike x n)) (λ (n : Node). list_all (λ (o : Node). not (nat_lt o.id n.id && alike o n)) xs) xs (none-any (alike x) xs (not-true (list_any (alike x) xs) two.0)) rest))

pub apart_nodes : (version : ℕ) (rs : List VolumeRow) → are_apart alike (map (node_of version) rs) ≡ are_apart are_named_alike rs
apart_nodes version [] = refl
apart_nodes version (r ∷ rs) = λ i. not (any-map (alike (node_of version r)) (node_of version) rs i) && apart_nodes version rs i

-- ---- no rule holds of a block

-- the forks of rows with one id are equally long
abbrev pub same_forks : VolumeRow → VolumeRow → Bool
same_forks r o = not (o.id == r.id) || ((length o.data_fork == length r.data_fork) && (length o.resource_fork == length r.resource_fork))

other_id : (r o : VolumeRow) → (o.id ≡ r.id → ⊥) → same_forks r o ≡ true
other_id r o h = or_left (not (o.id == r.id)) ((length o.data_fork == length r.data_fork) && (length o.resource_fork == length r.resource_fork)) (ap not (ne_eqb o.id r.id h))

pub one_row : (rs : List VolumeRow) → Chain (λ (a : VolumeRow) b. nat_lt a.id b.id) rs → list_all (λ r. list_all (same_forks r) rs) rs ≡ true
one_row [] c = refl
one_row (x ∷ xs) c =
    let itself : same_forks x x ≡ true = or_right (not (x.id == x.id)) ((length x.data_fork == length x.data_fork) && (length x.resource_fork == length x.resource_fork))
    (and_from (length x.data_fork == length x.data_fork) (length x.resource_fork == length x.resource_fork) (eq-eqb (length x.data_fork) (length x.data_fork) refl) (eq-eqb (length x.resource_fork) (length x.resource_fork) refl)) in
    and_from (list_all (same_forks x) (x ∷ xs)) (list_all (λ r. list_all (same_forks r) (x ∷ xs)) xs)
    (and_from (same_forks x x) (list_all (same_forks x) xs) itself (all-weaker (λ (o : VolumeRow). nat_lt x.id o.id) (same_forks x) xs (λ o e. other_id x o (λ h. absurd (let l : x.id < o.id = ltb-true _ _ e in omega arith))) c.0))
    (all-weaker (λ (r : VolumeRow). nat_lt x.id r.id && list_all (same_forks r) xs) (λ r. list_all (same_forks r) (x ∷ xs)) xs
    (λ r h. and_from (same_forks r x) (list_all (same_forks r) xs)
    (other_id r x (λ k. absurd (let l : x.id < r.id = ltb-true _ _ (left_true (nat_lt x.id r.id) (list_all (same_forks r) xs) h) in omega arith)))
    (right_true (nat_lt x.id r.id) (list_all (same_forks r) xs) h))
    (all-and (λ (r : VolumeRow). nat_lt x.id r.id) (λ r. list_all (same_forks r) xs) xs c.0 (one_row xs c.1)))

-- a row is a directory, or its file is there
pub each_there : (rs : List VolumeRow) → list_all (λ (r : VolumeRow). r.dir || has_file rs r.id) rs ≡ true
each_there [] = refl
each_there (x ∷ xs) =
    and_from (x.dir || has_file (x ∷ xs) x.id) (list_all (λ (r : VolumeRow). r.dir || has_file (x ∷ xs) r.id) xs)
    (cases x.dir (λ d. or_left x.dir (has_file (x ∷ xs) x.id) d)
    (λ d. or_right x.dir (has_file (x ∷ xs) x.id) (or_left (x.id == x.id && not x.dir) (has_file xs x.id) (and_from (x.id == x.id) (not x.dir) (eq-eqb x.id x.id refl) (not_from_false x.dir d)))))
    (all-weaker (λ (r : VolumeRow). r.dir || has_file xs r.id) (λ (r : VolumeRow). r.dir || has_file (x ∷ xs) r.id) xs
    (λ r e. cases r.dir (λ d. or_left r.dir (has_file (x ∷ xs) r.id) d)
    (λ d. or_right r.dir (has_file (x ∷ xs) r.id) (or_right (x.id == r.id && not x.dir) (has_file xs r.id) (ap (λ b. b || has_file xs r.id) (sym d) ∙ e)))) (each_there xs))

-- what is known of each row with all others
abbrev pub is_known_row : VolumeState → VolumeRow → Bool
is_known_row v r = is_good_row v r && (list_all (same_forks r) v.rows && (r.dir || has_file v.rows r.id))

abbrev pub fork_of : Bool → VolumeRow → List ℕ
fork_of true r = r.resource_fork
fork_of false r = r.data_fork
