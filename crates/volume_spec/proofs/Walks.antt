-- Where a walk through a tree leads there is a node.
use Rattle.std.proofs.Common.{◌==◌, ◌≡◌, ◌∙◌, ap, refl, subst, ℕ, zero, suc, Bool, true, false, ◌&&◌, ◌||◌, cond, List, [], ◌∷◌, length, inl, inr, Option, Some, None}
use Rattle.std.specs.Prelude.{bytes_eq, option_map, Result, Ok, Err, nat_le, nat_lt}
use Rattle.std.specs.List.{list_any, find}
use Rattle.std.proofs.lemmas.Bool.{and_parts, or_cases, or_left, or_right, cond_both, eqb-true, eq-eqb, cases_Bool, both_ways}
use Rattle.afp_base.specs.declared.code.Code.{Code}
use Rattle.afp_base.specs.declared.code.Code.TheVariants.{ObjectNotFound, DirNotFound}
use Rattle.afp_names.specs.Name.{name_key}
use Rattle.afp_names.specs.LongName.{long_name_of}
use Rattle.afp_names.specs.Path.{long_names, element_of}
use Rattle.afp_names.specs.declared.path.Step.{Step}
use Rattle.afp_names.specs.declared.path.Step.TheVariants.{Up, Down}
use Rattle.volume_spec.proofs.Leading.{goes_up}
use Rattle.volume_spec.proofs.Trees.{TreeParts, drawn}
use Rattle.volume_spec.specs.SoundVolume.{has_node, leads_to_root, is_in_place}
use Rattle.volume_spec.specs.VolumeState.{Row, VolumeState, root_id, root_parent, first_id}
use Rattle.volume_spec.specs.Walk.{row_at, parent_at, child_by_key, child_by_long_name, child, or_else, has_directory, failed_down, onward, walk_from, not_above_root, is_start, walk, unless_closed}
use Rattle.afp_base.proofs.ListFacts.{any-weaker, find-all}
use Rattle.volume_spec.specs.Rights.{is_closed}

-- what an option that is mapped to something was
pub record MappedFrom {A B : Type 0} (f : A → B) (o : Option A) (b : B) : Type 0 where
  pub value : A
  pub was : o ≡ Some value
  pub gives : f value ≡ b

pub mapped-from : {A B : Type 0} (f : A → B) (o : Option A) (b : B) → option_map f o ≡ Some b → MappedFrom f o b
mapped-from f None b h = absurd (cc)
mapped-from f (Some a) b h = record { value = a; was = refl; gives = cc }

-- a row that was found is there
pub find-there : (test : Row → Bool) (rows : List Row) (s : Row) → find test rows ≡ Some s → has_node rows s.id ≡ true
find-there test [] s h = absurd (cc)
find-there test (row ∷ rows) s h =
    cond_both (test row) (Some row) (find test rows) (λ o. o ≡ Some s → ((row.id == s.id) || has_node rows s.id) ≡ true)
    (λ here h. let same : row ≡ s = cc in or_left (row.id == s.id) (has_node rows s.id) (eq-eqb row.id s.id (ap (λ (r : Row). r.id) same)))
    (λ other h. or_right (row.id == s.id) (has_node rows s.id) (find-there test rows s h)) h

-- at the root's parent or at a node
abbrev pub stands : List Row → ℕ → Bool
stands rows id = (id == root_parent) || has_node rows id

leads-node : (rows : List Row) (n id : ℕ) → has_node rows root_id ≡ true → leads_to_root rows n id ≡ true → has_node rows id ≡ true
leads-node rows zero id root h = ap (λ q. has_node rows q) (eqb-true id root_id h) ∙ root
leads-node rows (suc n) id root h = elim (or_cases (id == root_id) (list_any (goes_up rows n id) rows) h) [
  | inl is ↦ ap (λ q. has_node rows q) (eqb-true id root_id is) ∙ root
  | inr some ↦ any-weaker (goes_up rows n id) (λ row. row.id == id) rows (λ row step. (and_parts (row.id == id) (row.dir && leads_to_root rows n row.parent) step).0) some
]

parent-stands : (v : VolumeState) (here up : ℕ) → TreeParts v → parent_at v.rows here ≡ Some up → stands v.rows up ≡ true
unfolding parent_at row_at
parent-stands v here up t h =
    let m : MappedFrom (λ (row : Row). row.parent) (find (λ (row : Row). row.id == here) v.rows) up = mapped-from (λ (row : Row). row.parent) (find (λ (row : Row). row.id == here) v.rows) up h in
    let s : Row = m.value in
    let placed : is_in_place v s ≡ true = find-all (λ (row : Row). row.id == here) (is_in_place v) v.rows s m.was t.placed in
    subst (λ q. stands v.rows q ≡ true) m.gives (elim (cases_Bool (s.id == root_id)) [
      | inl root ↦ or_left (s.parent == root_parent) (has_node v.rows s.parent) (at-root s root placed)
      | inr other ↦ or_right (s.parent == root_parent) (has_node v.rows s.parent) (leads-node v.rows (length v.rows) s.parent t.root (drawn v s other placed).way)
    ])
  where
    at-root : (s : Row) → (s.id == root_id) ≡ true → is_in_place v s ≡ true → (s.parent == root_parent) ≡ true
    at-root s root placed =
        cond_both (s.id == root_id) (s.dir && ((s.parent == root_parent) && bytes_eq s.name v.name)) ((nat_le first_id s.id && nat_lt s.id v.next_id) && leads_to_root v.rows (length v.rows) s.parent)
        (λ b. b ≡ true → (s.parent == root_parent) ≡ true)
        (λ is h. (and_parts (s.parent == root_parent) (bytes_eq s.name v.name) (and_parts (s.dir) ((s.parent == root_parent) && bytes_eq s.name v.name) h).1).0)
        (λ other h. absurd (both_ways (s.id == root_id) other root)) placed

child-stands : (rows : List Row) (kind here : ℕ) (name : List ℕ) (down : ℕ) → child rows kind here name ≡ Some down → stands rows down ≡ true
unfolding child child_by_key child_by_long_name
child-stands rows kind here name down h = or_right (down == root_parent) (has_node rows down)
    (either (child_by_key rows here (name_key name)) (cond (kind == long_names) (child_by_long_name rows here (element_of kind name)) None)
    (by (λ (row : Row). (row.parent == here) && bytes_eq (name_key row.name) (name_key name)))
    (cond_both (kind == long_names) (child_by_long_name rows here (element_of kind name)) None (λ o. o ≡ Some down → has_node rows down ≡ true)
    (λ is. by (λ (row : Row). (row.parent == here) && bytes_eq (long_name_of row.name row.id) (element_of kind name)))
    (λ other h. absurd (cc))) h)
  where
    by : (test : Row → Bool) → option_map (λ (row : Row). row.id) (find test rows) ≡ Some down → has_node rows down ≡ true
    by test h = let m : MappedFrom (λ (row : Row). row.id) (find test rows) down = mapped-from (λ (row : Row). row.id) (find test rows) down h in
        subst (λ q. has_node rows q ≡ true) m.gives (find-there test rows m.value m.was)

    either : (a b : Option ℕ) → (a ≡ Some down → has_node rows down ≡ true) → (b ≡ Some down → has_node rows down ≡ true) → or_else a b ≡ Some down → has_node rows down ≡ true
    either None b one two h = two h
    either (Some id) b one two h = one h

-- what leads somewhere is not closed
pub is-open : (closed : Bool) (goes : Result ℕ Code) (id : ℕ) → unless_closed closed goes ≡ Ok id → goes ≡ Ok id
is-open true goes id h = absurd (cc)
is-open false goes id h = h

-- on from a node that stands
on-stands : (rows : List Row) (o : Option ℕ) (code : Code) (rest : ℕ → Result ℕ Code) (id : ℕ) → ((next : ℕ) → o ≡ Some next → stands rows next ≡ true)
    → ((next : ℕ) → stands rows next ≡ true → rest next ≡ Ok id → stands rows id ≡ true) → onward o code rest ≡ Ok id → stands rows id ≡ true
on-stands rows None code rest id there further h = absurd (cc)
on-stands rows (Some next) code rest id there further h = further next (there next refl) h

walk-stands : (v : VolumeState) (user kind : ℕ) (missing : Code) (steps : List Step) (here id : ℕ) → TreeParts v → stands v.rows here ≡ true → walk_from v.rows user kind missing steps here ≡ Ok id → stands v.rows id ≡ true
walk-stands v user kind missing [] here id t there h = let same : here ≡ id = cc in subst (λ q. stands v.rows q ≡ true) same there
walk-stands v user kind missing (Up ∷ steps) here id t there h =
    on-stands v.rows (parent_at v.rows here) ObjectNotFound (walk_from v.rows user kind missing steps) id
    (λ up is. parent-stands v here up t is) (λ up. walk-stands v user kind missing steps up id t) h
walk-stands v user kind missing (Down name ∷ steps) here id t there h =
    on-stands v.rows (child v.rows kind here name) (failed_down missing steps) (walk_from v.rows user kind missing steps) id
    (λ down is. child-stands v.rows kind here name down is) (λ down. walk-stands v user kind missing steps down id t)
    (is-open (is_closed v.rows user here) _ id h)

-- where a walk leads there is a node
pub walk-there : (v : VolumeState) (user kind : ℕ) (missing : Code) (dir : ℕ) (steps : List Step) (id : ℕ) → TreeParts v → walk v.rows user kind missing dir steps ≡ Ok id → has_node v.rows id ≡ true
unfolding walk
walk-there v user kind missing dir steps id t h =
    cond_both (is_start v.rows dir) (not_above_root (walk_from v.rows user kind missing steps dir)) (Err DirNotFound) (λ r. r ≡ Ok id → has_node v.rows id ≡ true)
    (λ starts h. ends (walk_from v.rows user kind missing steps dir) (λ id is. walk-stands v user kind missing steps dir id t (start starts) is) h)
    (λ other h. absurd (cc)) h
  where
    start : is_start v.rows dir ≡ true → stands v.rows dir ≡ true
    start h = cond_both (dir == root_parent) true (has_directory v.rows dir) (λ b. b ≡ true → stands v.rows dir ≡ true)
        (λ above h. or_left (dir == root_parent) (has_node v.rows dir) above)
        (λ other h. or_right (dir == root_parent) (has_node v.rows dir) (any-weaker (λ (row : Row). (row.id == dir) && row.dir) (λ row. row.id == dir) v.rows (λ row is. (and_parts (row.id == dir) (row.dir) is).0) h)) h

    ends : (r : Result ℕ Code) → ((id : ℕ) → r ≡ Ok id → stands v.rows id ≡ true) → not_above_root r ≡ Ok id → has_node v.rows id ≡ true
    ends (Err code) gives h = absurd (cc)
    ends (Ok at_end) gives h =
        cond_both (at_end == root_parent) (Err ObjectNotFound) (Ok at_end) (λ r. r ≡ Ok id → has_node v.rows id ≡ true)
        (λ above h. absurd (cc))
        (λ below h. let same : at_end ≡ id = cc in subst (λ q. has_node v.rows q ≡ true) same (elim (or_cases (at_end == root_parent) (has_node v.rows at_end) (gives at_end refl)) [
          | inl above ↦ absurd (both_ways (at_end == root_parent) below above)
          | inr there ↦ there
        ])) h

-- the row of a node that is there
pub row-there : (rows : List Row) (id : ℕ) → has_node rows id ≡ true → (s : Row) × (row_at rows id ≡ Some s)
unfolding row_at
row-there [] id h = absurd (cc)
row-there (row ∷ rows) id h =
    cond_both (row.id == id) (Some row) (find (λ (r : Row). r.id == id) rows) (λ o. (s : Row) × (o ≡ Some s))
    (λ here. (row, refl))
    (λ other. elim (or_cases (row.id == id) (has_node rows id) h) [
      | inl here ↦ absurd (both_ways (row.id == id) other here)
      | inr later ↦ row-there rows id later
    ])
