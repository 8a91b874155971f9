-- Rows with no bytes in their forks answer as those with them.
use Rattle.std.proofs.Common.{◌==◌, ◌≡◌, ◌∙◌, ap, sym, refl, ℕ, zero, suc, Bool, true, not, ◌&&◌, ◌||◌, cond, List, [], ◌∷◌, map, Option, Some, None}
use Rattle.std.specs.Prelude.{option_map, bytes_eq, Result, Err}
use Rattle.std.specs.List.{filter, find}
use Rattle.std.proofs.lemmas.Bool.{cond_both, cond-true, cond-false}
use Rattle.afp_base.specs.declared.code.Code.{Code}
use Rattle.afp_base.specs.declared.code.Code.TheVariants.{ObjectNotFound, DirNotFound}
use Rattle.afp_names.specs.Name.{name_key}
use Rattle.afp_names.specs.LongName.{long_name_of}
use Rattle.afp_names.specs.Path.{long_names, PathValue, element_of}
use Rattle.afp_names.specs.declared.path.Step.{Step}
use Rattle.afp_names.specs.declared.path.Step.TheVariants.{Up, Down}
use Rattle.volume_spec.proofs.Ordered.{order-map}
use Rattle.volume_spec.specs.Edits.{bare, is_taken, is_below, with_changed, change_at, without}
use Rattle.volume_spec.specs.Listing.{children, listed, row_key}
use Rattle.volume_spec.specs.Order.{in_order}
use Rattle.volume_spec.specs.VolumeState.{Row, root_parent}
use Rattle.volume_spec.specs.Walk.{row_at, parent_at, child_by_key, child_by_long_name, child, or_else, onward, failed_down, unless_closed, walk_from, not_above_root, walk, found}
use Rattle.afp_base.proofs.ListFacts.{all-always, any-map, any-same}
use Rattle.volume_spec.specs.Rights.{has_right, is_closed, is_owner, lacks, search_right}

pub find-map : {A B : Type 0} (f : A → B) (p : B → Bool) (xs : List A) → find p (map f xs) ≡ option_map f (find (λ x. p (f x)) xs)
find-map f p [] = refl
find-map f p (x ∷ xs) =
    ap (λ o. cond (p (f x)) (Some (f x)) o) (find-map f p xs)
    ∙ cond_both (p (f x)) (Some x) (find (λ y. p (f y)) xs) (λ o. cond (p (f x)) (Some (f x)) (option_map f (find (λ y. p (f y)) xs)) ≡ option_map f o)
    (λ here. cond-true (p (f x)) (Some (f x)) (option_map f (find (λ y. p (f y)) xs)) here)
    (λ other. cond-false (p (f x)) (Some (f x)) (option_map f (find (λ y. p (f y)) xs)) other)

pub finds-bare : (rows : List Row) (id : ℕ) → row_at (map bare rows) id ≡ option_map bare (row_at rows id)
unfolding row_at
finds-bare rows id = find-map bare (λ row. row.id == id) rows

-- a number of what was found
number-bare : (number : Row → ℕ) (o : Option Row) → ((row : Row) → number (bare row) ≡ number row) → option_map number (option_map bare o) ≡ option_map number o
number-bare number None same = refl
number-bare number (Some row) same = ap (λ n. Some n) (same row)

pub parents-bare : (rows : List Row) (id : ℕ) → parent_at (map bare rows) id ≡ parent_at rows id
unfolding parent_at
parents-bare rows id = ap (λ o. option_map (λ (row : Row). row.parent) o) (finds-bare rows id) ∙ number-bare (λ (row : Row). row.parent) (row_at rows id) (λ row. refl)

pub keys-bare : (rows : List Row) (dir : ℕ) (key : List ℕ) → child_by_key (map bare rows) dir key ≡ child_by_key rows dir key
unfolding child_by_key
keys-bare rows dir key =
    let test : Row → Bool = λ (row : Row). (row.parent == dir) && bytes_eq (name_key row.name) key in
    ap (λ o. option_map (λ (row : Row). row.id) o) (find-map bare test rows) ∙ number-bare (λ (row : Row). row.id) (find test rows) (λ row. refl)

pub long-names-bare : (rows : List Row) (dir : ℕ) (element : List ℕ) → child_by_long_name (map bare rows) dir element ≡ child_by_long_name rows dir element
unfolding child_by_long_name
long-names-bare rows dir element =
    let test : Row → Bool = λ (row : Row). (row.parent == dir) && bytes_eq (long_name_of row.name row.id) element in
    ap (λ o. option_map (λ (row : Row). row.id) o) (find-map bare test rows) ∙ number-bare (λ (row : Row). row.id) (find test rows) (λ row. refl)

child-bare : (rows : List Row) (kind dir : ℕ) (name : List ℕ) → child (map bare rows) kind dir name ≡ child rows kind dir name
unfolding child
child-bare rows kind dir name =
    λ i. or_else (keys-bare rows dir (name_key name) i) (cond (kind == long_names) (long-names-bare rows dir (element_of kind name) i) None)

-- what a user may do is the same
pub closed-bare : (rows : List Row) (user here : ℕ) → is_closed (map bare rows) user here ≡ is_closed rows user here
unfolding is_closed
closed-bare rows user here = any-map (λ row. (row.id == here) && (row.dir && not (has_right user search_right row.privileges))) bare rows

pub lacks-bare : (rows : List Row) (user right id : ℕ) → lacks (map bare rows) user right id ≡ lacks rows user right id
unfolding lacks
lacks-bare rows user right id = ap not (any-map (λ row. (row.id == id) && has_right user right row.privileges) bare rows)

pub owner-bare : (rows : List Row) (user id : ℕ) → is_owner (map bare rows) user id ≡ is_owner rows user id
unfolding is_owner
owner-bare rows user id = any-map (λ row. (row.id == id) && (row.privileges.owner == user)) bare rows

onward-same : (o : Option ℕ) (code : Code) (f g : ℕ → Result ℕ Code) → ((n : ℕ) → f n ≡ g n) → onward o code f ≡ onward o code g
onward-same None code f g same = refl
onward-same (Some n) code f g same = same n

steps-bare : (rows : List Row) (user kind : ℕ) (missing : Code) (steps : List Step) (here : ℕ) → walk_from (map bare rows) user kind missing steps here ≡ walk_from rows user kind missing steps here
steps-bare rows user kind missing [] here = refl
steps-bare rows user kind missing (Up ∷ steps) here =
    ap (λ o. onward o ObjectNotFound (walk_from (map bare rows) user kind missing steps)) (parents-bare rows here)
    ∙ onward-same (parent_at rows here) ObjectNotFound (walk_from (map bare rows) user kind missing steps) (walk_from rows user kind missing steps) (steps-bare rows user kind missing steps)
steps-bare rows user kind missing (Down name ∷ steps) here =
    let on = ap (λ o. onward o (failed_down missing steps) (walk_from (map bare rows) user kind missing steps)) (child-bare rows kind here name)
    ∙ onward-same (child rows kind here name) (failed_down missing steps) (walk_from (map bare rows) user kind missing steps) (walk_from rows user kind missing steps) (steps-bare rows user kind missing steps) in
    λ i. unless_closed (closed-bare rows user here i) (on i)

pub walks-bare : (rows : List Row) (user dir : ℕ) (path : PathValue) → found (map bare rows) user dir path ≡ found rows user dir path
unfolding walk
walks-bare rows user dir path =
    λ i. cond (cond (dir == root_parent) true (any-map (λ row. (row.id == dir) && row.dir) bare rows i)) (not_above_root (steps-bare rows user path.kind ObjectNotFound path.steps dir i)) (Err DirNotFound)

pub taken-bare : (rows : List Row) (node dir : ℕ) (name : List ℕ) → is_taken (map bare rows) node dir name ≡ is_taken rows node dir name
unfolding is_taken
taken-bare rows node dir name = any-map (λ row. not (row.id == node) && ((row.parent == dir) && bytes_eq (name_key row.name) (name_key name))) bare rows

pub below-bare : (rows : List Row) (steps node id : ℕ) → is_below (map bare rows) steps node id ≡ is_below rows steps node id
below-bare rows zero node id = refl
below-bare rows (suc steps) node id =
    ap (λ b. (id == node) || b) (any-map (λ row. (row.id == id) && is_below (map bare rows) steps node row.parent) bare rows
    ∙ any-same (λ row. (row.id == id) && is_below (map bare rows) steps node row.parent) (λ row. (row.id == id) && is_below rows steps node row.parent) rows
    (λ row. ap (λ b. (row.id == id) && b) (below-bare rows steps node row.parent)))

pub changes-bare : (change : Row → Row) (id : ℕ) (rows : List Row) → ((row : Row) → bare (change row) ≡ change (bare row)) → map bare (with_changed id change rows) ≡ with_changed id change (map bare rows)
unfolding with_changed
changes-bare change id [] same = refl
changes-bare change id (row ∷ rows) same =
    λ i. cond_both (row.id == id) (change row) row (λ r. bare r ≡ change_at id change (bare row))
    (λ here. same row ∙ sym (cond-true (row.id == id) (change (bare row)) (bare row) here)) (λ other. sym (cond-false (row.id == id) (change (bare row)) (bare row) other)) i
    ∷ changes-bare change id rows same i

pub gone-bare : (id : ℕ) (rows : List Row) → map bare (without id rows) ≡ without id (map bare rows)
unfolding without
gone-bare id [] = refl
gone-bare id (row ∷ rows) =
    let keep : Row → Bool = λ (r : Row). not (r.id == id) in
    cond_both (keep row) (row ∷ filter keep rows) (filter keep rows) (λ l. map bare l ≡ cond (keep row) (bare row ∷ filter keep (map bare rows)) (filter keep (map bare rows)))
    (λ kept. ap (λ l. bare row ∷ l) (gone-bare id rows) ∙ sym (cond-true (keep row) (bare row ∷ filter keep (map bare rows)) (filter keep (map bare rows)) kept))
    (λ gone. gone-bare id rows ∙ sym (cond-false (keep row) (bare row ∷ filter keep (map bare rows)) (filter keep (map bare rows)) gone))

pub filter-bare : (dir : ℕ) (rows : List Row) → filter (λ (row : Row). row.parent == dir) (map bare rows) ≡ map bare (filter (λ (row : Row). row.parent == dir) rows)
filter-bare dir [] = refl
filter-bare dir (row ∷ rows) =
    let keep : Row → Bool = λ (r : Row). r.parent == dir in
    ap (λ l. cond (keep row) (bare row ∷ l) l) (filter-bare dir rows)
    ∙ cond_both (keep row) (row ∷ filter keep rows) (filter keep rows) (λ l. cond (keep row) (bare row ∷ map bare (filter keep rows)) (map bare (filter keep rows)) ≡ map bare l)
    (λ kept. cond-true (keep row) (bare row ∷ map bare (filter keep rows)) (map bare (filter keep rows)) kept)
    (λ gone. cond-false (keep row) (bare row ∷ map bare (filter keep rows)) (map bare (filter keep rows)) gone)

pub lists-bare : (rows : List Row) (dir : ℕ) → listed (map bare rows) dir ≡ map bare (listed rows dir)
unfolding listed children
lists-bare rows dir =
    ap (λ l. in_order row_key l) (filter-bare dir rows)
    ∙ order-map bare row_key row_key (λ row. true) (filter (λ (row : Row). row.parent == dir) rows) (λ a b in_a in_b. refl) (all-always (filter (λ (row : Row). row.parent == dir) rows))
