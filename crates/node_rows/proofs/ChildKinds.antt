-- The kinds of children stay theirs: after one more, one less, and one changed.
use Rattle.std.proofs.Common.{◌≡◌, ◌∙◌, ap, sym, refl, subst, ℕ, suc, ◌==◌, Bool, true, false, not, cond, List, [], ◌∷◌, ◌++◌, length, map, take, drop, inl, inr, Option, Some, None}
use Rattle.std.specs.Prelude.{insert, nat_lt, option_map}
use Rattle.std.specs.List.{filter, find, list_all, list_any, remove}
use Rattle.std.proofs.lemmas.Bool.{and_from, and_parts, cases_Bool, cond_both, cond-true, cond-false, eq-eqb, eqb-true, eqb-false, ne_eqb, not-true}
use Rattle.std.proofs.lemmas.List.{drop-map, length-map, map-append, take-map}
use Rattle.afp_base.proofs.ListFacts.{all-both, all-filter, all-kept, all-map-where, none-all}
use Rattle.afp_base.specs.Apart.{are_apart}
use Rattle.volume_spec.proofs.Ordered.{order-all}
use Rattle.volume_spec.proofs.Orders.{rising-ids-differ}
use Rattle.volume_spec.proofs.SeenRows.{changes-seen, changes-let-be, gone-lets-be}
use Rattle.volume_spec.specs.Edits.{with_changed, without}
use Rattle.volume_spec.specs.Listing.{children as in_directory, listed, row_key}
use Rattle.volume_spec.specs.Order.{put_in}
use Rattle.volume_spec.specs.VolumeState.{Row}
use Rattle.volume_spec.specs.Walk.{row_at}
use Rattle.node_rows.proofs.Sorting.{put-at}
use Rattle.node_rows.specs.Children.{child_of, child_order}
use Rattle.node_rows.specs.Kept.{admitted}
use Rattle.node_rows.specs.lemma.Kept.{AreKept}
use Rattle.node_rows.specs.lemma.Kinds.{child_kinds, is_file, is_file_of, is_kind}
use Rattle.node_rows.specs.lemma.Places.{is_apart, is_other, place_for}
use Rattle.node_rows.specs.declared.child.Child.{Child}

-- edits of a list that is mapped

map-insert : {A B : Type 0} (f : A → B) (xs : List A) (i : ℕ) (x : A) → map f (insert xs i x) ≡ insert (map f xs) i (f x)
map-insert f xs i x = map-append f (take i xs) (x ∷ drop i xs) ∙ (λ k. sym (take-map f i xs) k ++ f x ∷ sym (drop-map f i xs) k)

map-remove : {A B : Type 0} (f : A → B) (xs : List A) (i : ℕ) → map f (remove xs i) ≡ remove (map f xs) i
map-remove f xs i = map-append f (take i xs) (drop (suc i) xs) ∙ (λ k. sym (take-map f i xs) k ++ sym (drop-map f (suc i) xs) k)

map-where : {A B : Type 0} (f g : A → B) (p : A → Bool) (xs : List A) → ((x : A) → p x ≡ true → f x ≡ g x) → list_all p xs ≡ true → map f xs ≡ map g xs
map-where f g p [] same h = refl
map-where f g p (x ∷ xs) same h = let e = and_parts (p x) (list_all p xs) h in λ i. same x e.0 i ∷ map-where f g p xs same e.1 i

pub as-many : (rows : List Row) (children : List Child) (kinds : List Bool) → kinds ≡ child_kinds rows children → length kinds ≡ length children
as-many rows children kinds is = ap length is ∙ length-map children (is_file_of rows)

-- a node admitted

admitted-seen : (node : Row) (rows : List Row) → list_all (λ (row : Row). not (row.id == node.id)) rows ≡ true → row_at (admitted node rows) node.id ≡ Some node
unfolding row_at
admitted-seen node [] h = cond-true (node.id == node.id) (Some node) None (eq-eqb node.id node.id refl)
admitted-seen node (r ∷ rs) h =
    let e = and_parts (not (r.id == node.id)) (list_all (λ (row : Row). not (row.id == node.id)) rs) h in
    cond_both (nat_lt node.id r.id) (node ∷ r ∷ rs) (r ∷ admitted node rs) (λ l. find (λ (row : Row). row.id == node.id) l ≡ Some node)
    (λ first. cond-true (node.id == node.id) (Some node) (find (λ (row : Row). row.id == node.id) (r ∷ rs)) (eq-eqb node.id node.id refl))
    (λ later. cond-false (r.id == node.id) (Some r) (find (λ (row : Row). row.id == node.id) (admitted node rs)) (not-true (r.id == node.id) e.0) ∙ admitted-seen node rs e.1)

admitted-lets-be : (node : Row) (rows : List Row) (other : ℕ) → (node.id == other) ≡ false → row_at (admitted node rows) other ≡ row_at rows other
unfolding row_at
admitted-lets-be node [] other differ = cond-false (node.id == other) (Some node) None differ
admitted-lets-be node (r ∷ rs) other differ =
    cond_both (nat_lt node.id r.id) (node ∷ r ∷ rs) (r ∷ admitted node rs) (λ l. find (λ (row : Row). row.id == other) l ≡ find (λ (row : Row). row.id == other) (r ∷ rs))
    (λ first. cond-false (node.id == other) (Some node) (find (λ (row : Row). row.id == other) (r ∷ rs)) differ)
    (λ later. ap (λ o. cond (r.id == other) (Some r) o) (admitted-lets-be node rs other differ))

pub kinds-new : (node : Row) (rows : List Row) (children : List Child) (kinds : List Bool) (next : ℕ) → list_all (λ (row : Row). not (row.id == node.id)) rows ≡ true → list_all (is_apart (child_of node)) children ≡ true
    → AreKept rows children next → kinds ≡ child_kinds rows children → insert kinds (place_for (child_of node) children) (not node.dir) ≡ child_kinds (admitted node rows) (put_in child_order (child_of node) children)
kinds-new node rows children kinds next new free k is =
    (λ i. insert ((is ∙ sym before) i) (place_for (child_of node) children) (sym own i))
    ∙ sym (map-insert (is_file_of (admitted node rows)) children (place_for (child_of node) children) (child_of node))
    ∙ ap (child_kinds (admitted node rows)) (put-at child_order (child_of node) children free)
  where
    test : Child → Bool
    test child = not (child.id.0 == node.id)

    others : list_all test children ≡ true
    others = ap (list_all test) k.sorted ∙ order-all child_order test (map child_of rows) (all-map-where (λ (row : Row). not (row.id == node.id)) test child_of rows (λ row h. h) new)

    turned : (a b : ℕ) → not (a == b) ≡ true → (b == a) ≡ false
    turned a b h = ne_eqb b a (λ same. eqb-false a b (not-true (a == b) h) (sym same))

    before : child_kinds (admitted node rows) children ≡ child_kinds rows children
    before = map-where (is_file_of (admitted node rows)) (is_file_of rows) test children (λ child other. ap is_file (admitted-lets-be node rows child.id.0 (turned child.id.0 node.id other))) others

    own : is_file_of (admitted node rows) (child_of node) ≡ not node.dir
    own = ap is_file (admitted-seen node rows new)

-- a node less
pub kinds-gone : (id place : ℕ) (rows : List Row) (children : List Child) (kinds : List Bool) → filter (is_other id) children ≡ remove children place → kinds ≡ child_kinds rows children
    → remove kinds place ≡ child_kinds (without id rows) (filter (is_other id) children)
kinds-gone id place rows children kinds gone is =
    ap (λ l. remove l place) is ∙ sym (map-remove (is_file_of rows) children place) ∙ ap (child_kinds rows) (sym gone)
    ∙ sym (map-where (is_file_of (without id rows)) (is_file_of rows) (is_other id) (filter (is_other id) children)
    (λ child other. ap is_file (gone-lets-be rows id child.id.0 (not-true (child.id.0 == id) other))) (all-kept (is_other id) children))

-- a node changed, its kind left

changed-kind : (id : ℕ) (change : Row → Row) (rows : List Row) → ((row : Row) → (change row).id ≡ row.id) → ((row : Row) → (change row).dir ≡ row.dir) → (other : ℕ) → is_file (row_at (with_changed id change rows) other) ≡ is_file (row_at rows other)
changed-kind id change rows same_id same_dir other = elim (cases_Bool (other == id)) [
  | inl here ↦
      subst (λ n. is_file (row_at (with_changed id change rows) n) ≡ is_file (row_at rows n)) (sym (eqb-true other id here))
      (ap is_file (changes-seen rows id change same_id) ∙ mapped (row_at rows id))
  | inr differ ↦ ap is_file (changes-let-be rows id other change same_id differ)
]
  where
    mapped : (o : Option Row) → is_file (option_map change o) ≡ is_file o
    mapped None = refl
    mapped (Some row) = ap not (same_dir row)

pub kinds-changed : (id : ℕ) (change : Row → Row) (rows : List Row) (children : List Child) → ((row : Row) → (change row).id ≡ row.id) → ((row : Row) → (change row).dir ≡ row.dir)
    → child_kinds (with_changed id change rows) children ≡ child_kinds rows children
kinds-changed id change rows children same_id same_dir = λ i. map (λ (child : Child). changed-kind id change rows same_id same_dir child.id.0 i) children

-- a node at another place
pub kinds-placed : (id stood : ℕ) (change : Row → Row) (s : Row) (child : Child) (rows : List Row) (children : List Child) (kinds : List Bool) → ((row : Row) → (change row).id ≡ row.id) → ((row : Row) → (change row).dir ≡ row.dir)
    → row_at rows id ≡ Some s → child.id.0 ≡ id → list_all (is_apart child) (filter (is_other id) children) ≡ true → filter (is_other id) children ≡ remove children stood → kinds ≡ child_kinds rows children
    → insert (remove kinds stood) (place_for child (filter (is_other id) children)) (not s.dir) ≡ child_kinds (with_changed id change rows) (put_in child_order child (filter (is_other id) children))
kinds-placed id stood change s child rows children kinds same_id same_dir at_id is_id free gone is =
    (λ i. insert (left i) (place_for child (filter (is_other id) children)) (sym own i))
    ∙ sym (map-insert (is_file_of rows) (filter (is_other id) children) (place_for child (filter (is_other id) children)) child)
    ∙ ap (child_kinds rows) (put-at child_order child (filter (is_other id) children) free)
    ∙ sym (kinds-changed id change rows (put_in child_order child (filter (is_other id) children)) same_id same_dir)
  where
    left : remove kinds stood ≡ child_kinds rows (filter (is_other id) children)
    left = ap (λ l. remove l stood) is ∙ sym (map-remove (is_file_of rows) children stood) ∙ ap (child_kinds rows) (sym gone)

    own : is_file_of rows child ≡ not s.dir
    own = ap (λ n. is_file (row_at rows n)) is_id ∙ ap is_file at_id

-- the kinds of a directory's list

same-kind : (a b : Bool) → is_kind a b ≡ true → a ≡ b
same-kind true b h = sym h
same-kind false b h = sym (not-true b h)

kind-itself : (a : Bool) → is_kind a a ≡ true
kind-itself true = refl
kind-itself false = refl

-- each of rows whose ids differ is found by its id
all-own : (rows : List Row) → are_apart (λ (a : Row) b. a.id == b.id) rows ≡ true → list_all (λ (row : Row). is_kind (is_file (find (λ (r : Row). r.id == row.id) rows)) (not row.dir)) rows ≡ true
all-own [] apart = refl
all-own (r ∷ rs) apart =
    let e = and_parts (not (list_any (λ (b : Row). r.id == b.id) rs)) (are_apart (λ (a : Row) b. a.id == b.id) rs) apart in
    let first : find (λ (q : Row). q.id == r.id) (r ∷ rs) ≡ Some r = cond-true (r.id == r.id) (Some r) (find (λ (q : Row). q.id == r.id) rs) (eq-eqb r.id r.id refl) in
    and_from (is_kind (is_file (find (λ (q : Row). q.id == r.id) (r ∷ rs))) (not r.dir)) (list_all (λ (row : Row). is_kind (is_file (find (λ (q : Row). q.id == row.id) (r ∷ rs))) (not row.dir)) rs)
    (ap (λ o. is_kind (is_file o) (not r.dir)) first ∙ kind-itself (not r.dir))
    (all-both (λ (row : Row). not (r.id == row.id)) (λ (row : Row). is_kind (is_file (find (λ (q : Row). q.id == row.id) rs)) (not row.dir)) (λ (row : Row). is_kind (is_file (find (λ (q : Row). q.id == row.id) (r ∷ rs))) (not row.dir)) rs
    (λ row differ own. ap (λ o. is_kind (is_file o) (not row.dir)) (cond-false (r.id == row.id) (Some r) (find (λ (q : Row). q.id == row.id) rs) (not-true (r.id == row.id) differ)) ∙ own)
    (none-all (λ (b : Row). r.id == b.id) rs e.0) (all-own rs e.1))

pub kinds-listed : (rows : List Row) (children : List Child) (next dir : ℕ) → AreKept rows children next → child_kinds rows (map child_of (listed rows dir)) ≡ map (λ (row : Row). not row.dir) (listed rows dir)
unfolding listed in_directory row_at
kinds-listed rows children next dir k =
    twice (listed rows dir) ∙ map-where (λ (row : Row). is_file (row_at rows row.id)) (λ (row : Row). not row.dir) test (listed rows dir) (λ row own. same-kind (is_file (row_at rows row.id)) (not row.dir) own)
    (order-all row_key test (filter (λ (row : Row). row.parent == dir) rows) (all-filter test (λ (row : Row). row.parent == dir) rows (all-own rows (rising-ids-differ rows k.rising))))
  where
    test : Row → Bool
    test row = is_kind (is_file (find (λ (r : Row). r.id == row.id) rows)) (not row.dir)

    twice : (l : List Row) → child_kinds rows (map child_of l) ≡ map (λ (row : Row). is_file (row_at rows row.id)) l
    twice [] = refl
    twice (row ∷ l) = ap (λ m. is_file (row_at rows row.id) ∷ m) (twice l)
