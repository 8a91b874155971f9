-- The list of a directory: each child once, in the order of the keys, and no other list is so.
use Rattle.std.proofs.Common.{◌==◌, ◌≡◌, ◌∙◌, ap, sym, refl, ℕ, ◌+◌, Bool, true, false, not, ◌&&◌, ◌||◌, cond, List, [], ◌∷◌, take, inl, inr, arith}
use Rattle.std.specs.Prelude.{sum, bytes_eq, ◌↔◌}
use Rattle.std.specs.List.{list_any, list_all, filter, count_by, Contains}
use Rattle.std.proofs.lemmas.Bool.{and_parts, and_from, cond_both, cases_Bool, both_ways, eqb-true, eq-eqb, not-true, and_right}
use Rattle.std.proofs.lemmas.List.Sums.{sum_by-cons}
use Rattle.volume_spec.proofs.NamesApart.{apart-by}
use Rattle.volume_spec.proofs.Ordered.{order-count, order-rises, order-contains, order-holds, rising-one, pages-are}
use Rattle.volume_spec.proofs.Trees.{tree-parts}
use Rattle.volume_spec.specs.Listing.{row_key, children, listed, is_child, pages}
use Rattle.volume_spec.specs.Order.{rises, in_order}
use Rattle.afp_base.specs.Apart.{are_apart}
use Rattle.volume_spec.specs.SoundVolume.{are_named_alike, has_apart_names, IsSoundVolume}
use Rattle.volume_spec.specs.VolumeState.{Row, VolumeState}
use Rattle.afp_base.proofs.ListFacts.{all-filter, all-kept, all-weaker, apart-filter, count-none, none-all}

-- an id is in a filtered list once or not at all
pub count-once : (rows : List Row) (keep : Row → Bool) (id : ℕ) → are_apart (λ (a : Row) b. a.id == b.id) rows ≡ true
    → count_by (λ (row : Row). row.id == id) (filter keep rows) ≡ cond (list_any (λ row. (row.id == id) && keep row) rows) 1 0
count-once [] keep id apart = refl
count-once (row ∷ rows) keep id apart =
    let e = and_parts (not (list_any (λ (b : Row). row.id == b.id) rows)) (are_apart (λ (a : Row) b. a.id == b.id) rows) apart in
    let rest : count_by is (filter keep rows) ≡ cond (list_any there rows) 1 0 = count-once rows keep id e.1 in
    cond_both (keep row) (row ∷ filter keep rows) (filter keep rows)
    (λ l. count_by is l ≡ cond ((is row && keep row) || list_any there rows) 1 0)
    (λ kept. sum_by-cons (λ r. cond (is r) 1 0) row (filter keep rows) ∙ elim (cases_Bool (is row)) [
      | inl here ↦ (λ i. cond (here i) 1 0 + (count-none is (filter keep rows) (all-filter (λ r. not (is r)) keep rows (others here e.0))) i)
          ∙ sym (ap (λ b. cond (b || list_any there rows) 1 0) (and_from (is row) (keep row) here kept))
      | inr other ↦ (λ i. cond (other i) 1 0 + rest i) ∙ plus (list_any there rows) ∙ sym (ap (λ b. cond ((b && keep row) || list_any there rows) 1 0) other)
    ])
    (λ gone. rest ∙ sym (ap (λ b. cond (b || list_any there rows) 1 0) (and_right (is row) (keep row) gone)))
  where
    is : Row → Bool
    is r = r.id == id

    there : Row → Bool
    there r = (r.id == id) && keep r

    plus : (b : Bool) → 0 + cond b 1 0 ≡ cond b 1 0
    plus true = refl
    plus false = refl

    others : (row.id == id) ≡ true → not (list_any (λ (b : Row). row.id == b.id) rows) ≡ true → list_all (λ r. not (r.id == id)) rows ≡ true
    others here none = all-weaker (λ b. not (row.id == b.id)) (λ r. not (r.id == id)) rows
        (λ b other. elim (cases_Bool (b.id == id)) [
          | inl same ↦ absurd (both_ways (row.id == b.id) (not-true (row.id == b.id) other) (eq-eqb row.id b.id (eqb-true row.id id here ∙ sym (eqb-true b.id id same))))
          | inr differs ↦ ap not differs
        ])
        (none-all (λ b. row.id == b.id) rows none)

pub lists-once : (v : VolumeState) (dir id : ℕ) → IsSoundVolume v → count_by (λ (row : Row). row.id == id) (listed v.rows dir) ≡ cond (is_child v.rows dir id) 1 0
unfolding listed children is_child
lists-once v dir id s =
    order-count row_key (λ (row : Row). cond (row.id == id) 1 0) (children v.rows dir)
    ∙ count-once v.rows (λ row. row.parent == dir) id (tree-parts v s.tree).apart

-- the keys of a directory's children differ
keys-apart : (v : VolumeState) (dir : ℕ) → has_apart_names v ≡ true → are_apart (λ a b. bytes_eq (row_key a) (row_key b)) (children v.rows dir) ≡ true
unfolding children has_apart_names
keys-apart v dir h =
    let apart : are_apart are_named_alike (children v.rows dir) ≡ true = apart-filter are_named_alike (λ row. row.parent == dir) v.rows h in
    apart-by are_named_alike are_named_alike (λ a b. bytes_eq (row_key a) (row_key b)) (λ row. row.parent == dir) (children v.rows dir) apart apart
    (all-kept (λ (row : Row). row.parent == dir) v.rows)
    (λ a b in_a in_b same. inl (and_from (a.parent == b.parent) (bytes_eq (row_key a) (row_key b)) (eq-eqb a.parent b.parent (eqb-true a.parent dir in_a ∙ sym (eqb-true b.parent dir in_b))) same))

pub lists-by-key : (v : VolumeState) (dir : ℕ) → IsSoundVolume v → rises row_key (listed v.rows dir) ≡ true
unfolding listed
lists-by-key v dir s = order-rises row_key (children v.rows dir) (keys-apart v dir s.names)

pub lists-no-other : (v : VolumeState) (dir : ℕ) (list : List Row) → rises row_key list ≡ true → ((row : Row) → Contains list row ↔ Contains (children v.rows dir) row) → IsSoundVolume v → list ≡ listed v.rows dir
unfolding listed
lists-no-other v dir list up same s =
    rising-one row_key list (in_order row_key (children v.rows dir)) up (lists-by-key v dir s)
    (λ row c. order-holds row_key row (children v.rows dir) ((same row).0 c))
    (λ row c. (same row).1 (order-contains row_key row (children v.rows dir) c))

pub pages-are-list : (list : List Row) (counts : List ℕ) → pages list 1 counts ≡ take (sum counts) list
pages-are-list list counts = pages-are list counts 1 0 (omega arith)
