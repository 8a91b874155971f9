-- What is counted, beside what is listed.
use Rattle.std.proofs.Common.{◌==◌, ◌≡◌, ◌∙◌, ap, refl, ℕ, zero, suc, ◌-◌, ◌<◌, Bool, true, false, not, cond, List, [], ◌∷◌, length, take, drop, map, Some, inl, inr, subst, arith}
use Rattle.std.specs.List.{Contains, filter, find, list_any}
use Rattle.std.proofs.lemmas.Bool.{and_parts, cond_both, cond-true, cond-false, not-true, eq-eqb}
use Rattle.std.proofs.lemmas.List.{length-map}
use Rattle.volume_spec.proofs.BareRows.{filter-bare, lists-bare}
use Rattle.volume_spec.proofs.Ordered.{is-here, is-later, contains-cases, all-at, order-contains}
use Rattle.volume_spec.proofs.Trees.{tree-parts}
use Rattle.volume_spec.specs.Edits.{bare}
use Rattle.volume_spec.proofs.ListReplies.{entries-are-page}
use Rattle.volume_spec.specs.Shared.{Opened}
use Rattle.volume_spec.specs.Enumerate.{ListAsked, is_counted, counted_children, entries}
use Rattle.volume_spec.specs.Listing.{row_key, children, listed}
use Rattle.afp_base.specs.Apart.{are_apart}
use Rattle.volume_spec.specs.SoundVolume.{IsSoundVolume}
use Rattle.volume_spec.specs.VolumeState.{Row, VolumeState}
use Rattle.volume_spec.specs.Walk.{row_at}
use Rattle.afp_base.proofs.ListFacts.{none-all}

filter-all : {A : Type 0} (keep : A → Bool) (xs : List A) → ((x : A) → keep x ≡ true) → filter keep xs ≡ xs
filter-all keep [] each = refl
filter-all keep (x ∷ xs) each = cond-true (keep x) (x ∷ filter keep xs) (filter keep xs) (each x) ∙ ap (λ l. x ∷ l) (filter-all keep xs each)

pub counts-all : (rows : List Row) (asked : ListAsked) (dir : ℕ) → (asked.file_bits == 0) ≡ false → (asked.dir_bits == 0) ≡ false → counted_children rows asked dir ≡ listed rows dir
unfolding counted_children
counts-all rows asked dir files dirs = filter-all (is_counted asked) (listed rows dir) (λ row. by row.dir)
  where
    by : (d : Bool) → not (cond d asked.dir_bits asked.file_bits == 0) ≡ true
    by true = ap not dirs
    by false = ap not files

filter-contains : {A : Type 0} (keep : A → Bool) (xs : List A) (z : A) → Contains (filter keep xs) z → Contains xs z
filter-contains keep [] z c = c
filter-contains keep (x ∷ xs) z c =
    cond_both (keep x) (x ∷ filter keep xs) (filter keep xs) (λ l. Contains l z → Contains (x ∷ xs) z)
    (λ kept c. elim (contains-cases x z (filter keep xs) c) [
      | inl same ↦ subst (λ q. Contains (x ∷ xs) q) same (is-here x xs)
      | inr later ↦ is-later x z xs (filter-contains keep xs z later)
    ])
    (λ gone c. is-later x z xs (filter-contains keep xs z c)) c

find-contained : (rows : List Row) (z : Row) → are_apart (λ (a : Row) b. a.id == b.id) rows ≡ true → Contains rows z → find (λ (row : Row). row.id == z.id) rows ≡ Some z
find-contained [] z apart c = let k : c.0 < 0 = c.1 in absurd (omega arith)
find-contained (x ∷ xs) z apart c =
    let e = and_parts (not (list_any (λ (b : Row). x.id == b.id) xs)) (are_apart (λ (a : Row) b. a.id == b.id) xs) apart in
    elim (contains-cases x z xs c) [
      | inl same ↦ cond-true (x.id == z.id) (Some x) (find (λ (row : Row). row.id == z.id) xs) (eq-eqb x.id z.id (ap (λ (r : Row). r.id) same)) ∙ ap Some same
      | inr later ↦
          let other : (x.id == z.id) ≡ false = not-true (x.id == z.id) (all-at (λ (b : Row). not (x.id == b.id)) xs z (none-all (λ (b : Row). x.id == b.id) xs e.0) later) in
          cond-false (x.id == z.id) (Some x) (find (λ (row : Row). row.id == z.id) xs) other ∙ find-contained xs z e.1 later
    ]

pub listed-is-there : (v : VolumeState) (dir : ℕ) (row : Row) → IsSoundVolume v → Contains (listed v.rows dir) row → row_at v.rows row.id ≡ Some row
unfolding listed children row_at
listed-is-there v dir row s c =
    find-contained v.rows row (tree-parts v s.tree).apart
    (filter-contains (λ (r : Row). r.parent == dir) v.rows row (order-contains row_key row (filter (λ (r : Row). r.parent == dir) v.rows) c))

kept-bare : (asked : ListAsked) (rows : List Row) → filter (is_counted asked) (map bare rows) ≡ map bare (filter (is_counted asked) rows)
kept-bare asked [] = refl
kept-bare asked (row ∷ rows) =
    let keep : Row → Bool = is_counted asked in
    ap (λ l. cond (keep row) (bare row ∷ l) l) (kept-bare asked rows)
    ∙ cond_both (keep row) (row ∷ filter keep rows) (filter keep rows) (λ l. cond (keep row) (bare row ∷ map bare (filter keep rows)) (map bare (filter keep rows)) ≡ map bare l)
    (λ kept. cond-true (keep row) (bare row ∷ map bare (filter keep rows)) (map bare (filter keep rows)) kept)
    (λ gone. cond-false (keep row) (bare row ∷ map bare (filter keep rows)) (map bare (filter keep rows)) gone)

pub counts-bare : (rows : List Row) (asked : ListAsked) (dir : ℕ) → counted_children (map bare rows) asked dir ≡ map bare (counted_children rows asked dir)
unfolding counted_children
counts-bare rows asked dir = ap (λ l. filter (is_counted asked) l) (lists-bare rows dir) ∙ kept-bare asked (listed rows dir)

pub offspring-bare : (rows : List Row) (dir : ℕ) → length (children (map bare rows) dir) ≡ length (children rows dir)
unfolding children
offspring-bare rows dir = ap length (filter-bare dir rows) ∙ length-map (filter (λ (row : Row). row.parent == dir) rows) bare

drop-contains : {A : Type 0} (n : ℕ) (xs : List A) (z : A) → Contains (drop n xs) z → Contains xs z
drop-contains zero xs z c = c
drop-contains (suc n) [] z c = c
drop-contains (suc n) (x ∷ xs) z c = is-later x z xs (drop-contains n xs z c)

take-contains : {A : Type 0} (n : ℕ) (xs : List A) (z : A) → Contains (take n xs) z → Contains xs z
take-contains zero xs z c = let k : c.0 < 0 = c.1 in absurd (omega arith)
take-contains (suc n) [] z c = c
take-contains (suc n) (x ∷ xs) z c = elim (contains-cases x z (take n xs) c) [
  | inl same ↦ subst (λ q. Contains (x ∷ xs) q) same (is-here x xs)
  | inr later ↦ is-later x z xs (take-contains n xs z later)
]

pub entries-are-there : (v : VolumeState) (opens : List Opened) (asked : ListAsked) (dir : ℕ) (row : Row) → IsSoundVolume v → Contains (entries v.rows opens asked dir) row → row_at v.rows row.id ≡ Some row
unfolding counted_children
entries-are-there v opens asked dir row s c =
    let n : ℕ = length (entries v.rows opens asked dir) in
    let paged : Contains (take n (drop (asked.start - 1) (counted_children v.rows asked dir))) row = subst (λ (l : List Row). Contains l row) (entries-are-page v.rows opens asked dir) c in
    let in_counted = drop-contains (asked.start - 1) (counted_children v.rows asked dir) row (take-contains n (drop (asked.start - 1) (counted_children v.rows asked dir)) row paged) in
    listed-is-there v dir row s (filter-contains (is_counted asked) (listed v.rows dir) row in_counted)
