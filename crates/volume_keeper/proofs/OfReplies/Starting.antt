-- The child with which a list begins, and the next one that counts.
use Rattle.std.proofs.Common.{◌≡◌, ◌∙◌, ap, sym, refl, subst, ℕ, zero, suc, ◌+◌, ◌-◌, ◌==◌, ◌≤◌, ◌<◌, arith, Bool, true, false, not, if◌then◌else◌, ◌&&◌, cond, List, [], ◌∷◌, length, map, drop, take, inl, inr, Option, Some, None}
use Rattle.std.specs.Prelude.{slice_get}
use Rattle.std.specs.List.{filter}
use Rattle.std.proofs.lemmas.Bool.{and_parts, cases_Bool, cond-true, cond-false, le-ltb, lt-ltb}
use Rattle.std.proofs.lemmas.List.{drop-drop, drop-map, length-drop, length-map, take-map}
use Rattle.afp_base.proofs.ListFacts.{filter-map}
use Rattle.volume_spec.specs.Enumerate.{ListAsked, is_counted, counted_children}
use Rattle.volume_spec.specs.Listing.{listed}
use Rattle.volume_spec.specs.VolumeState.{Row}
use Rattle.node_rows.specs.Kinds.{IsPlaceBehind, are_of_kind, is_of_kind, passing}
use Rattle.volume_keeper.specs.replies.lemma.Filling.{IsBehind, IsStart, counted_from}

-- what stands behind those that were passed over is the list from its start on
pub starts : (rows : List Row) (asked : ListAsked) (dir skip : ℕ) (place : Option ℕ) → 0 < asked.start → skip ≡ asked.start - 1 → IsBehind rows asked dir 0 skip place → IsStart rows asked dir place
unfolding counted_children
starts rows asked dir skip None some is behind = let k : length (counted_from rows asked dir 0) ≤ skip = behind in lt-ltb (length (counted_from rows asked dir 0)) asked.start (omega arith)
starts rows asked dir skip (Some place) some is behind =
    let k : skip < length (counted_from rows asked dir 0) = behind.1 in
    (le-ltb (length (counted_from rows asked dir 0)) asked.start (omega arith), behind.2 ∙ ap (λ n. drop n (counted_from rows asked dir 0)) is)

-- where every child counts

all-count : (asked : ListAsked) (rows : List Row) → (not (asked.file_bits == 0) && not (asked.dir_bits == 0)) ≡ true → filter (is_counted asked) rows ≡ rows
all-count asked [] h = refl
all-count asked (row ∷ rows) h =
    let e = and_parts (not (asked.file_bits == 0)) (not (asked.dir_bits == 0)) h in
    let counts : is_counted asked row ≡ true = by row.dir e.0 e.1 in
    ap (λ b. cond b (row ∷ filter (is_counted asked) rows) (filter (is_counted asked) rows)) counts ∙ ap (λ l. row ∷ l) (all-count asked rows h)
  where
    by : (d : Bool) → not (asked.file_bits == 0) ≡ true → not (asked.dir_bits == 0) ≡ true → not (cond d asked.dir_bits asked.file_bits == 0) ≡ true
    by true files dirs = dirs
    by false files dirs = files

module _ (rows : List Row) (asked : ListAsked) (dir from skip : ℕ) (all : (not (asked.file_bits == 0) && not (asked.dir_bits == 0)) ≡ true) where
  pub all-behind : skip < length (listed rows dir) - from → IsBehind rows asked dir from skip (Some (from + skip))
  all-behind within =
      let same : counted_from rows asked dir from ≡ drop from (listed rows dir) = all-count asked (drop from (listed rows dir)) all in
      let size : length (drop from (listed rows dir)) ≡ length (listed rows dir) - from = length-drop from (listed rows dir) in
      let inside : skip < length (drop from (listed rows dir)) = omega arith in (
        omega arith,
        subst (λ l. skip < length l) (sym same) inside,
        all-count asked (drop (from + skip) (listed rows dir)) all ∙ sym (drop-drop skip from (listed rows dir)) ∙ ap (λ l. drop skip l) (sym same),
      )

  pub none-behind : length (listed rows dir) - from ≤ skip → IsBehind rows asked dir from skip None
  none-behind past =
      let same : counted_from rows asked dir from ≡ drop from (listed rows dir) = all-count asked (drop from (listed rows dir)) all in
      let size : length (drop from (listed rows dir)) ≡ length (listed rows dir) - from = length-drop from (listed rows dir) in
      let few : length (drop from (listed rows dir)) ≤ skip = omega arith in
      subst (λ l. length l ≤ skip) (sym same) few

-- where none does
none-count : (asked : ListAsked) (rows : List Row) → ((asked.file_bits == 0) && (asked.dir_bits == 0)) ≡ true → filter (is_counted asked) rows ≡ []
none-count asked [] h = refl
none-count asked (row ∷ rows) h =
    let e = and_parts (asked.file_bits == 0) (asked.dir_bits == 0) h in
    let other : is_counted asked row ≡ false = by row.dir e.0 e.1 in
    ap (λ b. cond b (row ∷ filter (is_counted asked) rows) (filter (is_counted asked) rows)) other ∙ none-count asked rows h
  where
    by : (d : Bool) → (asked.file_bits == 0) ≡ true → (asked.dir_bits == 0) ≡ true → not (cond d asked.dir_bits asked.file_bits == 0) ≡ false
    by true files dirs = ap not dirs
    by false files dirs = ap not files

pub nothing-behind : (rows : List Row) (asked : ListAsked) (dir from skip : ℕ) → ((asked.file_bits == 0) && (asked.dir_bits == 0)) ≡ true → IsBehind rows asked dir from skip None
nothing-behind rows asked dir from skip none =
    let gone : counted_from rows asked dir from ≡ [] = none-count asked (drop from (listed rows dir)) none in
    let few : length {A = Row} [] ≤ skip = omega arith in
    subst (λ l. length l ≤ skip) (sym gone) few

-- where one kind does

counts-kind : (asked : ListAsked) (files : Bool) (row : Row) → ((asked.file_bits == 0) && (asked.dir_bits == 0)) ≡ false → (not (asked.file_bits == 0) && not (asked.dir_bits == 0)) ≡ false → files ≡ not (asked.file_bits == 0)
    → is_counted asked row ≡ is_of_kind files row
counts-kind asked files row some one is =
    by (asked.file_bits == 0) (asked.dir_bits == 0) row.dir refl refl some one ∙ ap (λ b. is_of_kind b row) (sym is)
  where
    by : (no_files no_dirs d : Bool) → (asked.file_bits == 0) ≡ no_files → (asked.dir_bits == 0) ≡ no_dirs → (no_files && no_dirs) ≡ false → (not no_files && not no_dirs) ≡ false
        → not (cond d asked.dir_bits asked.file_bits == 0) ≡ (if not (asked.file_bits == 0) then not d else d)
    by true true d f g some one = absurd (cc)
    by false false d f g some one = absurd (cc)
    by true false true f g some one = ap not g ∙ ap (λ b. if not b then false else true) (sym f)
    by true false false f g some one = ap not f ∙ ap (λ b. if not b then true else false) (sym f)
    by false true true f g some one = ap not g ∙ ap (λ b. if not b then false else true) (sym f)
    by false true false f g some one = ap not f ∙ ap (λ b. if not b then true else false) (sym f)

-- what passes a test is as much as passes among the answers
passing-is : (p : Row → Bool) (xs : List Row) → passing (map p xs) ≡ length (filter p xs)
passing-is p xs = ap length (filter-map (λ t. t) p xs) ∙ length-map (filter p xs) p

-- so many passed over are so many dropped
passed-over : (p : Row → Bool) (xs : List Row) (x skip : ℕ) → length (filter p (take x xs)) ≡ skip → filter p (drop x xs) ≡ drop skip (filter p xs)
passed-over p xs zero skip is = ap (λ n. drop n (filter p xs)) is
passed-over p [] (suc x) skip is = ap (λ n. drop {A = Row} n []) is
passed-over p (y ∷ ys) (suc x) skip is = elim (cases_Bool (p y)) [
  | inl passes ↦
      let one : suc (length (filter p (take x ys))) ≡ skip = sym (ap length (cond-true (p y) (y ∷ filter p (take x ys)) (filter p (take x ys)) passes)) ∙ is in
      passed-over p ys x (length (filter p (take x ys))) refl
      ∙ ap (λ l. drop (suc (length (filter p (take x ys)))) l) (sym (cond-true (p y) (y ∷ filter p ys) (filter p ys) passes))
      ∙ ap (λ n. drop n (filter p (y ∷ ys))) one
  | inr other ↦
      let none : length (filter p (take x ys)) ≡ skip = ap length (sym (cond-false (p y) (y ∷ filter p (take x ys)) (filter p (take x ys)) other)) ∙ is in
      passed-over p ys x skip none ∙ ap (drop skip) (sym (cond-false (p y) (y ∷ filter p ys) (filter p ys) other))
]

-- one that passes is left
one-left : (p : Row → Bool) (xs : List Row) (i : ℕ) → slice_get (map p xs) i ≡ Some true → 0 < length (filter p (drop i xs))
one-left p [] i there = absurd (cc)
one-left p (x ∷ xs) zero there =
    let passes : p x ≡ true = cc in
    let l : filter p (x ∷ xs) ≡ x ∷ filter p xs = cond-true (p x) (x ∷ filter p xs) (filter p xs) passes in
    omega (arith, ap length l)
one-left p (x ∷ xs) (suc i) there = one-left p xs i there

module _ (rows : List Row) (asked : ListAsked) (dir from skip : ℕ) (files : Bool) (same : (row : Row) → is_counted asked row ≡ is_of_kind files row) where
  asked-of : (list : List Row) → filter (is_of_kind files) list ≡ filter (is_counted asked) list
  asked-of list = λ i. filter (λ row. sym (same row) i) list

  pub kind-behind : (place : Option ℕ) → IsPlaceBehind (are_of_kind files (listed rows dir)) from skip place → IsBehind rows asked dir from skip place
  kind-behind None few =
      let size : passing (drop from (are_of_kind files (listed rows dir))) ≡ length (counted_from rows asked dir from) =
      ap passing (drop-map (is_of_kind files) from (listed rows dir)) ∙ passing-is (is_of_kind files) (drop from (listed rows dir)) ∙ ap length (asked-of (drop from (listed rows dir))) in
      subst (λ n. n ≤ skip) size few
  kind-behind (Some place) there =
      let low : from ≤ place = there.0 in
      let x : ℕ = place - from in
      let spot : from + x ≡ place = omega arith in
      let left : List Row = drop from (listed rows dir) in
      let over : length (filter (is_of_kind files) (take x left)) ≡ skip =
      sym (ap (λ l. passing (take x l)) (drop-map (is_of_kind files) from (listed rows dir)) ∙ ap passing (take-map (is_of_kind files) x left) ∙ passing-is (is_of_kind files) (take x left)) ∙ there.1 in
      let behind : filter (is_of_kind files) (drop place (listed rows dir)) ≡ drop skip (filter (is_of_kind files) left) =
      ap (λ n. filter (is_of_kind files) (drop n (listed rows dir))) (sym spot) ∙ ap (filter (is_of_kind files)) (sym (drop-drop x from (listed rows dir))) ∙ passed-over (is_of_kind files) left x skip over in
      let one : 0 < length (filter (is_of_kind files) (drop place (listed rows dir))) = one-left (is_of_kind files) (listed rows dir) place there.2 in
      let size : length (drop skip (filter (is_of_kind files) left)) ≡ length (filter (is_of_kind files) left) - skip = length-drop skip (filter (is_of_kind files) left) in
      let alike : length (filter (is_of_kind files) (drop place (listed rows dir))) ≡ length (drop skip (filter (is_of_kind files) left)) = ap length behind in
      let inside : skip < length (filter (is_of_kind files) left) = omega arith in (
        low,
        subst (λ l. skip < length l) (asked-of left) inside,
        sym (asked-of (drop place (listed rows dir))) ∙ behind ∙ ap (drop skip) (asked-of left),
      )

-- the kind is that of which something is asked
pub kind-asked : (rows : List Row) (asked : ListAsked) (dir from skip : ℕ) (files : Bool) (place : Option ℕ) → ((asked.file_bits == 0) && (asked.dir_bits == 0)) ≡ false → (not (asked.file_bits == 0) && not (asked.dir_bits == 0)) ≡ false
    → files ≡ not (asked.file_bits == 0) → IsPlaceBehind (are_of_kind files (listed rows dir)) from skip place → IsBehind rows asked dir from skip place
kind-asked rows asked dir from skip files place some one is = kind-behind rows asked dir from skip files (λ row. counts-kind asked files row some one is) place
