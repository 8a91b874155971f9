-- Two halvings find the rows that a range meets.
use Rattle.std.proofs.Common.{◌≡◌, ◌∙◌, refl, sym, ap, subst, ℕ, ◌+◌, ◌-◌, ◌<◌, ◌≤◌, Bool, true, false, not, ◌&&◌, ◌||◌, ◌==◌, if◌then◌else◌, List, [], ◌∷◌, length, filter, zero, suc, Some, inl, inr, arith}
use Rattle.std.specs.Prelude.{nat_lt, nat_le, slice_index_or, slice_range}
use Rattle.std.specs.Cmp.{both_ways}
use Rattle.std.specs.List.{list_any, remove}
use Rattle.std.specs.List.Sorted.{IsPartitionedBy, IsPartitionPoint}
use Rattle.std.proofs.lemmas.Bool.{cases_lt, ltb-true, leb-true, lt-ltb, and_parts, eqb-true, or_parts, le-leb, ltb-false, leb-false}
use Rattle.std.proofs.lemmas.Bool.Decides.{nat_tests}
use Rattle.std.proofs.lemmas.List.Folds.{Any-from_list_any, list_any_at}
use Rattle.std.proofs.lemmas.List.{get_or_default}
use Rattle.std.proofs.lemmas.List.Edits.{get_or-between, length-between}
use Rattle.afp_base.specs.Overlap.{Range, do_meet}
use Rattle.range_locks.specs.declared.rows.LockRow.{LockRow}
use Rattle.range_locks.specs.Locks.{AreInOrder, are_one_row}
use Rattle.range_locks.specs.lemma.Seen.{IsSeen, IsRowPlace}

-- a row of a list by its place
abbrev row_at : List LockRow → ℕ → LockRow → LockRow
row_at rows i d = slice_index_or rows i d

module _ (rows : List LockRow) (o : AreInOrder rows) where
  rising : (i j : ℕ) (d : LockRow) → i < j → j < length rows → (row_at rows i d).range.to < (row_at rows j d).range.from
  rising i j d h k = ltb-true _ _ (o.rising i j d h k)

  valid : (i : ℕ) (d : LockRow) → i < length rows → (row_at rows i d).range.from ≤ (row_at rows i d).range.to
  valid i d h = leb-true _ _ (o.valid i d h)

  pub parted_ends : (x : ℕ) → IsPartitionedBy (λ row. nat_lt row.range.to x) rows
  parted_ends x i j d le within passes = elim (cases_lt i j) [
    | inl less ↦ lt-ltb _ _ (let a = ltb-true _ _ passes in let b = rising i j d less within in let c = valid j d within in omega (arith, a, b, c))
    | inr other ↦ let same : j ≡ i = omega arith in subst (λ k. nat_lt (row_at rows k d).range.to x ≡ true) same passes
  ]

  pub parted_starts : (x : ℕ) → IsPartitionedBy (λ row. nat_le row.range.from x) rows
  parted_starts x i j d le within passes = elim (cases_lt i j) [
    | inl less ↦ le-leb _ _ (let a = leb-true _ _ passes in let b = rising i j d less within in let c = valid i d (omega arith) in omega (arith, a, b, c))
    | inr other ↦ let same : j ≡ i = omega arith in subst (λ k. nat_le (row_at rows k d).range.from x ≡ true) same passes
  ]

  module _ (range : Range) (ordered : range.from ≤ range.to) (from to : ℕ) (from_in : from ≤ length rows) (to_in : to ≤ length rows)
      (ends : IsPartitionPoint (λ row. nat_lt row.range.to range.from ≡ true) (λ row. nat_lt row.range.to range.from ≡ false) rows from)
      (starts : IsPartitionPoint (λ row. nat_le row.range.from range.to ≡ true) (λ row. nat_le row.range.from range.to ≡ false) rows to) where
    -- the rows that end before the range begin before it too
    pub in_turn : LockRow → from ≤ to
    in_turn d = elim (cases_lt to from) [
      | inl less ↦ absurd (
          let a = ltb-true _ _ (ends.0 to d (omega arith) less) in
          let b = leb-false _ _ (starts.1 to d (omega arith) (omega arith)) in
          let c = valid to d (omega arith) in omega (arith, a, b, c))
      | inr other ↦ other
    ]

    abbrev meets : LockRow → Bool
    meets row = do_meet row.range range

    met_between : (k : ℕ) (d : LockRow) → k < length rows → meets (row_at rows k d) ≡ true → (from ≤ k) × (k < to)
    met_between k d within met =
        let parts = and_parts (nat_le (row_at rows k d).range.from range.to) (nat_le range.from (row_at rows k d).range.to) met in (
          elim (cases_lt k from) [ inl less ↦ absurd (let a = ltb-true _ _ (ends.0 k d (omega arith) less) in let b = leb-true _ _ parts.1 in omega (arith, a, b)) | inr other ↦ other ],
          elim (cases_lt k to) [ inl less ↦ less | inr other ↦ absurd (let a = leb-false _ _ (starts.1 k d other within) in let b = leb-true _ _ parts.0 in omega (arith, a, b)) ],
        )

    between_meets : (k : ℕ) (d : LockRow) → from ≤ k → k < to → meets (row_at rows k d) ≡ true
    between_meets k d low high =
        let a = starts.0 k d (omega arith) high in
        let b = le-leb _ _ (ltb-false _ _ (ends.1 k d low (omega arith))) in
        λ i. a i && b i

    pub any_met : (p : LockRow → Bool) → list_any (λ row. meets row && p row) rows ≡ list_any p (slice_range rows from to)
    any_met p = both_ways _ _
        (λ h.
        let f = Any-from_list_any (λ row. meets row && p row) rows h in
        let both = and_parts (meets f.1) (p f.1) f.4 in
        let here : meets (row_at rows f.0 f.1) ≡ true = ap meets f.3 ∙ both.0 in
        let place = met_between f.0 f.1 f.2 here in
        let len = length-between rows from to to_in in
        let there : slice_index_or (slice_range rows from to) (f.0 - from) f.1 ≡ f.1 =
        get_or-between rows from to (f.0 - from) f.1 (omega (arith, place.0, place.1)) ∙ ap (λ k. slice_index_or rows k f.1) (omega_is f.0 place.0) ∙ f.3 in
        list_any_at p (slice_range rows from to) (f.0 - from) f.1 (omega (arith, len, place.0, place.1)) (ap p there ∙ both.1))
        (λ h.
        let f = Any-from_list_any p (slice_range rows from to) h in
        let len = length-between rows from to to_in in
        let inside : from + f.0 < to = omega (arith, len, f.2) in
        let there : slice_index_or rows (from + f.0) f.1 ≡ f.1 = sym (get_or-between rows from to f.0 f.1 inside) ∙ f.3 in
        let met : meets f.1 ≡ true = sym (ap meets there) ∙ between_meets (from + f.0) f.1 (omega arith) inside in
        list_any_at (λ row. meets row && p row) rows (from + f.0) f.1 (omega (arith, inside)) (ap (λ row. meets row && p row) there ∙ (λ i. met i && f.4 i)))
      where
        omega_is : (k : ℕ) → from ≤ k → from + (k - from) ≡ k
        omega_is k h = omega arith

    -- of rows none of which is another reference's, each is its own
    own_alone : (r : ℕ) (met : List LockRow) → list_any (λ row. not (row.reference.0 == r)) met ≡ false → not (length met == 0) ≡ list_any (λ row. row.reference.0 == r) met
    own_alone r [] none = refl
    own_alone r (x ∷ xs) none = ap not (more (length xs)) ∙ sym (first (x.reference.0 == r) (list_any (λ row. not (row.reference.0 == r)) xs) (list_any (λ row. row.reference.0 == r) xs) none)
      where
        first : (a b c : Bool) → (not a || b) ≡ false → (a || c) ≡ true
        first true b c h = refl
        first false b c h = absurd (cc h)

        more : (n : ℕ) → (suc n == 0) ≡ false
        more n = grind (arith, nat_tests)

    pub seen_is : {met : List LockRow} (r : ℕ) (other own : Bool) → met ≡ slice_range rows from to → other ≡ list_any (λ row. not (row.reference.0 == r)) met → own ≡ not (length met == 0)
        → IsSeen rows r range (record { other = other; own = own; place = from })
    seen_is {met} r other own met_is other_is own_is = record {
      other = other_is ∙ ap (list_any (λ row. not (row.reference.0 == r))) met_is ∙ sym (any_met (λ row. not (row.reference.0 == r)));
      own = λ none. own_is ∙ own_alone r met (sym other_is ∙ none) ∙ ap (list_any (λ row. row.reference.0 == r)) met_is ∙ sym (any_met (λ row. row.reference.0 == r));
      ordered = ordered;
      within = from_in;
      before = λ i d less. ends.0 i d (omega arith) less;
      behind = λ i d low high. ends.1 i d low high;
    }

-- ---- a row that is there
ends_of : (row x : LockRow) → are_one_row row x ≡ true → (row.range.from ≡ x.range.from) × (row.range.to ≡ x.range.to)
ends_of row x h =
    let first = and_parts (row.reference.0 == x.reference.0) ((row.range.from == x.range.from) && (row.range.to == x.range.to)) h in
    let ends = and_parts (row.range.from == x.range.from) (row.range.to == x.range.to) first.1 in
    (eqb-true row.range.from x.range.from ends.0, eqb-true row.range.to x.range.to ends.1)

module _ (rows : List LockRow) (o : AreInOrder rows) (row : LockRow) (ordered : row.range.from ≤ row.range.to) (place : ℕ) (ends : IsPartitionPoint (λ x. nat_lt x.range.to row.range.from ≡ true) (λ x. nat_lt x.range.to row.range.from ≡ false) rows place) where
  not_before : (k : ℕ) (x : LockRow) → k < length rows → slice_index_or rows k x ≡ x → are_one_row row x ≡ true → place ≤ k
  not_before k x within is same = elim (cases_lt k place) [
    | inl less ↦ absurd (let e = ends_of row x same in let a = ltb-true _ _ (sym (ap (λ (y : LockRow). nat_lt y.range.to row.range.from) is) ∙ ends.0 k x (omega arith) less) in omega (arith, a, e.1))
    | inr other ↦ other
  ]

  pub row_none : (place < length rows → ⊥) → false ≡ list_any (are_one_row row) rows
  row_none none = elim (list_any (are_one_row row) rows) as (λ b. list_any (are_one_row row) rows ≡ b → false ≡ b) [
    | true ↦ λ is. let f = Any-from_list_any (are_one_row row) rows is in absurd (let low = not_before f.0 f.1 f.2 f.3 f.4 in none (omega (arith, low, f.2)))
    | false ↦ λ is. refl
  ] refl

  pub row_some : (x : LockRow) → place < length rows → x ≡ slice_index_or rows place x → are_one_row row x ≡ list_any (are_one_row row) rows
  row_some x within read = both_ways _ _
      (λ h. list_any_at (are_one_row row) rows place x within (sym (ap (are_one_row row) read) ∙ h))
      (λ h.
      let f = Any-from_list_any (are_one_row row) rows h in
      let low = not_before f.0 f.1 f.2 f.3 f.4 in
      let here : f.0 ≡ place = elim (cases_lt place f.0) [
        | inl less ↦ absurd (
            let e = ends_of row f.1 f.4 in
            let a = rising rows o place f.0 f.1 less f.2 in
            let b = ltb-false _ _ (ends.1 place f.1 (omega arith) within) in
            let c : (slice_index_or rows f.0 f.1).range.from ≡ f.1.range.from = ap (λ (y : LockRow). y.range.from) f.3 in
            omega (arith, a, b, c, e.0))
        | inr other ↦ omega (arith, low, other)
      ] in
      ap (are_one_row row) (read ∙ ap (λ k. slice_index_or rows k x) (sym here) ∙ get_or_default rows f.0 x f.1 f.2 ∙ f.3) ∙ f.4)

-- ---- a row that goes
pub rows_stay : {rows whole : List LockRow} (row : LockRow) → rows ≡ whole → list_any (are_one_row row) rows ≡ false → whole ≡ filter (λ x. not (are_one_row row x)) whole
rows_stay {rows} {whole} row same none = each whole (sym (ap (list_any (are_one_row row)) same) ∙ none)
  where
    each : (rows : List LockRow) → list_any (are_one_row row) rows ≡ false → rows ≡ filter (λ x. not (are_one_row row x)) rows
    each [] h = refl
    each (x ∷ xs) h =
        let parts = or_parts (are_one_row row x) (list_any (are_one_row row) xs) h in
        ap (λ rest. x ∷ rest) (each xs parts.1) ∙ ap (λ b. if not b then x ∷ filter (λ y. not (are_one_row row y)) xs else filter (λ y. not (are_one_row row y)) xs) (sym parts.0)

-- of rows that end before the next ones begin, no two are one
one_alone : (rows : List LockRow) (row : LockRow) (i j : ℕ) (d : LockRow) → AreInOrder rows → i < j → j < length rows → are_one_row row (slice_index_or rows i d) ≡ true → are_one_row row (slice_index_or rows j d) ≡ true → ⊥
one_alone rows row i j d o less within first second =
    let a = ends_of row (slice_index_or rows i d) first in
    let b = ends_of row (slice_index_or rows j d) second in
    let apart = rising rows o i j d less within in
    let ordered = valid rows o i d (omega (arith, less, within)) in
    omega (arith, a.0, a.1, b.0, apart, ordered)

pub row_gone : (rows : List LockRow) (row : LockRow) (place : ℕ) → AreInOrder rows → IsRowPlace rows row (Some place) → remove rows place ≡ filter (λ x. not (are_one_row row x)) rows
row_gone [] row place o there = absurd (omega (arith, there.0))
row_gone (x ∷ xs) row zero o there =
    let none : list_any (are_one_row row) xs ≡ false = elim (list_any (are_one_row row) xs) as (λ b. list_any (are_one_row row) xs ≡ b → b ≡ false) [
      | true ↦ λ is. let f = Any-from_list_any (are_one_row row) xs is in absurd (one_alone (x ∷ xs) row 0 (suc f.0) f.1 o (omega arith) (omega (arith, f.2)) (there.1 x) (ap (are_one_row row) f.3 ∙ f.4))
      | false ↦ λ _. refl
    ] refl in
    rows_stay row refl none ∙ ap (λ b. if not b then x ∷ filter (λ y. not (are_one_row row y)) xs else filter (λ y. not (are_one_row row y)) xs) (sym (there.1 x))
row_gone (x ∷ xs) row (suc place) o there =
    let other : are_one_row row x ≡ false = elim (are_one_row row x) as (λ b. are_one_row row x ≡ b → b ≡ false) [
      | true ↦ λ is. absurd (one_alone (x ∷ xs) row 0 (suc place) x o (omega arith) there.0 is (there.1 x))
      | false ↦ λ _. refl
    ] refl in
    ap (λ rest. x ∷ rest) (row_gone xs row place (record { valid = λ i d h. o.valid (suc i) d (omega (arith, h)); rising = λ i j d h k. o.rising (suc i) (suc j) d (omega (arith, h)) (omega (arith, k)) }) (omega (arith, there.0), there.1))
    ∙ ap (λ b. if not b then x ∷ filter (λ y. not (are_one_row row y)) xs else filter (λ y. not (are_one_row row y)) xs) (sym other)
