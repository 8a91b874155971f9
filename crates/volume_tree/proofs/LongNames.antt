-- The child of a directory with a long name: the lowest id of its children with that name.
use Rattle.std.proofs.Common.{◌==◌, ◌≡◌, ◌∙◌, ap, sym, refl, ℕ, ◌+◌, ◌<◌, ◌≤◌, min, arith, Bool, true, false, ◌&&◌, cond, List, [], ◌∷◌, length, drop, Option, Some, None}
use Rattle.std.specs.Prelude.{nat_lt, option_map, bytes_eq}
use Rattle.std.specs.List.{find, filter, list_all}
use Rattle.std.proofs.lemmas.Bool.{and_parts, cond_both, ltb-true}
use Rattle.std.proofs.lemmas.List.{drop_all}
use Rattle.afp_base.specs.declared.ids.NodeId.{NodeId}
use Rattle.afp_names.specs.LongName.{long_name_of}
use Rattle.volume_spec.proofs.Orders.{order-parts}
use Rattle.volume_spec.proofs.Rising.{above-all}
use Rattle.volume_spec.specs.Listing.{children, listed, row_key}
use Rattle.volume_spec.specs.Order.{in_order, put_in, rises_from, stands_before}
use Rattle.volume_spec.specs.SoundVolume.{IsSoundVolume, has_rising_ids}
use Rattle.volume_spec.specs.VolumeState.{Row, VolumeState}
use Rattle.volume_spec.specs.Walk.{child_by_long_name}
use Rattle.volume_tree.specs.Answered.{IsFoundNode}
use Rattle.volume_tree.specs.lemma.Answered.{lower, option_id}

-- whether a row has this long name
abbrev pub has_long : List ℕ → Row → Bool
has_long element row = bytes_eq (long_name_of row.name row.id) element

-- what is found with one id more, where that passes
abbrev pub found_with : Bool → ℕ → Option ℕ → Option ℕ
found_with passes id found = cond passes (Some (lower found id)) found

-- the lowest id of what was found before and of the rows that pass
abbrev pub lowest : (Row → Bool) → List Row → Option ℕ → Option ℕ
lowest test [] found = found
lowest test (row ∷ rows) found = lowest test rows (found_with (test row) row.id found)

-- the order does not matter

swapped : (a b : Bool) (m n : ℕ) (found : Option ℕ) → found_with a m (found_with b n found) ≡ found_with b n (found_with a m found)
swapped true true m n None = ap {B = Option ℕ} Some (omega arith)
swapped true true m n (Some low) = ap {B = Option ℕ} Some (omega arith)
swapped true false m n found = refl
swapped false true m n found = refl
swapped false false m n found = refl

lowest-put : (test : Row → Bool) (row : Row) (rows : List Row) (found : Option ℕ) → lowest test (put_in row_key row rows) found ≡ lowest test rows (found_with (test row) row.id found)
lowest-put test row [] found = refl
lowest-put test row (r ∷ rows) found =
    cond_both (stands_before (row_key row) (row_key r)) (row ∷ r ∷ rows) (r ∷ put_in row_key row rows) (λ l. lowest test l found ≡ lowest test (r ∷ rows) (found_with (test row) row.id found))
    (λ first. refl)
    (λ later. lowest-put test row rows (found_with (test r) r.id found) ∙ ap (λ o. lowest test rows o) (swapped (test row) (test r) row.id r.id found))

lowest-ordered : (test : Row → Bool) (rows : List Row) (found : Option ℕ) → lowest test (in_order row_key rows) found ≡ lowest test rows found
lowest-ordered test [] found = refl
lowest-ordered test (row ∷ rows) found = lowest-put test row (in_order row_key rows) found ∙ lowest-ordered test rows (found_with (test row) row.id found)

lowest-filtered : (test keep : Row → Bool) (rows : List Row) (found : Option ℕ) → lowest test (filter keep rows) found ≡ lowest (λ r. keep r && test r) rows found
lowest-filtered test keep [] found = refl
lowest-filtered test keep (row ∷ rows) found =
    let both : Row → Bool = λ r. keep r && test r in
    cond_both (keep row) (row ∷ filter keep rows) (filter keep rows) (λ l. lowest test l found ≡ lowest both rows (found_with (keep row && test row) row.id found))
    (λ kept. lowest-filtered test keep rows (found_with (test row) row.id found) ∙ ap (λ b. lowest both rows (found_with (b && test row) row.id found)) (sym kept))
    (λ gone. lowest-filtered test keep rows found ∙ ap (λ b. lowest both rows (found_with (b && test row) row.id found)) (sym gone))

-- where ids rise the first that passes has the lowest

lowest-stays : (test : Row → Bool) (low : ℕ) (rows : List Row) → list_all (λ (row : Row). nat_lt low row.id) rows ≡ true → lowest test rows (Some low) ≡ Some low
lowest-stays test low [] h = refl
lowest-stays test low (row ∷ rows) h =
    let e = and_parts (nat_lt low row.id) (list_all (λ (r : Row). nat_lt low r.id) rows) h in
    let less : low < row.id = ltb-true low row.id e.0 in
    let same : min low row.id ≡ low = omega arith in
    ap (λ o. lowest test rows o) (cond_both (test row) (Some (min low row.id)) (Some low) (λ o. o ≡ Some low) (λ passes. ap {B = Option ℕ} Some same) (λ fails. refl))
    ∙ lowest-stays test low rows e.1

lowest-first : (test : Row → Bool) (low : ℕ) (rows : List Row) → rises_from (λ (row : Row). row.id) low rows ≡ true → lowest test rows None ≡ option_map (λ (row : Row). row.id) (find test rows)
lowest-first test low [] h = refl
lowest-first test low (row ∷ rows) h =
    let e = and_parts (nat_lt low row.id) (rises_from (λ (r : Row). r.id) row.id rows) h in
    cond_both (test row) (Some row) (find test rows) (λ o. lowest test rows (found_with (test row) row.id None) ≡ option_map (λ (r : Row). r.id) o)
    (λ passes. ap (λ b. lowest test rows (found_with b row.id None)) passes ∙ lowest-stays test row.id rows (above-all (λ (r : Row). r.id) row.id rows e.1))
    (λ fails. ap (λ b. lowest test rows (found_with b row.id None)) fails ∙ lowest-first test row.id rows e.1)

lowest-is : (v : VolumeState) (dir : ℕ) (element : List ℕ) → IsSoundVolume v → lowest (has_long element) (listed v.rows dir) None ≡ child_by_long_name v.rows dir element
unfolding listed children child_by_long_name has_rising_ids
lowest-is v dir element s =
    lowest-ordered (has_long element) (filter (λ (row : Row). row.parent == dir) v.rows) None
    ∙ lowest-filtered (has_long element) (λ (row : Row). row.parent == dir) v.rows None
    ∙ lowest-first (λ (row : Row). (row.parent == dir) && has_long element row) 0 v.rows (order-parts v s.order).rows

-- the lowest id of the children so far, and of those that are still to be passed, is that of all
abbrev pub LowestSoFar : VolumeState → ℕ → List ℕ → ℕ → Option NodeId → Type 0
LowestSoFar v dir element i found = lowest (has_long element) (drop i (listed v.rows dir)) (option_id found) ≡ lowest (has_long element) (listed v.rows dir) None

module _ (v : VolumeState) (dir : ℕ) (element : List ℕ) (i : ℕ) (found : Option NodeId) (so_far : LowestSoFar v dir element i found) where
  pub lowest-ends : IsSoundVolume v → length (listed v.rows dir) ≤ i → IsFoundNode found (child_by_long_name v.rows dir element)
  lowest-ends s behind =
      by found (sym (lowest-is v dir element s) ∙ sym so_far ∙ ap (λ l. lowest (has_long element) l (option_id found)) (drop_all i (listed v.rows dir) behind))
    where
      by : (o : Option NodeId) → child_by_long_name v.rows dir element ≡ option_id o → IsFoundNode o (child_by_long_name v.rows dir element)
      by None is = is
      by (Some id) is = is

  module _ (row : Row) (rest : drop i (listed v.rows dir) ≡ row ∷ drop (i + 1) (listed v.rows dir)) where
    next : (passes : Bool) → has_long element row ≡ passes → lowest (has_long element) (drop (i + 1) (listed v.rows dir)) (found_with passes row.id (option_id found)) ≡ lowest (has_long element) (listed v.rows dir) None
    next passes is =
        ap (λ b. lowest (has_long element) (drop (i + 1) (listed v.rows dir)) (found_with b row.id (option_id found))) (sym is)
        ∙ ap (λ l. lowest (has_long element) l (option_id found)) (sym rest) ∙ so_far

    pub lowest-takes : (new : NodeId) → has_long element row ≡ true → new.0 ≡ lower (option_id found) row.id → LowestSoFar v dir element (i + 1) (Some new)
    lowest-takes new fits is = ap (λ n. lowest (has_long element) (drop (i + 1) (listed v.rows dir)) (Some n)) is ∙ next true fits

    pub lowest-passes : has_long element row ≡ false → LowestSoFar v dir element (i + 1) found
    lowest-passes fails = next false fails
