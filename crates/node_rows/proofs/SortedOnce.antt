-- Children that one sort has put in order.
use Rattle.std.proofs.Common.{◌≡◌, ◌∙◌, ap, refl, ℕ, suc, ◌≤◌, ◌<◌, Bool, true, false, not, List, [], ◌∷◌, length, map, arith}
use Rattle.std.specs.Prelude.{slice_index_or, nat_lt, bytes_eq}
use Rattle.std.specs.List.{list_all, list_any, AllByRecursion, IsDistinct}
use Rattle.std.specs.List.Sorted.{IsPermutation, IsSortedBy}
use Rattle.std.proofs.lemmas.Bool.{and_parts, and_from, not-true}
use Rattle.std.proofs.lemmas.Cmp.{nat_list_cmp_total}
use Rattle.std.proofs.lemmas.List.MinMax.{ranks_by}
use Rattle.std.proofs.lemmas.List.Sorted.{sorted_far, Contains-permutation, IsPermutation-sym}
use Rattle.std.proofs.lemmas.Map.Keys.{IsDistinct-IsPermutation}
use Rattle.volume_spec.proofs.Ordered.{before-other, order-contains, order-holds, order-rises, rising-one}
use Rattle.volume_spec.specs.Order.{stands_before, rises}
use Rattle.afp_base.specs.Apart.{are_apart}
use Rattle.volume_spec.specs.SoundVolume.{are_named_alike, has_rising_ids, last_next_id}
use Rattle.volume_spec.specs.VolumeState.{Row}
use Rattle.node_rows.specs.Children.{child_of, child_order, children_of}
use Rattle.node_rows.specs.lemma.Kept.{AreKept}
use Rattle.node_rows.specs.declared.child.Child.{Child}
use Rattle.afp_base.proofs.Facts.{bytes_turn}
use Rattle.afp_base.proofs.ListFacts.{apart-map, none-all}

abbrev alike : Child → Child → Bool
alike a b = bytes_eq (child_order a) (child_order b)

abbrev before : Child → Child → Bool
before a b = stands_before (child_order a) (child_order b)

-- no two are alike
apart-others : (x : Child) (xs : List Child) → list_all (λ (y : Child). not (alike x y)) xs ≡ true → AllByRecursion (λ y. alike x y ≡ false) xs
apart-others x [] h = tt
apart-others x (y ∷ ys) h =
    let e = and_parts (not (alike x y)) (list_all (λ (z : Child). not (alike x z)) ys) h in
    (not-true (alike x y) e.0, apart-others x ys e.1)

apart-distinct : (xs : List Child) → are_apart alike xs ≡ true → IsDistinct alike xs
unfolding IsDistinct
apart-distinct [] h = tt
apart-distinct (x ∷ xs) h =
    let e = and_parts (not (list_any (alike x) xs)) (are_apart alike xs) h in
    (apart-others x xs (none-all (alike x) xs e.0), apart-distinct xs e.1)

-- what is sorted, and of which no two are alike, rises
above-first : (x : Child) (xs : List Child) → ((j : ℕ) (d : Child) → j < length xs → before (slice_index_or xs j d) x ≡ false) → AllByRecursion (λ y. alike x y ≡ false) xs
    → list_all (λ y. stands_before (child_order x) (child_order y)) xs ≡ true
above-first x [] up apart = refl
above-first x (y ∷ ys) up apart =
    and_from (before x y) (list_all (λ z. stands_before (child_order x) (child_order z)) ys)
    (before-other (child_order y) (child_order x) (up 0 x (omega arith)) (ap not (bytes_turn (child_order y) (child_order x) ∙ apart.0)))
    (above-first x ys (λ j d within. up (suc j) d (omega arith)) apart.1)

far-rises : (xs : List Child) → ((i j : ℕ) (d : Child) → i ≤ j → j < length xs → before (slice_index_or xs j d) (slice_index_or xs i d) ≡ false) → IsDistinct alike xs → rises child_order xs ≡ true
unfolding IsDistinct
far-rises [] up apart = refl
far-rises (x ∷ xs) up apart =
    and_from (list_all (λ y. stands_before (child_order x) (child_order y)) xs) (rises child_order xs)
    (above-first x xs (λ j d within. up 0 (suc j) d (omega arith) (omega arith)) apart.0)
    (far-rises xs (λ i j d low within. up (suc i) (suc j) d (omega arith) (omega arith)) apart.1)

sorted-rises : (xs : List Child) → IsSortedBy (λ (a : Child) b. stands_before (child_order a) (child_order b)) xs → IsDistinct alike xs → rises child_order xs ≡ true
sorted-rises xs sorted apart = far-rises xs (sorted_far before (ranks_by nat_list_cmp_total child_order) xs sorted) apart

pub keeps-sorted : (rows : List Row) (children : List Child) (next : ℕ) → has_rising_ids rows ≡ true → list_all (λ (row : Row). nat_lt row.id next) rows ≡ true → are_apart are_named_alike rows ≡ true
    → 17 ≤ next → next ≤ last_next_id → IsPermutation (map child_of rows) children → IsSortedBy (λ (a : Child) b. stands_before (child_order a) (child_order b)) children → AreKept rows children next
keeps-sorted rows children next rising below names low high same sorted =
    let apart : are_apart alike (map child_of rows) ≡ true = apart-map alike child_of rows ∙ names in
    let up : rises child_order children ≡ true = sorted-rises children sorted
    (IsDistinct-IsPermutation alike (λ a b. bytes_turn (child_order a) (child_order b)) (map child_of rows) children same (apart-distinct (map child_of rows) apart)) in
    record {
      rising = rising;
      order = up;
      sorted = rising-one child_order children (children_of rows) up (order-rises child_order (map child_of rows) apart)
          (λ z there. order-holds child_order z (map child_of rows) (Contains-permutation children (map child_of rows) z (IsPermutation-sym (map child_of rows) children same) there))
          (λ z there. Contains-permutation (map child_of rows) children z same (order-contains child_order z (map child_of rows) there));
      below = below;
      low = low;
      high = high;
    }
