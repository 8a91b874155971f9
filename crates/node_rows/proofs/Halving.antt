-- Halving: where a test stops holding in a sorted list.
use Rattle.std.proofs.Common.{◌≡◌, ap, sym, ℕ, zero, suc, ◌≤◌, ◌<◌, Bool, true, false, not, List, [], ◌∷◌, length, arith}
use Rattle.std.specs.Prelude.{slice_index_or, nat_lt}
use Rattle.std.specs.List.{list_all, position_or_len}
use Rattle.std.specs.List.Sorted.{IsPartitionPoint, IsPartitionedBy}
use Rattle.std.proofs.lemmas.Bool.{and_parts, ltb-true, lt-ltb}
use Rattle.std.proofs.lemmas.List.Sums.{position_or_len_is}
use Rattle.volume_spec.proofs.Ordered.{before-trans}
use Rattle.volume_spec.proofs.Rising.{above-all}
use Rattle.volume_spec.specs.Order.{stands_before, rises, rises_from}
use Rattle.afp_base.proofs.ListFacts.{all-index}

-- where a halving ends is the first place at which the test fails
pub partition-place : {A : Type 0} (p : A → Bool) (xs : List A) (i : ℕ) → i ≤ length xs → IsPartitionPoint (λ y. p y ≡ true) (λ y. p y ≡ false) xs i → i ≡ position_or_len (λ y. not (p y)) xs
partition-place p [] i within parts = omega arith
partition-place p (x ∷ xs) i within parts =
    sym (position_or_len_is (λ y. not (p y)) (x ∷ xs) i x within (λ k below. ap not (parts.0 k x (omega arith) below)) (λ inside. ap not (parts.1 i x (omega arith) inside)))

-- what a halving by keys asks of a list whose keys rise
pub keys-partition : {A : Type 0} (key : A → List ℕ) (bound : List ℕ) (xs : List A) → rises key xs ≡ true → IsPartitionedBy (λ x. stands_before (key x) bound) xs
keys-partition key bound [] h = λ i j d before inside passes. absurd (omega arith)
keys-partition {A} key bound (x ∷ xs) h = let e = and_parts (list_all (λ y. stands_before (key x) (key y)) xs) (rises key xs) h in go e.0 (keys-partition key bound xs e.1)
  where
    go : list_all (λ y. stands_before (key x) (key y)) xs ≡ true → IsPartitionedBy (λ y. stands_before (key y) bound) xs → (i j : ℕ) (d : A) → i ≤ j → j < length (x ∷ xs) → stands_before (key (slice_index_or (x ∷ xs) j d)) bound ≡ true → stands_before (key (slice_index_or (x ∷ xs) i d)) bound ≡ true
    go all rest zero zero d before inside passes = passes
    go all rest zero (suc j) d before inside passes = before-trans (key x) (key (slice_index_or xs j d)) bound (all-index (λ y. stands_before (key x) (key y)) xs j d all (omega arith)) passes
    go all rest (suc i) zero d before inside passes = absurd (omega arith)
    go all rest (suc i) (suc j) d before inside passes = rest i j d (omega arith) (omega arith) passes

-- what a halving by numbers asks of a list whose numbers rise
pub numbers-partition : {A : Type 0} (number : A → ℕ) (bound low : ℕ) (xs : List A) → rises_from number low xs ≡ true → IsPartitionedBy (λ x. nat_lt (number x) bound) xs
numbers-partition number bound low [] h = λ i j d before inside passes. absurd (omega arith)
numbers-partition {A} number bound low (x ∷ xs) h =
    let e = and_parts (nat_lt low (number x)) (rises_from number (number x) xs) h in
    go (above-all number (number x) xs e.1) (numbers-partition number bound (number x) xs e.1)
  where
    go : list_all (λ y. nat_lt (number x) (number y)) xs ≡ true → IsPartitionedBy (λ y. nat_lt (number y) bound) xs → (i j : ℕ) (d : A) → i ≤ j → j < length (x ∷ xs) → nat_lt (number (slice_index_or (x ∷ xs) j d)) bound ≡ true → nat_lt (number (slice_index_or (x ∷ xs) i d)) bound ≡ true
    go all rest zero zero d before inside passes = passes
    go all rest zero (suc j) d before inside passes =
        let up : number x < number (slice_index_or xs j d) = ltb-true (number x) (number (slice_index_or xs j d)) (all-index (λ y. nat_lt (number x) (number y)) xs j d all (omega arith)) in
        let below : number (slice_index_or xs j d) < bound = ltb-true (number (slice_index_or xs j d)) bound passes in
        lt-ltb (number x) bound (omega arith)
    go all rest (suc i) zero d before inside passes = absurd (omega arith)
    go all rest (suc i) (suc j) d before inside passes = rest i j d (omega arith) (omega arith) passes
