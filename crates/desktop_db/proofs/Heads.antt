-- Lists whose elements have heads that never fall: where the first with a head is, and the n-th.
use Rattle.std.proofs.Common.{◌≡◌, ◌∙◌, ap, sym, refl, ℕ, zero, suc, ◌+◌, ◌-◌, ◌==◌, ◌≤◌, ◌<◌, Bool, true, false, not, ◌&&◌, cond, List, [], ◌∷◌, ◌++◌, length, inl, inr, Option, Some, None, arith}
use Rattle.std.specs.Prelude.{bytes_eq, nat_lt, slice_get, slice_index_or}
use Rattle.std.specs.List.{list_all, filter, prefix_len}
use Rattle.std.specs.List.Sorted.{IsPartitionPoint, IsPartitionedBy}
use Rattle.std.proofs.lemmas.Bool.{and_parts, and_from, cases_Bool, cond-true, cond-false, eqb-true, eq-eqb, ne_eqb, le-ltb, ltb-true, not-true}
use Rattle.std.proofs.lemmas.Option.{slice_get_past, slice_get_read}
use Rattle.volume_spec.proofs.Keys.{before-differs}
use Rattle.volume_spec.proofs.Ordered.{before-other, before-trans}
use Rattle.volume_spec.specs.Desktop.{nth_from_one}
use Rattle.volume_spec.specs.Order.{stands_before, rises}
use Rattle.afp_base.proofs.Facts.{bytes_differ_turn, bytes_same, never_both}
use Rattle.afp_base.proofs.ListFacts.{all-both, all-index, all-weaker, filter-none}

-- no head stands before one ahead of it
abbrev pub climbs : {A : Type 0} → (A → List ℕ) → List A → Bool
climbs head [] = true
climbs head (x ∷ xs) = list_all (λ y. not (stands_before (head y) (head x))) xs && climbs head xs

-- of two keys the heads of one length stand as the keys do, or are one
pub head-order : (a b r s : List ℕ) → length a ≡ length b → stands_before (a ++ r) (b ++ s) ≡ true → stands_before b a ≡ false
head-order [] [] r s same h = refl
head-order [] (y ∷ ys) r s same h = absurd (omega arith)
head-order (x ∷ xs) [] r s same h = absurd (omega arith)
head-order (x ∷ xs) (y ∷ ys) r s same h = go (nat_lt x y) (x == y) refl refl (head-order xs ys r s (omega arith))
  where
    go : (less equal : Bool) → nat_lt x y ≡ less → (x == y) ≡ equal → (stands_before (xs ++ r) (ys ++ s) ≡ true → stands_before ys xs ≡ false) → stands_before (y ∷ ys) (x ∷ xs) ≡ false
    go true equal e f rest =
        let up : x < y = ltb-true x y e in
        let one : nat_lt y x ≡ false = le-ltb y x (omega arith) in
        let two : (y == x) ≡ false = ne_eqb y x (λ is. omega arith) in
        simp (one, two)
    go false true e f rest =
        let is : x ≡ y = eqb-true x y f in
        let one : nat_lt y x ≡ false = le-ltb y x (omega arith) in
        let two : (y == x) ≡ true = eq-eqb y x (sym is) in
        let k : stands_before (xs ++ r) (ys ++ s) ≡ true = simp (e, f) at h in
        simp (one, two) (rest k)
    go false false e f rest = let k : false ≡ true = simp (e, f) at h in absurd (cc)

pub heads-climb : {A : Type 0} (key head rest : A → List ℕ) (n : ℕ) (xs : List A) → ((x : A) → key x ≡ head x ++ rest x) → list_all (λ x. length (head x) == n) xs ≡ true → rises key xs ≡ true → climbs head xs ≡ true
heads-climb key head rest n [] is long h = refl
heads-climb {A} key head rest n (x ∷ xs) is long h =
    let e = and_parts (length (head x) == n) (list_all (λ y. length (head y) == n) xs) long in
    let f = and_parts (list_all (λ y. stands_before (key x) (key y)) xs) (rises key xs) h in
    and_from (list_all (λ y. not (stands_before (head y) (head x))) xs) (climbs head xs)
    (all-both (λ y. length (head y) == n) (λ y. stands_before (key x) (key y)) (λ y. not (stands_before (head y) (head x))) xs
    (λ y wide before. ap not (head-order (head x) (head y) (rest x) (rest y) (eqb-true (length (head x)) n e.0 ∙ sym (eqb-true (length (head y)) n wide))
    ((λ i. stands_before (sym (is x) i) (sym (is y) i)) ∙ before))) e.1 f.0)
    (heads-climb key head rest n xs is e.1 f.1)

-- what does not stand behind another stands before all that it does
not-behind : (a b : List ℕ) → stands_before b a ≡ false → not (bytes_eq b a) ≡ true → stands_before a b ≡ true
not-behind a b after differ = before-other b a after differ

pub below-trans : (a b c : List ℕ) → stands_before b a ≡ false → stands_before b c ≡ true → stands_before a c ≡ true
below-trans a b c after before = elim (cases_Bool (bytes_eq b a)) [
  | inl same ↦ ap (λ q. stands_before q c) (sym (bytes_same b a same)) ∙ before
  | inr differ ↦ before-trans a b c (not-behind a b after (ap not differ)) before
]

pub above-trans : (c a b : List ℕ) → stands_before c a ≡ true → stands_before b a ≡ false → stands_before c b ≡ true
above-trans c a b before after = elim (cases_Bool (bytes_eq b a)) [
  | inl same ↦ ap (λ q. stands_before c q) (bytes_same b a same) ∙ before
  | inr differ ↦ before-trans c a b before (not-behind a b after (ap not differ))
]

-- halving by heads

pub partition-place : {A : Type 0} (p : A → Bool) (xs : List A) (i : ℕ) → i ≤ length xs → IsPartitionPoint (λ y. p y ≡ true) (λ y. p y ≡ false) xs i → i ≡ prefix_len p xs
partition-place p [] i within parts = omega arith
partition-place p (x ∷ xs) zero within parts = sym (ap (λ t. cond t (1 + prefix_len p xs) 0) (parts.1 0 x (omega arith) (omega arith)))
partition-place p (x ∷ xs) (suc i) within parts =
    let rest : i ≡ prefix_len p xs = partition-place p xs i (omega arith) ((λ j d low less. parts.0 (suc j) d (omega arith) (omega arith)), (λ j d low less. parts.1 (suc j) d (omega arith) (omega arith))) in
    let here : prefix_len p (x ∷ xs) ≡ 1 + prefix_len p xs = ap (λ t. cond t (1 + prefix_len p xs) 0) (parts.0 0 x (omega arith) (omega arith)) in
    omega arith

pub heads-partition : {A : Type 0} (head : A → List ℕ) (bound : List ℕ) (xs : List A) → climbs head xs ≡ true → IsPartitionedBy (λ x. stands_before (head x) bound) xs
heads-partition head bound [] h = λ i j d before inside passes. absurd (omega arith)
heads-partition {A} head bound (x ∷ xs) h = let e = and_parts (list_all (λ y. not (stands_before (head y) (head x))) xs) (climbs head xs) h in go e.0 (heads-partition head bound xs e.1)
  where
    go : list_all (λ y. not (stands_before (head y) (head x))) xs ≡ true → IsPartitionedBy (λ y. stands_before (head y) bound) xs → (i j : ℕ) (d : A) → i ≤ j → j < length (x ∷ xs) → stands_before (head (slice_index_or (x ∷ xs) j d)) bound ≡ true → stands_before (head (slice_index_or (x ∷ xs) i d)) bound ≡ true
    go all rest zero zero d before inside passes = passes
    go all rest zero (suc j) d before inside passes =
        below-trans (head x) (head (slice_index_or xs j d)) bound
        (not-true (stands_before (head (slice_index_or xs j d)) (head x)) (all-index (λ y. not (stands_before (head y) (head x))) xs j d all (omega arith))) passes
    go all rest (suc i) zero d before inside passes = absurd (omega arith)
    go all rest (suc i) (suc j) d before inside passes = rest i j d (omega arith) (omega arith) passes

-- those of one head

-- what is there, if it passes a test
abbrev pub kept : {A : Type 0} → (A → Bool) → Option A → Option A
kept test None = None
kept test (Some x) = cond (test x) (Some x) None

kept-none : {A : Type 0} (test : A → Bool) (l : List A) (i : ℕ) → list_all (λ x. not (test x)) l ≡ true → kept test (slice_get l i) ≡ None
kept-none test [] i h = refl
kept-none test (x ∷ xs) zero h = cond-false (test x) (Some x) None (not-true (test x) (and_parts (not (test x)) (list_all (λ y. not (test y)) xs) h).0)
kept-none test (x ∷ xs) (suc i) h = kept-none test xs i (and_parts (not (test x)) (list_all (λ y. not (test y)) xs) h).1

-- where no head stands before it, those of a head stand first
from-first : {A : Type 0} (head : A → List ℕ) (c : List ℕ) (l : List A) (i : ℕ) → list_all (λ x. not (stands_before (head x) c)) l ≡ true → climbs head l ≡ true
    → slice_get (filter (λ x. bytes_eq (head x) c) l) i ≡ kept (λ x. bytes_eq (head x) c) (slice_get l i)
from-first head c [] i low h = refl
from-first {A} head c (x ∷ xs) i low h =
    let e = and_parts (not (stands_before (head x) c)) (list_all (λ y. not (stands_before (head y) c)) xs) low in
    let f = and_parts (list_all (λ y. not (stands_before (head y) (head x))) xs) (climbs head xs) h in
    elim (cases_Bool (is x)) [
      | inl here ↦ ap (λ l. slice_get l i) (cond-true (is x) (x ∷ filter is xs) (filter is xs) here) ∙ first i here (λ j. from-first head c xs j e.1 f.1)
      | inr other ↦ none i other e.0 f.0
    ]
  where
    is : A → Bool
    is y = bytes_eq (head y) c

    first : (i : ℕ) → is x ≡ true → ((j : ℕ) → slice_get (filter is xs) j ≡ kept is (slice_get xs j)) → slice_get (x ∷ filter is xs) i ≡ kept is (slice_get (x ∷ xs) i)
    first zero here rest = sym (cond-true (is x) (Some x) None here)
    first (suc i) here rest = rest i

    none : (i : ℕ) → is x ≡ false → not (stands_before (head x) c) ≡ true → list_all (λ y. not (stands_before (head y) (head x))) xs ≡ true → slice_get (filter is (x ∷ xs)) i ≡ kept is (slice_get (x ∷ xs) i)
    none i other after up =
        let above : stands_before c (head x) ≡ true = before-other (head x) c (not-true (stands_before (head x) c) after) (ap not other) in
        let behind : list_all (λ y. not (is y)) xs ≡ true = all-weaker (λ y. not (stands_before (head y) (head x))) (λ y. not (is y)) xs
        (λ y later. bytes_differ_turn c (head y) (before-differs c (head y) (above-trans c (head x) (head y) above (not-true (stands_before (head y) (head x)) later)))) up in
        let all : list_all (λ y. not (is y)) (x ∷ xs) ≡ true = ap (λ t. not t && list_all (λ y. not (is y)) xs) other ∙ behind in
        ap (λ l. slice_get l i) (filter-none is (x ∷ xs) all) ∙ sym (kept-none is (x ∷ xs) i all)

nth-of : {A : Type 0} (head : A → List ℕ) (c : List ℕ) (l : List A) (i : ℕ) → climbs head l ≡ true
    → slice_get (filter (λ x. bytes_eq (head x) c) l) i ≡ kept (λ x. bytes_eq (head x) c) (slice_get l (prefix_len (λ x. stands_before (head x) c) l + i))
nth-of head c [] i h = refl
nth-of {A} head c (x ∷ xs) i h =
    let f = and_parts (list_all (λ y. not (stands_before (head y) (head x))) xs) (climbs head xs) h in
    go (stands_before (head x) c) refl (prefix_len (λ y. stands_before (head y) c) xs) f.0 (nth-of head c xs i f.1)
  where
    is : A → Bool
    is y = bytes_eq (head y) c

    place : ℕ → ℕ
    place n = cond (stands_before (head x) c) (1 + n) 0

    go : (less : Bool) → stands_before (head x) c ≡ less → (n : ℕ) → list_all (λ y. not (stands_before (head y) (head x))) xs ≡ true → slice_get (filter is xs) i ≡ kept is (slice_get xs (n + i))
        → slice_get (filter is (x ∷ xs)) i ≡ kept is (slice_get (x ∷ xs) (place n + i))
    go true a n up rest =
        let other : is x ≡ false = not-true (is x) (before-differs (head x) c a) in
        let at_place : place n ≡ 1 + n = ap (λ t. cond t (1 + n) 0) a in
        let more : place n + i ≡ suc (n + i) = omega arith in
        ap (λ l. slice_get l i) (cond-false (is x) (x ∷ filter is xs) (filter is xs) other) ∙ rest ∙ ap (λ k. kept is (slice_get (x ∷ xs) k)) (sym more)
    go false a n up rest =
        let at_place : place n ≡ 0 = ap (λ t. cond t (1 + n) 0) a in
        let more : place n + i ≡ i = omega arith in
        let all : list_all (λ y. not (stands_before (head y) c)) (x ∷ xs) ≡ true = and_from (not (stands_before (head x) c)) (list_all (λ y. not (stands_before (head y) c)) xs) (ap not a)
        (all-weaker (λ y. not (stands_before (head y) (head x))) (λ y. not (stands_before (head y) c)) xs
        (λ y later. elim (cases_Bool (stands_before (head y) c)) [
          | inl before ↦ absurd (never_both (stands_before (head x) c) (below-trans (head x) (head y) c (not-true (stands_before (head y) (head x)) later) before) a)
          | inr after ↦ ap not after
        ]) up) in
        from-first head c (x ∷ xs) i all h ∙ ap (λ k. kept is (slice_get (x ∷ xs) k)) (sym more)

-- a place behind the end, and a place with an element, counted from 1
module _ {A : Type 0} (head : A → List ℕ) (c : List ℕ) (l : List A) (first n : ℕ) where
  counted : 0 < n → nth_from_one (filter (λ x. bytes_eq (head x) c) l) n ≡ slice_get (filter (λ x. bytes_eq (head x) c) l) (n - 1)
  counted some = cond-false (n == 0) None (slice_get (filter (λ x. bytes_eq (head x) c) l) (n - 1)) (ne_eqb n 0 (λ is. omega arith))

  pub nth-past : climbs head l ≡ true → first ≡ prefix_len (λ x. stands_before (head x) c) l → 0 < n → length l ≤ first + (n - 1) → nth_from_one (filter (λ x. bytes_eq (head x) c) l) n ≡ None
  nth-past h is some past =
      counted some ∙ nth-of head c l (n - 1) h ∙ ap (λ k. kept (λ x. bytes_eq (head x) c) (slice_get l (k + (n - 1)))) (sym is)
      ∙ ap (λ o. kept (λ x. bytes_eq (head x) c) o) (slice_get_past l (first + (n - 1)) past)

  pub nth-at : (x : A) → climbs head l ≡ true → first ≡ prefix_len (λ x. stands_before (head x) c) l → 0 < n → first + (n - 1) < length l → x ≡ slice_index_or l (first + (n - 1)) x
      → nth_from_one (filter (λ x. bytes_eq (head x) c) l) n ≡ cond (bytes_eq (head x) c) (Some x) None
  nth-at x h is some within read =
      counted some ∙ nth-of head c l (n - 1) h ∙ ap (λ k. kept (λ x. bytes_eq (head x) c) (slice_get l (k + (n - 1)))) (sym is)
      ∙ ap (λ o. kept (λ x. bytes_eq (head x) c) o) (slice_get_read l (length l) (first + (n - 1)) x refl within read)
