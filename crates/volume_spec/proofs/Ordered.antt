-- Lists in the order of their keys.
use Rattle.std.proofs.Common.{◌≡◌, ◌∙◌, ap, sym, refl, subst, ℕ, zero, suc, ◌+◌, ◌-◌, ◌<◌, Bool, true, false, not, cond, List, [], ◌∷◌, ◌++◌, length, map, take, drop, ◌⊎◌, inl, inr, arith}
use Rattle.std.specs.Prelude.{sum, sum_by, bytes_eq, slice_index_or}
use Rattle.std.specs.List.{list_any, list_all, Contains}
use Rattle.std.specs.Cmp.Lexicographic.{slice_cmp}
use Rattle.std.specs.declared.cmp.Ordering.{Ordering}
use Rattle.std.specs.Ordering.{nat_cmp, is_lt, is_eq, ordering_reverse}
use Rattle.std.specs.declared.cmp.Ordering.TheVariants.{Less, Equal, Greater}
use Rattle.std.proofs.lemmas.Bool.{and_parts, and_from, false_from_ne_true, cond_both, cond-true, cond-false}
use Rattle.std.proofs.lemmas.Cmp.{nat_list_cmp_total}
use Rattle.std.proofs.lemmas.List.Sums.{sum_by-cons}
use Rattle.std.proofs.Math.Seq.{take-add}
use Rattle.std.proofs.lemmas.List.{drop-drop}
use Rattle.std.proofs.lemmas.Map.Text.{is_eq-slice_cmp}
use Rattle.volume_spec.specs.Listing.{pages}
use Rattle.volume_spec.specs.Order.{stands_before, put_in, in_order, rises}
use Rattle.afp_base.specs.Apart.{are_apart}
use Rattle.afp_base.proofs.Facts.{is_lt_less}
use Rattle.afp_base.proofs.ListFacts.{all-weaker, none-all}

-- the order of keys

pub before-trans : (a b c : List ℕ) → stands_before a b ≡ true → stands_before b c ≡ true → stands_before a c ≡ true
before-trans a b c h k = ap is_lt (nat_list_cmp_total.trans a b c (is_lt_less (slice_cmp nat_cmp a b) h) (is_lt_less (slice_cmp nat_cmp b c) k))

-- of two different keys one stands before the other
pub before-other : (a b : List ℕ) → stands_before a b ≡ false → not (bytes_eq a b) ≡ true → stands_before b a ≡ true
before-other a b h other = ap is_lt (nat_list_cmp_total.antisymm b a) ∙ turned (slice_cmp nat_cmp a b) h (ap not (is_eq-slice_cmp a b) ∙ other)
  where
    turned : (o : Ordering) → is_lt o ≡ false → not (is_eq o) ≡ true → is_lt (ordering_reverse o) ≡ true
    turned Less h k = absurd (cc)
    turned Equal h k = absurd (cc)
    turned Greater h k = refl

-- no key stands before itself, nor before one that stands before it
pub before-one-way : (a b : List ℕ) → stands_before a b ≡ true → stands_before b a ≡ true → ⊥
before-one-way a b h k = turned (slice_cmp nat_cmp a b) h (ap is_lt (sym (nat_list_cmp_total.antisymm b a)) ∙ k)
  where
    turned : (o : Ordering) → is_lt o ≡ true → is_lt (ordering_reverse o) ≡ true → ⊥
    turned Less h k = cc
    turned Equal h k = cc
    turned Greater h k = cc

-- what stands before another does not stand behind it
pub not-back : (a b : List ℕ) → stands_before a b ≡ true → stands_before b a ≡ false
not-back a b before = false_from_ne_true (stands_before b a) (before-one-way a b before)

pub before-not-back : (a b : List ℕ) → stands_before a b ≡ true → not (stands_before b a) ≡ true
before-not-back a b before = ap not (not-back a b before)

-- what is put in is there, and what all have stays

pub put-all : {A : Type 0} (key : A → List ℕ) (p : A → Bool) (x : A) (xs : List A) → p x ≡ true → list_all p xs ≡ true → list_all p (put_in key x xs) ≡ true
put-all key p x [] here h = and_from (p x) true here refl
put-all key p x (y ∷ ys) here h =
    let e = and_parts (p y) (list_all p ys) h in
    cond_both (stands_before (key x) (key y)) (x ∷ y ∷ ys) (y ∷ put_in key x ys) (λ l. list_all p l ≡ true)
    (λ first. and_from (p x) (list_all p (y ∷ ys)) here h)
    (λ later. and_from (p y) (list_all p (put_in key x ys)) e.0 (put-all key p x ys here e.1))

pub order-all : {A : Type 0} (key : A → List ℕ) (p : A → Bool) (xs : List A) → list_all p xs ≡ true → list_all p (in_order key xs) ≡ true
order-all key p [] h = refl
order-all key p (x ∷ xs) h = let e = and_parts (p x) (list_all p xs) h in put-all key p x (in_order key xs) e.0 (order-all key p xs e.1)

put-count : {A : Type 0} (key : A → List ℕ) (f : A → ℕ) (x : A) (xs : List A) → sum_by f (put_in key x xs) ≡ f x + sum_by f xs
put-count key f x [] = sum_by-cons f x []
put-count key f x (y ∷ ys) =
    cond_both (stands_before (key x) (key y)) (x ∷ y ∷ ys) (y ∷ put_in key x ys) (λ l. sum_by f l ≡ f x + sum_by f (y ∷ ys))
    (λ first. sum_by-cons f x (y ∷ ys))
    (λ later.
    let rest : sum_by f (put_in key x ys) ≡ f x + sum_by f ys = put-count key f x ys in
    let whole : sum_by f (y ∷ put_in key x ys) ≡ f y + sum_by f (put_in key x ys) = sum_by-cons f y (put_in key x ys) in
    let old : sum_by f (y ∷ ys) ≡ f y + sum_by f ys = sum_by-cons f y ys in
    omega arith)

-- ordering changes no count
pub order-count : {A : Type 0} (key : A → List ℕ) (f : A → ℕ) (xs : List A) → sum_by f (in_order key xs) ≡ sum_by f xs
order-count key f [] = refl
order-count key f (x ∷ xs) =
    let rest : sum_by f (in_order key xs) ≡ sum_by f xs = order-count key f xs in
    let put : sum_by f (put_in key x (in_order key xs)) ≡ f x + sum_by f (in_order key xs) = put-count key f x (in_order key xs) in
    let old : sum_by f (x ∷ xs) ≡ f x + sum_by f xs = sum_by-cons f x xs in
    omega arith

-- the keys rise

pub put-rises : {A : Type 0} (key : A → List ℕ) (x : A) (xs : List A) → list_all (λ y. not (bytes_eq (key x) (key y))) xs ≡ true → rises key xs ≡ true → rises key (put_in key x xs) ≡ true
put-rises key x [] other h = refl
put-rises key x (y ∷ ys) other h =
    let e = and_parts (list_all (λ z. stands_before (key y) (key z)) ys) (rises key ys) h in
    let o = and_parts (not (bytes_eq (key x) (key y))) (list_all (λ z. not (bytes_eq (key x) (key z))) ys) other in
    cond_both (stands_before (key x) (key y)) (x ∷ y ∷ ys) (y ∷ put_in key x ys) (λ l. rises key l ≡ true)
    (λ first. and_from (list_all (λ z. stands_before (key x) (key z)) (y ∷ ys)) (rises key (y ∷ ys))
    (and_from (stands_before (key x) (key y)) (list_all (λ z. stands_before (key x) (key z)) ys) first
    (all-weaker (λ z. stands_before (key y) (key z)) (λ z. stands_before (key x) (key z)) ys (λ z behind. before-trans (key x) (key y) (key z) first behind) e.0)) h)
    (λ later. and_from (list_all (λ z. stands_before (key y) (key z)) (put_in key x ys)) (rises key (put_in key x ys))
    (put-all key (λ z. stands_before (key y) (key z)) x ys (before-other (key x) (key y) later o.0) e.0)
    (put-rises key x ys o.1 e.1))

pub order-rises : {A : Type 0} (key : A → List ℕ) (xs : List A) → are_apart (λ a b. bytes_eq (key a) (key b)) xs ≡ true → rises key (in_order key xs) ≡ true
order-rises key [] apart = refl
order-rises key (x ∷ xs) apart =
    let e = and_parts (not (list_any (λ b. bytes_eq (key x) (key b)) xs)) (are_apart (λ a b. bytes_eq (key a) (key b)) xs) apart in
    put-rises key x (in_order key xs)
    (order-all key (λ y. not (bytes_eq (key x) (key y))) xs (none-all (λ b. bytes_eq (key x) (key b)) xs e.0))
    (order-rises key xs e.1)

-- pages

pub pages-are : {A : Type 0} (list : List A) (counts : List ℕ) (start k : ℕ) → start ≡ k + 1 → pages list start counts ≡ take (sum counts) (drop k list)
pages-are list [] start k is = refl
pages-are list (count ∷ counts) start k is =
    let before : start - 1 ≡ k = omega arith in
    let rest : pages list (start + count) counts ≡ take (sum counts) (drop (k + count) list) = pages-are list counts (start + count) (k + count) (omega arith) in
    let whole : sum (count ∷ counts) ≡ count + sum counts = sum_by-cons (λ x. x) count counts in
    (λ i. take count (drop (before i) list) ++ (rest ∙ ap (λ l. take (sum counts) l) (sym (drop-drop count k list))) i)
    ∙ sym (take-add count (sum counts) (drop k list)) ∙ ap (λ n. take n (drop k list)) (sym whole)

-- elements

pub is-here : {A : Type 0} (x : A) (xs : List A) → Contains (x ∷ xs) x
is-here x xs = (0, omega arith, refl)

pub is-later : {A : Type 0} (x y : A) (xs : List A) → Contains xs y → Contains (x ∷ xs) y
is-later x y xs c = (suc c.0, let h : c.0 < length xs = c.1 in omega arith, c.2)

pub contains-cases : {A : Type 0} (x y : A) (xs : List A) → Contains (x ∷ xs) y → (x ≡ y) ⊎ Contains xs y
contains-cases x y xs c = go c.0 c.1 c.2
  where
    go : (k : ℕ) → k < length (x ∷ xs) → slice_index_or (x ∷ xs) k y ≡ y → (x ≡ y) ⊎ Contains xs y
    go zero within is = inl is
    go (suc k) within is = inr (k, omega arith, is)

pub all-at : {A : Type 0} (p : A → Bool) (xs : List A) (y : A) → list_all p xs ≡ true → Contains xs y → p y ≡ true
all-at p [] y h c = let k : c.0 < 0 = c.1 in absurd (omega arith)
all-at p (x ∷ xs) y h c =
    let e = and_parts (p x) (list_all p xs) h in
    elim (contains-cases x y xs c) [ inl same ↦ ap p (sym same) ∙ e.0 | inr later ↦ all-at p xs y e.1 later ]

put-contains : {A : Type 0} (key : A → List ℕ) (x z : A) (xs : List A) → Contains (put_in key x xs) z → Contains (x ∷ xs) z
put-contains key x z [] c = c
put-contains key x z (y ∷ ys) c =
    cond_both (stands_before (key x) (key y)) (x ∷ y ∷ ys) (y ∷ put_in key x ys) (λ l. Contains l z → Contains (x ∷ y ∷ ys) z)
    (λ first c. c)
    (λ later c. elim (contains-cases y z (put_in key x ys) c) [
      | inl same ↦ is-later x z (y ∷ ys) (subst (λ q. Contains (y ∷ ys) q) same (is-here y ys))
      | inr further ↦ elim (contains-cases x z ys (put-contains key x z ys further)) [
        | inl same ↦ subst (λ q. Contains (x ∷ y ∷ ys) q) same (is-here x (y ∷ ys))
        | inr behind ↦ is-later x z (y ∷ ys) (is-later y z ys behind)
      ]
    ]) c

put-holds : {A : Type 0} (key : A → List ℕ) (x z : A) (xs : List A) → Contains (x ∷ xs) z → Contains (put_in key x xs) z
put-holds key x z [] c = c
put-holds key x z (y ∷ ys) c =
    cond_both (stands_before (key x) (key y)) (x ∷ y ∷ ys) (y ∷ put_in key x ys) (λ l. Contains l z)
    (λ first. c)
    (λ later. elim (contains-cases x z (y ∷ ys) c) [
      | inl same ↦ is-later y z (put_in key x ys) (put-holds key x z ys (subst (λ q. Contains (x ∷ ys) q) same (is-here x ys)))
      | inr further ↦ elim (contains-cases y z ys further) [
        | inl same ↦ subst (λ q. Contains (y ∷ put_in key x ys) q) same (is-here y (put_in key x ys))
        | inr behind ↦ is-later y z (put_in key x ys) (put-holds key x z ys (is-later x z ys behind))
      ]
    ])

pub order-contains : {A : Type 0} (key : A → List ℕ) (z : A) (xs : List A) → Contains (in_order key xs) z → Contains xs z
order-contains key z [] c = c
order-contains key z (x ∷ xs) c = elim (contains-cases x z (in_order key xs) (put-contains key x z (in_order key xs) c)) [
  | inl same ↦ subst (λ q. Contains (x ∷ xs) q) same (is-here x xs)
  | inr later ↦ is-later x z xs (order-contains key z xs later)
]

pub order-holds : {A : Type 0} (key : A → List ℕ) (z : A) (xs : List A) → Contains xs z → Contains (in_order key xs) z
order-holds key z [] c = c
order-holds key z (x ∷ xs) c = put-holds key x z (in_order key xs) (elim (contains-cases x z xs c) [
  | inl same ↦ subst (λ q. Contains (x ∷ in_order key xs) q) same (is-here x (in_order key xs))
  | inr later ↦ is-later x z (in_order key xs) (order-holds key z xs later)
])

-- two lists whose keys rise and that have the same elements are one
pub rising-one : {A : Type 0} (key : A → List ℕ) (xs ys : List A) → rises key xs ≡ true → rises key ys ≡ true
    → ((z : A) → Contains xs z → Contains ys z) → ((z : A) → Contains ys z → Contains xs z) → xs ≡ ys
rising-one key [] [] h k there back = refl
rising-one key [] (y ∷ ys) h k there back = let c = back y (is-here y ys) in let l : c.0 < 0 = c.1 in absurd (omega arith)
rising-one key (x ∷ xs) [] h k there back = let c = there x (is-here x xs) in let l : c.0 < 0 = c.1 in absurd (omega arith)
rising-one {A} key (x ∷ xs) (y ∷ ys) h k there back =
    let rest : xs ≡ ys = rising-one key xs ys e.1 f.1
    (λ z c. elim (contains-cases y z ys (there z (is-later x z xs c))) [
      | inl same ↦ absurd (itself (all-at (λ q. stands_before (key x) (key q)) xs z e.0 c) (heads ∙ same))
      | inr later ↦ later
    ])
    (λ z c. elim (contains-cases x z xs (back z (is-later y z ys c))) [
      | inl same ↦ absurd (itself-y (all-at (λ q. stands_before (key y) (key q)) ys z f.0 c) (sym heads ∙ same))
      | inr later ↦ later
    ]) in
    λ i. heads i ∷ rest i
  where
    e : (list_all (λ q. stands_before (key x) (key q)) xs ≡ true) × (rises key xs ≡ true)
    e = and_parts (list_all (λ q. stands_before (key x) (key q)) xs) (rises key xs) h

    f : (list_all (λ q. stands_before (key y) (key q)) ys ≡ true) × (rises key ys ≡ true)
    f = and_parts (list_all (λ q. stands_before (key y) (key q)) ys) (rises key ys) k

    heads : x ≡ y
    heads = elim (contains-cases y x ys (there x (is-here x xs))) [
      | inl same ↦ sym same
      | inr later ↦ elim (contains-cases x y xs (back y (is-here y ys))) [
        | inl same ↦ same
        | inr behind ↦ absurd (before-one-way (key x) (key y) (all-at (λ q. stands_before (key x) (key q)) xs y e.0 behind) (all-at (λ q. stands_before (key y) (key q)) ys x f.0 later))
      ]
    ]

    itself : {z : A} → stands_before (key x) (key z) ≡ true → x ≡ z → ⊥
    itself {z} before same = before-one-way (key x) (key x) (ap (λ q. stands_before (key x) (key q)) same ∙ before) (ap (λ q. stands_before (key x) (key q)) same ∙ before)

    itself-y : {z : A} → stands_before (key y) (key z) ≡ true → y ≡ z → ⊥
    itself-y {z} before same = before-one-way (key y) (key y) (ap (λ q. stands_before (key y) (key q)) same ∙ before) (ap (λ q. stands_before (key y) (key q)) same ∙ before)

-- what is mapped, by keys in one order with those before

put-map : {A B : Type 0} (f : A → B) (key : A → List ℕ) (other : B → List ℕ) (q : A → Bool) (x : A) (l : List A) → ((a b : A) → q a ≡ true → q b ≡ true → stands_before (other (f a)) (other (f b)) ≡ stands_before (key a) (key b))
    → q x ≡ true → list_all q l ≡ true → put_in other (f x) (map f l) ≡ map f (put_in key x l)
put-map f key other q x [] same here h = refl
put-map f key other q x (y ∷ ys) same here h =
    let e = and_parts (q y) (list_all q ys) h in
    ap (λ t. cond t (f x ∷ f y ∷ map f ys) (f y ∷ put_in other (f x) (map f ys))) (same x y here e.0)
    ∙ ap (λ l. cond (stands_before (key x) (key y)) (f x ∷ f y ∷ map f ys) (f y ∷ l)) (put-map f key other q x ys same here e.1)
    ∙ cond_both (stands_before (key x) (key y)) (x ∷ y ∷ ys) (y ∷ put_in key x ys) (λ l. cond (stands_before (key x) (key y)) (f x ∷ f y ∷ map f ys) (f y ∷ map f (put_in key x ys)) ≡ map f l)
    (λ first. cond-true (stands_before (key x) (key y)) (f x ∷ f y ∷ map f ys) (f y ∷ map f (put_in key x ys)) first)
    (λ later. cond-false (stands_before (key x) (key y)) (f x ∷ f y ∷ map f ys) (f y ∷ map f (put_in key x ys)) later)

pub order-map : {A B : Type 0} (f : A → B) (key : A → List ℕ) (other : B → List ℕ) (q : A → Bool) (xs : List A) → ((a b : A) → q a ≡ true → q b ≡ true → stands_before (other (f a)) (other (f b)) ≡ stands_before (key a) (key b))
    → list_all q xs ≡ true → in_order other (map f xs) ≡ map f (in_order key xs)
order-map f key other q [] same h = refl
order-map f key other q (x ∷ xs) same h =
    let e = and_parts (q x) (list_all q xs) h in
    ap (λ l. put_in other (f x) l) (order-map f key other q xs same e.1) ∙ put-map f key other q x (in_order key xs) same e.0 (order-all key q xs e.1)
