-- Lists in the order of their keys: one element more, elements less, and what is found.
use Rattle.std.proofs.Common.{◌≡◌, ◌∙◌, ap, sym, subst, refl, ℕ, zero, suc, ◌+◌, ◌==◌, ◌≤◌, ◌<◌, Bool, true, false, not, cond, List, [], ◌∷◌, ◌++◌, length, take, drop, inl, inr, Option, Some, None, arith}
use Rattle.std.specs.Prelude.{slice_get, slice_index_or, nat_lt, bytes_eq}
use Rattle.std.proofs.lemmas.Option.{slice_get_past, slice_get_read}
use Rattle.std.specs.List.{list_all, list_any, filter, find, insert, position_or_len}
use Rattle.std.proofs.lemmas.Bool.{and_parts, and_from, cases_Bool, cond_both, cond-true, cond-false, ltb-true, ltb-false, lt-ltb, eqb-true, ne_eqb, not-true}
use Rattle.std.proofs.lemmas.Slice.Eq.{bytes_eq-Decides}
use Rattle.volume_spec.proofs.Ordered.{before-trans, before-other, before-one-way}
use Rattle.volume_spec.proofs.Rising.{above-all}
use Rattle.volume_spec.specs.Order.{stands_before, put_in, in_order, rises, rises_from}
use Rattle.afp_base.specs.Apart.{are_apart}
use Rattle.node_rows.specs.lemma.Children.{kept}
use Rattle.afp_base.proofs.Facts.{bytes_differ_turn, never_both}
use Rattle.afp_base.proofs.ListFacts.{all-filter, all-weaker, none-find, not-any}
use Rattle.volume_spec.proofs.Keys.{before-differs}

-- keys

not-itself : (a b : List ℕ) → stands_before a b ≡ true → bytes_eq a b ≡ true → ⊥
not-itself a b before same =
    let is : a ≡ b = (bytes_eq-Decides a b).0 same in
    before-one-way a b before (ap (λ q. stands_before q a) (sym is) ∙ ap (λ q. stands_before a q) is ∙ before)

-- of two keys that differ just one stands before the other
other-way : (a b : List ℕ) (t : Bool) → stands_before a b ≡ t → not (bytes_eq a b) ≡ true → stands_before b a ≡ not t
other-way a b true before differ = elim (cases_Bool (stands_before b a)) [ inl back ↦ absurd (before-one-way a b before back) | inr none ↦ none ]
other-way a b false after differ = before-other a b after differ

-- two elements are put in one way or the other
pub put-comm : {A : Type 0} (key : A → List ℕ) (x y : A) (l : List A) → not (bytes_eq (key x) (key y)) ≡ true → put_in key x (put_in key y l) ≡ put_in key y (put_in key x l)
put-comm key x y [] differ = go (stands_before (key x) (key y)) refl
  where
    go : (xy : Bool) → stands_before (key x) (key y) ≡ xy → put_in key x (put_in key y []) ≡ put_in key y (put_in key x [])
    go true a = let b : stands_before (key y) (key x) ≡ false = other-way (key x) (key y) true a differ in simp (a, b)
    go false a = let b : stands_before (key y) (key x) ≡ true = other-way (key x) (key y) false a differ in simp (a, b)
put-comm key x y (z ∷ zs) differ =
    go (stands_before (key x) (key z)) (stands_before (key y) (key z)) (stands_before (key x) (key y)) refl refl refl (put-comm key x y zs differ)
  where
    go : (xz yz xy : Bool) → stands_before (key x) (key z) ≡ xz → stands_before (key y) (key z) ≡ yz → stands_before (key x) (key y) ≡ xy
        → put_in key x (put_in key y zs) ≡ put_in key y (put_in key x zs) → put_in key x (put_in key y (z ∷ zs)) ≡ put_in key y (put_in key x (z ∷ zs))
    go true true true a b c rest = let d : stands_before (key y) (key x) ≡ false = other-way (key x) (key y) true c differ in simp (a, b, c, d)
    go true true false a b c rest = let d : stands_before (key y) (key x) ≡ true = other-way (key x) (key y) false c differ in simp (a, b, c, d)
    go true false true a b c rest = let d : stands_before (key y) (key x) ≡ false = other-way (key x) (key y) true c differ in simp (a, b, c, d)
    go true false false a b c rest =
        let d : stands_before (key y) (key x) ≡ true = other-way (key x) (key y) false c differ in
        absurd (never_both (stands_before (key y) (key z)) (before-trans (key y) (key x) (key z) d a) b)
    go false true true a b c rest = absurd (never_both (stands_before (key x) (key z)) (before-trans (key x) (key y) (key z) c b) a)
    go false true false a b c rest = let d : stands_before (key y) (key x) ≡ true = other-way (key x) (key y) false c differ in simp (a, b, c, d)
    go false false xy a b c rest = simp (a, b) (ap (λ l. z ∷ l) rest)

-- what rises still rises without the element that was put in, and that one's key is no other's

all-put : {A : Type 0} (key : A → List ℕ) (p : A → Bool) (x : A) (l : List A) → list_all p (put_in key x l) ≡ true → (p x ≡ true) × (list_all p l ≡ true)
all-put key p x [] h = ((and_parts (p x) true h).0, refl)
all-put key p x (y ∷ ys) h =
    cond_both (stands_before (key x) (key y)) (x ∷ y ∷ ys) (y ∷ put_in key x ys) (λ l. list_all p l ≡ true → (p x ≡ true) × (list_all p (y ∷ ys) ≡ true))
    (λ first k. and_parts (p x) (list_all p (y ∷ ys)) k)
    (λ later k.
    let e = and_parts (p y) (list_all p (put_in key x ys)) k in
    let r = all-put key p x ys e.1 in
    (r.0, and_from (p y) (list_all p ys) e.0 r.1)) h

pub order-all-back : {A : Type 0} (key : A → List ℕ) (p : A → Bool) (xs : List A) → list_all p (in_order key xs) ≡ true → list_all p xs ≡ true
order-all-back key p [] h = refl
order-all-back key p (x ∷ xs) h =
    let r = all-put key p x (in_order key xs) h in
    and_from (p x) (list_all p xs) r.0 (order-all-back key p xs r.1)

pub put-back : {A : Type 0} (key : A → List ℕ) (x : A) (l : List A) → rises key (put_in key x l) ≡ true → (rises key l ≡ true) × (list_all (λ y. not (bytes_eq (key x) (key y))) l ≡ true)
put-back key x [] h = (refl, refl)
put-back key x (y ∷ ys) h =
    cond_both (stands_before (key x) (key y)) (x ∷ y ∷ ys) (y ∷ put_in key x ys)
    (λ l. rises key l ≡ true → (rises key (y ∷ ys) ≡ true) × (list_all (λ z. not (bytes_eq (key x) (key z))) (y ∷ ys) ≡ true))
    (λ first k.
    let e = and_parts (list_all (λ z. stands_before (key x) (key z)) (y ∷ ys)) (rises key (y ∷ ys)) k in
    (e.1, all-weaker (λ z. stands_before (key x) (key z)) (λ z. not (bytes_eq (key x) (key z))) (y ∷ ys) (λ z before. before-differs (key x) (key z) before) e.0))
    (λ later k.
    let e = and_parts (list_all (λ z. stands_before (key y) (key z)) (put_in key x ys)) (rises key (put_in key x ys)) k in
    let a = all-put key (λ z. stands_before (key y) (key z)) x ys e.0 in
    let r = put-back key x ys e.1 in (
      and_from (list_all (λ z. stands_before (key y) (key z)) ys) (rises key ys) a.1 r.0,
      and_from (not (bytes_eq (key x) (key y))) (list_all (λ z. not (bytes_eq (key x) (key z))) ys) (bytes_differ_turn (key y) (key x) (before-differs (key y) (key x) a.0)) r.1,
    )) h

-- a filter of what is in order

put-first : {A : Type 0} (key : A → List ℕ) (x : A) (l : List A) → list_all (λ y. stands_before (key x) (key y)) l ≡ true → put_in key x l ≡ x ∷ l
put-first key x [] h = refl
put-first key x (y ∷ ys) h = cond-true (stands_before (key x) (key y)) (x ∷ y ∷ ys) (y ∷ put_in key x ys) (and_parts (stands_before (key x) (key y)) (list_all (λ z. stands_before (key x) (key z)) ys) h).0

put-filter : {A : Type 0} (key : A → List ℕ) (keep : A → Bool) (x : A) (l : List A) → rises key l ≡ true → filter keep (put_in key x l) ≡ cond (keep x) (put_in key x (filter keep l)) (filter keep l)
put-filter key keep x [] h = refl
put-filter {A} key keep x (y ∷ ys) h =
    let e = and_parts (list_all (λ z. stands_before (key y) (key z)) ys) (rises key ys) h in
    cond_both (stands_before (key x) (key y)) (x ∷ y ∷ ys) (y ∷ put_in key x ys)
    (λ l. filter keep l ≡ cond (keep x) (put_in key x (filter keep (y ∷ ys))) (filter keep (y ∷ ys)))
    (λ first.
    let before : list_all (λ z. stands_before (key x) (key z)) (y ∷ ys) ≡ true = and_from (stands_before (key x) (key y)) (list_all (λ z. stands_before (key x) (key z)) ys) first
    (all-weaker (λ z. stands_before (key y) (key z)) (λ z. stands_before (key x) (key z)) ys (λ z behind. before-trans (key x) (key y) (key z) first behind) e.0) in
    ap (λ l. cond (keep x) l (filter keep (y ∷ ys))) (sym (put-first key x (filter keep (y ∷ ys)) (all-filter (λ z. stands_before (key x) (key z)) keep (y ∷ ys) before))))
    (λ later. ap (λ l. cond (keep y) (y ∷ l) l) (put-filter key keep x ys e.1)
    ∙ swap (keep y) (keep x) (filter keep ys) (cond-false (stands_before (key x) (key y)) (x ∷ y ∷ filter keep ys) (y ∷ put_in key x (filter keep ys)) later))
  where
    swap : (stays here : Bool) (rest : List A) → put_in key x (y ∷ rest) ≡ y ∷ put_in key x rest
        → cond stays (y ∷ cond here (put_in key x rest) rest) (cond here (put_in key x rest) rest) ≡ cond here (put_in key x (cond stays (y ∷ rest) rest)) (cond stays (y ∷ rest) rest)
    swap true true rest is = sym is
    swap true false rest is = refl
    swap false true rest is = refl
    swap false false rest is = refl

pub order-filter : {A : Type 0} (key : A → List ℕ) (keep : A → Bool) (xs : List A) → rises key (in_order key xs) ≡ true → filter keep (in_order key xs) ≡ in_order key (filter keep xs)
order-filter key keep [] h = refl
order-filter key keep (x ∷ xs) h =
    let r : rises key (in_order key xs) ≡ true = (put-back key x (in_order key xs) h).0 in
    put-filter key keep x (in_order key xs) r ∙ ap (λ l. cond (keep x) (put_in key x l) l) (order-filter key keep xs r)
    ∙ cond_both (keep x) (x ∷ filter keep xs) (filter keep xs) (λ l. cond (keep x) (put_in key x (in_order key (filter keep xs))) (in_order key (filter keep xs)) ≡ in_order key l)
    (λ kept. cond-true (keep x) (put_in key x (in_order key (filter keep xs))) (in_order key (filter keep xs)) kept)
    (λ gone. cond-false (keep x) (put_in key x (in_order key (filter keep xs))) (in_order key (filter keep xs)) gone)

-- an insertion at the first place that is not before it

pub put-at : {A : Type 0} (key : A → List ℕ) (x : A) (l : List A) → list_all (λ y. not (bytes_eq (key x) (key y))) l ≡ true
    → insert l (position_or_len (λ y. not (stands_before (key y) (key x))) l) x ≡ put_in key x l
put-at key x [] h = refl
put-at key x (y ∷ ys) h =
    let e = and_parts (not (bytes_eq (key x) (key y))) (list_all (λ z. not (bytes_eq (key x) (key z))) ys) h in
    go (stands_before (key x) (key y)) refl e.0 (position_or_len (λ z. not (stands_before (key z) (key x))) ys) (put-at key x ys e.1)
  where
    further : (n : ℕ) → insert (y ∷ ys) (1 + n) x ≡ y ∷ insert ys n x
    further n = let more : 1 + n ≡ suc n = omega arith in ap (λ k. take k (y ∷ ys) ++ x ∷ drop k (y ∷ ys)) more

    go : (first : Bool) → stands_before (key x) (key y) ≡ first → not (bytes_eq (key x) (key y)) ≡ true → (n : ℕ) → insert ys n x ≡ put_in key x ys
        → insert (y ∷ ys) (cond (not (not (stands_before (key y) (key x)))) (1 + n) 0) x ≡ put_in key x (y ∷ ys)
    go true a differ n rest = let b : stands_before (key y) (key x) ≡ false = other-way (key x) (key y) true a differ in simp (a, b)
    go false a differ n rest = let b : stands_before (key y) (key x) ≡ true = other-way (key x) (key y) false a differ in
        ap (λ t. insert (y ∷ ys) (cond (not (not t)) (1 + n) 0) x) b ∙ further n ∙ ap (λ l. y ∷ l) rest ∙ sym (cond-false (stands_before (key x) (key y)) (x ∷ y ∷ ys) (y ∷ put_in key x ys) a)

-- what is found

put-find : {A : Type 0} (key : A → List ℕ) (p : A → Bool) (x : A) (l : List A) → (p x ≡ true → list_all (λ y. not (p y)) l ≡ true) → find p (put_in key x l) ≡ cond (p x) (Some x) (find p l)
put-find key p x [] alone = refl
put-find {A} key p x (y ∷ ys) alone =
    cond_both (stands_before (key x) (key y)) (x ∷ y ∷ ys) (y ∷ put_in key x ys) (λ l. find p l ≡ cond (p x) (Some x) (find p (y ∷ ys)))
    (λ first. refl)
    (λ later. ap (λ o. cond (p y) (Some y) o) (put-find key p x ys (λ here. (and_parts (not (p y)) (list_all (λ z. not (p z)) ys) (alone here)).1))
    ∙ swap (p y) (p x) (find p ys) (λ here. (and_parts (not (p y)) (list_all (λ z. not (p z)) ys) (alone here)).0))
  where
    swap : (there here : Bool) (rest : Option A) → (here ≡ true → not there ≡ true) → cond there (Some y) (cond here (Some x) rest) ≡ cond here (Some x) (cond there (Some y) rest)
    swap true true rest one = absurd (cc (one refl))
    swap true false rest one = refl
    swap false true rest one = refl
    swap false false rest one = refl

-- where those that pass have one key, the same is found in order as before
pub order-find : {A : Type 0} (key : A → List ℕ) (p : A → Bool) (xs : List A) → ((a b : A) → p a ≡ true → p b ≡ true → bytes_eq (key a) (key b) ≡ true)
    → rises key (in_order key xs) ≡ true → find p (in_order key xs) ≡ find p xs
order-find key p [] alike h = refl
order-find {A} key p (x ∷ xs) alike h =
    let r = put-back key x (in_order key xs) h in
    put-find key p x (in_order key xs) (λ here. all-weaker (λ y. not (bytes_eq (key x) (key y))) (λ y. not (p y)) (in_order key xs) (λ y other. none y here other) r.1)
    ∙ ap (λ o. cond (p x) (Some x) o) (order-find key p xs alike r.0)
  where
    none : (y : A) → p x ≡ true → not (bytes_eq (key x) (key y)) ≡ true → not (p y) ≡ true
    none y here other = elim (cases_Bool (p y)) [
      | inl there ↦ absurd (cc (ap not (alike x y here there)))
      | inr passes ↦ ap not passes
    ]

-- the key is found at the first place that is not before it
pub find-key : {A : Type 0} (key : A → List ℕ) (k : List ℕ) (l : List A) → rises key l ≡ true
    → find (λ x. bytes_eq (key x) k) l ≡ kept (λ x. bytes_eq (key x) k) (slice_get l (position_or_len (λ x. not (stands_before (key x) k)) l))
find-key key k [] h = refl
find-key {A} key k (x ∷ xs) h =
    let e = and_parts (list_all (λ y. stands_before (key x) (key y)) xs) (rises key xs) h in
    go (stands_before (key x) k) refl (position_or_len (λ y. not (stands_before (key y) k)) xs) e.0 (find-key key k xs e.1)
  where
    test : A → Bool
    test y = bytes_eq (key y) k

    further : (n : ℕ) → slice_get (x ∷ xs) (1 + n) ≡ slice_get xs n
    further n = let more : 1 + n ≡ suc n = omega arith in ap (λ j. slice_get (x ∷ xs) j) more

    behind : stands_before (key x) k ≡ false → test x ≡ false → list_all (λ y. stands_before (key x) (key y)) xs ≡ true → find test xs ≡ None
    behind after other all = none-find test xs (all-weaker (λ y. stands_before (key x) (key y)) (λ y. not (test y)) xs
        (λ y up. bytes_differ_turn k (key y) (before-differs k (key y) (before-trans k (key x) (key y) (before-other (key x) k after (ap not other)) up))) all)

    go : (below : Bool) → stands_before (key x) k ≡ below → (n : ℕ) → list_all (λ y. stands_before (key x) (key y)) xs ≡ true → find test xs ≡ kept test (slice_get xs n)
        → find test (x ∷ xs) ≡ kept test (slice_get (x ∷ xs) (cond (not (not (stands_before (key x) k))) (1 + n) 0))
    go true a n all rest =
        cond-false (test x) (Some x) (find test xs) (not-true (test x) (before-differs (key x) k a)) ∙ rest ∙ ap (λ o. kept test o) (sym (further n))
        ∙ ap (λ t. kept test (slice_get (x ∷ xs) (cond (not (not t)) (1 + n) 0))) (sym a)
    go false a n all rest =
        cond_both (test x) (Some x) (find test xs) (λ o. o ≡ cond (test x) (Some x) None)
        (λ here. sym (cond-true (test x) (Some x) None here))
        (λ other. behind a other all ∙ sym (cond-false (test x) (Some x) None other))
        ∙ ap (λ t. kept test (slice_get (x ∷ xs) (cond (not (not t)) (1 + n) 0))) (sym a)

-- the same by numbers
pub find-number : {A : Type 0} (number : A → ℕ) (n low : ℕ) (l : List A) → rises_from number low l ≡ true
    → find (λ x. number x == n) l ≡ kept (λ x. number x == n) (slice_get l (position_or_len (λ x. not (nat_lt (number x) n)) l))
find-number number n low [] h = refl
find-number {A} number n low (x ∷ xs) h =
    let e = and_parts (nat_lt low (number x)) (rises_from number (number x) xs) h in
    go (nat_lt (number x) n) refl (position_or_len (λ y. not (nat_lt (number y) n)) xs) (above-all number (number x) xs e.1) (find-number number n (number x) xs e.1)
  where
    test : A → Bool
    test y = number y == n

    further : (k : ℕ) → slice_get (x ∷ xs) (1 + k) ≡ slice_get xs k
    further k = let more : 1 + k ≡ suc k = omega arith in ap (λ j. slice_get (x ∷ xs) j) more

    behind : nat_lt (number x) n ≡ false → list_all (λ y. nat_lt (number x) (number y)) xs ≡ true → find test xs ≡ None
    behind after all = none-find test xs (all-weaker (λ y. nat_lt (number x) (number y)) (λ y. not (test y)) xs
        (λ y up. let here : n ≤ number x = ltb-false (number x) n after in let above : number x < number y = ltb-true (number x) (number y) up in ap not (ne_eqb (number y) n (λ same. omega arith))) all)

    go : (below : Bool) → nat_lt (number x) n ≡ below → (k : ℕ) → list_all (λ y. nat_lt (number x) (number y)) xs ≡ true → find test xs ≡ kept test (slice_get xs k)
        → find test (x ∷ xs) ≡ kept test (slice_get (x ∷ xs) (cond (not (not (nat_lt (number x) n))) (1 + k) 0))
    go true a k all rest =
        let less : number x < n = ltb-true (number x) n a in
        cond-false (test x) (Some x) (find test xs) (ne_eqb (number x) n (λ same. omega arith)) ∙ rest ∙ ap (λ o. kept test o) (sym (further k))
        ∙ ap (λ t. kept test (slice_get (x ∷ xs) (cond (not (not t)) (1 + k) 0))) (sym a)
    go false a k all rest =
        cond_both (test x) (Some x) (find test xs) (λ o. o ≡ cond (test x) (Some x) None)
        (λ here. sym (cond-true (test x) (Some x) None here))
        (λ other. behind a all ∙ sym (cond-false (test x) (Some x) None other))
        ∙ ap (λ t. kept test (slice_get (x ∷ xs) (cond (not (not t)) (1 + k) 0))) (sym a)

-- what a place shows

pub kept-past : {A : Type 0} (test : A → Bool) (l : List A) (i : ℕ) → length l ≤ i → kept test (slice_get l i) ≡ None
kept-past test l i past = ap (λ o. kept test o) (slice_get_past l i past)

pub kept-at : {A : Type 0} (test : A → Bool) (l : List A) (i : ℕ) (x : A) → i < length l → x ≡ slice_index_or l i x → kept test (slice_get l i) ≡ cond (test x) (Some x) None
kept-at test l i x within read = ap (λ o. kept test o) (slice_get_read l (length l) i x refl within read)

-- the place at which a key would be
abbrev pub key_place : {A : Type 0} → (A → List ℕ) → List ℕ → List A → ℕ
key_place key k l = position_or_len (λ x. not (stands_before (key x) k)) l

abbrev pub number_place : {A : Type 0} → (A → ℕ) → ℕ → List A → ℕ
number_place number n l = position_or_len (λ x. not (nat_lt (number x) n)) l

module _ {A : Type 0} (key : A → List ℕ) (k : List ℕ) (l : List A) (i : ℕ) where
  pub key-past : rises key l ≡ true → i ≡ key_place key k l → length l ≤ i → find (λ x. bytes_eq (key x) k) l ≡ None
  key-past h is past = find-key key k l h ∙ ap (λ j. kept (λ x. bytes_eq (key x) k) (slice_get l j)) (sym is) ∙ kept-past (λ x. bytes_eq (key x) k) l i past

  pub key-at : (x : A) → rises key l ≡ true → i ≡ key_place key k l → i < length l → x ≡ slice_index_or l i x → find (λ x. bytes_eq (key x) k) l ≡ cond (bytes_eq (key x) k) (Some x) None
  key-at x h is within read = find-key key k l h ∙ ap (λ j. kept (λ x. bytes_eq (key x) k) (slice_get l j)) (sym is) ∙ kept-at (λ x. bytes_eq (key x) k) l i x within read

module _ {A : Type 0} (number : A → ℕ) (n : ℕ) (l : List A) (i : ℕ) where
  pub number-past : rises_from number 0 l ≡ true → i ≡ number_place number n l → length l ≤ i → find (λ x. number x == n) l ≡ None
  number-past h is past = find-number number n 0 l h ∙ ap (λ j. kept (λ x. number x == n) (slice_get l j)) (sym is) ∙ kept-past (λ x. number x == n) l i past

  pub number-at : (x : A) → rises_from number 0 l ≡ true → i ≡ number_place number n l → i < length l → x ≡ slice_index_or l i x → find (λ x. number x == n) l ≡ cond (number x == n) (Some x) None
  number-at x h is within read = find-number number n 0 l h ∙ ap (λ j. kept (λ x. number x == n) (slice_get l j)) (sym is) ∙ kept-at (λ x. number x == n) l i x within read

-- what stands at a place is above the start, and is the one of its number

number-above : {A : Type 0} (number : A → ℕ) (low : ℕ) (l : List A) (i : ℕ) (x : A) → rises_from number low l ≡ true → i < length l → x ≡ slice_index_or l i x → low < number x
number-above number low [] i x h within read = absurd (omega arith)
number-above number low (y ∷ ys) zero x h within read =
    let e = and_parts (nat_lt low (number y)) (rises_from number (number y) ys) h in
    subst (λ z. low < number z) (sym read) (ltb-true low (number y) e.0)
number-above number low (y ∷ ys) (suc i) x h within read =
    let e = and_parts (nat_lt low (number y)) (rises_from number (number y) ys) h in
    let first : low < number y = ltb-true low (number y) e.0 in
    let rest : number y < number x = number-above number (number y) ys i x e.1 (omega arith) read in
    omega arith

pub number-there : {A : Type 0} (number : A → ℕ) (n low : ℕ) (l : List A) (i : ℕ) (x : A) → rises_from number low l ≡ true → i < length l → x ≡ slice_index_or l i x → (number x == n) ≡ true
    → find (λ y. number y == n) l ≡ Some x
number-there number n low [] i x h within read same = absurd (omega arith)
number-there number n low (y ∷ ys) zero x h within read same =
    cond-true (number y == n) (Some y) (find (λ z. number z == n) ys) (ap (λ z. number z == n) (sym read) ∙ same) ∙ ap Some (sym read)
number-there number n low (y ∷ ys) (suc i) x h within read same =
    let e = and_parts (nat_lt low (number y)) (rises_from number (number y) ys) h in
    let above : number y < number x = number-above number (number y) ys i x e.1 (omega arith) read in
    let is : number x ≡ n = eqb-true (number x) n same in
    cond-false (number y == n) (Some y) (find (λ z. number z == n) ys) (ne_eqb (number y) n (λ alike. omega arith))
    ∙ number-there number n (number y) ys i x e.1 (omega arith) read same

-- the place of a number above that of the last

pub number-behind : {A : Type 0} (number : A → ℕ) (n low : ℕ) (l : List A) (i : ℕ) (x : A) → rises_from number low l ≡ true → i + 1 ≡ length l → x ≡ slice_index_or l i x → nat_lt (number x) n ≡ true
    → length l ≡ number_place number n l
number-behind number n low [] i x h last read below = absurd (omega arith)
number-behind number n low (y ∷ []) zero x h last read below =
    let first : nat_lt (number y) n ≡ true = ap (λ z. nat_lt (number z) n) (sym read) ∙ below in simp first
number-behind number n low (y ∷ z ∷ zs) zero x h last read below = absurd (omega arith)
number-behind number n low (y ∷ ys) (suc i) x h last read below =
    let e = and_parts (nat_lt low (number y)) (rises_from number (number y) ys) h in
    let above : number y < number x = number-above number (number y) ys i x e.1 (omega arith) read in
    let under : number x < n = ltb-true (number x) n below in
    let first : nat_lt (number y) n ≡ true = lt-ltb (number y) n (omega arith) in
    let rest : length ys ≡ number_place number n ys = number-behind number n (number y) ys i x e.1 (omega arith) read below in
    let more : suc (length ys) ≡ 1 + length ys = omega arith in
    more ∙ ap (λ k. 1 + k) rest ∙ ap (λ t. cond (not (not t)) (1 + number_place number n ys) 0) (sym first)

-- elements whose keys rise in order have keys that differ

pub order-differs : {A : Type 0} (key : A → List ℕ) (xs : List A) → rises key (in_order key xs) ≡ true → are_apart (λ a b. bytes_eq (key a) (key b)) xs ≡ true
order-differs key [] h = refl
order-differs key (x ∷ xs) h =
    let r = put-back key x (in_order key xs) h in
    and_from (not (list_any (λ b. bytes_eq (key x) (key b)) xs)) (are_apart (λ a b. bytes_eq (key a) (key b)) xs)
    (not-any (λ b. bytes_eq (key x) (key b)) xs (order-all-back key (λ y. not (bytes_eq (key x) (key y))) xs r.1))
    (order-differs key xs r.0)
