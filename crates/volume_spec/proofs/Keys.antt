-- Lists in the order of their keys: what stands under a key, is put there, or taken away.
use Rattle.std.proofs.Common.{◌≡◌, ◌∙◌, ap, sym, refl, ℕ, suc, ◌==◌, ◌≤◌, ◌<◌, Bool, true, false, not, ◌&&◌, cond, List, [], ◌∷◌, length, inl, inr, Option, Some, None, arith}
use Rattle.std.specs.Prelude.{bytes_eq, nat_le, nat_lt, is_none}
use Rattle.std.specs.List.{list_all, filter, find}
use Rattle.std.proofs.lemmas.Bool.{and_parts, and_from, cases_Bool, cond_both, cond-true, cond-false, leb-true, leb-false, le-leb}
use Rattle.volume_spec.proofs.Ordered.{before-one-way, put-all, put-rises}
use Rattle.volume_spec.proofs.Rising.{above-all, keys-filter}
use Rattle.volume_spec.specs.Desktop.{at_key, put_at_key, without_key}
use Rattle.volume_spec.specs.Order.{stands_before, put_in, rises, rises_from}
use Rattle.afp_base.proofs.Facts.{bytes_differ_turn, bytes_same, bytes_true, never}
use Rattle.afp_base.proofs.ListFacts.{all-filter, all-kept, all-weaker, length-filter-le}

-- keys

-- a key that stands before another is another
pub before-differs : (a b : List ℕ) → stands_before a b ≡ true → not (bytes_eq a b) ≡ true
before-differs a b before = elim (cases_Bool (bytes_eq a b)) [
  | inl same ↦ absurd (before-one-way a b before (ap (λ q. stands_before q a) (sym (bytes_same a b same)) ∙ ap (λ q. stands_before a q) (bytes_same a b same) ∙ before))
  | inr other ↦ ap not other
]

-- keys of one number
pub one-same : (a b : ℕ) → bytes_eq (a ∷ []) (b ∷ []) ≡ (a == b)
one-same a b = go (a == b) refl
  where
    go : (t : Bool) → (a == b) ≡ t → bytes_eq (a ∷ []) (b ∷ []) ≡ (a == b)
    go true e = simp e
    go false e = simp e

pub one-before : (a b : ℕ) → stands_before (a ∷ []) (b ∷ []) ≡ nat_lt a b
one-before a b = go (nat_lt a b) (a == b) refl refl
  where
    go : (less same : Bool) → nat_lt a b ≡ less → (a == b) ≡ same → stands_before (a ∷ []) (b ∷ []) ≡ nat_lt a b
    go true same e f = simp e
    go false true e f = simp (e, f)
    go false false e f = simp (e, f)

-- one more under a key, and one less

others-apart : {A : Type 0} (key : A → List ℕ) (k : List ℕ) (xs : List A) → list_all (λ y. not (bytes_eq k (key y))) (without_key key k xs) ≡ true
others-apart key k xs = all-weaker (λ y. not (bytes_eq (key y) k)) (λ y. not (bytes_eq k (key y))) (without_key key k xs) (λ y h. bytes_differ_turn (key y) k h) (all-kept (λ y. not (bytes_eq (key y) k)) xs)

pub without-rises : {A : Type 0} (key : A → List ℕ) (k : List ℕ) (xs : List A) → rises key xs ≡ true → rises key (without_key key k xs) ≡ true
without-rises key k xs h = keys-filter key (λ y. not (bytes_eq (key y) k)) xs h

pub put-key-rises : {A : Type 0} (key : A → List ℕ) (new : A) (xs : List A) → rises key xs ≡ true → rises key (put_at_key key new xs) ≡ true
put-key-rises key new xs h = put-rises key new (without_key key (key new) xs) (others-apart key (key new) xs) (without-rises key (key new) xs h)

pub put-key-all : {A : Type 0} (key : A → List ℕ) (p : A → Bool) (new : A) (xs : List A) → p new ≡ true → list_all p xs ≡ true → list_all p (put_at_key key new xs) ≡ true
put-key-all key p new xs here h = put-all key p new (without_key key (key new) xs) here (all-filter p (λ y. not (bytes_eq (key y) (key new))) xs h)

pub put-length : {A : Type 0} (key : A → List ℕ) (new : A) (xs : List A) → length (put_in key new xs) ≡ suc (length xs)
put-length key new [] = refl
put-length key new (x ∷ xs) =
    cond_both (stands_before (key new) (key x)) (new ∷ x ∷ xs) (x ∷ put_in key new xs) (λ l. length l ≡ suc (suc (length xs)))
    (λ first. refl) (λ later. ap suc (put-length key new xs))

-- where one passes, those that do not are fewer
fewer : {A : Type 0} (p : A → Bool) (xs : List A) → is_none (find p xs) ≡ false → length (filter (λ x. not (p x)) xs) < length xs
fewer p [] h = absurd (cc)
fewer {A} p (x ∷ xs) h = elim (cases_Bool (p x)) [
  | inl here ↦
      let gone : filter (λ y. not (p y)) (x ∷ xs) ≡ filter (λ y. not (p y)) xs = cond-false (not (p x)) (x ∷ filter (λ y. not (p y)) xs) (filter (λ y. not (p y)) xs) (ap not here) in
      let less : length (filter (λ y. not (p y)) xs) ≤ length xs = length-filter-le (λ y. not (p y)) xs in
      let is : length (filter (λ y. not (p y)) (x ∷ xs)) ≡ length (filter (λ y. not (p y)) xs) = ap length gone in
      omega arith
  | inr other ↦
      let kept : filter (λ y. not (p y)) (x ∷ xs) ≡ x ∷ filter (λ y. not (p y)) xs = cond-true (not (p x)) (x ∷ filter (λ y. not (p y)) xs) (filter (λ y. not (p y)) xs) (ap not other) in
      let later : is_none (find p xs) ≡ false = ap is_none (sym (cond-false (p x) (Some x) (find p xs) other)) ∙ h in
      let less : length (filter (λ y. not (p y)) xs) < length xs = fewer p xs later in
      let is : length (filter (λ y. not (p y)) (x ∷ xs)) ≡ suc (length (filter (λ y. not (p y)) xs)) = ap length kept in
      omega arith
]

-- the limit is kept where it is not reached, or the key is there
pub put-few : {A : Type 0} (key : A → List ℕ) (most : ℕ) (new : A) (xs : List A) → (nat_le most (length xs) && is_none (at_key key (key new) xs)) ≡ false → nat_le (length xs) most ≡ true → nat_le (length (put_at_key key new xs)) most ≡ true
put-few key most new xs room few =
    let n : ℕ = length (without_key key (key new) xs) in
    let put : length (put_at_key key new xs) ≡ suc n = put-length key new (without_key key (key new) xs) in
    let low : length xs ≤ most = leb-true (length xs) most few in
    let less : n ≤ length xs = length-filter-le (λ y. not (bytes_eq (key y) (key new))) xs in
    le-leb (length (put_at_key key new xs)) most (elim (cases_Bool (nat_le most (length xs))) [
      | inl full ↦
          let there : is_none (at_key key (key new) xs) ≡ false = ap (λ t. t && is_none (at_key key (key new) xs)) (sym full) ∙ room in
          let under : n < length xs = fewer (λ y. bytes_eq (key y) (key new)) xs there in
          omega arith
      | inr free ↦
          let under : length xs < most = leb-false most (length xs) free in
          omega arith
    ])

-- what is found

find-filter-none : {A : Type 0} (p q : A → Bool) (xs : List A) → ((x : A) → p x ≡ true → q x ≡ false) → find p (filter q xs) ≡ None
find-filter-none p q [] alone = refl
find-filter-none p q (x ∷ xs) alone =
    cond_both (q x) (x ∷ filter q xs) (filter q xs) (λ l. find p l ≡ None)
    (λ kept. cond_both (p x) (Some x) (find p (filter q xs)) (λ o. o ≡ None)
    (λ here. absurd (never (q x) kept (ap not (alone x here)))) (λ other. find-filter-none p q xs alone))
    (λ gone. find-filter-none p q xs alone)

find-filter : {A : Type 0} (p q : A → Bool) (xs : List A) → ((x : A) → p x ≡ true → q x ≡ true) → find p (filter q xs) ≡ find p xs
find-filter p q [] kept = refl
find-filter p q (x ∷ xs) kept =
    cond_both (q x) (x ∷ filter q xs) (filter q xs) (λ l. find p l ≡ cond (p x) (Some x) (find p xs))
    (λ here. ap (λ o. cond (p x) (Some x) o) (find-filter p q xs kept))
    (λ gone. find-filter p q xs kept ∙ sym (cond_both (p x) (Some x) (find p xs) (λ o. o ≡ find p xs)
    (λ passes. absurd (never (q x) (kept x passes) (ap not gone))) (λ other. refl)))

-- the first that passes, where one more is put in among some that fail if it passes
find-put : {A : Type 0} (key : A → List ℕ) (p : A → Bool) (new : A) (xs : List A) → (p new ≡ true → find p xs ≡ None) → find p (put_in key new xs) ≡ cond (p new) (Some new) (find p xs)
find-put key p new [] alone = refl
find-put {A} key p new (x ∷ xs) alone =
    cond_both (stands_before (key new) (key x)) (new ∷ x ∷ xs) (x ∷ put_in key new xs) (λ l. find p l ≡ cond (p new) (Some new) (find p (x ∷ xs)))
    (λ first. refl)
    (λ later. ap (λ o. cond (p x) (Some x) o) (find-put key p new xs (λ here. (fails (p x) (find p xs) (alone here)).1)) ∙ swap (p x) (p new) (find p xs) (λ here. (fails (p x) (find p xs) (alone here)).0))
  where
    fails : (t : Bool) (o : Option A) → cond t (Some x) o ≡ None → (t ≡ false) × (o ≡ None)
    fails true o h = absurd (cc)
    fails false o h = (refl, h)

    swap : (there here : Bool) (rest : Option A) → (here ≡ true → there ≡ false) → cond there (Some x) (cond here (Some new) rest) ≡ cond here (Some new) (cond there (Some x) rest)
    swap true true rest one = absurd (cc (one refl))
    swap true false rest one = refl
    swap false true rest one = refl
    swap false false rest one = refl

-- by tests: elements of which one is taken away or put in, where those that pass are asked for
pub finds-gone : {A : Type 0} (p q : A → Bool) (t : Bool) (xs : List A) → (t ≡ true → (x : A) → p x ≡ true → q x ≡ true) → (t ≡ false → (x : A) → p x ≡ true → q x ≡ false) → find p (filter (λ x. not (q x)) xs) ≡ cond t None (find p xs)
finds-gone p q true xs same other = find-filter-none p (λ x. not (q x)) xs (λ x here. ap not (same refl x here))
finds-gone p q false xs same other = find-filter p (λ x. not (q x)) xs (λ x here. ap not (other refl x here))

pub finds-put : {A : Type 0} (key : A → List ℕ) (p q : A → Bool) (new : A) (xs : List A) → (p new ≡ true → (x : A) → p x ≡ true → q x ≡ true) → (p new ≡ false → (x : A) → p x ≡ true → q x ≡ false)
    → find p (put_in key new (filter (λ x. not (q x)) xs)) ≡ cond (p new) (Some new) (find p xs)
finds-put {A} key p q new xs same other =
    find-put key p new (filter (λ x. not (q x)) xs) (λ here. gone ∙ ap (λ t. cond t None (find p xs)) here)
    ∙ by (p new) gone
  where
    gone : find p (filter (λ x. not (q x)) xs) ≡ cond (p new) None (find p xs)
    gone = finds-gone p q (p new) xs same other

    by : (t : Bool) → find p (filter (λ x. not (q x)) xs) ≡ cond t None (find p xs) → cond t (Some new) (find p (filter (λ x. not (q x)) xs)) ≡ cond t (Some new) (find p xs)
    by true g = refl
    by false g = g

-- by keys
pub put-key-found : {A : Type 0} (key : A → List ℕ) (new : A) (xs : List A) (k : List ℕ) → at_key key k (put_at_key key new xs) ≡ cond (bytes_eq (key new) k) (Some new) (at_key key k xs)
put-key-found {A} key new xs k =
    finds-put key (λ x. bytes_eq (key x) k) (λ x. bytes_eq (key x) (key new)) new xs
    (λ here x there. bytes_true (key x) (key new) (bytes_same (key x) k there ∙ sym (bytes_same (key new) k here)))
    (λ other x there. elim (cases_Bool (bytes_eq (key x) (key new))) [
      | inl same ↦ absurd (never (bytes_eq (key new) k) (bytes_true (key new) k (sym (bytes_same (key x) (key new) same) ∙ bytes_same (key x) k there)) (ap not other))
      | inr differs ↦ differs
    ])

pub gone-key-found : {A : Type 0} (key : A → List ℕ) (xs : List A) (k l : List ℕ) → at_key key l (without_key key k xs) ≡ cond (bytes_eq k l) None (at_key key l xs)
gone-key-found {A} key xs k l =
    finds-gone (λ x. bytes_eq (key x) l) (λ x. bytes_eq (key x) k) (bytes_eq k l) xs
    (λ is x there. bytes_true (key x) k (bytes_same (key x) l there ∙ sym (bytes_same k l is)))
    (λ other x there. elim (cases_Bool (bytes_eq (key x) k)) [
      | inl same ↦ absurd (never (bytes_eq k l) (bytes_true k l (sym (bytes_same (key x) k same) ∙ bytes_same (key x) l there)) (ap not other))
      | inr differs ↦ differs
    ])

-- numbers that rise are keys that rise, and back

pub rises-by-number : {A : Type 0} (number : A → ℕ) (low : ℕ) (xs : List A) → rises_from number low xs ≡ true → rises (λ x. number x ∷ []) xs ≡ true
rises-by-number number low [] h = refl
rises-by-number number low (x ∷ xs) h =
    let e = and_parts (nat_lt low (number x)) (rises_from number (number x) xs) h in
    and_from (list_all (λ y. stands_before (number x ∷ []) (number y ∷ [])) xs) (rises (λ y. number y ∷ []) xs)
    (all-weaker (λ y. nat_lt (number x) (number y)) (λ y. stands_before (number x ∷ []) (number y ∷ [])) xs (λ y up. one-before (number x) (number y) ∙ up) (above-all number (number x) xs e.1))
    (rises-by-number number (number x) xs e.1)

pub rises-by-key : {A : Type 0} (number : A → ℕ) (low : ℕ) (xs : List A) → list_all (λ x. nat_lt low (number x)) xs ≡ true → rises (λ x. number x ∷ []) xs ≡ true → rises_from number low xs ≡ true
rises-by-key number low [] above h = refl
rises-by-key number low (x ∷ xs) above h =
    let e = and_parts (list_all (λ y. stands_before (number x ∷ []) (number y ∷ [])) xs) (rises (λ y. number y ∷ []) xs) h in
    let f = and_parts (nat_lt low (number x)) (list_all (λ y. nat_lt low (number y)) xs) above in
    and_from (nat_lt low (number x)) (rises_from number (number x) xs) f.0
    (rises-by-key number (number x) xs
    (all-weaker (λ y. stands_before (number x ∷ []) (number y ∷ [])) (λ y. nat_lt (number x) (number y)) xs (λ y up. sym (one-before (number x) (number y)) ∙ up) e.0) e.1)
