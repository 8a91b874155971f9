-- Where a key stands in a list whose keys rise: what is found there, and what an edit at that place does.
use Rattle.std.proofs.Common.{◌≡◌, ◌∙◌, ap, sym, refl, subst, ℕ, zero, suc, ◌+◌, ◌≤◌, ◌<◌, true, false, not, ◌&&◌, List, [], ◌∷◌, length, Some, None, Result, Ok, Err, IfOk, IfErr, arith}
use Rattle.std.specs.Prelude.{OnOk, bytes_eq, is_none, is_some, nat_le, slice_get, slice_index_or, slice_set}
use Rattle.std.specs.List.{list_all, insert, remove}
use Rattle.std.specs.List.Sorted.{IsBinarySearchResult, IsSearchInRange}
use Rattle.std.specs.Cmp.Lexicographic.{slice_cmp}
use Rattle.std.specs.Ordering.{nat_cmp, is_lt, is_eq, ordering_reverse}
use Rattle.std.specs.declared.cmp.Ordering.TheVariants.{Equal, Greater}
use Rattle.std.proofs.lemmas.Bool.{and_parts, and_from, cond-true, cond-false, le-leb, not-true}
use Rattle.std.proofs.lemmas.Cmp.{nat_list_cmp_total}
use Rattle.std.proofs.lemmas.List.Sorted.{searchable_from_sorted}
use Rattle.std.proofs.lemmas.Option.{slice_get-get_or, slice_get_read}
use Rattle.std.proofs.lemmas.Map.Text.{is_eq-slice_cmp}
use Rattle.volume_spec.proofs.Keys.{before-differs}
use Rattle.volume_spec.proofs.Ordered.{not-back}
use Rattle.volume_spec.specs.Desktop.{at_key, without_key}
use Rattle.volume_spec.specs.Order.{stands_before, put_in, rises}
use Rattle.desktop_db.specs.lemma.Places.{IsPlaceOf, IsGapFor}
use Rattle.afp_base.proofs.Facts.{and-false, bytes_differ_turn, bytes_same, bytes_true}
use Rattle.afp_base.proofs.ListFacts.{all-index, all-weaker, none-find}

-- the halving

neighbours : {A : Type 0} (key : A → List ℕ) (xs : List A) → rises key xs ≡ true → (j n : ℕ) (d : A) → n ≡ suc j → n < length xs → stands_before (key (slice_index_or xs n d)) (key (slice_index_or xs j d)) ≡ false
neighbours key [] h j n d next inside = absurd (omega arith)
neighbours key (x ∷ xs) h zero zero d next inside = absurd (omega arith)
neighbours key (x ∷ xs) h zero (suc n) d next inside =
    let e = and_parts (list_all (λ y. stands_before (key x) (key y)) xs) (rises key xs) h in
    not-back (key x) (key (slice_index_or xs n d)) (all-index (λ y. stands_before (key x) (key y)) xs n d e.0 (omega arith))
neighbours key (x ∷ xs) h (suc j) zero d next inside = absurd (omega arith)
neighbours key (x ∷ xs) h (suc j) (suc n) d next inside =
    neighbours key xs (and_parts (list_all (λ y. stands_before (key x) (key y)) xs) (rises key xs) h).1 j n d (omega arith) (omega arith)

equal-keys : (a b : List ℕ) → slice_cmp nat_cmp a b ≡ Equal → a ≡ b
equal-keys a b h = bytes_same a b (sym (is_eq-slice_cmp a b) ∙ ap is_eq h)

greater-back : (a b : List ℕ) → slice_cmp nat_cmp a b ≡ Greater → stands_before b a ≡ true
greater-back a b h = ap is_lt (nat_list_cmp_total.antisymm b a ∙ ap ordering_reverse h)

pub searched : {A : Type 0} (key : A → List ℕ) (k : List ℕ) (xs : List A) (r : Result ℕ ℕ) → rises key xs ≡ true → IsSearchInRange r (length xs) → IsBinarySearchResult (λ y. slice_cmp nat_cmp (key y) k) xs r
    → IfOk r (IsPlaceOf key k xs) × IfErr r (IsGapFor key k xs)
searched key k xs (Ok i) h within same = (record { within = within; same = λ d. equal-keys (key (slice_index_or xs i d)) k (same d) }, tt)
searched key k xs (Err i) h within parted =
    let parts = parted (searchable_from_sorted nat_list_cmp_total key xs k (λ j d low inside. neighbours key xs h j (j + 1) d (omega arith) inside)) in (
      tt,
      record {
        within = within;
        lower = λ j d low less. ap is_lt (parts.0 j d low less);
        higher = λ j d low less. greater-back (key (slice_index_or xs j d)) k (parts.1 j d low less);
      },
    )

module _ {A : Type 0} (key : A → List ℕ) (k : List ℕ) where
  -- the element at a place has the key
  abbrev AtPlace : List A → ℕ → Type 0
  AtPlace [] i = ⊥
  AtPlace (x ∷ xs) zero = (key x ≡ k) × (list_all (λ y. stands_before k (key y)) xs ≡ true)
  AtPlace (x ∷ xs) (suc i) = (stands_before (key x) k ≡ true) × AtPlace xs i

  -- the keys before a place are lower, and those from it on are higher
  abbrev AtGap : List A → ℕ → Type 0
  AtGap xs zero = list_all (λ y. stands_before k (key y)) xs ≡ true
  AtGap [] (suc i) = ⊥
  AtGap (x ∷ xs) (suc i) = (stands_before (key x) k ≡ true) × AtGap xs i

  at-place : (xs : List A) (i : ℕ) → rises key xs ≡ true → i < length xs → ((d : A) → key (slice_index_or xs i d) ≡ k) → AtPlace xs i
  at-place [] i h within same = absurd (omega arith)
  at-place (x ∷ xs) zero h within same =
      let e = and_parts (list_all (λ y. stands_before (key x) (key y)) xs) (rises key xs) h in
      (same x, ap (λ q. list_all (λ y. stands_before q (key y)) xs) (sym (same x)) ∙ e.0)
  at-place (x ∷ xs) (suc i) h within same =
      let e = and_parts (list_all (λ y. stands_before (key x) (key y)) xs) (rises key xs) h in
      (ap (λ q. stands_before (key x) q) (sym (same x)) ∙ all-index (λ y. stands_before (key x) (key y)) xs i x e.0 (omega arith), at-place xs i e.1 (omega arith) same)

  all-higher : (xs : List A) → ((j : ℕ) (d : A) → j < length xs → stands_before k (key (slice_index_or xs j d)) ≡ true) → list_all (λ y. stands_before k (key y)) xs ≡ true
  all-higher [] high = refl
  all-higher (x ∷ xs) high = and_from (stands_before k (key x)) (list_all (λ y. stands_before k (key y)) xs) (high 0 x (omega arith)) (all-higher xs (λ j d less. high (suc j) d (omega arith)))

  at-gap : (xs : List A) (i : ℕ) → i ≤ length xs → ((j : ℕ) (d : A) → j < i → stands_before (key (slice_index_or xs j d)) k ≡ true)
      → ((j : ℕ) (d : A) → i ≤ j → j < length xs → stands_before k (key (slice_index_or xs j d)) ≡ true) → AtGap xs i
  at-gap xs zero within low high = all-higher xs (λ j d less. high j d (omega arith) less)
  at-gap [] (suc i) within low high = absurd (omega arith)
  at-gap (x ∷ xs) (suc i) within low high = (low 0 x (omega arith), at-gap xs i (omega arith) (λ j d less. low (suc j) d (omega arith)) (λ j d more less. high (suc j) d (omega arith) (omega arith)))

  pub place-of : (xs : List A) (i : ℕ) → rises key xs ≡ true → IsPlaceOf key k xs i → AtPlace xs i
  place-of xs i h p = at-place xs i h p.within p.same

  pub gap-for : (xs : List A) (i : ℕ) → IsGapFor key k xs i → AtGap xs i
  gap-for xs i g = at-gap xs i g.within (λ j d less. g.lower j d (omega arith) less) (λ j d more less. g.higher j d more less)

  lower-other : (x : A) → stands_before (key x) k ≡ true → bytes_eq (key x) k ≡ false
  lower-other x before = not-true (bytes_eq (key x) k) (before-differs (key x) k before)

  higher-others : (xs : List A) → list_all (λ y. stands_before k (key y)) xs ≡ true → list_all (λ y. not (bytes_eq (key y) k)) xs ≡ true
  higher-others xs h = all-weaker (λ y. stands_before k (key y)) (λ y. not (bytes_eq (key y) k)) xs (λ y up. bytes_differ_turn k (key y) (before-differs k (key y) up)) h

  -- what is found

  place-find : (xs : List A) (i : ℕ) → AtPlace xs i → at_key key k xs ≡ slice_get xs i
  place-find [] i p = absurd p
  place-find (x ∷ xs) zero p = cond-true (bytes_eq (key x) k) (Some x) (at_key key k xs) (bytes_true (key x) k p.0)
  place-find (x ∷ xs) (suc i) p = cond-false (bytes_eq (key x) k) (Some x) (at_key key k xs) (lower-other x p.0) ∙ place-find xs i p.1

  gap-find : (xs : List A) (i : ℕ) → AtGap xs i → at_key key k xs ≡ None
  gap-find xs zero g = none-find (λ x. bytes_eq (key x) k) xs (higher-others xs g)
  gap-find [] (suc i) g = refl
  gap-find (x ∷ xs) (suc i) g = cond-false (bytes_eq (key x) k) (Some x) (at_key key k xs) (lower-other x g.0) ∙ gap-find xs i g.1

  -- what is left

  all-left : (xs : List A) → list_all (λ y. not (bytes_eq (key y) k)) xs ≡ true → without_key key k xs ≡ xs
  all-left [] h = refl
  all-left (x ∷ xs) h =
      let e = and_parts (not (bytes_eq (key x) k)) (list_all (λ y. not (bytes_eq (key y) k)) xs) h in
      cond-true (not (bytes_eq (key x) k)) (x ∷ without_key key k xs) (without_key key k xs) e.0 ∙ ap (λ l. x ∷ l) (all-left xs e.1)

  first-left : (x : A) (xs : List A) → stands_before (key x) k ≡ true → without_key key k (x ∷ xs) ≡ x ∷ without_key key k xs
  first-left x xs before = cond-true (not (bytes_eq (key x) k)) (x ∷ without_key key k xs) (without_key key k xs) (before-differs (key x) k before)

  first-gone : (x : A) (xs : List A) → key x ≡ k → without_key key k (x ∷ xs) ≡ without_key key k xs
  first-gone x xs is = cond-false (not (bytes_eq (key x) k)) (x ∷ without_key key k xs) (without_key key k xs) (ap not (bytes_true (key x) k is))

  place-gone : (xs : List A) (i : ℕ) → AtPlace xs i → without_key key k xs ≡ remove xs i
  place-gone [] i p = absurd p
  place-gone (x ∷ xs) zero p = first-gone x xs p.0 ∙ all-left xs (higher-others xs p.1)
  place-gone (x ∷ xs) (suc i) p = first-left x xs p.0 ∙ ap (λ l. x ∷ l) (place-gone xs i p.1)

  gap-gone : (xs : List A) (i : ℕ) → AtGap xs i → without_key key k xs ≡ xs
  gap-gone xs zero g = all-left xs (higher-others xs g)
  gap-gone [] (suc i) g = refl
  gap-gone (x ∷ xs) (suc i) g = first-left x xs g.0 ∙ ap (λ l. x ∷ l) (gap-gone xs i g.1)

  -- what is put

  put-first : (new : A) (xs : List A) → key new ≡ k → list_all (λ y. stands_before k (key y)) xs ≡ true → put_in key new xs ≡ new ∷ xs
  put-first new [] is h = refl
  put-first new (y ∷ ys) is h =
      cond-true (stands_before (key new) (key y)) (new ∷ y ∷ ys) (y ∷ put_in key new ys) (ap (λ q. stands_before q (key y)) is ∙ (and_parts (stands_before k (key y)) (list_all (λ z. stands_before k (key z)) ys) h).0)

  put-later : (new x : A) (xs : List A) → key new ≡ k → stands_before (key x) k ≡ true → put_in key new (x ∷ xs) ≡ x ∷ put_in key new xs
  put-later new x xs is before =
      cond-false (stands_before (key new) (key x)) (new ∷ x ∷ xs) (x ∷ put_in key new xs) (ap (λ q. stands_before q (key x)) is ∙ not-back (key x) k before)

  place-put : (new : A) (xs : List A) (i : ℕ) → key new ≡ k → AtPlace xs i → put_in key new (without_key key k xs) ≡ slice_set xs i new
  place-put new [] i is p = absurd p
  place-put new (x ∷ xs) zero is p = ap (λ l. put_in key new l) (first-gone x xs p.0 ∙ all-left xs (higher-others xs p.1)) ∙ put-first new xs is p.1
  place-put new (x ∷ xs) (suc i) is p = ap (λ l. put_in key new l) (first-left x xs p.0) ∙ put-later new x (without_key key k xs) is p.0 ∙ ap (λ l. x ∷ l) (place-put new xs i is p.1)

  gap-put : (new : A) (xs : List A) (i : ℕ) → key new ≡ k → AtGap xs i → put_in key new (without_key key k xs) ≡ insert xs i new
  gap-put new xs zero is g = ap (λ l. put_in key new l) (all-left xs (higher-others xs g)) ∙ put-first new xs is g
  gap-put new [] (suc i) is g = absurd g
  gap-put new (x ∷ xs) (suc i) is g = ap (λ l. put_in key new l) (first-left x xs g.0) ∙ put-later new x (without_key key k xs) is g.0 ∙ ap (λ l. x ∷ l) (gap-put new xs i is g.1)

  -- by the contract of a search

  module _ (xs : List A) (i : ℕ) where
    pub found : rises key xs ≡ true → IsPlaceOf key k xs i → at_key key k xs ≡ slice_get xs i
    found h p = place-find xs i (place-of xs i h p)

    pub not-found : IsGapFor key k xs i → at_key key k xs ≡ None
    not-found g = gap-find xs i (gap-for xs i g)

    pub taken : rises key xs ≡ true → IsPlaceOf key k xs i → without_key key k xs ≡ remove xs i
    taken h p = place-gone xs i (place-of xs i h p)

    pub not-taken : IsGapFor key k xs i → without_key key k xs ≡ xs
    not-taken g = gap-gone xs i (gap-for xs i g)

    pub replaced : (new : A) → key new ≡ k → rises key xs ≡ true → IsPlaceOf key k xs i → put_in key new (without_key key k xs) ≡ slice_set xs i new
    replaced new is h p = place-put new xs i is (place-of xs i h p)

    pub put-new : (new : A) → key new ≡ k → IsGapFor key k xs i → put_in key new (without_key key k xs) ≡ insert xs i new
    put-new new is g = gap-put new xs i is (gap-for xs i g)

-- a search as the code made it: for a key and in a list that are known by equations

pub place-moved : {A : Type 0} (key : A → List ℕ) {k l : List ℕ} {xs ys : List A} {i : ℕ} → k ≡ l → xs ≡ ys → IsPlaceOf key k xs i → IsPlaceOf key l ys i
place-moved key {l = l} {xs = xs} {i = i} is same p = subst (λ zs. IsPlaceOf key l zs i) same (subst (λ m. IsPlaceOf key m xs i) is p)

pub gap-moved : {A : Type 0} (key : A → List ℕ) {k l : List ℕ} {xs ys : List A} {i : ℕ} → k ≡ l → xs ≡ ys → IsGapFor key k xs i → IsGapFor key l ys i
gap-moved key {l = l} {xs = xs} {i = i} is same p = subst (λ zs. IsGapFor key l zs i) same (subst (λ m. IsGapFor key m xs i) is p)

-- whether there is room, as a search tells

pub known-has-room : {A : Type 0} (key : A → List ℕ) (k : List ℕ) (most : ℕ) (xs : List A) (i : ℕ) → rises key xs ≡ true → IsPlaceOf key k xs i → (nat_le most (length xs) && is_none (at_key key k xs)) ≡ false
known-has-room {A = A} key k most xs i h p =
    ap (λ o. nat_le most (length xs) && is_none o) (found key k xs i h p ∙ slice_get-get_or xs i (first xs i p) p.within) ∙ and-false (nat_le most (length xs))
  where
    first : (xs : List A) (i : ℕ) → IsPlaceOf key k xs i → A
    first [] i q = absurd (omega (arith, q.within))
    first (x ∷ xs) i q = x

pub new-has-no-room : {A : Type 0} (key : A → List ℕ) (k : List ℕ) (most : ℕ) (xs : List A) (i : ℕ) → most ≤ length xs → IsGapFor key k xs i → (nat_le most (length xs) && is_none (at_key key k xs)) ≡ true
new-has-no-room key k most xs i full g = and_from (nat_le most (length xs)) (is_none (at_key key k xs)) (le-leb most (length xs) full) (ap is_none (not-found key k xs i g))

-- whether it is there, as a search tells

pub place-there : {A : Type 0} (key : A → List ℕ) (k : List ℕ) (xs : List A) (i : ℕ) → rises key xs ≡ true → IsPlaceOf key k xs i → is_some (at_key key k xs) ≡ true
place-there key k xs i h p = ap is_some (found key k xs i h p) ∙ there xs i p.within
  where
    there : {A : Type 0} (xs : List A) (i : ℕ) → i < length xs → is_some (slice_get xs i) ≡ true
    there [] i within = absurd (omega arith)
    there (x ∷ xs) zero within = refl
    there (x ∷ xs) (suc i) within = there xs i (omega arith)

pub place-read : {A : Type 0} (key : A → List ℕ) (k : List ℕ) (xs : List A) (i : ℕ) (x : A) → rises key xs ≡ true → IsPlaceOf key k xs i → x ≡ slice_index_or xs i x → at_key key k xs ≡ Some x
place-read key k xs i x h p read = found key k xs i h p ∙ slice_get_read xs (length xs) i x refl p.within read

-- what follows of what an answer Ok says
pub on-ok : {T E : Type 0} (r : Result T E) {P Q : Type 0} → OnOk r P → (P → Q) → OnOk r Q
on-ok (Ok x) p gives = gives p
on-ok (Err e) p gives = tt
