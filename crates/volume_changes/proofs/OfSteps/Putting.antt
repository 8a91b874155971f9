-- One element more, and more, in a list that rises by key.
use Rattle.std.proofs.Common.{◌≡◌, ◌∙◌, ap, sym, refl, ℕ, zero, suc, ◌<◌, Bool, true, false, ◌||◌, List, [], ◌∷◌, ◌++◌, length, arith}
use Rattle.std.specs.Prelude.{slice_index_or}
use Rattle.std.specs.List.{insert, list_any}
use Rattle.std.proofs.lemmas.Bool.{cond_both}
use Rattle.volume_spec.proofs.Keys.{put-key-rises}
use Rattle.volume_spec.specs.Desktop.{without_key}
use Rattle.volume_spec.specs.Order.{put_in, rises, stands_before}
use Rattle.desktop_db.specs.lemma.Places.{IsGapFor, IsPlaceOf}
use Rattle.desktop_db.proofs.Places.{not-taken, put-new}
use Rattle.volume_changes.specs.steps.lemma.Put.{IsWith}

or-false : (a b : Bool) → (a || b) ≡ false → (a ≡ false) × (b ≡ false)
or-false true b e = absurd (cc e)
or-false false b e = (refl, e)

or-both : (a b : Bool) → a ≡ false → b ≡ false → (a || b) ≡ false
or-both a b x y = ap (λ t. t || b) x ∙ y

any-joined : {A : Type 0} (p : A → Bool) (xs ys : List A) → list_any p xs ≡ false → list_any p ys ≡ false → list_any p (xs ++ ys) ≡ false
any-joined p [] ys a b = b
any-joined p (x ∷ xs) ys a b = let two = or-false (p x) (list_any p xs) a in or-both (p x) (list_any p (xs ++ ys)) two.0 (any-joined p xs ys two.1 b)

pub with-none : {A : Type 0} (key : A → List ℕ) (xs : List A) → rises key xs ≡ true → IsWith key [] xs xs
with-none key xs h = record { rising = h; all = λ p same none. (refl, none) }

pub with-joined : {A : Type 0} (key : A → List ℕ) (xs ys a b c : List A) → IsWith key xs a b → IsWith key ys b c → IsWith key (xs ++ ys) a c
with-joined key xs ys a b c one two = record {
  rising = two.rising;
  all = λ p same none. let later = two.all p same none in let earlier = one.all p same later.1 in (any-joined p xs ys earlier.0 later.0, earlier.1);
}

-- an element that is there
none-at : {A : Type 0} (p : A → Bool) (xs : List A) (i : ℕ) (d : A) → list_any p xs ≡ false → i < length xs → p (slice_index_or xs i d) ≡ false
none-at p [] i d none within = absurd (omega arith)
none-at p (x ∷ xs) zero d none within = (or-false (p x) (list_any p xs) none).0
none-at p (x ∷ xs) (suc i) d none within = none-at p xs i d (or-false (p x) (list_any p xs) none).1 (omega arith)

pub with-place : {A : Type 0} (key : A → List ℕ) (x : A) (xs : List A) (i : ℕ) → rises key xs ≡ true → IsPlaceOf key (key x) xs i → IsWith key (x ∷ []) xs xs
with-place key x xs i h place = record {
  rising = h;
  all = λ p same none. (or-both (p x) false (same x (slice_index_or xs i x) (sym (place.same x)) ∙ none-at p xs i x none place.within) refl, none);
}

-- one that goes in
any-put : {A : Type 0} (key : A → List ℕ) (p : A → Bool) (x : A) (xs : List A) → list_any p (put_in key x xs) ≡ false → (p x ≡ false) × (list_any p xs ≡ false)
any-put key p x [] none = ((or-false (p x) false none).0, refl)
any-put key p x (y ∷ ys) none =
    cond_both (stands_before (key x) (key y)) (x ∷ y ∷ ys) (y ∷ put_in key x ys) (λ l. list_any p l ≡ false → (p x ≡ false) × (list_any p (y ∷ ys) ≡ false))
    (λ first h. or-false (p x) (list_any p (y ∷ ys)) h)
    (λ later h. let two = or-false (p y) (list_any p (put_in key x ys)) h in let rest = any-put key p x ys two.1 in (rest.0, or-both (p y) (list_any p ys) two.0 rest.1))
    none

pub with-gap : {A : Type 0} (key : A → List ℕ) (x : A) (xs new : List A) (i : ℕ) → rises key xs ≡ true → IsGapFor key (key x) xs i → new ≡ insert xs i x → IsWith key (x ∷ []) xs new
with-gap key x xs new i h gap is =
    let put : new ≡ put_in key x (without_key key (key x) xs) = is ∙ sym (put-new key (key x) xs i x refl gap) in
    record {
      rising = ap (rises key) put ∙ put-key-rises key x xs h;
      all = λ p same none.
          let two = any-put key p x xs (sym (ap (λ l. list_any p l) (put ∙ ap (put_in key x) (not-taken key (key x) xs i gap))) ∙ none) in
          (or-both (p x) false two.0 refl, two.1);
    }
