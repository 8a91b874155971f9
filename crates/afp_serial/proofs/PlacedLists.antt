-- Lists with one more element, in the place of its number.
use Rattle.std.proofs.Common.{◌≡◌, ◌∙◌, ap, refl, ℕ, ◌+◌, arith, Bool, true, false, not, ◌&&◌, ◌||◌, cond, List, [], ◌∷◌, Some}
use Rattle.std.specs.Prelude.{count_by, find, nat_lt}
use Rattle.std.specs.List.{list_all, list_any}
use Rattle.std.proofs.lemmas.Bool.{and_parts, and_from, cond_both, or_left, or_right}
use Rattle.std.proofs.lemmas.List.Sums.{sum_by-cons}
use Rattle.afp_base.specs.Apart.{are_apart}
use Rattle.afp_serial.specs.OnFork.{placed}
use Rattle.afp_base.proofs.Facts.{contra, either, or_swap}
use Rattle.afp_base.proofs.ListFacts.{not-any}

pub any-placed : {A : Type 0} (number : A → ℕ) (new : A) (p : A → Bool) (xs : List A) → list_any p (placed number new xs) ≡ (p new || list_any p xs)
any-placed number new p [] = refl
any-placed number new p (x ∷ xs) =
    cond_both (nat_lt (number new) (number x)) (new ∷ x ∷ xs) (x ∷ placed number new xs) (λ l. list_any p l ≡ (p new || (p x || list_any p xs)))
    (λ before. refl)
    (λ behind. ap (λ b. p x || b) (any-placed number new p xs) ∙ or_swap (p x) (p new) (list_any p xs))

pub all-placed : {A : Type 0} (number : A → ℕ) (new : A) (p : A → Bool) (xs : List A) → p new ≡ true → list_all p xs ≡ true → list_all p (placed number new xs) ≡ true
all-placed number new p [] here h = and_from (p new) true here refl
all-placed number new p (x ∷ xs) here h =
    let e = and_parts (p x) (list_all p xs) h in
    cond_both (nat_lt (number new) (number x)) (new ∷ x ∷ xs) (x ∷ placed number new xs) (λ l. list_all p l ≡ true)
    (λ before. and_from (p new) (p x && list_all p xs) here h)
    (λ behind. and_from (p x) (list_all p (placed number new xs)) e.0 (all-placed number new p xs here e.1))

not-or : (a b : Bool) → not a ≡ true → not b ≡ true → not (a || b) ≡ true
not-or true b p q = cc
not-or false b p q = q

pub apart-placed : {A : Type 0} (number : A → ℕ) (new : A) (r : A → A → Bool) (xs : List A)
    → list_all (λ x. not (r new x)) xs ≡ true → list_all (λ x. not (r x new)) xs ≡ true → are_apart r xs ≡ true → are_apart r (placed number new xs) ≡ true
apart-placed number new r [] to from h = refl
apart-placed number new r (x ∷ xs) to from h =
    let e = and_parts (not (list_any (r x) xs)) (are_apart r xs) h in
    let t = and_parts (not (r new x)) (list_all (λ y. not (r new y)) xs) to in
    let f = and_parts (not (r x new)) (list_all (λ y. not (r y new)) xs) from in
    cond_both (nat_lt (number new) (number x)) (new ∷ x ∷ xs) (x ∷ placed number new xs) (λ l. are_apart r l ≡ true)
    (λ before. and_from (not (r new x || list_any (r new) xs)) (not (list_any (r x) xs) && are_apart r xs) (not-or (r new x) (list_any (r new) xs) t.0 (not-any (r new) xs t.1)) h)
    (λ behind. and_from (not (list_any (r x) (placed number new xs))) (are_apart r (placed number new xs))
    (ap not (any-placed number new (r x) xs) ∙ not-or (r x new) (list_any (r x) xs) f.0 e.0)
    (apart-placed number new r xs t.1 f.1 e.1))

-- a count of one, where something passes
abbrev pub one_if : Bool → ℕ
one_if b = cond b 1 0

pub count-placed : {A : Type 0} (number : A → ℕ) (new : A) (p : A → Bool) (xs : List A) → count_by p (placed number new xs) ≡ one_if (p new) + count_by p xs
count-placed number new p [] = sum_by-cons (λ x. cond (p x) 1 0) new []
count-placed number new p (x ∷ xs) =
    cond_both (nat_lt (number new) (number x)) (new ∷ x ∷ xs) (x ∷ placed number new xs) (λ l. count_by p l ≡ one_if (p new) + count_by p (x ∷ xs))
    (λ before. sum_by-cons (λ y. cond (p y) 1 0) new (x ∷ xs))
    (λ behind.
    let rest = count-placed number new p xs in
    let old : count_by p (x ∷ xs) ≡ one_if (p x) + count_by p xs = sum_by-cons (λ y. cond (p y) 1 0) x xs in
    let whole : count_by p (x ∷ placed number new xs) ≡ one_if (p x) + count_by p (placed number new xs) = sum_by-cons (λ y. cond (p y) 1 0) x (placed number new xs) in
    omega (arith, rest, old, whole))

-- what holds of each, and is in question only of those that pass
pub any-where : {A : Type 0} (p q r : A → Bool) (xs : List A) → list_all q xs ≡ true → ((x : A) → q x ≡ true → p x ≡ true → r x ≡ true) → list_any p xs ≡ true → list_any r xs ≡ true
any-where p q r [] all gives h = absurd (cc)
any-where p q r (x ∷ xs) all gives h =
    let e = and_parts (q x) (list_all q xs) all in
    either (p x) (list_any p xs) h
    (λ here. or_left (r x) (list_any r xs) (gives x e.0 here))
    (λ later. or_right (r x) (list_any r xs) (any-where p q r xs e.1 gives later))

pub apart-where : {A : Type 0} (q : A → Bool) (r s : A → A → Bool) (xs : List A) → list_all q xs ≡ true → ((a b : A) → q a ≡ true → q b ≡ true → s a b ≡ true → r a b ≡ true) → are_apart r xs ≡ true → are_apart s xs ≡ true
apart-where q r s [] all gives h = refl
apart-where q r s (x ∷ xs) all gives h =
    let e = and_parts (q x) (list_all q xs) all in
    let f = and_parts (not (list_any (r x) xs)) (are_apart r xs) h in
    and_from (not (list_any (s x) xs)) (are_apart s xs)
    (contra (list_any (r x) xs) (list_any (s x) xs) (λ some. any-where (s x) q (r x) xs e.1 (λ y its is. gives x y e.0 its is) some) f.0)
    (apart-where q r s xs e.1 gives f.1)

-- a pair of two lists, from either side
pub any-pair : {A B : Type 0} (p : A → Bool) (q : B → Bool) (r : A → B → Bool) (xs : List A) (ys : List B)
    → list_any (λ x. p x && list_any (λ y. q y && r x y) ys) xs ≡ true → list_any (λ y. q y && list_any (λ x. p x && r x y) xs) ys ≡ true
any-pair p q r [] ys h = absurd (cc)
any-pair {B = B} p q r (x ∷ xs) ys h =
    either (p x && list_any (λ y. q y && r x y) ys) (list_any (λ a. p a && list_any (λ y. q y && r a y) ys) xs) h
    (λ here.
    let e = and_parts (p x) (list_any (λ y. q y && r x y) ys) here in
    weaker (λ y. q y && r x y) ys
    (λ y both. let f = and_parts (q y) (r x y) both in and_from (q y) ((p x && r x y) || list_any (λ a. p a && r a y) xs) f.0 (or_left (p x && r x y) (list_any (λ a. p a && r a y) xs) (and_from (p x) (r x y) e.0 f.1))) e.1)
    (λ later.
    weaker (λ y. q y && list_any (λ a. p a && r a y) xs) ys
    (λ y both. let f = and_parts (q y) (list_any (λ a. p a && r a y) xs) both in and_from (q y) ((p x && r x y) || list_any (λ a. p a && r a y) xs) f.0 (or_right (p x && r x y) (list_any (λ a. p a && r a y) xs) f.1))
    (any-pair p q r xs ys later))
  where
    weaker : (old : B → Bool) (zs : List B) → ((y : B) → old y ≡ true → (q y && ((p x && r x y) || list_any (λ a. p a && r a y) xs)) ≡ true) → list_any old zs ≡ true → list_any (λ y. q y && ((p x && r x y) || list_any (λ a. p a && r a y) xs)) zs ≡ true
    weaker old [] gives k = absurd (cc)
    weaker old (z ∷ zs) gives k =
        either (old z) (list_any old zs) k
        (λ here. or_left (q z && ((p x && r x z) || list_any (λ a. p a && r a z) xs)) _ (gives z here))
        (λ later. or_right (q z && ((p x && r x z) || list_any (λ a. p a && r a z) xs)) _ (weaker old zs gives later))

-- what is found is there
pub find-any : {A : Type 0} (p q : A → Bool) (xs : List A) (a : A) → find p xs ≡ Some a → q a ≡ true → list_any q xs ≡ true
find-any p q [] a found h = absurd (cc)
find-any p q (x ∷ xs) a found h =
    cond_both (p x) (Some x) (find p xs) (λ r. r ≡ Some a → (q x || list_any q xs) ≡ true)
    (λ here k. let same : x ≡ a = cc in or_left (q x) (list_any q xs) (ap q same ∙ h))
    (λ other k. or_right (q x) (list_any q xs) (find-any p q xs a k h))
    found
