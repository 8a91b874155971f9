-- Lists under tests: what filters, maps, joins and one more element leave of them. `search (list_facts, ..)` applies them with no name given.
use Rattle.std.proofs.Common.{◌≡◌, ◌∙◌, ap, sym, refl, subst, ℕ, zero, suc, ◌+◌, ◌-◌, ◌≤◌, ◌<◌, Bool, true, false, not, ◌&&◌, ◌||◌, cond, List, [], ◌∷◌, ◌++◌, length, map, take, drop, take_all, take-append-drop, length-drop, arith, inl, inr, eqb, Option, Some, None}
use Rattle.std.specs.Prelude.{slice_get, slice_index_or}
use Rattle.std.specs.List.{All, list_all, list_any, filter, find, count_by, cons_option}
use Rattle.std.proofs.lemmas.Bool.{and_parts, and_from, or_from, or_cases, or_left, or_right, not-true, cond_both, cond-true, cond-false, eqb-true, eq-eqb, cases_Bool, both_ways}
use Rattle.std.proofs.lemmas.List.{nil_from_length}
use Rattle.std.proofs.lemmas.List.Folds.{list_any-append, list_all-append, list_all-map}
use Rattle.std.proofs.lemmas.List.Sums.{sum_by-cons}
use Rattle.afp_base.specs.Apart.{are_apart}
use Rattle.afp_base.proofs.Facts.{contra, never}

-- ---- all pass

pub all-weaker : {A : Type 0} (p q : A → Bool) (xs : List A) → ((x : A) → p x ≡ true → q x ≡ true) → list_all p xs ≡ true → list_all q xs ≡ true
all-weaker p q [] gives h = refl
all-weaker p q (x ∷ xs) gives h =
    let e = and_parts (p x) (list_all p xs) h in
    and_from (q x) (list_all q xs) (gives x e.0) (all-weaker p q xs gives e.1)

pub all-both : {A : Type 0} (p q r : A → Bool) (xs : List A) → ((x : A) → p x ≡ true → q x ≡ true → r x ≡ true) → list_all p xs ≡ true → list_all q xs ≡ true → list_all r xs ≡ true
all-both p q r [] gives h k = refl
all-both p q r (x ∷ xs) gives h k =
    let e = and_parts (p x) (list_all p xs) h in
    let f = and_parts (q x) (list_all q xs) k in
    and_from (r x) (list_all r xs) (gives x e.0 f.0) (all-both p q r xs gives e.1 f.1)

pub all-filter : {A : Type 0} (p keep : A → Bool) (xs : List A) → list_all p xs ≡ true → list_all p (filter keep xs) ≡ true
all-filter p keep [] h = refl
all-filter p keep (x ∷ xs) h =
    let e = and_parts (p x) (list_all p xs) h in
    let rest : list_all p (filter keep xs) ≡ true = all-filter p keep xs e.1 in
    cond_both (keep x) (x ∷ filter keep xs) (filter keep xs) (λ l. list_all p l ≡ true)
    (λ kept. and_from (p x) (list_all p (filter keep xs)) e.0 rest)
    (λ left. rest)

-- what a filter keeps passes its test
pub all-kept : {A : Type 0} (keep : A → Bool) (xs : List A) → list_all keep (filter keep xs) ≡ true
all-kept keep [] = refl
all-kept keep (x ∷ xs) =
    let rest : list_all keep (filter keep xs) ≡ true = all-kept keep xs in
    cond_both (keep x) (x ∷ filter keep xs) (filter keep xs) (λ l. list_all keep l ≡ true)
    (λ kept. and_from (keep x) (list_all keep (filter keep xs)) kept rest)
    (λ left. rest)

pub all-snoc : {A : Type 0} (p : A → Bool) (xs : List A) (y : A) → list_all p xs ≡ true → p y ≡ true → list_all p (xs ++ y ∷ []) ≡ true
all-snoc p [] y h here = and_from (p y) true here refl
all-snoc p (x ∷ xs) y h here =
    let e = and_parts (p x) (list_all p xs) h in
    and_from (p x) (list_all p (xs ++ y ∷ [])) e.0 (all-snoc p xs y e.1 here)

pub all-map-where : {A B : Type 0} (q : A → Bool) (p : B → Bool) (f : A → B) (xs : List A) → ((x : A) → q x ≡ true → p (f x) ≡ true) → list_all q xs ≡ true → list_all p (map f xs) ≡ true
all-map-where q p f [] passes h = refl
all-map-where q p f (x ∷ xs) passes h =
    let e = and_parts (q x) (list_all q xs) h in
    and_from (p (f x)) (list_all p (map f xs)) (passes x e.0) (all-map-where q p f xs passes e.1)

pub all-each : {A : Type 0} (p : A → Bool) (xs : List A) → All (λ x. p x ≡ true) xs → list_all p xs ≡ true
all-each p [] h = refl
all-each p (x ∷ xs) h = and_from (p x) (list_all p xs) (h 0 x (omega arith)) (all-each p xs (λ k d within. h (suc k) d (omega arith)))

-- two tests of all elements are one test of both
pub all-and : {A : Type 0} (p q : A → Bool) (xs : List A) → list_all p xs ≡ true → list_all q xs ≡ true → list_all (λ x. p x && q x) xs ≡ true
all-and p q xs a b = all-both p q (λ x. p x && q x) xs (λ x. and_from (p x) (q x)) a b

pub all-split : {A : Type 0} (p q : A → Bool) (xs : List A) → list_all (λ x. p x && q x) xs ≡ true → (list_all p xs ≡ true) × (list_all q xs ≡ true)
all-split p q xs e =
    (all-weaker (λ x. p x && q x) p xs (λ x h. (and_parts (p x) (q x) h).0) e, all-weaker (λ x. p x && q x) q xs (λ x h. (and_parts (p x) (q x) h).1) e)

pub all-always : {A : Type 0} (xs : List A) → list_all (λ x. true) xs ≡ true
all-always [] = refl
all-always (x ∷ xs) = all-always xs

pub all-append : {A : Type 0} (p : A → Bool) (xs ys : List A) → list_all p xs ≡ true → list_all p ys ≡ true → list_all p (xs ++ ys) ≡ true
all-append p xs ys a b = list_all-append p xs ys ∙ and_from (list_all p xs) (list_all p ys) a b

pub all-ends : {A : Type 0} (p : A → Bool) (xs ys : List A) → list_all p (xs ++ ys) ≡ true → (list_all p xs ≡ true) × (list_all p ys ≡ true)
all-ends p xs ys e = and_parts (list_all p xs) (list_all p ys) (sym (list_all-append p xs ys) ∙ e)

pub all-swap : {A B : Type 0} (q : A → B → Bool) (xs : List A) (ys : List B) → list_all (λ y. list_all (λ x. q x y) xs) ys ≡ true → list_all (λ x. list_all (λ y. q x y) ys) xs ≡ true
all-swap q [] ys e = refl
all-swap q (x ∷ xs) ys e =
    let two = all-split (λ y. q x y) (λ y. list_all (λ x. q x y) xs) ys e in
    and_from (list_all (λ y. q x y) ys) (list_all (λ x. list_all (λ y. q x y) ys) xs) two.0 (all-swap q xs ys two.1)

-- ---- some passes

pub any-weaker : {A : Type 0} (p q : A → Bool) (xs : List A) → ((x : A) → p x ≡ true → q x ≡ true) → list_any p xs ≡ true → list_any q xs ≡ true
any-weaker p q [] gives h = h
any-weaker p q (x ∷ xs) gives h = elim (or_cases (p x) (list_any p xs) h) [
  | inl here ↦ or_left (q x) (list_any q xs) (gives x here)
  | inr later ↦ or_right (q x) (list_any q xs) (any-weaker p q xs gives later)
]

pub any-filter : {A : Type 0} (p keep : A → Bool) (xs : List A) → list_any p (filter keep xs) ≡ true → list_any p xs ≡ true
any-filter p keep [] h = h
any-filter p keep (x ∷ xs) h =
    cond_both (keep x) (x ∷ filter keep xs) (filter keep xs) (λ l. list_any p l ≡ true → (p x || list_any p xs) ≡ true)
    (λ kept h. elim (or_cases (p x) (list_any p (filter keep xs)) h) [
      | inl here ↦ or_left (p x) (list_any p xs) here
      | inr later ↦ or_right (p x) (list_any p xs) (any-filter p keep xs later)
    ])
    (λ left h. or_right (p x) (list_any p xs) (any-filter p keep xs h))
    h

pub any-map : {A B : Type 0} (p : B → Bool) (f : A → B) (xs : List A) → list_any p (map f xs) ≡ list_any (λ x. p (f x)) xs
any-map p f [] = refl
any-map p f (x ∷ xs) = ap (λ b. p (f x) || b) (any-map p f xs)

pub any-longer : {A : Type 0} (p : A → Bool) (xs ys : List A) → list_any p xs ≡ true → list_any p (xs ++ ys) ≡ true
any-longer p xs ys h = list_any-append p xs ys ∙ or_left (list_any p xs) (list_any p ys) h

-- where none passes, each fails
pub none-all : {A : Type 0} (p : A → Bool) (xs : List A) → not (list_any p xs) ≡ true → list_all (λ x. not (p x)) xs ≡ true
none-all p [] h = refl
none-all p (x ∷ xs) h =
    and_from (not (p x)) (list_all (λ x. not (p x)) xs)
    (contra (p x || list_any p xs) (p x) (or_left (p x) (list_any p xs)) h)
    (none-all p xs (contra (p x || list_any p xs) (list_any p xs) (or_right (p x) (list_any p xs)) h))

pub any-same : {A : Type 0} (p q : A → Bool) (xs : List A) → ((x : A) → p x ≡ q x) → list_any p xs ≡ list_any q xs
any-same p q [] e = refl
any-same p q (x ∷ xs) e = λ i. e x i || any-same p q xs e i

-- where no element passes

pub any-none : {A : Type 0} (p : A → Bool) (xs : List A) → list_all (λ x. not (p x)) xs ≡ true → list_any p xs ≡ false
any-none p [] e = refl
any-none p (x ∷ xs) e =
    let two = and_parts (not (p x)) (list_all (λ x. not (p x)) xs) e in
    or_from (p x) (list_any p xs) (not-true (p x) two.0) (any-none p xs two.1)

pub not-any : {A : Type 0} (p : A → Bool) (xs : List A) → list_all (λ x. not (p x)) xs ≡ true → not (list_any p xs) ≡ true
not-any p xs e = ap not (any-none p xs e)

pub none-any : {A : Type 0} (p : A → Bool) (xs : List A) → list_any p xs ≡ false → list_all (λ x. not (p x)) xs ≡ true
none-any p xs e = none-all p xs (ap not e)

-- ---- what a filter leaves

pub filter-all : {A : Type 0} (p : A → Bool) (xs : List A) → list_all p xs ≡ true → filter p xs ≡ xs
filter-all p [] e = refl
filter-all p (x ∷ xs) e =
    let two = and_parts (p x) (list_all p xs) e in
    let rest : filter p xs ≡ xs = filter-all p xs two.1 in
    λ i. cond (two.0 i) (x ∷ rest i) (rest i)

pub filter-none : {A : Type 0} (p : A → Bool) (xs : List A) → list_all (λ x. not (p x)) xs ≡ true → filter p xs ≡ []
filter-none p [] e = refl
filter-none p (x ∷ xs) e =
    let two = and_parts (not (p x)) (list_all (λ x. not (p x)) xs) e in
    cond-false (p x) (x ∷ filter p xs) (filter p xs) (not-true (p x) two.0) ∙ filter-none p xs two.1

pub filter-map : {A B : Type 0} (p : B → Bool) (f : A → B) (xs : List A) → filter p (map f xs) ≡ map f (filter (λ x. p (f x)) xs)
filter-map p f [] = refl
filter-map p f (x ∷ xs) = elim (p (f x)) as (λ b. cond b (f x ∷ filter p (map f xs)) (filter p (map f xs)) ≡ map f (cond b (x ∷ filter (λ x. p (f x)) xs) (filter (λ x. p (f x)) xs))) [
  | true ↦ ap (λ l. f x ∷ l) (filter-map p f xs)
  | false ↦ filter-map p f xs
]

-- ---- no two are alike

pub apart-filter : {A : Type 0} (r : A → A → Bool) (keep : A → Bool) (xs : List A) → are_apart r xs ≡ true → are_apart r (filter keep xs) ≡ true
apart-filter r keep [] h = refl
apart-filter r keep (x ∷ xs) h =
    let e = and_parts (not (list_any (r x) xs)) (are_apart r xs) h in
    let rest : are_apart r (filter keep xs) ≡ true = apart-filter r keep xs e.1 in
    cond_both (keep x) (x ∷ filter keep xs) (filter keep xs) (λ l. are_apart r l ≡ true)
    (λ kept. and_from (not (list_any (r x) (filter keep xs))) (are_apart r (filter keep xs))
    (contra (list_any (r x) xs) (list_any (r x) (filter keep xs)) (any-filter (r x) keep xs) e.0) rest)
    (λ left. rest)

pub apart-weaker : {A : Type 0} (r s : A → A → Bool) (xs : List A) → ((a b : A) → s a b ≡ true → r a b ≡ true) → are_apart r xs ≡ true → are_apart s xs ≡ true
apart-weaker r s [] gives h = refl
apart-weaker r s (x ∷ xs) gives h =
    let e = and_parts (not (list_any (r x) xs)) (are_apart r xs) h in
    and_from (not (list_any (s x) xs)) (are_apart s xs)
    (contra (list_any (r x) xs) (list_any (s x) xs) (any-weaker (s x) (r x) xs (gives x)) e.0)
    (apart-weaker r s xs gives e.1)

pub apart-map : {A B : Type 0} (r : B → B → Bool) (f : A → B) (xs : List A) → are_apart r (map f xs) ≡ are_apart (λ a b. r (f a) (f b)) xs
apart-map r f [] = refl
apart-map r f (x ∷ xs) = λ i. not (any-map (r (f x)) f xs i) && apart-map r f xs i

pub apart-snoc : {A : Type 0} (r : A → A → Bool) (xs : List A) (y : A) → are_apart r xs ≡ true → list_all (λ x. not (r x y)) xs ≡ true → are_apart r (xs ++ y ∷ []) ≡ true
apart-snoc r [] y h new = refl
apart-snoc r (x ∷ xs) y h new =
    let e = and_parts (not (list_any (r x) xs)) (are_apart r xs) h in
    let f = and_parts (not (r x y)) (list_all (λ x. not (r x y)) xs) new in
    and_from (not (list_any (r x) (xs ++ y ∷ []))) (are_apart r (xs ++ y ∷ []))
    (ap not (list_any-append (r x) xs (y ∷ [])) ∙ neither (list_any (r x) xs) (r x y) e.0 f.0)
    (apart-snoc r xs y e.1 f.1)
  where
    neither : (a b : Bool) → not a ≡ true → not b ≡ true → not (a || (b || false)) ≡ true
    neither true b p q = p
    neither false true p q = q
    neither false false p q = refl

-- ---- counts and lengths

pub count-filter : {A : Type 0} (p keep : A → Bool) (xs : List A) → count_by p (filter keep xs) ≤ count_by p xs
count-filter p keep [] = omega arith
count-filter p keep (x ∷ xs) =
    let rest : count_by p (filter keep xs) ≤ count_by p xs = count-filter p keep xs in
    let whole : count_by p (x ∷ xs) ≡ cond (p x) 1 0 + count_by p xs = sum_by-cons (λ x. cond (p x) 1 0) x xs in
    cond_both (keep x) (x ∷ filter keep xs) (filter keep xs) (λ l. count_by p l ≤ count_by p (x ∷ xs))
    (λ kept. let part : count_by p (x ∷ filter keep xs) ≡ cond (p x) 1 0 + count_by p (filter keep xs) = sum_by-cons (λ x. cond (p x) 1 0) x (filter keep xs) in omega arith)
    (λ left. omega arith)

pub count-none : {A : Type 0} (p : A → Bool) (xs : List A) → list_all (λ x. not (p x)) xs ≡ true → count_by p xs ≡ 0
count-none p [] h = refl
count-none p (x ∷ xs) h =
    let e = and_parts (not (p x)) (list_all (λ x. not (p x)) xs) h in
    let rest : count_by p xs ≡ 0 = count-none p xs e.1 in
    sum_by-cons (λ x. cond (p x) 1 0) x xs ∙ ap (λ (n : ℕ). cond (p x) 1 0 + n) rest ∙ one (p x) e.0
  where
    one : (b : Bool) → not b ≡ true → cond b 1 0 + 0 ≡ 0
    one true k = cc
    one false k = refl

pub length-filter-le : {A : Type 0} (keep : A → Bool) (xs : List A) → length (filter keep xs) ≤ length xs
length-filter-le keep [] = omega arith
length-filter-le keep (x ∷ xs) =
    let rest : length (filter keep xs) ≤ length xs = length-filter-le keep xs in
    cond_both (keep x) (x ∷ filter keep xs) (filter keep xs) (λ l. length l ≤ suc (length xs)) (λ kept. omega arith) (λ left. omega arith)

pub length-mapped : {A B : Type 0} (f : A → B) (xs : List A) → length (map f xs) ≡ length xs
length-mapped f [] = refl
length-mapped f (x ∷ xs) = ap suc (length-mapped f xs)

pub nil_from_no_length : {A : Type 0} (xs : List A) → eqb (length xs) 0 ≡ true → xs ≡ []
nil_from_no_length xs e = nil_from_length xs (eqb-true (length xs) 0 e)

pub cut_at : {A : Type 0} (xs : List A) (n : ℕ) → n ≤ length xs → xs ≡ take n xs ++ take (length xs - n) (drop n xs)
cut_at xs n h = sym (take-append-drop n xs) ∙ ap (λ ys. take n xs ++ ys) (sym (take_all (length xs - n) (drop n xs) (omega (arith, length-drop n xs))))

pub cons_option-append : {A : Type 0} (o : Option A) (xs ys : List A) → cons_option o (xs ++ ys) ≡ cons_option o xs ++ ys
cons_option-append None xs ys = refl
cons_option-append (Some x) xs ys = refl

-- ---- the first that passes

pub find-passes : {A : Type 0} (p : A → Bool) (xs : List A) (s : A) → find p xs ≡ Some s → p s ≡ true
find-passes p [] s h = cc
find-passes p (x ∷ xs) s h =
    cond_both (p x) (Some x) (find p xs) (λ o. o ≡ Some s → p s ≡ true)
    (λ here h. let same : x ≡ s = cc in ap p (sym same) ∙ here)
    (λ other h. find-passes p xs s h)
    h

pub find-all : {A : Type 0} (p q : A → Bool) (xs : List A) (s : A) → find p xs ≡ Some s → list_all q xs ≡ true → q s ≡ true
find-all p q [] s h all = cc
find-all p q (x ∷ xs) s h all =
    let e = and_parts (q x) (list_all q xs) all in
    cond_both (p x) (Some x) (find p xs) (λ o. o ≡ Some s → q s ≡ true)
    (λ here h. let same : x ≡ s = cc in ap q (sym same) ∙ e.0)
    (λ other h. find-all p q xs s h e.1)
    h

-- ---- keys

-- the element of a key in place of each of that key

abbrev pub put_by : {A : Type 0} → (A → ℕ) → A → A → A
put_by key new x = cond (eqb (key x) (key new)) new x

pub not-equal : (a b : ℕ) → not (eqb a b) ≡ true → eqb b a ≡ false
not-equal a b h = elim (cases_Bool (eqb b a)) [
  | inl same ↦ absurd (never (eqb a b) (eq-eqb a b (sym (eqb-true b a same))) h)
  | inr other ↦ other
]

not-equal-at : (a b : ℕ) → not (eqb a b) ≡ true → eqb a b ≡ false
not-equal-at a b h = not-equal b a (contra (eqb a b) (eqb b a) (λ same. eq-eqb a b (sym (eqb-true b a same))) h)

put-others : {A : Type 0} (key : A → ℕ) (s : A) (xs : List A) → list_all (λ x. not (eqb (key s) (key x))) xs ≡ true → map (put_by key s) xs ≡ xs
put-others key s [] h = refl
put-others key s (x ∷ xs) h =
    let e = and_parts (not (eqb (key s) (key x))) (list_all (λ x. not (eqb (key s) (key x))) xs) h in
    let here : put_by key s x ≡ x = cond-false (eqb (key x) (key s)) s x (not-equal (key s) (key x) e.0) in
    λ i. here i ∷ put-others key s xs e.1 i

-- where keys differ, the found element in its own place changes nothing
pub put-found : {A : Type 0} (key : A → ℕ) (p : A → Bool) (xs : List A) (s : A) → are_apart (λ a b. eqb (key a) (key b)) xs ≡ true → find p xs ≡ Some s → map (put_by key s) xs ≡ xs
put-found key p [] s apart h = refl
put-found key p (x ∷ xs) s apart h =
    let e = and_parts (not (list_any (λ b. eqb (key x) (key b)) xs)) (are_apart (λ a b. eqb (key a) (key b)) xs) apart in
    let others : list_all (λ b. not (eqb (key x) (key b))) xs ≡ true = none-all (λ b. eqb (key x) (key b)) xs e.0 in
    cond_both (p x) (Some x) (find p xs) (λ o. o ≡ Some s → put_by key s x ∷ map (put_by key s) xs ≡ x ∷ xs)
    (λ here h.
    let same : x ≡ s = cc in
    let first : put_by key x x ≡ x = cond-true (eqb (key x) (key x)) x x (eq-eqb (key x) (key x) refl) in
    subst (λ y. put_by key y x ∷ map (put_by key y) xs ≡ x ∷ xs) same (λ i. first i ∷ put-others key x xs others i))
    (λ other h.
    let first : put_by key s x ≡ x = cond-false (eqb (key x) (key s)) s x (not-equal-at (key x) (key s) (find-all p (λ b. not (eqb (key x) (key b))) xs s h others)) in
    λ i. first i ∷ put-found key p xs s e.1 h i)
    h

-- an element of a key that passes is still there, where one of that key is
pub any-left : {A : Type 0} (key : A → ℕ) (n : ℕ) (test keep : A → Bool) (xs : List A) → are_apart (λ a b. eqb (key a) (key b)) xs ≡ true → list_any (λ x. eqb (key x) n && test x) xs ≡ true → list_any (λ x. eqb (key x) n) (filter keep xs) ≡ true → list_any (λ x. eqb (key x) n && test x) (filter keep xs) ≡ true
any-left key n test keep [] apart h left = h
any-left {A} key n test keep (x ∷ xs) apart h left =
    cond_both (keep x) (x ∷ filter keep xs) (filter keep xs)
    (λ l. list_any is l ≡ true → list_any passes l ≡ true)
    (λ kept left. elim (or_cases (passes x) (list_any passes xs) h) [
      | inl here ↦ or_left (passes x) (list_any passes (filter keep xs)) here
      | inr later ↦ or_right (passes x) (list_any passes (filter keep xs)) (elim (or_cases (is x) (list_any is (filter keep xs)) left) [
        | inl first ↦ absurd (twice (any-weaker passes is xs (λ y both. (and_parts (is y) (test y) both).0) later) first)
        | inr rest ↦ any-left key n test keep xs e.1 later rest
      ])
    ])
    (λ gone left. elim (or_cases (passes x) (list_any passes xs) h) [
      | inl here ↦ absurd (twice (any-filter is keep xs left) (and_parts (is x) (test x) here).0)
      | inr later ↦ any-left key n test keep xs e.1 later left
    ])
    left
  where
    is : A → Bool
    is y = eqb (key y) n

    passes : A → Bool
    passes y = eqb (key y) n && test y

    e : (not (list_any (λ b. eqb (key x) (key b)) xs) ≡ true) × (are_apart (λ a b. eqb (key a) (key b)) xs ≡ true)
    e = and_parts (not (list_any (λ b. eqb (key x) (key b)) xs)) (are_apart (λ a b. eqb (key a) (key b)) xs) apart

    twice : list_any (λ y. eqb (key y) n) xs ≡ true → eqb (key x) n ≡ true → ⊥
    twice more first =
        never (list_any (λ b. eqb (key x) (key b)) xs)
        (any-weaker (λ y. eqb (key y) n) (λ b. eqb (key x) (key b)) xs
        (λ y same. eq-eqb (key x) (key y) (eqb-true (key x) n first ∙ sym (eqb-true (key y) n same))) more)
        e.0

-- with another element of its key in place of one, all still pass where it does
pub all-put : {A : Type 0} (key : A → ℕ) (p : A → Bool) (t : A) (xs : List A) → list_all p xs ≡ true → p t ≡ true → list_all p (map (put_by key t) xs) ≡ true
all-put key p t [] h here = refl
all-put key p t (x ∷ xs) h here =
    let e = and_parts (p x) (list_all p xs) h in
    and_from (p (put_by key t x)) (list_all p (map (put_by key t) xs))
    (cond_both (eqb (key x) (key t)) t x (λ y. p y ≡ true) (λ same. here) (λ other. e.0))
    (all-put key p t xs e.1 here)

-- an element that some fact of one that passes and of all gives a fact of its own
pub any-at : {A : Type 0} {G : Type 0} (p q : A → Bool) (xs : List A) → list_any p xs ≡ true → list_all q xs ≡ true → ((x : A) → p x ≡ true → q x ≡ true → G) → G
any-at p q [] some all gives = absurd (cc)
any-at p q (x ∷ xs) some all gives =
    let e = and_parts (q x) (list_all q xs) all in
    elim (or_cases (p x) (list_any p xs) some) [
      | inl here ↦ gives x here e.0
      | inr later ↦ any-at p q xs later e.1 gives
    ]

-- what passes is kept by a filter that lets it pass
pub any-still : {A : Type 0} (p keep : A → Bool) (xs : List A) → ((x : A) → p x ≡ true → keep x ≡ true) → list_any p xs ≡ true → list_any p (filter keep xs) ≡ true
any-still p keep [] passes h = h
any-still p keep (x ∷ xs) passes h =
    cond_both (keep x) (x ∷ filter keep xs) (filter keep xs) (λ l. list_any p l ≡ true)
    (λ kept. elim (or_cases (p x) (list_any p xs) h) [
      | inl here ↦ or_left (p x) (list_any p (filter keep xs)) here
      | inr later ↦ or_right (p x) (list_any p (filter keep xs)) (any-still p keep xs passes later)
    ])
    (λ gone. elim (or_cases (p x) (list_any p xs) h) [
      | inl here ↦ absurd (both_ways (keep x) gone (passes x here))
      | inr later ↦ any-still p keep xs passes later
    ])

-- ---- places

pub each-all : {A : Type 0} (p : A → Bool) (xs : List A) → list_all p xs ≡ true → All (λ x. p x ≡ true) xs
each-all p [] h k d within = absurd (omega arith)
each-all p (x ∷ xs) h zero d within = (and_parts (p x) (list_all p xs) h).0
each-all p (x ∷ xs) h (suc k) d within = each-all p xs (and_parts (p x) (list_all p xs) h).1 k d (omega arith)

pub all-index : {A : Type 0} (p : A → Bool) (xs : List A) (j : ℕ) (d : A) → list_all p xs ≡ true → j < length xs → p (slice_index_or xs j d) ≡ true
all-index p xs j d e within = each-all p xs e j d within

pub all-place : {A : Type 0} (p : A → Bool) (xs : List A) (k : ℕ) (x : A) → list_all p xs ≡ true → slice_get xs k ≡ Some x → p x ≡ true
all-place p [] k x h at_k = absurd (cc)
all-place p (y ∷ ys) zero x h at_k = let same : y ≡ x = cc in ap p (sym same) ∙ (and_parts (p y) (list_all p ys) h).0
all-place p (y ∷ ys) (suc k) x h at_k = all-place p ys k x (and_parts (p y) (list_all p ys) h).1 at_k

pub apart-places : {A : Type 0} (r : A → A → Bool) (xs : List A) (j k : ℕ) (s t : A) → are_apart r xs ≡ true → j < k → slice_get xs j ≡ Some s → slice_get xs k ≡ Some t → not (r s t) ≡ true
apart-places r [] j k s t h less at_j at_k = absurd (cc)
apart-places r (x ∷ xs) j zero s t h less at_j at_k = absurd (omega arith)
apart-places r (x ∷ xs) zero (suc k) s t h less at_j at_k =
    let same : x ≡ s = cc in
    let e = and_parts (not (list_any (r x) xs)) (are_apart r xs) h in
    ap (λ y. not (r y t)) (sym same) ∙ all-place (λ y. not (r x y)) xs k t (none-all (r x) xs e.0) at_k
apart-places r (x ∷ xs) (suc j) (suc k) s t h less at_j at_k =
    apart-places r xs j k s t (and_parts (not (list_any (r x) xs)) (are_apart r xs) h).1 (omega arith) at_j at_k

pub find-none : {A : Type 0} (p : A → Bool) (xs : List A) → find p xs ≡ None → list_all (λ x. not (p x)) xs ≡ true
find-none p [] h = refl
find-none p (x ∷ xs) h =
    cond_both (p x) (Some x) (find p xs) (λ o. o ≡ None → list_all (λ x. not (p x)) (x ∷ xs) ≡ true)
    (λ here h. absurd (cc))
    (λ other h. and_from (not (p x)) (list_all (λ x. not (p x)) xs) (ap not other) (find-none p xs h))
    h

pub none-find : {A : Type 0} (p : A → Bool) (xs : List A) → list_all (λ x. not (p x)) xs ≡ true → find p xs ≡ None
none-find p [] h = refl
none-find p (x ∷ xs) h =
    let e = and_parts (not (p x)) (list_all (λ x. not (p x)) xs) h in
    cond_both (p x) (Some x) (find p xs) (λ o. o ≡ None)
    (λ here. absurd (never (p x) here e.0))
    (λ other. none-find p xs e.1)

-- those whose arguments the goal shows, but for a test that gives another
pub ruleset list_facts = (list_all-map, all-filter, all-kept, all-snoc, all-map-where, all-each, all-and, all-always, all-append, any-map, any-longer, any-same, any-none, not-any, none-all, none-any, filter-all, filter-none, filter-map, apart-filter, apart-map, apart-snoc, count-filter, count-none, length-filter-le, length-mapped, nil_from_no_length, cut_at, cons_option-append, each-all, find-none, none-find)
