-- Lists whose numbers or keys rise: what filters, maps and one more element leave of them.
use Rattle.std.proofs.Common.{◌==◌, ◌≡◌, ◌∙◌, ap, refl, ℕ, ◌≤◌, ◌<◌, Bool, true, not, List, [], ◌∷◌, ◌++◌, map, arith, inl, inr}
use Rattle.std.specs.Prelude.{nat_lt}
use Rattle.std.specs.List.{list_any, list_all, filter}
use Rattle.std.proofs.lemmas.Bool.{and_parts, and_from, cases_Bool, cond_both, eqb-true, ltb-true, lt-ltb}
use Rattle.volume_spec.specs.Order.{rises, rises_from, stands_before}
use Rattle.afp_base.specs.Apart.{are_apart}
use Rattle.afp_base.proofs.ListFacts.{all-filter, all-weaker, any-at}

-- a lower start
rises-lower : {A : Type 0} (number : A → ℕ) (low from : ℕ) (xs : List A) → low ≤ from → rises_from number from xs ≡ true → rises_from number low xs ≡ true
rises-lower number low from [] less h = refl
rises-lower number low from (x ∷ xs) less h =
    let e = and_parts (nat_lt from (number x)) (rises_from number (number x) xs) h in
    let above : from < number x = ltb-true from (number x) e.0 in
    and_from (nat_lt low (number x)) (rises_from number (number x) xs) (lt-ltb low (number x) (omega arith)) e.1

-- one element more, whose number is above all
pub rises-new : {A : Type 0} (number : A → ℕ) (low : ℕ) (xs : List A) (new : A) → low < number new → list_all (λ x. nat_lt (number x) (number new)) xs ≡ true
    → rises_from number low xs ≡ true → rises_from number low (xs ++ new ∷ []) ≡ true
rises-new number low [] new above all h = and_from (nat_lt low (number new)) true (lt-ltb low (number new) above) refl
rises-new number low (x ∷ xs) new above all h =
    let e = and_parts (nat_lt low (number x)) (rises_from number (number x) xs) h in
    let f = and_parts (nat_lt (number x) (number new)) (list_all (λ y. nat_lt (number y) (number new)) xs) all in
    and_from (nat_lt low (number x)) (rises_from number (number x) (xs ++ new ∷ [])) e.0 (rises-new number (number x) xs new (ltb-true (number x) (number new) f.0) f.1 e.1)

pub rises-filter : {A : Type 0} (number : A → ℕ) (low : ℕ) (keep : A → Bool) (xs : List A) → rises_from number low xs ≡ true → rises_from number low (filter keep xs) ≡ true
rises-filter number low keep [] h = refl
rises-filter number low keep (x ∷ xs) h =
    let e = and_parts (nat_lt low (number x)) (rises_from number (number x) xs) h in
    let rest : rises_from number (number x) (filter keep xs) ≡ true = rises-filter number (number x) keep xs e.1 in
    let above : low < number x = ltb-true low (number x) e.0 in
    cond_both (keep x) (x ∷ filter keep xs) (filter keep xs) (λ l. rises_from number low l ≡ true)
    (λ kept. and_from (nat_lt low (number x)) (rises_from number (number x) (filter keep xs)) e.0 rest)
    (λ gone. rises-lower number low (number x) (filter keep xs) (omega arith) rest)

pub rises-mapped : {A : Type 0} (number : A → ℕ) (low : ℕ) (change : A → A) (xs : List A) → ((x : A) → number (change x) ≡ number x)
    → rises_from number low xs ≡ true → rises_from number low (map change xs) ≡ true
rises-mapped number low change [] same h = refl
rises-mapped number low change (x ∷ xs) same h =
    let e = and_parts (nat_lt low (number x)) (rises_from number (number x) xs) h in
    and_from (nat_lt low (number (change x))) (rises_from number (number (change x)) (map change xs)) (ap (λ n. nat_lt low n) (same x) ∙ e.0)
    (ap (λ n. rises_from number n (map change xs)) (same x) ∙ rises-mapped number (number x) change xs same e.1)

-- all stand above the start
pub above-all : {A : Type 0} (number : A → ℕ) (low : ℕ) (xs : List A) → rises_from number low xs ≡ true → list_all (λ x. nat_lt low (number x)) xs ≡ true
above-all number low [] h = refl
above-all number low (x ∷ xs) h =
    let e = and_parts (nat_lt low (number x)) (rises_from number (number x) xs) h in
    let here : low < number x = ltb-true low (number x) e.0 in
    and_from (nat_lt low (number x)) (list_all (λ y. nat_lt low (number y)) xs) e.0
    (all-weaker (λ y. nat_lt (number x) (number y)) (λ y. nat_lt low (number y)) xs (λ y above. let k : number x < number y = ltb-true (number x) (number y) above in lt-ltb low (number y) (omega arith)) (above-all number (number x) xs e.1))

-- numbers that rise differ
pub rising-apart : {A : Type 0} (number : A → ℕ) (low : ℕ) (xs : List A) → rises_from number low xs ≡ true → are_apart (λ a b. number a == number b) xs ≡ true
rising-apart number low [] h = refl
rising-apart number low (x ∷ xs) h =
    let e = and_parts (nat_lt low (number x)) (rises_from number (number x) xs) h in
    and_from (not (list_any (λ b. number x == number b) xs)) (are_apart (λ a b. number a == number b) xs)
    (elim (cases_Bool (list_any (λ b. number x == number b) xs)) [
      | inr none ↦ ap not none
      | inl some ↦ absurd (any-at (λ b. number x == number b) (λ y. nat_lt (number x) (number y)) xs some (above-all number (number x) xs e.1)
          (λ y same above. let k : number x < number y = ltb-true (number x) (number y) above in let is : number x ≡ number y = eqb-true (number x) (number y) same in absurd (omega arith)))
    ])
    (rising-apart number (number x) xs e.1)

-- keys
pub keys-filter : {A : Type 0} (key : A → List ℕ) (keep : A → Bool) (xs : List A) → rises key xs ≡ true → rises key (filter keep xs) ≡ true
keys-filter key keep [] h = refl
keys-filter key keep (x ∷ xs) h =
    let e = and_parts (list_all (λ y. stands_before (key x) (key y)) xs) (rises key xs) h in
    let rest : rises key (filter keep xs) ≡ true = keys-filter key keep xs e.1 in
    cond_both (keep x) (x ∷ filter keep xs) (filter keep xs) (λ l. rises key l ≡ true)
    (λ kept. and_from (list_all (λ y. stands_before (key x) (key y)) (filter keep xs)) (rises key (filter keep xs)) (all-filter (λ y. stands_before (key x) (key y)) keep xs e.0) rest)
    (λ gone. rest)
