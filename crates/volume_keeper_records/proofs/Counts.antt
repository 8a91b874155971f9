-- How many there are: numbers that rise, each among others that rise, are no more than those; records of a volume.
use Rattle.std.proofs.Common.{◌≡◌, ◌∙◌, ℕ, ◌+◌, ◌*◌, ◌<◌, ◌≤◌, true, List, [], ◌∷◌, length, refl, sym, ap, arith, length-append}
use Rattle.std.specs.Prelude.{nat_le, nat_lt, ◌||◌, ◌==◌, flat_map, sum_by}
use Rattle.std.specs.List.{list_all, list_any}
use Rattle.std.proofs.lemmas.Bool.{and_from, eqb-true, le-leb, ltb-true, ne_eqb}
use Rattle.volume_keeper_records.proofs.Chains.{Chain, sum-cons}
use Rattle.afp_base.proofs.Facts.{cases, left_true, right_true}
use Rattle.afp_base.proofs.ListFacts.{all-weaker}

module _ {A B : Type 0} (f : A → ℕ) (g : B → ℕ) where
  -- those above the first number are among the others
  among_rest : (n : B) (ns : List B) (xs : List A) → list_all (λ x. nat_lt (g n) (f x)) xs ≡ true → list_all (λ x. list_any (λ m. g m == f x) (n ∷ ns)) xs ≡ true → list_all (λ x. list_any (λ m. g m == f x) ns) xs ≡ true
  among_rest n ns [] h e = refl
  among_rest n ns (x ∷ xs) h e =
      let here = left_true (list_any (λ m. g m == f x) (n ∷ ns)) (list_all (λ x. list_any (λ m. g m == f x) (n ∷ ns)) xs) e in
      let above : g n < f x = ltb-true _ _ (left_true (nat_lt (g n) (f x)) (list_all (λ x. nat_lt (g n) (f x)) xs) h) in
      and_from (list_any (λ m. g m == f x) ns) (list_all (λ x. list_any (λ m. g m == f x) ns) xs)
      (ap (λ b. b || list_any (λ m. g m == f x) ns) (sym (ne_eqb (g n) (f x) (λ i. absurd (omega arith)))) ∙ here)
      (among_rest n ns xs (right_true (nat_lt (g n) (f x)) (list_all (λ x. nat_lt (g n) (f x)) xs) h) (right_true (list_any (λ m. g m == f x) (n ∷ ns)) (list_all (λ x. list_any (λ m. g m == f x) (n ∷ ns)) xs) e))

  pub above_first : (n : B) (x : A) (ns : List B) → list_all (λ m. nat_lt (g n) (g m)) ns ≡ true → list_any (λ m. g m == f x) ns ≡ true → g n < f x
  above_first n x [] h e = absurd (cc)
  above_first n x (m ∷ ns) h e = cases (g m == f x)
      (λ t. let over : g n < g m = ltb-true _ _ (left_true (nat_lt (g n) (g m)) (list_all (λ m. nat_lt (g n) (g m)) ns) h) in let same : g m ≡ f x = eqb-true _ _ t in omega arith)
      (λ t. above_first n x ns (right_true (nat_lt (g n) (g m)) (list_all (λ m. nat_lt (g n) (g m)) ns) h) (ap (λ b. b || list_any (λ m. g m == f x) ns) (sym t) ∙ e))

  pub no_more : (ns : List B) (xs : List A) → Chain (λ a b. nat_lt (g a) (g b)) ns → Chain (λ a b. nat_lt (f a) (f b)) xs → list_all (λ x. list_any (λ n. g n == f x) ns) xs ≡ true → length xs ≤ length ns
  no_more ns [] c d e = omega arith
  no_more [] (x ∷ xs) c d e = absurd (cc)
  no_more (n ∷ ns) (x ∷ xs) c d e =
      let here = left_true (list_any (λ m. g m == f x) (n ∷ ns)) (list_all (λ x. list_any (λ m. g m == f x) (n ∷ ns)) xs) e in
      let behind = right_true (list_any (λ m. g m == f x) (n ∷ ns)) (list_all (λ x. list_any (λ m. g m == f x) (n ∷ ns)) xs) e in
      cases (g n == f x)
      (λ t.
      let same : g n ≡ f x = eqb-true _ _ t in
      let rest = no_more ns xs c.1 d.1 (among_rest n ns xs (all-weaker (λ y. nat_lt (f x) (f y)) (λ y. nat_lt (g n) (f y)) xs (λ y h. ap (λ k. nat_lt k (f y)) same ∙ h) d.0) behind) in
      omega (arith, rest))
      (λ t.
      let there : list_any (λ m. g m == f x) ns ≡ true = ap (λ b. b || list_any (λ m. g m == f x) ns) (sym t) ∙ here in
      let above : g n < f x = above_first n x ns c.0 there in
      let all : list_all (λ x. list_any (λ m. g m == f x) ns) (x ∷ xs) ≡ true = and_from (list_any (λ m. g m == f x) ns) (list_all (λ x. list_any (λ m. g m == f x) ns) xs) there
      (among_rest n ns xs (all-weaker (λ y. nat_lt (f x) (f y)) (λ y. nat_lt (g n) (f y)) xs (λ y h. let l : f x < f y = ltb-true _ _ h in grind (arith, l, above)) d.0) behind) in
      let rest = no_more ns (x ∷ xs) c.1 d all in
      omega (arith, rest))

-- each part of a sum is at most the sum
pub sum_each : {A : Type 0} (f : A → ℕ) (xs : List A) (most : ℕ) → sum_by f xs ≤ most → list_all (λ x. nat_le (f x) most) xs ≡ true
sum_each f [] most h = refl
sum_each f (x ∷ xs) most h =
    let s = sum-cons f xs (0 + f x) in
    and_from (nat_le (f x) most) (list_all (λ x. nat_le (f x) most) xs) (le-leb _ _ (omega (arith, s, h))) (sum_each f xs most (omega (arith, s, h)))

-- the length of lists one after the other, of which each is no longer than a number and 8,190 in 4,096
pub length-flat : {A B : Type 0} (f : A → List B) (g : A → ℕ) → ((x : A) → 4096 * length (f x) ≤ g x + 8190) → (xs : List A) → 4096 * length (flat_map f xs) ≤ sum_by g xs + 8190 * length xs
length-flat f g h [] = omega arith
length-flat f g h (x ∷ xs) =
    let here = h x in
    let rest = length-flat f g h xs in
    let s = sum-cons g xs (0 + g x) in
    let l = length-append (f x) (flat_map f xs) in
    omega (arith, here, rest, s, l)
