-- A list in the order of its elements' numbers is its parts by number, one after the other.
use Rattle.std.proofs.Common.{◌≡◌, ◌∙◌, ℕ, ◌<◌, ◌≤◌, true, false, cond, List, [], ◌∷◌, ◌++◌, refl, sym, ap, arith}
use Rattle.std.specs.Prelude.{nat_le, nat_lt, ◌||◌, ◌==◌, flat_map}
use Rattle.std.specs.List.{list_all, list_any, filter}
use Rattle.std.proofs.lemmas.Bool.{eqb-true, leb-true, lt-ltb, ltb-true, ne_eqb}
use Rattle.volume_keeper_records.proofs.Chains.{Chain}
use Rattle.volume_keeper_records.proofs.Counts.{above_first}
use Rattle.afp_base.proofs.Facts.{cases, left_true, right_true}
use Rattle.afp_base.proofs.ListFacts.{all-weaker}

-- each number is at most those behind it, or below them
abbrev pub Climbs : {A : Type 0} → (A → ℕ) → List A → Type 0
Climbs f xs = Chain (λ x y. nat_le (f x) (f y)) xs

abbrev pub Steps : {A : Type 0} → (A → ℕ) → List A → Type 0
Steps f xs = Chain (λ x y. nat_lt (f x) (f y)) xs

module _ {A B : Type 0} (f : A → ℕ) (g : B → ℕ) where
  abbrev pub part : List A → B → List A
  part xs n = filter (λ y. g n == f y) xs

  nothing : (ns : List B) → flat_map (part []) ns ≡ []
  nothing [] = refl
  nothing (n ∷ ns) = nothing ns

  skip : (x : A) (xs : List A) (ns : List B) → list_all (λ n. nat_lt (f x) (g n)) ns ≡ true → flat_map (part (x ∷ xs)) ns ≡ flat_map (part xs) ns
  skip x xs [] h = refl
  skip x xs (n ∷ ns) h =
      let over : f x < g n = ltb-true _ _ (left_true _ _ h) in
      let other : (g n == f x) ≡ false = ne_eqb (g n) (f x) (λ e. absurd (omega arith)) in
      λ i. ap (λ b. cond b (x ∷ part xs n) (part xs n)) other i ++ skip x xs ns (right_true _ _ h) i

  none : (n : B) (xs : List A) → list_all (λ y. nat_lt (g n) (f y)) xs ≡ true → part xs n ≡ []
  none n [] h = refl
  none n (x ∷ xs) h =
      let over : g n < f x = ltb-true _ _ (left_true _ _ h) in
      let other : (g n == f x) ≡ false = ne_eqb (g n) (f x) (λ e. absurd (omega arith)) in
      ap (λ b. cond b (x ∷ part xs n) (part xs n)) other ∙ none n xs (right_true _ _ h)

  front : (x : A) (xs : List A) (ns : List B) → list_all (λ y. nat_le (f x) (f y)) xs ≡ true → Steps g ns → list_any (λ n. g n == f x) ns ≡ true
      → flat_map (part (x ∷ xs)) ns ≡ x ∷ flat_map (part xs) ns
  front x xs [] up s e = absurd (cc)
  front x xs (n ∷ ns) up s e = cases (g n == f x)
      (λ t.
      let same : g n ≡ f x = eqb-true _ _ t in
      let above : list_all (λ m. nat_lt (f x) (g m)) ns ≡ true = all-weaker (λ m. nat_lt (g n) (g m)) (λ m. nat_lt (f x) (g m)) ns (λ m h. let l : g n < g m = ltb-true _ _ h in lt-ltb _ _ (omega arith)) s.0 in
      λ i. ap (λ b. cond b (x ∷ part xs n) (part xs n)) t i ++ skip x xs ns above i)
      (λ t.
      let there : list_any (λ m. g m == f x) ns ≡ true = ap (λ b. b || list_any (λ m. g m == f x) ns) (sym t) ∙ e in
      let under : g n < f x = above_first f g n x ns s.0 there in
      let empty : part xs n ≡ [] = none n xs (all-weaker (λ y. nat_le (f x) (f y)) (λ y. nat_lt (g n) (f y)) xs (λ y h. let l : f x ≤ f y = leb-true _ _ h in lt-ltb _ _ (omega arith)) up) in
      (λ i. ap (λ b. cond b (x ∷ part xs n) (part xs n)) t i ++ front x xs ns up s.1 there i)
      ∙ ap (λ l. l ++ x ∷ flat_map (part xs) ns) empty
      ∙ ap (λ l. x ∷ (l ++ flat_map (part xs) ns)) (sym empty))

  -- the parts of a list by rising numbers that has no other numbers
  pub parted : (ns : List B) (xs : List A) → Climbs f xs → Steps g ns → list_all (λ x. list_any (λ n. g n == f x) ns) xs ≡ true → flat_map (part xs) ns ≡ xs
  parted ns [] c s e = nothing ns
  parted ns (x ∷ xs) c s e = front x xs ns c.0 s (left_true _ _ e) ∙ ap (λ l. x ∷ l) (parted ns xs c.1 s (right_true _ _ e))
