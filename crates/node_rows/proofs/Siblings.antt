-- The children of one parent among all children in order.
use Rattle.std.proofs.Common.{◌≡◌, ◌∙◌, ap, sym, refl, ℕ, zero, suc, ◌+◌, ◌==◌, ◌≤◌, ◌<◌, Bool, true, false, not, ◌&&◌, cond, List, [], ◌∷◌, length, inl, inr, Some, None, arith}
use Rattle.std.specs.Prelude.{slice_get, slice_index_or, nat_lt, nat_le}
use Rattle.std.specs.List.{list_all, filter}
use Rattle.std.proofs.lemmas.Bool.{and_parts, and_from, cases_Bool, cond-true, cond-false, ltb-true, ltb-false, le-ltb, leb-true, le-leb, ne_eqb, eqb-false, not-true}
use Rattle.volume_spec.specs.Order.{stands_before, rises}
use Rattle.node_rows.proofs.Sorting.{kept-past, kept-at, key_place}
use Rattle.node_rows.specs.Children.{child_order}
use Rattle.node_rows.specs.lemma.Children.{kept}
use Rattle.node_rows.specs.declared.child.Child.{Child}
use Rattle.afp_base.proofs.ListFacts.{all-weaker, filter-none}

-- whether a child is this parent's
abbrev pub is_of : ℕ → Child → Bool
is_of dir child = child.parent.0 == dir

-- a lower parent stands before a parent with no key
pub parent-before : (p q : ℕ) (k : List ℕ) → stands_before (p ∷ k) (q ∷ []) ≡ nat_lt p q
parent-before p q k = go (nat_lt p q) (p == q) refl refl k
  where
    go : (less same : Bool) → nat_lt p q ≡ less → (p == q) ≡ same → (k : List ℕ) → stands_before (p ∷ k) (q ∷ []) ≡ nat_lt p q
    go true same a b k = simp a
    go false true a b [] = simp (a, b)
    go false true a b (x ∷ xs) = simp (a, b)
    go false false a b k = simp (a, b)

-- what stands before another has no higher parent
pub parent-order : (p q : ℕ) (k l : List ℕ) → stands_before (p ∷ k) (q ∷ l) ≡ true → p ≤ q
parent-order p q k l h = go (nat_lt q p) refl
  where
    go : (less : Bool) → nat_lt q p ≡ less → p ≤ q
    go true a =
        let up : q < p = ltb-true q p a in
        let one : nat_lt p q ≡ false = le-ltb p q (omega arith) in
        let two : (p == q) ≡ false = ne_eqb p q (λ same. omega arith) in
        let gone : stands_before (p ∷ k) (q ∷ l) ≡ false = simp (one, two) in
        cc
    go false a = ltb-false q p a

kept-none : {A : Type 0} (test : A → Bool) (l : List A) (i : ℕ) → list_all (λ x. not (test x)) l ≡ true → kept test (slice_get l i) ≡ None
kept-none test [] i h = refl
kept-none test (x ∷ xs) zero h =
    cond-false (test x) (Some x) None (not-true (test x) (and_parts (not (test x)) (list_all (λ y. not (test y)) xs) h).0)
kept-none test (x ∷ xs) (suc i) h = kept-none test xs i (and_parts (not (test x)) (list_all (λ y. not (test y)) xs) h).1

-- from the first child whose parent is no lower, a parent's children stand first
from-first : (dir : ℕ) (l : List Child) (i : ℕ) → list_all (λ child. nat_le dir child.parent.0) l ≡ true → rises child_order l ≡ true → slice_get (filter (is_of dir) l) i ≡ kept (is_of dir) (slice_get l i)
from-first dir [] i low h = refl
from-first dir (c ∷ cs) i low h =
    let e = and_parts (nat_le dir c.parent.0) (list_all (λ child. nat_le dir child.parent.0) cs) low in
    let f = and_parts (list_all (λ d. stands_before (child_order c) (child_order d)) cs) (rises child_order cs) h in
    elim (cases_Bool (is_of dir c)) [
      | inl here ↦ ap (λ l. slice_get l i) (cond-true (is_of dir c) (c ∷ filter (is_of dir) cs) (filter (is_of dir) cs) here) ∙ first i here (λ j. from-first dir cs j e.1 f.1)
      | inr other ↦ none i other e.0 f.0
    ]
  where
    first : (i : ℕ) → is_of dir c ≡ true → ((j : ℕ) → slice_get (filter (is_of dir) cs) j ≡ kept (is_of dir) (slice_get cs j)) → slice_get (c ∷ filter (is_of dir) cs) i ≡ kept (is_of dir) (slice_get (c ∷ cs) i)
    first zero here rest = sym (cond-true (is_of dir c) (Some c) None here)
    first (suc i) here rest = rest i

    none : (i : ℕ) → is_of dir c ≡ false → nat_le dir c.parent.0 ≡ true → list_all (λ d. stands_before (child_order c) (child_order d)) cs ≡ true
        → slice_get (filter (is_of dir) (c ∷ cs)) i ≡ kept (is_of dir) (slice_get (c ∷ cs) i)
    none i other at_least up =
        let low : dir ≤ c.parent.0 = leb-true dir c.parent.0 at_least in
        let differ : (c.parent.0 ≡ dir → ⊥) = eqb-false c.parent.0 dir other in
        let above : dir < c.parent.0 = omega (arith, differ) in
        let behind : list_all (λ d. not (is_of dir d)) cs ≡ true = all-weaker (λ d. stands_before (child_order c) (child_order d)) (λ d. not (is_of dir d)) cs
        (λ d before. let k : c.parent.0 ≤ d.parent.0 = parent-order c.parent.0 d.parent.0 c.key d.key before in ap not (ne_eqb d.parent.0 dir (λ same. omega arith))) up in
        let all : list_all (λ d. not (is_of dir d)) (c ∷ cs) ≡ true = ap (λ t. not t && list_all (λ d. not (is_of dir d)) cs) other ∙ behind in
        ap (λ l. slice_get l i) (filter-none (is_of dir) (c ∷ cs) all) ∙ sym (kept-none (is_of dir) (c ∷ cs) i all)

-- a parent's children, from the place of the first on
pub nth-of : (dir : ℕ) (l : List Child) (i : ℕ) → rises child_order l ≡ true → slice_get (filter (is_of dir) l) i ≡ kept (is_of dir) (slice_get l (key_place child_order (dir ∷ []) l + i))
nth-of dir [] i h = refl
nth-of dir (c ∷ cs) i h =
    let f = and_parts (list_all (λ d. stands_before (child_order c) (child_order d)) cs) (rises child_order cs) h in
    go (nat_lt c.parent.0 dir) refl (key_place child_order (dir ∷ []) cs) f.0 (nth-of dir cs i f.1)
  where
    place : ℕ → ℕ
    place n = cond (not (not (stands_before (child_order c) (dir ∷ [])))) (1 + n) 0

    go : (less : Bool) → nat_lt c.parent.0 dir ≡ less → (n : ℕ) → list_all (λ d. stands_before (child_order c) (child_order d)) cs ≡ true
        → slice_get (filter (is_of dir) cs) i ≡ kept (is_of dir) (slice_get cs (n + i))
        → slice_get (filter (is_of dir) (c ∷ cs)) i ≡ kept (is_of dir) (slice_get (c ∷ cs) (place n + i))
    go true a n up rest =
        let less : c.parent.0 < dir = ltb-true c.parent.0 dir a in
        let other : is_of dir c ≡ false = ne_eqb c.parent.0 dir (λ same. omega arith) in
        let before : stands_before (child_order c) (dir ∷ []) ≡ true = parent-before c.parent.0 dir c.key ∙ a in
        let at_place : place n ≡ 1 + n = ap (λ t. cond (not (not t)) (1 + n) 0) before in
        let more : place n + i ≡ suc (n + i) = omega arith in
        ap (λ l. slice_get l i) (cond-false (is_of dir c) (c ∷ filter (is_of dir) cs) (filter (is_of dir) cs) other) ∙ rest
        ∙ ap (λ k. kept (is_of dir) (slice_get (c ∷ cs) k)) (sym more)
    go false a n up rest =
        let low : dir ≤ c.parent.0 = ltb-false c.parent.0 dir a in
        let after : stands_before (child_order c) (dir ∷ []) ≡ false = parent-before c.parent.0 dir c.key ∙ a in
        let at_place : place n ≡ 0 = ap (λ t. cond (not (not t)) (1 + n) 0) after in
        let more : place n + i ≡ i = omega arith in
        let all : list_all (λ child. nat_le dir child.parent.0) (c ∷ cs) ≡ true = and_from (nat_le dir c.parent.0) (list_all (λ child. nat_le dir child.parent.0) cs) (le-leb dir c.parent.0 low)
        (all-weaker (λ d. stands_before (child_order c) (child_order d)) (λ d. nat_le dir d.parent.0) cs
        (λ d before. let k : c.parent.0 ≤ d.parent.0 = parent-order c.parent.0 d.parent.0 c.key d.key before in le-leb dir d.parent.0 (omega arith)) up) in
        from-first dir (c ∷ cs) i all h ∙ ap (λ k. kept (is_of dir) (slice_get (c ∷ cs) k)) (sym more)

-- a place behind the end, and a place with a child
module _ (dir : ℕ) (l : List Child) (first i : ℕ) where
  pub nth-past : rises child_order l ≡ true → first ≡ key_place child_order (dir ∷ []) l → length l ≤ first + i → slice_get (filter (is_of dir) l) i ≡ None
  nth-past h is past = nth-of dir l i h ∙ ap (λ k. kept (is_of dir) (slice_get l (k + i))) (sym is) ∙ kept-past (is_of dir) l (first + i) past

  pub nth-at : (x : Child) → rises child_order l ≡ true → first ≡ key_place child_order (dir ∷ []) l → first + i < length l → x ≡ slice_index_or l (first + i) x
      → slice_get (filter (is_of dir) l) i ≡ cond (is_of dir x) (Some x) None
  nth-at x h is within read = nth-of dir l i h ∙ ap (λ k. kept (is_of dir) (slice_get l (k + i))) (sym is) ∙ kept-at (is_of dir) l (first + i) x within read
