-- The children of one parent, from the first whose parent is no lower to the first whose parent is higher.
use Rattle.std.proofs.Common.{◌≡◌, ◌∙◌, ap, sym, refl, ℕ, zero, suc, ◌+◌, ◌-◌, ◌==◌, ◌≤◌, ◌<◌, Bool, true, false, not, cond, List, [], ◌∷◌, length, take, drop, subst, arith}
use Rattle.std.specs.Prelude.{slice_index_or, nat_lt}
use Rattle.std.specs.List.{list_all, filter, position_or_len}
use Rattle.std.specs.List.Sorted.{IsPartitionedBy}
use Rattle.std.proofs.lemmas.Bool.{and_parts, cond-true, cond-false, eqb-true, eqb-false, ne_eqb, ltb-true, ltb-false, lt-ltb, le-ltb}
use Rattle.volume_spec.specs.Order.{stands_before, rises}
use Rattle.node_rows.proofs.Siblings.{is_of, parent-order}
use Rattle.node_rows.specs.Children.{child_order}
use Rattle.node_rows.specs.lemma.Places.{IsPart}
use Rattle.node_rows.specs.declared.child.Child.{Child}
use Rattle.afp_base.proofs.ListFacts.{all-index, all-weaker, filter-none}

-- what a halving by parents asks of children in order
pub parents-partition : (bound : ℕ) (l : List Child) → rises child_order l ≡ true → IsPartitionedBy (λ (child : Child). nat_lt child.parent.0 bound) l
parents-partition bound [] h = λ i j d before inside passes. absurd (omega arith)
parents-partition bound (c ∷ cs) h =
    let e = and_parts (list_all (λ d. stands_before (child_order c) (child_order d)) cs) (rises child_order cs) h in go e.0 (parents-partition bound cs e.1)
  where
    go : list_all (λ d. stands_before (child_order c) (child_order d)) cs ≡ true → IsPartitionedBy (λ (child : Child). nat_lt child.parent.0 bound) cs → (i j : ℕ) (d : Child) → i ≤ j → j < length (c ∷ cs)
        → nat_lt (slice_index_or (c ∷ cs) j d).parent.0 bound ≡ true → nat_lt (slice_index_or (c ∷ cs) i d).parent.0 bound ≡ true
    go all rest zero zero d before inside passes = passes
    go all rest zero (suc j) d before inside passes =
        let other : Child = slice_index_or cs j d in
        let up : c.parent.0 ≤ other.parent.0 = parent-order c.parent.0 other.parent.0 c.key other.key (all-index (λ y. stands_before (child_order c) (child_order y)) cs j d all (omega arith)) in
        let below : other.parent.0 < bound = ltb-true other.parent.0 bound passes in
        lt-ltb c.parent.0 bound (omega arith)
    go all rest (suc i) zero d before inside passes = absurd (omega arith)
    go all rest (suc i) (suc j) d before inside passes = rest i j d (omega arith) (omega arith) passes

-- the place of the first child whose parent is not below a number
abbrev pub parents_from : ℕ → List Child → ℕ
parents_from bound l = position_or_len (λ (child : Child). not (nat_lt child.parent.0 bound)) l

from-cons : (bound : ℕ) (c : Child) (cs : List Child) (below : Bool) → nat_lt c.parent.0 bound ≡ below → parents_from bound (c ∷ cs) ≡ cond below (suc (parents_from bound cs)) 0
from-cons bound c cs below is = ap (λ t. cond (not (not t)) (1 + parents_from bound cs) 0) is ∙ twice below
  where
    twice : (t : Bool) → cond (not (not t)) (1 + parents_from bound cs) 0 ≡ cond t (suc (parents_from bound cs)) 0
    twice true = omega arith
    twice false = refl

-- behind a child whose parent is no lower there is no lower one
none-lower : (bound : ℕ) (c : Child) (cs : List Child) → bound ≤ c.parent.0 → list_all (λ d. stands_before (child_order c) (child_order d)) cs ≡ true → parents_from bound cs ≡ 0
none-lower bound c [] low up = refl
none-lower bound c (d ∷ ds) low up =
    let before = (and_parts (stands_before (child_order c) (child_order d)) (list_all (λ e. stands_before (child_order c) (child_order e)) ds) up).0 in
    let more : c.parent.0 ≤ d.parent.0 = parent-order c.parent.0 d.parent.0 c.key d.key before in
    from-cons bound d ds false (le-ltb d.parent.0 bound (omega arith))

-- the part of the children that begins with the first whose parent is no lower, and ends before the first whose parent is higher
record Part (dir : ℕ) (l : List Child) : Type 0 where
  pub order : parents_from dir l ≤ parents_from (dir + 1) l
  pub part : take (parents_from (dir + 1) l - parents_from dir l) (drop (parents_from dir l) l) ≡ filter (is_of dir) l

siblings-part : (dir : ℕ) (l : List Child) → rises child_order l ≡ true → Part dir l
siblings-part dir [] h = record { order = omega arith; part = refl }
siblings-part dir (c ∷ cs) h =
    let e = and_parts (list_all (λ d. stands_before (child_order c) (child_order d)) cs) (rises child_order cs) h in
    go (nat_lt c.parent.0 dir) refl (c.parent.0 == dir) refl e.0 (siblings-part dir cs e.1)
  where
    one-less : (a b : ℕ) → suc a - suc b ≡ a - b
    one-less a b = omega arith

    all-of : (a : ℕ) → a - 0 ≡ a
    all-of a = omega arith

    split : (a b : ℕ) → parents_from dir (c ∷ cs) ≡ a → parents_from (dir + 1) (c ∷ cs) ≡ b → a ≤ b → take (b - a) (drop a (c ∷ cs)) ≡ filter (is_of dir) (c ∷ cs) → Part dir (c ∷ cs)
    split a b at_a at_b order part = record {
      order = let h : a ≤ b = order in omega arith;
      part = (λ i. take (at_b i - at_a i) (drop (at_a i) (c ∷ cs))) ∙ part;
    }

    go : (less : Bool) → nat_lt c.parent.0 dir ≡ less → (here : Bool) → (c.parent.0 == dir) ≡ here → list_all (λ d. stands_before (child_order c) (child_order d)) cs ≡ true → Part dir cs → Part dir (c ∷ cs)
    go true a here b up rest =
        let below : c.parent.0 < dir = ltb-true c.parent.0 dir a in
        let other : is_of dir c ≡ false = ne_eqb c.parent.0 dir (λ same. omega arith) in
        split (suc (parents_from dir cs)) (suc (parents_from (dir + 1) cs))
        (from-cons dir c cs true a) (from-cons (dir + 1) c cs true (lt-ltb c.parent.0 (dir + 1) (omega arith)))
        (let order : parents_from dir cs ≤ parents_from (dir + 1) cs = rest.order in omega arith)
        (ap (λ n. take n (drop (parents_from dir cs) cs)) (one-less (parents_from (dir + 1) cs) (parents_from dir cs)) ∙ rest.part ∙ sym (cond-false (is_of dir c) (c ∷ filter (is_of dir) cs) (filter (is_of dir) cs) other))
    go false a true b up rest =
        let same : c.parent.0 ≡ dir = eqb-true c.parent.0 dir b in
        let none : parents_from dir cs ≡ 0 = none-lower dir c cs (omega arith) up in
        let behind : ℕ = parents_from (dir + 1) cs in
        let part : take (behind - 0) cs ≡ filter (is_of dir) cs = subst (λ n. take (behind - n) (drop n cs) ≡ filter (is_of dir) cs) none rest.part in
        split 0 (suc behind)
        (from-cons dir c cs false a) (from-cons (dir + 1) c cs true (lt-ltb c.parent.0 (dir + 1) (omega arith)))
        (omega arith)
        (ap (λ n. take n (c ∷ cs)) (all-of (suc behind)) ∙ ap (λ l. c ∷ l) (ap (λ n. take n cs) (sym (all-of behind)) ∙ part)
        ∙ sym (cond-true (is_of dir c) (c ∷ filter (is_of dir) cs) (filter (is_of dir) cs) b))
    go false a false b up rest =
        let low : dir ≤ c.parent.0 = ltb-false c.parent.0 dir a in
        let differ : (c.parent.0 ≡ dir → ⊥) = eqb-false c.parent.0 dir b in
        let high : dir + 1 ≤ c.parent.0 = omega (arith, differ) in
        split 0 0
        (from-cons dir c cs false a) (from-cons (dir + 1) c cs false (le-ltb c.parent.0 (dir + 1) high))
        (omega arith)
        (sym (cond-false (is_of dir c) (c ∷ filter (is_of dir) cs) (filter (is_of dir) cs) b
        ∙ filter-none (is_of dir) cs (all-weaker (λ d. stands_before (child_order c) (child_order d)) (λ d. not (is_of dir d)) cs
        (λ d before. let k : c.parent.0 ≤ d.parent.0 = parent-order c.parent.0 d.parent.0 c.key d.key before in ap not (ne_eqb d.parent.0 dir (λ same. omega arith))) up)))

pub part-is : (dir first behind : ℕ) (l : List Child) → rises child_order l ≡ true → first ≡ parents_from dir l → behind ≡ parents_from (dir + 1) l → behind ≤ length l → IsPart l dir first behind
part-is dir first behind l h first_is behind_is within =
    let p = siblings-part dir l h in
    record {
      order = let k : parents_from dir l ≤ parents_from (dir + 1) l = p.order in omega arith;
      within = within;
      part = (λ i. take (behind_is i - first_is i) (drop (first_is i) l)) ∙ p.part;
    }
