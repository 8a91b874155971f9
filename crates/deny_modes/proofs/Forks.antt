-- Forks that are one, and forks that change places.
use Rattle.std.proofs.Common.{◌≡◌, ◌∙◌, refl, sym, ap, ℕ, Bool, true, false, ◌&&◌, ◌==◌, if◌then◌else◌, Option, arith}
use Rattle.std.specs.Bool.{beq}
use Rattle.std.specs.Cmp.{both_ways}
use Rattle.std.specs.Ordering.{nat_cmp, bool_cmp, ordering_then, is_eq, eq_by_cmp}
use Rattle.std.specs.declared.cmp.Ordering.{Ordering}
use Rattle.std.specs.declared.cmp.Ordering.TheVariants.{Less, Equal, Greater}
use Rattle.std.proofs.lemmas.Bool.Decides.{nat_tests}
use Rattle.afp_base.specs.DenyMode.{Fork, is_one_fork}
use Rattle.afp_base.proofs.DefinitionLaws.{one_fork}
use Rattle.sorted_map.specs.map.Entries.{exchanged}
use Rattle.deny_modes.specs.lemma.ForkOrder.{fork_cmp}
use Rattle.deny_modes.specs.Opens.{in_exchange}
use Rattle.afp_base.proofs.Forks.{one_fork-itself, same_fork}

then_equal : (x y : Ordering) → is_eq (ordering_then x y) ≡ (is_eq x && is_eq y)
then_equal Less y = refl
then_equal Equal y = refl
then_equal Greater y = refl

number_equal : (m n : ℕ) → is_eq (nat_cmp m n) ≡ (m == n)
number_equal m n = grind (arith, nat_tests)

kind_equal : (a b : Bool) → is_eq (bool_cmp a b) ≡ beq a b
kind_equal true true = refl
kind_equal true false = refl
kind_equal false true = refl
kind_equal false false = refl

-- the order tells whether two forks are one
pub order_tells : (f g : Fork) → eq_by_cmp fork_cmp f g ≡ is_one_fork f g
order_tells f g =
    then_equal (nat_cmp f.volume g.volume) (ordering_then (nat_cmp f.node g.node) (bool_cmp f.resource g.resource))
    ∙ (λ i. number_equal f.volume g.volume i && (then_equal (nat_cmp f.node g.node) (bool_cmp f.resource g.resource) ∙ (λ j. number_equal f.node g.node j && kind_equal f.resource g.resource j)) i)

pub either_way : (f g : Fork) → is_one_fork f g ≡ is_one_fork g f
either_way f g = both_ways (is_one_fork f g) (is_one_fork g f) (λ h. (one_fork g f).1 (sym (same_fork f g h))) (λ h. (one_fork f g).1 (sym (same_fork g f h)))

-- two exchanges give the fork back
pub back : (a b f : Fork) → in_exchange a b (in_exchange a b f) ≡ f
back a b f = elim (is_one_fork a f) as (λ t. is_one_fork a f ≡ t → in_exchange a b (if t then b else if is_one_fork b f then a else f) ≡ f) [
  | true ↦ λ is. at_b is
  | false ↦ λ other. elim (is_one_fork b f) as (λ u. is_one_fork b f ≡ u → in_exchange a b (if u then a else f) ≡ f) [
    | true ↦ λ is. ap (λ t. if t then b else if is_one_fork b a then a else a) (one_fork-itself a) ∙ same_fork b f is
    | false ↦ λ third. ap (λ t. if t then b else if is_one_fork b f then a else f) other ∙ ap (λ t. if t then a else f) third
  ] refl
] refl
  where
    at_b : is_one_fork a f ≡ true → in_exchange a b b ≡ f
    at_b is = elim (is_one_fork a b) as (λ t. is_one_fork a b ≡ t → (if t then b else if is_one_fork b b then a else b) ≡ f) [
      | true ↦ λ one. sym (same_fork a b one) ∙ same_fork a f is
      | false ↦ λ other. ap (λ t. if t then a else b) (one_fork-itself b) ∙ same_fork a f is
    ] refl

-- a fork in exchange is g where the fork is g in exchange
pub crosses : (a b f g : Fork) → is_one_fork (in_exchange a b f) g ≡ is_one_fork f (in_exchange a b g)
crosses a b f g = both_ways _ _
    (λ h. (one_fork f (in_exchange a b g)).1 (sym (back a b f) ∙ ap (in_exchange a b) (same_fork (in_exchange a b f) g h)))
    (λ h. (one_fork (in_exchange a b f) g).1 (ap (in_exchange a b) (same_fork f (in_exchange a b g) h) ∙ back a b g))

pub both_cross : (a b f g : Fork) → is_one_fork (in_exchange a b f) (in_exchange a b g) ≡ is_one_fork f g
both_cross a b f g = crosses a b f (in_exchange a b g) ∙ ap (is_one_fork f) (back a b g)

-- what is found after keys have changed places
pub found_crossed : {V : Type 0} (found : Fork → Option V) (a b f : Fork) → exchanged fork_cmp found a b f ≡ found (in_exchange a b f)
found_crossed found a b f =
    (λ i. if order_tells a f i then found b else if order_tells b f i then found a else found f)
    ∙ elim (is_one_fork a f) as (λ t. (if t then found b else if is_one_fork b f then found a else found f) ≡ found (if t then b else if is_one_fork b f then a else f)) [
      | true ↦ refl
      | false ↦ elim (is_one_fork b f) as (λ u. (if u then found a else found f) ≡ found (if u then a else f)) [ true ↦ refl | false ↦ refl ]
    ]
