-- Climbing by places is climbing by parents.
use Rattle.std.proofs.Common.{◌≡◌, ℕ, zero, suc, ◌+◌, ◌<◌, ◌≤◌, ◌/◌, ◌%◌, Bool, true, false, cond, not, ⊎_elim, List, [], ◌∷◌, ◌++◌, length, map, get_or, refl, sym, ap, ◌∙◌, subst, arith}
use Rattle.std.specs.Prelude.{slice_index, ◌==◌, ◌&&◌, ◌||◌, All, Result, Ok, Err}
use Rattle.std.specs.List.{list_any, AllByRecursion}
use Rattle.std.specs.List.Sorted.{IsStrictlySortedBy, IsBinarySearchResult}
use Rattle.std.specs.Ordering.{nat_cmp}
use Rattle.std.specs.declared.cmp.Ordering.TheVariants.{Less}
use Rattle.std.proofs.lemmas.List.{get_or-map, get_or_default}
use Rattle.std.proofs.lemmas.Bool.{cases_lt, ne_eqb, eq-eqb}
use Rattle.std.proofs.lemmas.List.Sums.{position_or_len_is, prefix_len-le-length}
use Rattle.std.proofs.lemmas.List.Sorted.{searched}
use Rattle.std.proofs.lemmas.Map.Keys.{below_from_sorted, sorted_head, non_decreasing_from_sorted}
use Rattle.std.proofs.lemmas.Grind.{common_steps}
use Rattle.volume_keeper_records.specs.declared.tree.Place.{Place}
use Rattle.volume_spec.specs.VolumeState.{root_id}
use Rattle.volume_keeper_records.specs.lemma.Climb.{climbs_to_root, id_of, place_in, stands, next_of, steps_of, climbed, through, Climbs, EndsAt}
use Rattle.afp_base.proofs.Facts.{and-true, nat_cmp_less, or-false}

-- what a binary search finds among rising numbers
abbrev pub place_told : List ℕ → Result ℕ ℕ → ℕ
place_told ids (Ok place) = place
place_told ids (Err place) = length ids

pub found_place : (ids : List ℕ) (id : ℕ) (r : Result ℕ ℕ) → IsStrictlySortedBy nat_cmp ids → IsBinarySearchResult (λ y. nat_cmp y id) ids r → place_told ids r ≡ place_in ids id
found_place ids id (Ok place) s b =
    let f = searched ids id (Ok place) b (λ i j h l. non_decreasing_from_sorted ids s i j 0 h l) in
    sym (position_or_len_is (λ x. x == id) ids place 0 (omega (arith, f.0)) (λ k h. let less = below_from_sorted ids k place 0 s h f.0 in grind (arith, less, f.1)) (λ h. grind (arith, f.1)))
found_place ids id (Err place) s b =
    let f = searched ids id (Err place) b (λ i j h l. non_decreasing_from_sorted ids s i j 0 h l) in
    sym (position_or_len_is (λ x. x == id) ids (length ids) 0 (omega arith) (λ k h. let less = f.1 k in let more = f.2 k in let apart : get_or ids k 0 ≡ id → ⊥ = λ e. ⊎_elim (λ (l : k < place). absurd (let y = f.1 k l in omega arith)) (λ (g : place ≤ k). absurd (let y = f.2 k g h in omega arith)) (cases_lt k place) in ne_eqb (get_or ids k 0) id apart) (λ h. absurd (omega arith)))

sorted_tail : (x : ℕ) (xs : List ℕ) → IsStrictlySortedBy nat_cmp (x ∷ xs) → IsStrictlySortedBy nat_cmp xs
unfolding IsStrictlySortedBy
sorted_tail x xs s = s.1

-- no later node has the id
not_later : (id : ℕ) (q : Place → Bool) (ns : List Place) → AllByRecursion (λ y. nat_cmp id y ≡ Less) (map id_of ns) → list_any (λ node. (node.id == id) && q node) ns ≡ false
not_later id q [] a = refl
not_later id q (n ∷ ns) a =
    let differs : (n.id == id) ≡ false = ne_eqb n.id id (λ e. absurd (let l = nat_cmp_less id n.id a.0 in omega arith)) in
    ap (λ b. (b && q n) || list_any (λ node. (node.id == id) && q node) ns) differs ∙ not_later id q ns a.1

behind : (x : ℕ) (xs : List ℕ) (i : ℕ) → slice_index xs i ≡ slice_index (x ∷ xs) (1 + i)
behind x xs i = let e : suc i ≡ 1 + i = omega arith in ap (λ k. slice_index (x ∷ xs) k) e

-- what is asked of the node with an id is asked at its place
pub picked : (id : ℕ) (q : Place → Bool) (f : Place → ℕ) (h : ℕ → Bool) (rest : ℕ) (tail : List ℕ) → ((n : Place) → q n ≡ h (f n)) → h rest ≡ false
    → (ns : List Place) → IsStrictlySortedBy nat_cmp (map id_of ns)
    → list_any (λ node. (node.id == id) && q node) ns ≡ h (slice_index (map f ns ++ rest ∷ tail) (place_in (map id_of ns) id))
picked id q f h rest tail same none [] s = sym none
picked id q f h rest tail same none (n ∷ ns) s =
    elim (n.id == id) as (λ b. n.id == id ≡ b → ((b && q n) || list_any (λ node. (node.id == id) && q node) ns) ≡ h (slice_index (f n ∷ (map f ns ++ rest ∷ tail)) (cond (not b) (1 + place_in (map id_of ns) id) 0))) [
      | true ↦ λ e. let i : id ≡ n.id = grind (arith, e) in
          ap (λ b. q n || b) (ap (λ x. list_any (λ node. (node.id == x) && q node) ns) i ∙ not_later n.id q ns (sorted_head nat_cmp n.id (map id_of ns) s)) ∙ or-false (q n) ∙ same n
      | false ↦ λ e. picked id q f h rest tail same none ns (sorted_tail n.id (map id_of ns) s)
          ∙ ap h (behind (f n) (map f ns ++ rest ∷ tail) (place_in (map id_of ns) id))
    ] refl

after : (xs ys : List ℕ) (i : ℕ) → slice_index (xs ++ ys) (length xs + i) ≡ slice_index ys i
after xs ys i = grind (arith, common_steps)

module _ (nodes : List Place) (s : IsStrictlySortedBy nat_cmp (map id_of nodes)) where
  abbrev pub ids : List ℕ
  ids = map id_of nodes

  abbrev pub up : List ℕ
  up = steps_of ids nodes

  lengths : length (map (next_of ids) nodes) ≡ length ids
  lengths = grind (arith, common_steps)

  pub at_none : slice_index up (length ids) ≡ length ids
  at_none = ap (slice_index up) (let e : length ids ≡ length (map (next_of ids) nodes) + 0 = omega (arith, lengths) in e) ∙ after (map (next_of ids) nodes) (length ids ∷ (length ids + 1) ∷ []) 0

  pub at_root : slice_index up (length ids + 1) ≡ length ids + 1
  at_root = ap (slice_index up) (let e : length ids + 1 ≡ length (map (next_of ids) nodes) + 1 = omega (arith, lengths) in e) ∙ after (map (next_of ids) nodes) (length ids ∷ (length ids + 1) ∷ []) 1

  stays_none : (k : ℕ) → climbed up k (length ids) ≡ length ids
  stays_none zero = refl
  stays_none (suc k) = ap (climbed up k) at_none ∙ stays_none k

  stays_root : (k : ℕ) → climbed up k (length ids + 1) ≡ length ids + 1
  stays_root zero = refl
  stays_root (suc k) = ap (climbed up k) at_root ∙ stays_root k

  nowhere : (k : ℕ) → (climbed up k (length ids) == length ids + 1) ≡ false
  nowhere k = ne_eqb _ _ (λ e. absurd (let x = stays_none k in omega arith))

  -- an id leads to the root where the climb ends there
  pub leads_climbs : (k id : ℕ) → climbs_to_root nodes k id ≡ (climbed up k (stands ids id) == length ids + 1)
  leads_climbs zero id = elim (id == root_id) as (λ b. b ≡ (cond b (length ids + 1) (place_in ids id) == length ids + 1)) [
    | true ↦ sym (eq-eqb (length ids + 1) (length ids + 1) refl)
    | false ↦ sym (ne_eqb (place_in ids id) (length ids + 1) (λ e. absurd (let x = prefix_len-le-length (λ x. not (x == id)) ids in omega arith)))
  ]
  leads_climbs (suc k) id = elim (id == root_id) as (λ b. (b || list_any (λ node. (node.id == id) && (node.is_directory && climbs_to_root nodes k node.parent)) nodes)
      ≡ (climbed up (suc k) (cond b (length ids + 1) (place_in ids id)) == length ids + 1)) [
        | true ↦ sym (eq-eqb _ (length ids + 1) (stays_root (suc k)))
        | false ↦ picked id (λ node. node.is_directory && climbs_to_root nodes k node.parent) (next_of ids) (λ place. climbed up k place == length ids + 1) (length ids) ((length ids + 1) ∷ [])
            (λ n. elim n.is_directory as (λ d. (d && climbs_to_root nodes k n.parent) ≡ (climbed up k (cond d (stands ids n.parent) (length ids)) == length ids + 1)) [
              | true ↦ leads_climbs k n.parent
              | false ↦ sym (nowhere k)
            ])
            (nowhere k) nodes s
      ]

-- ---- many steps at once
pub one_more : (up first : List ℕ) (place : ℕ) → place < length first → slice_index (through first up) place ≡ slice_index up (slice_index first place)
one_more up first place h = get_or-map (λ x. slice_index up x) first place 0 0 h

pub twice : (up : List ℕ) → All (λ x. x < length up) up → (k place : ℕ) → place < length up → climbed (through up up) k place ≡ climbed up (k + k) place
twice up a zero place h = refl
twice up a (suc k) place h =
    let here : slice_index (through up up) place ≡ slice_index up (slice_index up place) = one_more up up place h in
    let e : suc k + suc k ≡ suc (suc (k + k)) = omega arith in
    ap (climbed (through up up) k) here
    ∙ twice up a k (slice_index up (slice_index up place)) (a (slice_index up place) 0 (a place 0 h))
    ∙ ap (λ n. climbed up n place) (sym e)

module _ (steps : List ℕ) (count : ℕ) (up ends : List ℕ) (left : ℕ) (c : Climbs steps count up ends left) where
  all_in : All (λ x. x < length up) up
  all_in k d h = let y : slice_index up k < length up = omega (arith, c.up_in k (omega (arith, c.up_length)), c.up_length) in subst (λ x. x < length up) (get_or_default up k 0 d h) y

  squared_in : (place : ℕ) → place < length steps → slice_index (through up up) place < length steps
  squared_in place h = subst (λ x. x < length steps) (sym (one_more up up place (omega (arith, c.up_length)))) (c.up_in _ (c.up_in place h))

  squared_length : length (through up up) ≡ length steps
  squared_length = let y : length (through up up) ≡ length up = grind (arith, common_steps) in y ∙ c.up_length

  pub even_step : left % 2 ≡ 0 → Climbs steps count (through up up) ends (left / 2)
  even_step e = record {
    up_length = squared_length;
    ends_length = c.ends_length;
    up_in = squared_in;
    ends_in = c.ends_in;
    kept = λ place h. twice up all_in (left / 2) (slice_index ends place) (omega (arith, c.ends_in place h, c.up_length))
        ∙ ap (λ n. climbed up n (slice_index ends place)) (let y : left / 2 + left / 2 ≡ left = omega arith in y) ∙ c.kept place h;
  }

  pub odd_step : left % 2 ≡ 1 → Climbs steps count (through up up) (through ends up) (left / 2)
  odd_step e = record {
    up_length = squared_length;
    ends_length = let y : length (through ends up) ≡ length ends = grind (arith, common_steps) in y ∙ c.ends_length;
    up_in = squared_in;
    ends_in = λ place h. subst (λ x. x < length steps) (sym (one_more up ends place (omega (arith, c.ends_length)))) (c.up_in _ (c.ends_in place h));
    kept = λ place h. ap (climbed (through up up) (left / 2)) (one_more up ends place (omega (arith, c.ends_length)))
        ∙ twice up all_in (left / 2) (slice_index up (slice_index ends place)) (omega (arith, c.up_in _ (c.ends_in place h), c.up_length))
        ∙ ap (λ n. climbed up n (slice_index ends place)) (let y : suc (left / 2 + left / 2) ≡ left = omega arith in y) ∙ c.kept place h;
  }

stands_in : (ids : List ℕ) (id : ℕ) → stands ids id < length ids + 2
stands_in ids id = elim (id == root_id) as (λ b. cond b (length ids + 1) (place_in ids id) < length ids + 2) [
  | true ↦ omega arith
  | false ↦ omega (arith, prefix_len-le-length (λ x. not (x == id)) ids)
]

all_below : (f : Place → ℕ) (bound a b : ℕ) → ((n : Place) → f n < bound) → a < bound → b < bound → (ns : List Place) (k d : ℕ) → k < length (map f ns ++ a ∷ b ∷ []) → get_or (map f ns ++ a ∷ b ∷ []) k d < bound
all_below f bound a b h p q [] zero d l = p
all_below f bound a b h p q [] (suc zero) d l = q
all_below f bound a b h p q [] (suc (suc k)) d l = absurd (omega arith)
all_below f bound a b h p q (n ∷ ns) zero d l = h n
all_below f bound a b h p q (n ∷ ns) (suc k) d l = all_below f bound a b h p q ns k d (omega arith)

up_length : (nodes : List Place) (ids : List ℕ) → ids ≡ map id_of nodes → length (steps_of ids nodes) ≡ length ids + 2
up_length nodes ids e = let x : length ids ≡ length nodes = ap length e ∙ (let z : length (map id_of nodes) ≡ length nodes = grind (arith, common_steps) in z) in let y : length (steps_of ids nodes) ≡ length nodes + 2 = grind (arith, common_steps) in omega (arith, x, y)

next_in : (ids : List ℕ) (n : Place) → next_of ids n < length ids + 2
next_in ids n = elim n.is_directory as (λ d. cond d (stands ids n.parent) (length ids) < length ids + 2) [ true ↦ stands_in ids n.parent | false ↦ omega arith ]

pub up_is_in : (nodes : List Place) (ids : List ℕ) → ids ≡ map id_of nodes → All (λ x. x < length (steps_of ids nodes)) (steps_of ids nodes)
up_is_in nodes ids e k d h = subst (λ b. get_or (steps_of ids nodes) k d < b) (sym (up_length nodes ids e))
    (all_below (next_of ids) (length ids + 2) (length ids) (length ids + 1) (next_in ids) (omega arith) (omega arith) nodes k d h)

pub ends_at : (nodes : List Place) (ids up ends : List ℕ) → ids ≡ map id_of nodes → IsStrictlySortedBy nat_cmp ids → up ≡ steps_of ids nodes → length ends ≡ length up
    → ((place : ℕ) → place < length up → slice_index ends place ≡ climbed up (length nodes) place) → EndsAt nodes ids ends
ends_at nodes ids up ends i s u l h =
    let bound : length up ≡ length ids + 2 = ap length u ∙ up_length nodes ids i in
    let up_is : up ≡ steps_of (map id_of nodes) nodes = u ∙ ap (λ x. steps_of x nodes) i in
    record {
      there = λ id. omega (arith, stands_in ids id, bound, l);
      leads = λ id. leads_climbs nodes (subst (IsStrictlySortedBy nat_cmp) i s) (length nodes) id
          ∙ ap (λ x. climbed (steps_of x nodes) (length nodes) (stands x id) == length x + 1) (sym i)
          ∙ ap (λ x. climbed x (length nodes) (stands ids id) == length ids + 1) (sym u)
          ∙ ap (λ x. x == length ids + 1) (sym (h (stands ids id) (omega (arith, stands_in ids id, bound))));
    }

mapped : (f : Place → ℕ) (ns : List Place) (tail : List ℕ) (i : ℕ) (d : Place) → i < length ns → slice_index (map f ns ++ tail) i ≡ f (get_or ns i d)
mapped f [] tail i d h = absurd (omega arith)
mapped f (n ∷ ns) tail zero d h = refl
mapped f (n ∷ ns) tail (suc i) d h = mapped f ns tail i d (omega arith)

-- what is asked of the node with an id is asked at its place
module _ (id : ℕ) (q : Place → Bool) (places : List Place) (s : IsStrictlySortedBy nat_cmp (map id_of places)) where
  answer_of : Place → ℕ
  answer_of place = cond (q place) 1 0

  asked : list_any (λ place. (place.id == id) && q place) places ≡ (slice_index (map answer_of places ++ 0 ∷ []) (place_in (map id_of places) id) == 1)
  unfolding answer_of
  asked = picked id q answer_of (λ kind. kind == 1) 0 [] (λ place. elim (q place) as (λ d. d ≡ (cond d 1 0 == 1)) [ true ↦ refl | false ↦ refl ]) refl places s

  places_length : length (map id_of places) ≡ length places
  places_length = grind (arith, common_steps)

  answers_length : length (map answer_of places) ≡ length places
  answers_length = grind (arith, common_steps)

  pub not_there : length places ≤ place_in (map id_of places) id → list_any (λ place. (place.id == id) && q place) places ≡ false
  not_there h = asked
      ∙ ap (λ i. slice_index (map answer_of places ++ 0 ∷ []) i == 1) (let e : place_in (map id_of places) id ≡ length (map answer_of places) + 0 = omega (arith, prefix_len-le-length (λ x. not (x == id)) (map id_of places), places_length, answers_length) in e)
      ∙ ap (λ k. k == 1) (after (map answer_of places) (0 ∷ []) 0)

  pub at_place : (d : Place) → place_in (map id_of places) id < length places → list_any (λ place. (place.id == id) && q place) places ≡ q (get_or places (place_in (map id_of places) id) d)
  unfolding answer_of
  at_place d h = asked ∙ ap (λ k. k == 1) (mapped answer_of places (0 ∷ []) (place_in (map id_of places) id) d h)
      ∙ elim (q (get_or places (place_in (map id_of places) id) d)) as (λ b. (cond b 1 0 == 1) ≡ b) [ true ↦ refl | false ↦ refl ]

pub there_told : (places : List Place) (id : ℕ) → list_any (λ (place : Place). place.id == id) places ≡ list_any (λ (place : Place). (place.id == id) && true) places
there_told [] id = refl
there_told (p ∷ ps) id = λ i. and-true (p.id == id) i || there_told ps id i
