-- The place in a directory's list of a node of one kind behind others of it.
use Rattle.std.proofs.Common.{◌≡◌, ◌∙◌, ap, sym, refl, subst, ℕ, zero, suc, ◌+◌, ◌-◌, ◌≤◌, ◌<◌, Bool, true, false, not, if◌then◌else◌, List, [], ◌∷◌, length, map, take, drop, inl, inr, Some, None, arith}
use Rattle.std.specs.Prelude.{slice_get}
use Rattle.std.specs.List.{filter}
use Rattle.std.proofs.lemmas.Bool.{cases_Bool, cond-true, cond-false}
use Rattle.std.proofs.lemmas.List.{drop-drop, drop-map, length-drop, length-map, length-take, take-map, take_all}
use Rattle.afp_base.proofs.ListFacts.{filter-map, length-filter-le}
use Rattle.volume_spec.specs.Listing.{listed}
use Rattle.volume_spec.specs.VolumeState.{Row}
use Rattle.node_rows.proofs.Asked.{siblings-are}
use Rattle.node_rows.proofs.ChildKinds.{kinds-listed}
use Rattle.node_rows.specs.Children.{child_of}
use Rattle.node_rows.specs.Kinds.{IsPlaceBehind, are_of_kind, is_of_kind, passing}
use Rattle.node_rows.specs.lemma.Kept.{AreKept}
use Rattle.node_rows.specs.lemma.Kinds.{IsNth, child_kinds, is_file_of, is_kind, many}
use Rattle.node_rows.specs.lemma.Places.{IsPart}
use Rattle.node_rows.specs.declared.child.Child.{Child}

-- where one more passes, that one does
passes-at : (tests : List Bool) (x : ℕ) → passing (take x tests) < passing (take (suc x) tests) → slice_get tests x ≡ Some true
passes-at [] x more = absurd (omega arith)
passes-at (true ∷ tests) zero more = refl
passes-at (false ∷ tests) zero more = absurd (omega arith)
passes-at (true ∷ tests) (suc x) more = passes-at tests x (omega arith)
passes-at (false ∷ tests) (suc x) more = passes-at tests x more

-- a place counted from another
get-further : (tests : List Bool) (from x place : ℕ) → place ≡ from + x → slice_get tests place ≡ slice_get (drop from tests) x
get-further tests zero x place at = let same : place ≡ x = omega arith in ap (slice_get tests) same
get-further [] (suc from) x place at = refl
get-further (t ∷ tests) (suc from) x zero at = absurd (omega arith)
get-further (t ∷ tests) (suc from) x (suc place) at = get-further tests from x place (omega arith)

-- what passes a test is as much as passes among the answers
passing-is : {A : Type 0} (p : A → Bool) (xs : List A) → length (filter p xs) ≡ passing (map p xs)
passing-is p xs = sym (ap length (filter-map (λ t. t) p xs) ∙ length-map (filter p xs) p)

-- one element more is at most one more
one-more : {A : Type 0} (p : A → Bool) (xs : List A) (n : ℕ) → length (filter p (take (suc n) xs)) ≤ suc (length (filter p (take n xs)))
one-more p [] n = omega arith
one-more p (y ∷ ys) zero = elim (cases_Bool (p y)) [
  | inl passes ↦ let l : filter p (y ∷ []) ≡ y ∷ [] = cond-true (p y) (y ∷ []) [] passes in omega (arith, ap length l)
  | inr other ↦ let l : filter p (y ∷ []) ≡ [] = cond-false (p y) (y ∷ []) [] other in omega (arith, ap length l)
]
one-more p (y ∷ ys) (suc n) =
    let rest : length (filter p (take (suc n) ys)) ≤ suc (length (filter p (take n ys))) = one-more p ys n in
    elim (cases_Bool (p y)) [
      | inl passes ↦
          let l : filter p (y ∷ take (suc n) ys) ≡ y ∷ filter p (take (suc n) ys) = cond-true (p y) (y ∷ filter p (take (suc n) ys)) (filter p (take (suc n) ys)) passes in
          let m : filter p (y ∷ take n ys) ≡ y ∷ filter p (take n ys) = cond-true (p y) (y ∷ filter p (take n ys)) (filter p (take n ys)) passes in
          omega (arith, ap length l, ap length m)
      | inr other ↦
          let l : filter p (y ∷ take (suc n) ys) ≡ filter p (take (suc n) ys) = cond-false (p y) (y ∷ filter p (take (suc n) ys)) (filter p (take (suc n) ys)) other in
          let m : filter p (y ∷ take n ys) ≡ filter p (take n ys) = cond-false (p y) (y ∷ filter p (take n ys)) (filter p (take n ys)) other in
          omega (arith, ap length l, ap length m)
    ]

-- a part in two
two-parts : {A : Type 0} (p : A → Bool) (xs : List A) (a x b : ℕ) → b ≡ a + x → length (filter p (take b xs)) ≡ length (filter p (take a xs)) + length (filter p (take x (drop a xs)))
two-parts p xs zero x b is = let same : b ≡ x = omega arith in ap (λ n. length (filter p (take n xs))) same ∙ (let none : length (filter p (take x xs)) ≡ 0 + length (filter p (take x xs)) = omega arith in none)
two-parts p [] (suc a) x zero is = absurd (omega arith)
two-parts p [] (suc a) zero (suc b) is = refl
two-parts p [] (suc a) (suc x) (suc b) is = refl
two-parts p (y ∷ ys) (suc a) x zero is = absurd (omega arith)
two-parts p (y ∷ ys) (suc a) x (suc b) is =
    let rest : length (filter p (take b ys)) ≡ length (filter p (take a ys)) + length (filter p (take x (drop a ys))) = two-parts p ys a x b (omega arith) in
    elim (cases_Bool (p y)) [
      | inl passes ↦
          let l : filter p (y ∷ take b ys) ≡ y ∷ filter p (take b ys) = cond-true (p y) (y ∷ filter p (take b ys)) (filter p (take b ys)) passes in
          let m : filter p (y ∷ take a ys) ≡ y ∷ filter p (take a ys) = cond-true (p y) (y ∷ filter p (take a ys)) (filter p (take a ys)) passes in
          omega (arith, ap length l, ap length m)
      | inr other ↦
          let l : filter p (y ∷ take b ys) ≡ filter p (take b ys) = cond-false (p y) (y ∷ filter p (take b ys)) (filter p (take b ys)) other in
          let m : filter p (y ∷ take a ys) ≡ filter p (take a ys) = cond-false (p y) (y ∷ filter p (take a ys)) (filter p (take a ys)) other in
          omega (arith, ap length l, ap length m)
    ]

-- a part of a part
window : {A : Type 0} (ys : List A) (from x m : ℕ) → from + x ≤ m → take x (drop from (take m ys)) ≡ take x (drop from ys)
window ys zero zero m within = refl
window [] zero (suc x) zero within = refl
window [] zero (suc x) (suc m) within = refl
window (y ∷ ys) zero (suc x) zero within = absurd (omega arith)
window (y ∷ ys) zero (suc x) (suc m) within = ap (λ l. y ∷ l) (window ys zero x m (omega arith))
window [] (suc from) x zero within = refl
window [] (suc from) x (suc m) within = refl
window (y ∷ ys) (suc from) x zero within = absurd (omega arith)
window (y ∷ ys) (suc from) x (suc m) within = window ys from x m (omega arith)

kind-told : (files dir : Bool) → is_kind files (not dir) ≡ (if files then not dir else dir)
kind-told true dir = refl
kind-told false true = refl
kind-told false false = refl

kinds-told : (files : Bool) (list : List Row) → map (is_kind files) (map (λ (row : Row). not row.dir) list) ≡ are_of_kind files list
kinds-told files [] = refl
kinds-told files (row ∷ list) = λ i. kind-told files row.dir i ∷ kinds-told files list i

module _ (rows : List Row) (children : List Child) (kinds : List Bool) (next dir first behind : ℕ) (k : AreKept rows children next) (is : kinds ≡ child_kinds rows children) (part : IsPart children dir first behind) (files : Bool) where
  -- the directory's children are those of its list
  part-is-list : take (behind - first) (drop first children) ≡ map child_of (listed rows dir)
  part-is-list = part.part ∙ siblings-are rows children next dir k

  size : length (are_of_kind files (listed rows dir)) ≡ behind - first
  size =
      let mapped : length (map child_of (listed rows dir)) ≡ length (listed rows dir) = length-map (listed rows dir) child_of in
      let asked : length (are_of_kind files (listed rows dir)) ≡ length (listed rows dir) = length-map (listed rows dir) (is_of_kind files) in
      let taken : length (take (behind - first) (drop first children)) ≡ length (map child_of (listed rows dir)) = ap length part-is-list in
      let within = part.within in
      omega (arith, length-take (behind - first) (drop first children), length-drop first children)

  kinds-of-list : map (is_kind files) (take (behind - first) (drop first kinds)) ≡ are_of_kind files (listed rows dir)
  kinds-of-list =
      ap (map (is_kind files)) (ap (λ l. take (behind - first) (drop first l)) is
      ∙ ap (take (behind - first)) (drop-map (is_file_of rows) first children)
      ∙ take-map (is_file_of rows) (behind - first) (drop first children)
      ∙ ap (child_kinds rows) part-is-list
      ∙ kinds-listed rows children next dir k)
      ∙ kinds-told files (listed rows dir)

  -- nothing is so far behind
  pub none-left : (from skip : ℕ) → behind - first ≤ from + skip → IsPlaceBehind (are_of_kind files (listed rows dir)) from skip None
  none-left from skip far =
      let few : passing (drop from (are_of_kind files (listed rows dir))) ≤ length (drop from (are_of_kind files (listed rows dir))) = length-filter-le (λ t. t) (drop from (are_of_kind files (listed rows dir))) in
      let left : length (drop from (are_of_kind files (listed rows dir))) ≡ length (are_of_kind files (listed rows dir)) - from = length-drop from (are_of_kind files (listed rows dir)) in
      let many_are : length (are_of_kind files (listed rows dir)) ≡ behind - first = size in
      omega arith

  module _ (from skip place : ℕ) (few : first + from + skip < behind) (nth : IsNth kinds files (first + from) behind skip place) where
    -- how many stand in the list from the place on where the search begins
    seen : (x : ℕ) → from + x ≤ behind - first → many files (take (first + from + x) kinds) ≡ many files (take (first + from) kinds) + passing (take x (drop from (are_of_kind files (listed rows dir))))
    seen x within =
        two-parts (is_kind files) kinds (first + from) x (first + from + x) refl
        ∙ ap (λ n. many files (take (first + from) kinds) + n)
        (ap (λ l. many files (take x l)) (sym (drop-drop from first kinds)) ∙ ap (many files) (sym (window (drop first kinds) from x (behind - first) within))
        ∙ passing-is (is_kind files) (take x (drop from (take (behind - first) (drop first kinds))))
        ∙ ap passing (sym (take-map (is_kind files) x (drop from (take (behind - first) (drop first kinds)))) ∙ ap (take x) (sym (drop-map (is_kind files) from (take (behind - first) (drop first kinds)))))
        ∙ ap (λ l. passing (take x (drop from l))) kinds-of-list)

    passed : (x : ℕ) → place ≡ first + from + x → passing (take x (drop from (are_of_kind files (listed rows dir)))) ≤ skip
    passed x at =
        let order = part.order in
        let high = nth.high in
        let so = seen x (omega arith) in
        let same : many files (take place kinds) ≡ many files (take (first + from + x) kinds) = ap (λ n. many files (take n kinds)) at in
        omega (arith, nth.passed)

    pub none-there : behind ≤ place → IsPlaceBehind (are_of_kind files (listed rows dir)) from skip None
    none-there past =
        let high = nth.high in
        let order = part.order in
        let many_are : length (are_of_kind files (listed rows dir)) ≡ behind - first = size in
        let left : length (drop from (are_of_kind files (listed rows dir))) ≡ length (are_of_kind files (listed rows dir)) - from = length-drop from (are_of_kind files (listed rows dir)) in
        let end : place ≡ first + from + (behind - first - from) = omega (arith, past) in
        let all : take (behind - first - from) (drop from (are_of_kind files (listed rows dir))) ≡ drop from (are_of_kind files (listed rows dir)) = take_all (behind - first - from) (drop from (are_of_kind files (listed rows dir))) (omega arith) in
        subst (λ l. passing l ≤ skip) all (passed (behind - first - from) end)

    pub there : place < behind → IsPlaceBehind (are_of_kind files (listed rows dir)) from skip (Some (place - first))
    there inside =
        let low = nth.low in
        let order = part.order in
        let x : ℕ = place - first - from in
        let at : place ≡ first + from + x = omega arith in
        let next_at : suc place ≡ first + from + suc x = omega arith in
        let left : List Bool = drop from (are_of_kind files (listed rows dir)) in
        let before : passing (take x left) ≤ skip = passed x at in
        let so : many files (take (first + from + suc x) kinds) ≡ many files (take (first + from) kinds) + passing (take (suc x) left) = seen (suc x) (omega arith) in
        let same : many files (take (suc place) kinds) ≡ many files (take (first + from + suc x) kinds) = ap (λ n. many files (take n kinds)) next_at in
        let up : many files (take (first + from) kinds) + skip < many files (take (suc place) kinds) = nth.there inside in
        let more : skip < passing (take (suc x) left) = omega arith in
        let step : passing (take (suc x) left) ≤ suc (passing (take x left)) = one-more (λ t. t) left x in
        let exact : passing (take x left) ≡ skip = omega arith in
        let spot : place - first ≡ from + x = omega arith in
        let here : place - first - from ≡ x = refl in (
          omega arith,
          exact,
          get-further (are_of_kind files (listed rows dir)) from x (place - first) spot ∙ passes-at left x (omega arith),
        )
