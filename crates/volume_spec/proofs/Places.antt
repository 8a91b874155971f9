-- What is done to a row by its id is done at its place.
use Rattle.std.proofs.Common.{◌==◌, ◌≡◌, ◌∙◌, ap, sym, refl, ℕ, zero, suc, true, false, not, List, [], ◌∷◌, map, Some}
use Rattle.std.specs.Prelude.{slice_get, slice_set}
use Rattle.std.specs.List.{list_any, list_all, remove}
use Rattle.std.proofs.lemmas.Bool.{and_parts, cond-true, cond-false, eq-eqb, not-true}
use Rattle.volume_spec.specs.Edits.{with_changed, change_at, without}
use Rattle.afp_base.specs.Apart.{are_apart}
use Rattle.volume_spec.specs.VolumeState.{Row}
use Rattle.afp_base.proofs.ListFacts.{none-all, not-equal}

-- the place of a row

pub unchanged : (change : Row → Row) (x : Row) (id : ℕ) (ys : List Row) → x.id ≡ id → list_all (λ (b : Row). not (x.id == b.id)) ys ≡ true → map (change_at id change) ys ≡ ys
unchanged change x id [] is others = refl
unchanged change x id (y ∷ ys) is others =
    let e = and_parts (not (x.id == y.id)) (list_all (λ (b : Row). not (x.id == b.id)) ys) others in
    let here : change_at id change y ≡ y = cond-false (y.id == id) (change y) y (ap (λ n. y.id == n) (sym is) ∙ not-equal x.id y.id e.0) in
    λ i. here i ∷ unchanged change x id ys is e.1 i

pub nothing-gone : (x : Row) (id : ℕ) (ys : List Row) → x.id ≡ id → list_all (λ (b : Row). not (x.id == b.id)) ys ≡ true → without id ys ≡ ys
unfolding without
nothing-gone x id [] is others = refl
nothing-gone x id (y ∷ ys) is others =
    let e = and_parts (not (x.id == y.id)) (list_all (λ (b : Row). not (x.id == b.id)) ys) others in
    cond-true (not (y.id == id)) (y ∷ without id ys) (without id ys) (ap not (ap (λ n. y.id == n) (sym is) ∙ not-equal x.id y.id e.0)) ∙ ap (λ l. y ∷ l) (nothing-gone x id ys is e.1)

-- a row that is not the first has another id
first-other : (x s : Row) (rows : List Row) (i : ℕ) → not (list_any (λ (b : Row). x.id == b.id) rows) ≡ true → slice_get rows i ≡ Some s → (x.id == s.id) ≡ false
first-other x s rows i none at_i = at rows i (none-all (λ (b : Row). x.id == b.id) rows none) at_i
  where
    at : (ys : List Row) (i : ℕ) → list_all (λ (b : Row). not (x.id == b.id)) ys ≡ true → slice_get ys i ≡ Some s → (x.id == s.id) ≡ false
    at [] i others at_i = absurd (cc)
    at (y ∷ ys) zero others at_i = let same : y ≡ s = cc in ap (λ (r : Row). x.id == r.id) (sym same) ∙ not-true (x.id == y.id) (and_parts (not (x.id == y.id)) (list_all (λ (b : Row). not (x.id == b.id)) ys) others).0
    at (y ∷ ys) (suc i) others at_i = at ys i (and_parts (not (x.id == y.id)) (list_all (λ (b : Row). not (x.id == b.id)) ys) others).1 at_i

-- a change by id is a write at the place of the row with that id
pub changed-is-set : (change : Row → Row) (rows : List Row) (i : ℕ) (s : Row) → are_apart (λ (a : Row) b. a.id == b.id) rows ≡ true → slice_get rows i ≡ Some s → with_changed s.id change rows ≡ slice_set rows i (change s)
unfolding with_changed
changed-is-set change [] i s apart at_i = absurd (cc)
changed-is-set change (x ∷ xs) zero s apart at_i =
    let same : x ≡ s = cc in
    let e = and_parts (not (list_any (λ (b : Row). x.id == b.id) xs)) (are_apart (λ (a : Row) b. a.id == b.id) xs) apart in
    let is : x.id ≡ s.id = ap (λ (r : Row). r.id) same in
    let first : change_at s.id change x ≡ change s = cond-true (x.id == s.id) (change x) x (eq-eqb x.id s.id is) ∙ ap change same in
    λ i. first i ∷ unchanged change x s.id xs is (none-all (λ (b : Row). x.id == b.id) xs e.0) i
changed-is-set change (x ∷ xs) (suc i) s apart at_i =
    let e = and_parts (not (list_any (λ (b : Row). x.id == b.id) xs)) (are_apart (λ (a : Row) b. a.id == b.id) xs) apart in
    let first : change_at s.id change x ≡ x = cond-false (x.id == s.id) (change x) x (first-other x s xs i e.0 at_i) in
    λ j. first j ∷ changed-is-set change xs i s e.1 at_i j

-- what is left without an id is what is left without the place of its row
pub without-is-remove : (rows : List Row) (i : ℕ) (s : Row) → are_apart (λ (a : Row) b. a.id == b.id) rows ≡ true → slice_get rows i ≡ Some s → without s.id rows ≡ remove rows i
unfolding without
without-is-remove [] i s apart at_i = absurd (cc)
without-is-remove (x ∷ xs) zero s apart at_i =
    let same : x ≡ s = cc in
    let e = and_parts (not (list_any (λ (b : Row). x.id == b.id) xs)) (are_apart (λ (a : Row) b. a.id == b.id) xs) apart in
    let is : x.id ≡ s.id = ap (λ (r : Row). r.id) same in
    cond-false (not (x.id == s.id)) (x ∷ without s.id xs) (without s.id xs) (ap not (eq-eqb x.id s.id is))
    ∙ nothing-gone x s.id xs is (none-all (λ (b : Row). x.id == b.id) xs e.0)
without-is-remove (x ∷ xs) (suc i) s apart at_i =
    let e = and_parts (not (list_any (λ (b : Row). x.id == b.id) xs)) (are_apart (λ (a : Row) b. a.id == b.id) xs) apart in
    cond-true (not (x.id == s.id)) (x ∷ without s.id xs) (without s.id xs) (ap not (first-other x s xs i e.0 at_i))
    ∙ ap (λ l. x ∷ l) (without-is-remove xs i s e.1 at_i)
