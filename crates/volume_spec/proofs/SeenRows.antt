-- A change by id is seen at that id and nowhere else.
use Rattle.std.proofs.Common.{◌==◌, ◌≡◌, ◌∙◌, ap, sym, refl, ℕ, Bool, true, false, not, ◌&&◌, ◌||◌, cond, List, [], ◌∷◌, Option, Some, None}
use Rattle.std.specs.Prelude.{option_map}
use Rattle.std.specs.List.{filter, find, list_any}
use Rattle.std.proofs.lemmas.Bool.{and_parts, cond_both, cond-true, cond-false, both_ways, eqb-true, eq-eqb, not-false, false_from_ne_true, not-true}
use Rattle.afp_base.specs.Apart.{are_apart}
use Rattle.volume_spec.proofs.BareRows.{find-map}
use Rattle.volume_spec.specs.Edits.{with_changed, change_at, without}
use Rattle.volume_spec.specs.SoundVolume.{has_file}
use Rattle.volume_spec.specs.VolumeState.{Row}
use Rattle.volume_spec.specs.Walk.{row_at}
use Rattle.afp_base.proofs.Facts.{never, or_without}
use Rattle.afp_base.proofs.ListFacts.{all-kept, any-at, find-passes, none-all, none-find}

find-same : (p q : Row → Bool) (xs : List Row) → ((x : Row) → p x ≡ q x) → find p xs ≡ find q xs
find-same p q [] same = refl
find-same p q (x ∷ xs) same = λ i. cond (same x i) (Some x) (find-same p q xs same i)

-- a row that is found by another id is let be by a change
at-changed : (rows : List Row) (id wanted : ℕ) (change : Row → Row) → ((row : Row) → (change row).id ≡ row.id) → row_at (with_changed id change rows) wanted ≡ option_map (change_at id change) (row_at rows wanted)
unfolding row_at with_changed
at-changed rows id wanted change keeps =
    find-map (change_at id change) (λ (row : Row). row.id == wanted) rows
    ∙ ap (λ o. option_map (change_at id change) o) (find-same (λ row. (change_at id change row).id == wanted) (λ row. row.id == wanted) rows
    (λ row. ap (λ n. n == wanted) (cond_both (row.id == id) (change row) row (λ r. r.id ≡ row.id) (λ here. keeps row) (λ other. refl))))

pub changes-seen : (rows : List Row) (id : ℕ) (change : Row → Row) → ((row : Row) → (change row).id ≡ row.id) → row_at (with_changed id change rows) id ≡ option_map change (row_at rows id)
unfolding row_at
changes-seen rows id change keeps = at-changed rows id id change keeps ∙ by (find (λ (row : Row). row.id == id) rows) refl
  where
    by : (o : Option Row) → find (λ (row : Row). row.id == id) rows ≡ o → option_map (change_at id change) o ≡ option_map change o
    by None h = refl
    by (Some row) h = ap (λ r. Some r) (cond-true (row.id == id) (change row) row (find-passes (λ (r : Row). r.id == id) rows row h))

pub changes-let-be : (rows : List Row) (id other : ℕ) (change : Row → Row) → ((row : Row) → (change row).id ≡ row.id) → (other == id) ≡ false → row_at (with_changed id change rows) other ≡ row_at rows other
unfolding row_at
changes-let-be rows id other change keeps differ = at-changed rows id other change keeps ∙ by (find (λ (row : Row). row.id == other) rows) refl
  where
    by : (o : Option Row) → find (λ (row : Row). row.id == other) rows ≡ o → option_map (change_at id change) o ≡ o
    by None h = refl
    by (Some row) h =
        let is : row.id ≡ other = eqb-true row.id other (find-passes (λ (r : Row). r.id == other) rows row h) in
        ap (λ r. Some r) (cond-false (row.id == id) (change row) row (ap (λ n. n == id) is ∙ differ))

pub gone-unseen : (rows : List Row) (id : ℕ) → row_at (without id rows) id ≡ None
unfolding row_at without
gone-unseen rows id = none-find (λ (row : Row). row.id == id) (without id rows) (all-kept (λ (row : Row). not (row.id == id)) rows)

pub gone-lets-be : (rows : List Row) (id other : ℕ) → (other == id) ≡ false → row_at (without id rows) other ≡ row_at rows other
unfolding row_at without
gone-lets-be [] id other differ = refl
gone-lets-be (row ∷ rows) id other differ =
    let is : Row → Bool = λ r. r.id == other in
    let keep : Row → Bool = λ r. not (r.id == id) in
    let rest : find is (filter keep rows) ≡ find is rows = gone-lets-be rows id other differ in
    cond_both (keep row) (row ∷ filter keep rows) (filter keep rows) (λ l. find is l ≡ cond (is row) (Some row) (find is rows))
    (λ kept. ap (λ o. cond (is row) (Some row) o) rest)
    (λ gone. rest ∙ sym (cond-false (is row) (Some row) (find is rows) (not-other (is row) refl gone)))
  where
    not-other : (b : Bool) → (row.id == other) ≡ b → not (row.id == id) ≡ false → b ≡ false
    not-other false h gone = refl
    not-other true h gone =
        let same : (row.id == id) ≡ false = ap (λ n. n == id) (eqb-true row.id other h) ∙ differ in
        absurd (both_ways (row.id == id) same (not-false (row.id == id) gone))

-- where ids differ, a test of the row of an id is the test of the one that is found
pub test-found : (rows : List Row) (id : ℕ) (p : Row → Bool) (s : Row) → are_apart (λ (a : Row) b. a.id == b.id) rows ≡ true → row_at rows id ≡ Some s → list_any (λ row. (row.id == id) && p row) rows ≡ p s
unfolding row_at
test-found [] id p s apart found = absurd (cc)
test-found (row ∷ rows) id p s apart found =
    let e = and_parts (not (list_any (λ (b : Row). row.id == b.id) rows)) (are_apart (λ (a : Row) b. a.id == b.id) rows) apart in
    cond_both (row.id == id) (Some row) (find (λ (r : Row). r.id == id) rows)
    (λ o. o ≡ Some s → (((row.id == id) && p row) || list_any (λ r. (r.id == id) && p r) rows) ≡ p s)
    (λ here h. let same : row ≡ s = cc in ap (λ b. (b && p row) || list_any (λ r. (r.id == id) && p r) rows) here
    ∙ or_without (p row) (list_any (λ r. (r.id == id) && p r) rows) (false_from_ne_true (list_any (λ r. (r.id == id) && p r) rows) (λ some.
    any-at (λ r. (r.id == id) && p r) (λ (b : Row). not (row.id == b.id)) rows some (none-all (λ (b : Row). row.id == b.id) rows e.0)
    (λ r is other. never (row.id == r.id) (eq-eqb row.id r.id (eqb-true row.id id here ∙ sym (eqb-true r.id id (and_parts (r.id == id) (p r) is).0))) other)))
    ∙ ap p same)
    (λ other h. ap (λ b. (b && p row) || list_any (λ r. (r.id == id) && p r) rows) other ∙ test-found rows id p s e.1 h)
    found

-- so the one that is found is a file, where the id is a file's
pub file-found : (rows : List Row) (id : ℕ) (s : Row) → are_apart (λ (a : Row) b. a.id == b.id) rows ≡ true → row_at rows id ≡ Some s → has_file rows id ≡ true → s.dir ≡ false
file-found rows id s apart found there = not-true s.dir (sym (test-found rows id (λ row. not row.dir) s apart found) ∙ there)
