-- What is asked by parent or by key.
use Rattle.std.proofs.Common.{◌==◌, ◌≡◌, ◌∙◌, ap, sym, refl, ℕ, suc, Bool, true, not, ◌&&◌, ◌||◌, List, [], ◌∷◌, Option, Some, None, inl, inr}
use Rattle.std.specs.Prelude.{bytes_eq, option_map}
use Rattle.std.specs.List.{list_any, list_all, find, filter}
use Rattle.std.proofs.lemmas.Bool.{and_parts, and_from, or_left, or_right, or_cases, cond_both, cases_Bool, eqb-true, eq-eqb, false_from_ne_true}
use Rattle.std.proofs.lemmas.Slice.Eq.{bytes_eq-Decides}
use Rattle.afp_names.specs.Name.{name_key}
use Rattle.volume_spec.proofs.CreateFile.{find-only}
use Rattle.volume_spec.specs.SoundVolume.{are_named_alike}
use Rattle.volume_spec.specs.Edits.{is_below, is_taken, above, is_another, without}
use Rattle.afp_base.specs.Apart.{are_apart}
use Rattle.volume_spec.specs.VolumeState.{Row}
use Rattle.volume_spec.specs.Walk.{row_at, parent_at, child_by_key}
use Rattle.afp_base.proofs.Facts.{never, or_without}
use Rattle.afp_base.proofs.ListFacts.{any-at, find-none, find-passes, none-all}

-- where ids differ, what holds of some row of an id holds of the one that is found
pub by-parent : (rows : List Row) (id : ℕ) (said : ℕ → Bool) → are_apart (λ (a : Row) b. a.id == b.id) rows ≡ true → list_any (λ row. (row.id == id) && said row.parent) rows ≡ above (parent_at rows id) said
unfolding parent_at row_at
by-parent [] id said apart = refl
by-parent (row ∷ rows) id said apart =
    let e = and_parts (not (list_any (λ (b : Row). row.id == b.id) rows)) (are_apart (λ (a : Row) b. a.id == b.id) rows) apart in
    cond_both (row.id == id) (Some row) (find (λ (r : Row). r.id == id) rows)
    (λ o. (((row.id == id) && said row.parent) || list_any (λ r. (r.id == id) && said r.parent) rows) ≡ above (option_map (λ (r : Row). r.parent) o) said)
    (λ here. ap (λ b. (b && said row.parent) || list_any (λ r. (r.id == id) && said r.parent) rows) here
    ∙ or_without (said row.parent) (list_any (λ r. (r.id == id) && said r.parent) rows) (false_from_ne_true (list_any (λ r. (r.id == id) && said r.parent) rows) (λ some.
    any-at (λ r. (r.id == id) && said r.parent) (λ (b : Row). not (row.id == b.id)) rows some (none-all (λ (b : Row). row.id == b.id) rows e.0)
    (λ r is other. never (row.id == r.id) (eq-eqb row.id r.id (eqb-true row.id id here ∙ sym (eqb-true r.id id (and_parts (r.id == id) (said r.parent) is).0))) other))))
    (λ other. ap (λ b. (b && said row.parent) || list_any (λ r. (r.id == id) && said r.parent) rows) other ∙ by-parent rows id said e.1)

pub below-by-parent : (rows : List Row) (steps node id : ℕ) → are_apart (λ (a : Row) b. a.id == b.id) rows ≡ true → is_below rows (suc steps) node id ≡ ((id == node) || above (parent_at rows id) (is_below rows steps node))
below-by-parent rows steps node id apart = ap (λ b. (id == node) || b) (by-parent rows id (is_below rows steps node) apart)

-- what all that a filter keeps pass
all-unless : (test keep : Row → Bool) (rows : List Row) → list_all test (filter keep rows) ≡ true → list_all (λ row. not (keep row) || test row) rows ≡ true
all-unless test keep [] h = refl
all-unless test keep (row ∷ rows) h =
    cond_both (keep row) (row ∷ filter keep rows) (filter keep rows) (λ l. list_all test l ≡ true → ((not (keep row) || test row) && list_all (λ r. not (keep r) || test r) rows) ≡ true)
    (λ kept h. let e = and_parts (test row) (list_all test (filter keep rows)) h in
    and_from (not (keep row) || test row) (list_all (λ r. not (keep r) || test r) rows) (or_right (not (keep row)) (test row) e.0) (all-unless test keep rows e.1))
    (λ gone h. and_from (not (keep row) || test row) (list_all (λ r. not (keep r) || test r) rows) (or_left (not (keep row)) (test row) (ap not gone)) (all-unless test keep rows h))
    h

any-found : (test pick : Row → Bool) (rows : List Row) (s : Row) → find pick rows ≡ Some s → test s ≡ true → list_any test rows ≡ true
any-found test pick [] s h passes = absurd (cc)
any-found test pick (row ∷ rows) s h passes =
    cond_both (pick row) (Some row) (find pick rows) (λ o. o ≡ Some s → (test row || list_any test rows) ≡ true)
    (λ here h. let same : row ≡ s = cc in or_left (test row) (list_any test rows) (ap test same ∙ passes))
    (λ other h. or_right (test row) (list_any test rows) (any-found test pick rows s h passes)) h

pub taken-by-key : (rows : List Row) (node dir : ℕ) (name : List ℕ) → are_apart are_named_alike rows ≡ true → is_taken rows node dir name ≡ is_another node (child_by_key rows dir (name_key name))
unfolding is_taken child_by_key without
taken-by-key rows node dir name apart = by (find pick rows) refl
  where
    pick : Row → Bool
    pick row = (row.parent == dir) && bytes_eq (name_key row.name) (name_key name)

    taken : Row → Bool
    taken row = not (row.id == node) && pick row

    alike : (a b : Row) → pick a ≡ true → pick b ≡ true → are_named_alike a b ≡ true
    alike a b is_a is_b =
        let e = and_parts (a.parent == dir) (bytes_eq (name_key a.name) (name_key name)) is_a in
        let f = and_parts (b.parent == dir) (bytes_eq (name_key b.name) (name_key name)) is_b in
        and_from (a.parent == b.parent) (bytes_eq (name_key a.name) (name_key b.name))
        (eq-eqb a.parent b.parent (eqb-true a.parent dir e.0 ∙ sym (eqb-true b.parent dir f.0)))
        ((bytes_eq-Decides (name_key a.name) (name_key b.name)).1 ((bytes_eq-Decides (name_key a.name) (name_key name)).0 e.1 ∙ sym ((bytes_eq-Decides (name_key b.name) (name_key name)).0 f.1)))

    by : (o : Option Row) → find pick rows ≡ o → list_any taken rows ≡ is_another node (option_map (λ (row : Row). row.id) o)
    by None h = false_from_ne_true (list_any taken rows) (λ some. any-at taken (λ row. not (pick row)) rows some (find-none pick rows h)
        (λ row is other. never (pick row) (and_parts (not (row.id == node)) (pick row) is).1 other))
    by (Some r) h = elim (cases_Bool (r.id == node)) [
      | inl same ↦ false_from_ne_true (list_any taken rows) (λ some.
          any-at taken (λ row. not (not (row.id == r.id)) || not (pick row)) rows some
          (all-unless (λ row. not (pick row)) (λ row. not (row.id == r.id)) rows (find-only are_named_alike pick rows r alike apart h))
          (λ row is only. let e = and_parts (not (row.id == node)) (pick row) is in
          elim (or_cases (not (not (row.id == r.id))) (not (pick row)) only) [
            | inl itself ↦ never (not (row.id == r.id)) (ap (λ n. not (row.id == n)) (eqb-true r.id node same) ∙ e.0) itself
            | inr fails ↦ never (pick row) e.1 fails
          ])) ∙ sym (ap not same)
      | inr other ↦ any-found taken pick rows r h (and_from (not (r.id == node)) (pick r) (ap not other) (find-passes pick rows r h)) ∙ sym (ap not other)
    ]
