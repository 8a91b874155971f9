-- Rows by rising reference, and the opens that they show.
use Rattle.std.proofs.Common.{◌-◌, inl, inr, ◌≡◌, ◌∙◌, refl, sym, ap, subst, ℕ, zero, suc, ◌+◌, ◌<◌, ◌≤◌, true, false, cond, not, ◌==◌, if◌then◌else◌, List, [], ◌∷◌, ◌++◌, length, map, take, drop, Some, None, arith}
use Rattle.std.specs.Prelude.{nat_lt, slice_index_or, slice_set}
use Rattle.std.specs.List.{AllByRecursion, list_all}
use Rattle.std.proofs.lemmas.Bool.{cases_Bool, cases_lt, and_parts, eqb-true}
use Rattle.std.proofs.lemmas.List.{get_or_default}
use Rattle.std.proofs.lemmas.List.Folds.{Any-from_list_any, list_any_at}
use Rattle.std.proofs.lemmas.List.Edits.{map_over_more}
use Rattle.afp_base.specs.DenyMode.{Fork}
use Rattle.std.specs.List.Sorted.{IsStrictlySortedBy}
use Rattle.std.specs.Map.{keys_of, remove_entry}
use Rattle.std.specs.BTreeMap.{insert_entry, is_at}
use Rattle.std.specs.Ordering.{nat_cmp, is_eq, match_ordering}
use Rattle.std.specs.declared.cmp.Ordering.TheVariants.{Less, Equal, Greater}
use Rattle.std.proofs.lemmas.Bool.Decides.{nat_tests}
use Rattle.sorted_map.specs.map.Entries.{at, with_new_value}
use Rattle.fork_table.specs.declared.open_fork.OpenFork.{OpenFork}
use Rattle.fork_table.specs.ForkTable.{plain_open, plain_opens, is_open_reference, IsLowestFree, exchange_row}
use Rattle.deny_modes.specs.Opens.{has_reference, in_exchange, with_noted, without_reference}
use Rattle.afp_base.proofs.Facts.{eqb-itself, left_false, nat_cmp_equal, nat_cmp_greater, nat_cmp_less, right_false}

abbrev pub Rise : List (ℕ × OpenFork) → Type 0
Rise rows = IsStrictlySortedBy nat_cmp (keys_of rows)

abbrev pub Above : ℕ → List (ℕ × OpenFork) → Type 0
Above r rows = AllByRecursion (λ k. nat_cmp r k ≡ Less) (keys_of rows)

-- a reference that no open has is at no row
pub fresh_row : (rows : List (ℕ × OpenFork)) (r : ℕ) → has_reference (plain_opens rows) r ≡ false → at nat_cmp rows r ≡ None
fresh_row [] r f = refl
fresh_row (e ∷ es) r f = elim (nat_cmp r e.0) as (λ o. nat_cmp r e.0 ≡ o → cond (is_eq o) (Some e.1) (at nat_cmp es r) ≡ None) [
  | Less ↦ λ is. fresh_row es r (right_false (e.0 == r) (has_reference (plain_opens es) r) f)
  | Equal ↦ λ is. absurd (let one = nat_cmp_equal r e.0 is in let not_here = left_false (e.0 == r) (has_reference (plain_opens es) r) f in grind (arith, nat_tests, one, not_here))
  | Greater ↦ λ is. fresh_row es r (right_false (e.0 == r) (has_reference (plain_opens es) r) f)
] refl

-- what the edits show
pub shows_new : (rows : List (ℕ × OpenFork)) (r : ℕ) (v : OpenFork) → at nat_cmp rows r ≡ None → plain_opens (insert_entry nat_cmp rows r v) ≡ with_noted (plain_open (r, v)) (plain_opens rows)
shows_new [] r v none = refl
shows_new (e ∷ es) r v none = elim (nat_cmp r e.0) as (λ o. nat_cmp r e.0 ≡ o → cond (is_eq o) (Some e.1) (at nat_cmp es r) ≡ None
    → plain_opens (match_ordering o ((r, v) ∷ e ∷ es) ((e.0, v) ∷ es) (e ∷ insert_entry nat_cmp es r v)) ≡ with_noted (plain_open (r, v)) (plain_opens (e ∷ es))) [
      | Less ↦ λ is none. ap (λ b. if b then plain_open (r, v) ∷ plain_opens (e ∷ es) else plain_open e ∷ with_noted (plain_open (r, v)) (plain_opens es)) (let h = nat_cmp_less r e.0 is in let t : true ≡ nat_lt r e.0 = grind (arith, nat_tests) in t)
      | Equal ↦ λ is none. absurd (cc none)
      | Greater ↦ λ is none. ap (λ l. plain_open e ∷ l) (shows_new es r v none)
          ∙ ap (λ b. if b then plain_open (r, v) ∷ plain_opens (e ∷ es) else plain_open e ∷ with_noted (plain_open (r, v)) (plain_opens es)) (let h = nat_cmp_greater r e.0 is in let t : false ≡ nat_lt r e.0 = grind (arith, nat_tests) in t)
    ] refl none

none_left : (r : ℕ) (rows : List (ℕ × OpenFork)) → Above r rows → without_reference r (plain_opens rows) ≡ plain_opens rows
none_left r [] a = refl
none_left r (e ∷ es) a =
    ap (λ b. if not b then plain_open e ∷ without_reference r (plain_opens es) else without_reference r (plain_opens es)) (let h = nat_cmp_less r e.0 a.0 in let t : (e.0 == r) ≡ false = grind (arith, nat_tests) in t)
    ∙ ap (λ l. plain_open e ∷ l) (none_left r es a.1)

pub shows_less : (rows : List (ℕ × OpenFork)) (r : ℕ) → Rise rows → plain_opens (remove_entry (is_at (nat_cmp r)) rows) ≡ without_reference r (plain_opens rows)
unfolding IsStrictlySortedBy
shows_less [] r s = refl
shows_less (e ∷ es) r s = elim (nat_cmp r e.0) as (λ o. nat_cmp r e.0 ≡ o → plain_opens (cond (is_eq o) es (e ∷ remove_entry (is_at (nat_cmp r)) es)) ≡ without_reference r (plain_opens (e ∷ es))) [
  | Less ↦ λ is. ap (λ l. plain_open e ∷ l) (shows_less es r s.1) ∙ kept (let h = nat_cmp_less r e.0 is in let t : (e.0 == r) ≡ false = grind (arith, nat_tests) in t)
  | Equal ↦ λ is.
      let one = nat_cmp_equal r e.0 is in
      sym (none_left r es (subst (λ k. Above k es) (sym one) s.0))
      ∙ ap (λ b. if not b then plain_open e ∷ without_reference r (plain_opens es) else without_reference r (plain_opens es)) (let t : true ≡ (e.0 == r) = grind (arith, nat_tests, one) in t)
  | Greater ↦ λ is. ap (λ l. plain_open e ∷ l) (shows_less es r s.1) ∙ kept (let h = nat_cmp_greater r e.0 is in let t : (e.0 == r) ≡ false = grind (arith, nat_tests) in t)
] refl
  where
    kept : (e.0 == r) ≡ false → plain_open e ∷ without_reference r (plain_opens es) ≡ without_reference r (plain_opens (e ∷ es))
    kept other = ap (λ b. if not b then plain_open e ∷ without_reference r (plain_opens es) else without_reference r (plain_opens es)) (sym other)

-- ---- the lowest free reference
-- a row behind a number is as much above it as there are rows between
above_at : (rows : List (ℕ × OpenFork)) (j n : ℕ) (d : ℕ × OpenFork) → Above n rows → Rise rows → j < length rows → n + j + 1 ≤ (slice_index_or rows j d).0
unfolding IsStrictlySortedBy
above_at [] j n d a s h = absurd (omega (arith, h))
above_at (e ∷ es) zero n d a s h = let low = nat_cmp_less n e.0 a.0 in omega (arith, low)
above_at (e ∷ es) (suc j) n d a s h = let more = above_at es j e.0 d s.0 s.1 (omega (arith, h)) in let low = nat_cmp_less n e.0 a.0 in omega (arith, more, low)

-- of two rows the one behind is as much above as there are rows between
steps : (rows : List (ℕ × OpenFork)) (i j : ℕ) (d : ℕ × OpenFork) → Rise rows → i ≤ j → j < length rows → (slice_index_or rows i d).0 + j ≤ (slice_index_or rows j d).0 + i
unfolding IsStrictlySortedBy
steps [] i j d s le h = absurd (omega (arith, h))
steps (e ∷ es) zero zero d s le h = omega arith
steps (e ∷ es) zero (suc j) d s le h = let more = above_at es j e.0 d s.0 s.1 (omega (arith, h)) in omega (arith, more)
steps (e ∷ es) (suc i) zero d s le h = absurd (omega (arith, le))
steps (e ∷ es) (suc i) (suc j) d s le h = let more = steps es i j d s.1 (omega (arith, le)) (omega (arith, h)) in omega (arith, more)

-- a reference is at least its place, from 1
at_least : (rows : List (ℕ × OpenFork)) (k : ℕ) (d : ℕ × OpenFork) → Rise rows → list_all (λ row. nat_lt 0 row.0) rows ≡ true → k < length rows → k + 1 ≤ (slice_index_or rows k d).0
at_least [] k d s one h = absurd (omega (arith, h))
at_least (e ∷ es) k d s one h =
    let first : 0 < e.0 = (let t = (and_parts (nat_lt 0 e.0) (list_all (λ row. nat_lt 0 row.0) es) one).0 in grind (arith, nat_tests, t)) in
    let more = steps (e ∷ es) 0 k d s (omega arith) h in omega (arith, first, more)

-- before the one place each reference is its place, from 1; from the other on each is above its place
pub record AreHalved (rows : List (ℕ × OpenFork)) (low high : ℕ) : Type 0 where
  pub order : low ≤ high
  pub within : high ≤ length rows
  pub front : (k : ℕ) (d : ℕ × OpenFork) → k < low → (slice_index_or rows k d).0 ≡ k + 1
  pub rest : (k : ℕ) (d : ℕ × OpenFork) → high ≤ k → k < length rows → k + 1 < (slice_index_or rows k d).0

pub halved_whole : (rows : List (ℕ × OpenFork)) → AreHalved rows 0 (length rows)
halved_whole rows = record { order = omega arith; within = omega arith; front = λ k d less. absurd (omega (arith, less)); rest = λ k d low less. absurd (omega (arith, low, less)) }

module _ (rows : List (ℕ × OpenFork)) (s : Rise rows) (one : list_all (λ row. nat_lt 0 row.0) rows ≡ true) where
  pub halved_up : (low high middle : ℕ) (row : ℕ × OpenFork) → AreHalved rows low high → middle < high → (slice_index_or rows middle row).0 ≡ middle + 1 → AreHalved rows (middle + 1) high
  halved_up low high middle row h less is = record {
    order = omega (arith, less);
    within = h.within;
    front = λ k d below.
        let inside : middle < length rows = omega (arith, h.within, less) in
        let here : (slice_index_or rows middle d).0 ≡ middle + 1 = ap (λ (e : ℕ × OpenFork). e.0) (get_or_default rows middle d row inside) ∙ is in
        let up = steps rows k middle d s (omega (arith, below)) inside in
        let low = at_least rows k d s one (omega (arith, below, inside)) in
        omega (arith, here, up, low);
    rest = h.rest;
  }

  pub halved_down : (low high middle : ℕ) (row : ℕ × OpenFork) → AreHalved rows low high → low ≤ middle → middle < high → ((slice_index_or rows middle row).0 ≡ middle + 1 → ⊥) → AreHalved rows low middle
  halved_down low high middle row h more less other = record {
    order = more;
    within = omega (arith, h.within, less);
    front = h.front;
    rest = λ k d above inside.
        let there : middle < length rows = omega (arith, h.within, less) in
        let same : (slice_index_or rows middle d).0 ≡ (slice_index_or rows middle row).0 = ap (λ (e : ℕ × OpenFork). e.0) (get_or_default rows middle d row there) in
        let up = steps rows middle k d s above inside in
        let low = at_least rows middle d s one there in
        omega (arith, same, up, low, other);
  }

pub is_lowest : (rows : List (ℕ × OpenFork)) (low high : ℕ) → AreHalved rows low high → high ≤ low → IsLowestFree rows (low + 1)
is_lowest rows low high h end = record {
  first = omega arith;
  free = elim (cases_Bool (is_open_reference rows (low + 1))) [
    | inl found ↦ absurd (
        let f = Any-from_list_any (λ (row : ℕ × OpenFork). row.0 == low + 1) rows found in
        let number : f.1.0 ≡ low + 1 = eqb-true f.1.0 (low + 1) f.4 in
        let there : (slice_index_or rows f.0 f.1).0 ≡ low + 1 = ap (λ (e : ℕ × OpenFork). e.0) f.3 ∙ number in
        elim (cases_lt f.0 low) [
          | inl before ↦ let at_front = h.front f.0 f.1 before in omega (arith, there, at_front, before)
          | inr behind ↦ let at_rest = h.rest f.0 f.1 (omega (arith, h.order, end, behind)) f.2 in omega (arith, there, at_rest, behind)
        ])
    | inr none ↦ none
  ];
  lower = λ k from below. taken rows k (omega (arith, h.order, h.within, below)) from (λ d. h.front (k - 1) d (omega (arith, from, below)));
}
  where
    no_fork : Fork
    no_fork = record { volume = 0; node = 0; resource = false }

    no_row : ℕ × OpenFork
    no_row = (0, record { session = record { 0 = 0 }; fork = no_fork; mode = record { read = false; write = false; deny_read = false; deny_write = false } })

    taken : (rows : List (ℕ × OpenFork)) (k : ℕ) → k ≤ length rows → 1 ≤ k → ((d : ℕ × OpenFork) → (slice_index_or rows (k - 1) d).0 ≡ (k - 1) + 1) → is_open_reference rows k ≡ true
    taken rows k within from is =
        let here = is no_row in
        list_any_at (λ (row : ℕ × OpenFork). row.0 == k) rows (k - 1) no_row (omega (arith, within, from)) (let number : (slice_index_or rows (k - 1) no_row).0 ≡ k = omega (arith, here, from) in ap (λ n. n == k) number ∙ eqb-itself k)

-- ---- two forks change places
pub exchange_more : (a b : Fork) (first ys given new : List (ℕ × OpenFork)) (i : ℕ) (e : ℕ × OpenFork) (f : Fork) → i < length first → ys ≡ map (exchange_row a b) (take i first) ++ drop i first → given ≡ ys → e ≡ slice_index_or given i e → f ≡ in_exchange a b e.1.fork
    → ((d : ℕ × OpenFork) → new ≡ slice_set ys i (with_new_value (slice_index_or ys i d) (record { session = e.1.session; fork = f; mode = e.1.mode }))) → new ≡ map (exchange_row a b) (take (i + 1) first) ++ drop (i + 1) first
exchange_more a b first ys given new i e f within ys_is given_is read f_is new_is =
    let there : e ≡ slice_index_or ys i e = read ∙ ap (λ l. slice_index_or l i e) given_is in
    let row : with_new_value (slice_index_or ys i e) (record { session = e.1.session; fork = f; mode = e.1.mode }) ≡ exchange_row a b e = (λ j. ((sym there j).0, record { session = e.1.session; fork = f_is j; mode = e.1.mode })) in
    new_is e ∙ ap (λ r. slice_set ys i r) row ∙ map_over_more (exchange_row a b) first ys i e within ys_is there
