-- Rows by rising reference, and the opens that they show.
use Rattle.std.proofs.Common.{◌≡◌, ◌∙◌, refl, sym, ap, subst, ℕ, ◌<◌, Bool, true, false, cond, not, ◌==◌, if◌then◌else◌, List, [], ◌∷◌, Some, None, arith}
use Rattle.std.specs.Prelude.{nat_lt}
use Rattle.std.specs.List.{AllByRecursion}
use Rattle.std.specs.List.Sorted.{IsStrictlySortedBy}
use Rattle.std.specs.Map.{keys_of, remove_entry}
use Rattle.std.specs.BTreeMap.{insert_entry, is_at}
use Rattle.std.specs.Ordering.{nat_cmp, is_eq, match_ordering}
use Rattle.std.specs.declared.cmp.Ordering.TheVariants.{Less, Equal, Greater}
use Rattle.std.proofs.lemmas.Bool.Decides.{nat_tests}
use Rattle.sorted_map.specs.map.Entries.{at}
use Rattle.deny_modes.specs.declared.opens.Opened.{Opened}
use Rattle.deny_modes.specs.Counters.{open_of, opens_of}
use Rattle.deny_modes.specs.Opens.{has_reference, with_noted, without_reference}
use Rattle.afp_base.proofs.Facts.{left_false, nat_cmp_equal, nat_cmp_greater, nat_cmp_less, right_false}

abbrev pub Rise : List (ℕ × Opened) → Type 0
Rise rows = IsStrictlySortedBy nat_cmp (keys_of rows)

abbrev Above : ℕ → List (ℕ × Opened) → Type 0
Above r rows = AllByRecursion (λ k. nat_cmp r k ≡ Less) (keys_of rows)

is_lower : (m n : ℕ) → m < n → nat_cmp m n ≡ Less
is_lower m n h = grind (arith, nat_tests)

still_above : (r k : ℕ) (rows : List (ℕ × Opened)) → nat_cmp r k ≡ Less → Above k rows → Above r rows
still_above r k [] h a = tt
still_above r k (e ∷ es) h a = (is_lower r e.0 (let x = nat_cmp_less r k h in let y = nat_cmp_less k e.0 a.0 in omega arith), still_above r k es h a.1)

none_above : (r : ℕ) (rows : List (ℕ × Opened)) → Above r rows → at nat_cmp rows r ≡ None
none_above r [] a = refl
none_above r (e ∷ es) a = ap (λ o. cond (is_eq o) (Some e.1) (at nat_cmp es r)) a.0 ∙ none_above r es a.1

put_first : (r : ℕ) (v : Opened) (rows : List (ℕ × Opened)) → Above r rows → insert_entry nat_cmp rows r v ≡ (r, v) ∷ rows
put_first r v [] a = refl
put_first r v (e ∷ es) a = ap (λ o. match_ordering o ((r, v) ∷ e ∷ es) ((e.0, v) ∷ es) (e ∷ insert_entry nat_cmp es r v)) a.0

-- a row that is taken out and put back
pub put_back : (rows : List (ℕ × Opened)) (r : ℕ) (v : Opened) → Rise rows → Some v ≡ at nat_cmp rows r → rows ≡ insert_entry nat_cmp (remove_entry (is_at (nat_cmp r)) rows) r v
unfolding IsStrictlySortedBy
put_back [] r v s found = absurd (cc found)
put_back (e ∷ es) r v s found = elim (nat_cmp r e.0) as (λ o. nat_cmp r e.0 ≡ o → Some v ≡ cond (is_eq o) (Some e.1) (at nat_cmp es r) → e ∷ es ≡ insert_entry nat_cmp (cond (is_eq o) es (e ∷ remove_entry (is_at (nat_cmp r)) es)) r v) [
  | Less ↦ λ is found. absurd (let none = none_above r es (still_above r e.0 es is s.0) in cc (found, none))
  | Equal ↦ λ is found.
      let one : r ≡ e.0 = nat_cmp_equal r e.0 is in
      let value : v ≡ e.1 = cc found in
      let first : (r, v) ≡ e = λ i. (one i, value i) in
      ap (λ x. x ∷ es) (sym first) ∙ sym (put_first r v es (subst (λ k. Above k es) (sym one) s.0))
  | Greater ↦ λ is found.
      ap (λ l. e ∷ l) (put_back es r v s.1 found)
      ∙ ap (λ o. match_ordering o ((r, v) ∷ e ∷ remove_entry (is_at (nat_cmp r)) es) ((e.0, v) ∷ remove_entry (is_at (nat_cmp r)) es) (e ∷ insert_entry nat_cmp (remove_entry (is_at (nat_cmp r)) es) r v)) (sym is)
] refl found

-- a new row is taken out again
pub out_again : (rows : List (ℕ × Opened)) (r : ℕ) (v : Opened) → at nat_cmp rows r ≡ None → remove_entry (is_at (nat_cmp r)) (insert_entry nat_cmp rows r v) ≡ rows
out_again [] r v none = ap (λ b. cond b [] ((r, v) ∷ [])) (let e : is_eq (nat_cmp r r) ≡ true = grind (arith, nat_tests) in e)
out_again (e ∷ es) r v none = elim (nat_cmp r e.0) as (λ o. nat_cmp r e.0 ≡ o → cond (is_eq o) (Some e.1) (at nat_cmp es r) ≡ None → remove_entry (is_at (nat_cmp r)) (match_ordering o ((r, v) ∷ e ∷ es) ((e.0, v) ∷ es) (e ∷ insert_entry nat_cmp es r v)) ≡ e ∷ es) [
  | Less ↦ λ is none. ap (λ b. cond b (e ∷ es) ((r, v) ∷ remove_entry (is_at (nat_cmp r)) (e ∷ es))) (let i : is_eq (nat_cmp r r) ≡ true = grind (arith, nat_tests) in i)
  | Equal ↦ λ is none. absurd (cc none)
  | Greater ↦ λ is none. ap (λ o. cond (is_eq o) (insert_entry nat_cmp es r v) (e ∷ remove_entry (is_at (nat_cmp r)) (insert_entry nat_cmp es r v))) is ∙ ap (λ l. e ∷ l) (out_again es r v none)
] refl none

-- a reference that no open has is at no row
pub fresh_row : (rows : List (ℕ × Opened)) (r : ℕ) → has_reference (opens_of rows) r ≡ false → at nat_cmp rows r ≡ None
fresh_row [] r f = refl
fresh_row (e ∷ es) r f = elim (nat_cmp r e.0) as (λ o. nat_cmp r e.0 ≡ o → cond (is_eq o) (Some e.1) (at nat_cmp es r) ≡ None) [
  | Less ↦ λ is. fresh_row es r (right_false (e.0 == r) (has_reference (opens_of es) r) f)
  | Equal ↦ λ is. absurd (let one = nat_cmp_equal r e.0 is in let not_here = left_false (e.0 == r) (has_reference (opens_of es) r) f in grind (arith, nat_tests, one, not_here))
  | Greater ↦ λ is. fresh_row es r (right_false (e.0 == r) (has_reference (opens_of es) r) f)
] refl

-- what the edits show
pub shows_new : (rows : List (ℕ × Opened)) (r : ℕ) (v : Opened) → at nat_cmp rows r ≡ None → opens_of (insert_entry nat_cmp rows r v) ≡ with_noted (open_of (r, v)) (opens_of rows)
shows_new [] r v none = refl
shows_new (e ∷ es) r v none = elim (nat_cmp r e.0) as (λ o. nat_cmp r e.0 ≡ o → cond (is_eq o) (Some e.1) (at nat_cmp es r) ≡ None
    → opens_of (match_ordering o ((r, v) ∷ e ∷ es) ((e.0, v) ∷ es) (e ∷ insert_entry nat_cmp es r v)) ≡ with_noted (open_of (r, v)) (opens_of (e ∷ es))) [
      | Less ↦ λ is none. ap (λ b. if b then open_of (r, v) ∷ opens_of (e ∷ es) else open_of e ∷ with_noted (open_of (r, v)) (opens_of es)) (let h = nat_cmp_less r e.0 is in let t : true ≡ nat_lt r e.0 = grind (arith, nat_tests) in t)
      | Equal ↦ λ is none. absurd (cc none)
      | Greater ↦ λ is none. ap (λ l. open_of e ∷ l) (shows_new es r v none)
          ∙ ap (λ b. if b then open_of (r, v) ∷ opens_of (e ∷ es) else open_of e ∷ with_noted (open_of (r, v)) (opens_of es)) (let h = nat_cmp_greater r e.0 is in let t : false ≡ nat_lt r e.0 = grind (arith, nat_tests) in t)
    ] refl none

none_left : (r : ℕ) (rows : List (ℕ × Opened)) → Above r rows → without_reference r (opens_of rows) ≡ opens_of rows
none_left r [] a = refl
none_left r (e ∷ es) a =
    ap (λ b. if not b then open_of e ∷ without_reference r (opens_of es) else without_reference r (opens_of es)) (let h = nat_cmp_less r e.0 a.0 in let t : (e.0 == r) ≡ false = grind (arith, nat_tests) in t)
    ∙ ap (λ l. open_of e ∷ l) (none_left r es a.1)

pub shows_less : (rows : List (ℕ × Opened)) (r : ℕ) → Rise rows → opens_of (remove_entry (is_at (nat_cmp r)) rows) ≡ without_reference r (opens_of rows)
unfolding IsStrictlySortedBy
shows_less [] r s = refl
shows_less (e ∷ es) r s = elim (nat_cmp r e.0) as (λ o. nat_cmp r e.0 ≡ o → opens_of (cond (is_eq o) es (e ∷ remove_entry (is_at (nat_cmp r)) es)) ≡ without_reference r (opens_of (e ∷ es))) [
  | Less ↦ λ is. ap (λ l. open_of e ∷ l) (shows_less es r s.1) ∙ kept (let h = nat_cmp_less r e.0 is in let t : (e.0 == r) ≡ false = grind (arith, nat_tests) in t)
  | Equal ↦ λ is.
      let one = nat_cmp_equal r e.0 is in
      sym (none_left r es (subst (λ k. Above k es) (sym one) s.0))
      ∙ ap (λ b. if not b then open_of e ∷ without_reference r (opens_of es) else without_reference r (opens_of es)) (let t : true ≡ (e.0 == r) = grind (arith, nat_tests, one) in t)
  | Greater ↦ λ is. ap (λ l. open_of e ∷ l) (shows_less es r s.1) ∙ kept (let h = nat_cmp_greater r e.0 is in let t : (e.0 == r) ≡ false = grind (arith, nat_tests) in t)
] refl
  where
    kept : (e.0 == r) ≡ false → open_of e ∷ without_reference r (opens_of es) ≡ without_reference r (opens_of (e ∷ es))
    kept other = ap (λ b. if not b then open_of e ∷ without_reference r (opens_of es) else without_reference r (opens_of es)) (sym other)

pub nothing_out : (rows : List (ℕ × Opened)) (r : ℕ) → at nat_cmp rows r ≡ None → remove_entry (is_at (nat_cmp r)) rows ≡ rows
nothing_out [] r none = refl
nothing_out (e ∷ es) r none = elim (is_eq (nat_cmp r e.0)) as (λ b. cond b (Some e.1) (at nat_cmp es r) ≡ None → cond b es (e ∷ remove_entry (is_at (nat_cmp r)) es) ≡ e ∷ es) [
  | true ↦ λ none. absurd (cc none)
  | false ↦ λ none. ap (λ l. e ∷ l) (nothing_out es r none)
] none

-- the references stay low
pub low_new : (P : ℕ → Type 0) (rows : List (ℕ × Opened)) (r : ℕ) (v : Opened) → P r → AllByRecursion P (keys_of rows) → AllByRecursion P (keys_of (insert_entry nat_cmp rows r v))
low_new P [] r v p a = (p, tt)
low_new P (e ∷ es) r v p a = elim (nat_cmp r e.0) as (λ o. AllByRecursion P (keys_of (match_ordering o ((r, v) ∷ e ∷ es) ((e.0, v) ∷ es) (e ∷ insert_entry nat_cmp es r v)))) [
  | Less ↦ (p, a)
  | Equal ↦ a
  | Greater ↦ (a.0, low_new P es r v p a.1)
]

pub low_less : (P : ℕ → Type 0) (test : ℕ → Bool) (rows : List (ℕ × Opened)) → AllByRecursion P (keys_of rows) → AllByRecursion P (keys_of (remove_entry test rows))
low_less P test [] a = tt
low_less P test (e ∷ es) a = elim (test e.0) as (λ b. AllByRecursion P (keys_of (cond b es (e ∷ remove_entry test es)))) [ true ↦ a.1 | false ↦ (a.0, low_less P test es a.1) ]
