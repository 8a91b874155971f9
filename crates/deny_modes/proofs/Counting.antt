-- The tallies tell what the list of opens tells, after each call.
use Rattle.std.proofs.Common.{◌≡◌, ◌∙◌, refl, sym, ap, subst, ℕ, suc, ◌+◌, ◌-◌, ◌<◌, ◌≤◌, Bool, true, false, cond, not, ◌&&◌, ◌||◌, ◌==◌, if◌then◌else◌, List, [], ◌∷◌, ◌++◌, length, map, filter, take, drop, Option, Some, None, unwrap_or, arith}
use Rattle.std.specs.Prelude.{nat_lt, Result, Ok, Err, OnOk, OnErr, slice_index_or, slice_set}
use Rattle.std.specs.List.{list_any, AllByRecursion}
use Rattle.std.specs.Map.{keys_of, update, remove_entry}
use Rattle.std.specs.BTreeMap.{insert_entry, is_at}
use Rattle.std.specs.Ordering.{nat_cmp, is_eq, eq_by_cmp}
use Rattle.std.proofs.lemmas.Bool.Decides.{nat_tests}
use Rattle.std.proofs.lemmas.List.Edits.{map_over_more}
use Rattle.std.proofs.lemmas.List.Elements.{All-from_recursion}
use Rattle.std.proofs.lemmas.Map.Views.{length-le_from_below}
use Rattle.std.proofs.lemmas.Bool.{and_from, and_parts, not-true, or_parts}
use mathlib.Core.Bool.{false≢true}
use Rattle.afp_base.specs.DenyMode.{Access, Fork, is_one_fork, is_clash}
use Rattle.sorted_map.specs.map.Entries.{at, exchanged, with_new_value}
use Rattle.deny_modes.specs.declared.opens.Opened.{Opened}
use Rattle.deny_modes.specs.declared.opens.ForkTally.{ForkTally}
use Rattle.afp_base.specs.Apart.{are_apart}
use Rattle.deny_modes.specs.lemma.ForkOrder.{fork_cmp}
use Rattle.deny_modes.specs.Opens.{Open, has_reference, has_conflict, is_fork_open, with_noted, without_reference, in_exchange, exchange_open, exchanged_opens, count_of, counts_of, are_in_conflict}
use Rattle.deny_modes.specs.Counters.{open_of, opens_of}
use Rattle.deny_modes.specs.lemma.Counters.{tally_of, IsTallied, clash_with, bit, tally_with, tally_without, no_tally, CanCount, HasOpen, exchange_row}
use Rattle.deny_modes.proofs.Forks.{order_tells, either_way, crosses, both_cross, found_crossed}
use Rattle.deny_modes.proofs.Rows.{Rise, put_back, out_again, fresh_row, shows_new, shows_less, nothing_out, low_new, low_less}
use Rattle.afp_base.proofs.Facts.{and-false, or_swap}
use Rattle.afp_base.proofs.ListFacts.{any-same, apart-filter, length-filter-le, any-map}
use Rattle.afp_base.proofs.Forks.{one_fork-itself, same_fork}

-- ---- filters and tests of a list with one more
len_new : (p : Open → Bool) (new : Open) (os : List Open) → length (filter p (with_noted new os)) ≡ bit (p new) + length (filter p os)
len_new p new [] = elim (p new) as (λ b. length (if b then new ∷ [] else []) ≡ bit b + 0) [ true ↦ omega arith | false ↦ omega arith ]
len_new p new (o ∷ os) = elim (nat_lt new.reference o.reference) as (λ b. length (filter p (if b then new ∷ o ∷ os else o ∷ with_noted new os)) ≡ bit (p new) + length (filter p (o ∷ os))) [
  | true ↦ elim (p new) as (λ b. length (if b then new ∷ filter p (o ∷ os) else filter p (o ∷ os)) ≡ bit b + length (filter p (o ∷ os))) [ true ↦ omega arith | false ↦ omega arith ]
  | false ↦ let more = len_new p new os in
      elim (p o) as (λ b. length (if b then o ∷ filter p (with_noted new os) else filter p (with_noted new os)) ≡ bit (p new) + length (if b then o ∷ filter p os else filter p os)) [ true ↦ omega (arith, more) | false ↦ more ]
]

any_new : (p : Open → Bool) (new : Open) (os : List Open) → list_any p (with_noted new os) ≡ (p new || list_any p os)
any_new p new [] = refl
any_new p new (o ∷ os) = elim (nat_lt new.reference o.reference) as (λ b. list_any p (if b then new ∷ o ∷ os else o ∷ with_noted new os) ≡ (p new || (p o || list_any p os))) [
  | true ↦ refl
  | false ↦ ap (λ t. p o || t) (any_new p new os) ∙ or_swap (p o) (p new) (list_any p os)
]

some_left : (p : Open → Bool) (os : List Open) → nat_lt 0 (length (filter p os)) ≡ list_any p os
some_left p [] = refl
some_left p (o ∷ os) = elim (p o) as (λ b. nat_lt 0 (length (if b then o ∷ filter p os else filter p os)) ≡ (b || list_any p os)) [
  | true ↦ let n = length (filter p os) in let t : nat_lt 0 (suc n) ≡ true = grind (arith, nat_tests) in t
  | false ↦ some_left p os
]

none_left : (p : Open → Bool) (os : List Open) → list_any p os ≡ false → length (filter p os) ≡ 0
none_left p os none = let n = length (filter p os) in let t : nat_lt 0 n ≡ false = some_left p os ∙ none in grind (arith, nat_tests, t)

none_both : (p q : Open → Bool) (os : List Open) → list_any p os ≡ false → list_any (λ o. p o && q o) os ≡ false
none_both p q [] none = refl
none_both p q (o ∷ os) none = let parts = or_parts (p o) (list_any p os) none in (λ i. (parts.0 i && q o) || none_both p q os parts.1 i)

-- ---- what a fork's opens come to
abbrev full : List Open → Fork → ForkTally
full os q = record { counts = counts_of os q; opens = length (filter (λ o. is_one_fork o.fork q) os) }

sum_and : (has : Access → Bool) (new : Open) (os : List Open) (q : Fork) → is_one_fork new.fork q ≡ true → count_of has q (with_noted new os) ≡ count_of has q os + bit (has new.access)
sum_and has new os q same =
    let more = len_new (λ o. is_one_fork o.fork q && has o.access) new os in
    let here : bit (is_one_fork new.fork q && has new.access) ≡ bit (has new.access) = ap (λ b. bit (b && has new.access)) same in
    omega (arith, more, here)

same_count : (has : Access → Bool) (new : Open) (os : List Open) (q : Fork) → is_one_fork new.fork q ≡ false → count_of has q (with_noted new os) ≡ count_of has q os
same_count has new os q other =
    let more = len_new (λ o. is_one_fork o.fork q && has o.access) new os in
    let here : bit (is_one_fork new.fork q && has new.access) ≡ 0 = ap (λ b. bit (b && has new.access)) other in
    omega (arith, more, here)

full_new : (new : Open) (os : List Open) (q : Fork) → is_one_fork new.fork q ≡ true → full (with_noted new os) q ≡ tally_with (full os q) new.access
full_new new os q same =
    let more = len_new (λ o. is_one_fork o.fork q) new os in
    let here : bit (is_one_fork new.fork q) ≡ 1 = ap bit same in
    let all : length (filter (λ o. is_one_fork o.fork q) (with_noted new os)) ≡ length (filter (λ o. is_one_fork o.fork q) os) + 1 = omega (arith, more, here) in
    λ i. record {
      counts = sum_and (λ a. a.read) new os q same i ∷ sum_and (λ a. a.write) new os q same i ∷ sum_and (λ a. a.deny_read) new os q same i ∷ sum_and (λ a. a.deny_write) new os q same i ∷ [];
      opens = all i;
    }

full_other : (new : Open) (os : List Open) (q : Fork) → is_one_fork new.fork q ≡ false → full (with_noted new os) q ≡ full os q
full_other new os q other =
    let more = len_new (λ o. is_one_fork o.fork q) new os in
    let here : bit (is_one_fork new.fork q) ≡ 0 = ap bit other in
    let all : length (filter (λ o. is_one_fork o.fork q) (with_noted new os)) ≡ length (filter (λ o. is_one_fork o.fork q) os) = omega (arith, more, here) in
    λ i. record {
      counts = same_count (λ a. a.read) new os q other i ∷ same_count (λ a. a.write) new os q other i ∷ same_count (λ a. a.deny_read) new os q other i ∷ same_count (λ a. a.deny_write) new os q other i ∷ [];
      opens = all i;
    }

over_again : (n k : ℕ) → n + k - k ≡ n
over_again n k = omega arith

taken_off : (os : List Open) (q : Fork) (m : Access) → tally_without (tally_with (full os q) m) m ≡ full os q
taken_off os q m = λ i. record {
  counts = over_again (count_of (λ a. a.read) q os) (bit m.read) i ∷ over_again (count_of (λ a. a.write) q os) (bit m.write) i ∷ over_again (count_of (λ a. a.deny_read) q os) (bit m.deny_read) i ∷ over_again (count_of (λ a. a.deny_write) q os) (bit m.deny_write) i ∷ [];
  opens = over_again (length (filter (λ o. is_one_fork o.fork q) os)) 1 i;
}

-- a fork with no open has no counts
unwrapped : (os : List Open) (q : Fork) → unwrap_or (tally_of os q) no_tally ≡ full os q
unwrapped os q = elim (is_fork_open os q) as (λ b. is_fork_open os q ≡ b → unwrap_or (if b then Some (full os q) else None) no_tally ≡ full os q) [
  | true ↦ λ is. refl
  | false ↦ λ none.
      let on = λ (o : Open). is_one_fork o.fork q in
      let zero_of : (has : Access → Bool) → 0 ≡ count_of has q os = λ has. sym (none_left (λ o. is_one_fork o.fork q && has o.access) os (none_both on (λ o. has o.access) os none)) in
      λ i. record { counts = zero_of (λ a. a.read) i ∷ zero_of (λ a. a.write) i ∷ zero_of (λ a. a.deny_read) i ∷ zero_of (λ a. a.deny_write) i ∷ []; opens = sym (none_left on os none) i }
] refl

-- ---- the counters tell a conflict
swap4 : (p P q Q : Bool) → ((p || P) || (q || Q)) ≡ ((p || q) || (P || Q))
swap4 true P q Q = refl
swap4 false true true Q = refl
swap4 false true false Q = refl
swap4 false false q Q = refl

or_assoc : (a b c : Bool) → ((a || b) || c) ≡ (a || (b || c))
or_assoc true b c = refl
or_assoc false b c = refl

spread : (x p P : Bool) → (x && (p || P)) ≡ ((p && x) || (x && P))
spread true true P = refl
spread true false P = refl
spread false true P = refl
spread false false P = refl

turn : (x p : Bool) → (p && x) ≡ (x && p)
turn true true = refl
turn true false = refl
turn false true = refl
turn false false = refl

abbrev uses : (Access → Bool) → Fork → List Open → Bool
uses has q os = list_any (λ o. is_one_fork o.fork q && has o.access) os

abbrev clash_any : List Open → Fork → Access → Bool
clash_any os q a = (((a.deny_read && uses (λ m. m.read) q os) || (a.deny_write && uses (λ m. m.write) q os)) || (a.read && uses (λ m. m.deny_read) q os)) || (a.write && uses (λ m. m.deny_write) q os)

counted_any : (os : List Open) (q : Fork) (a : Access) → clash_with (counts_of os q) a ≡ clash_any os q a
counted_any os q a = λ i. (((a.deny_read && some_left (λ o. is_one_fork o.fork q && o.access.read) os i) || (a.deny_write && some_left (λ o. is_one_fork o.fork q && o.access.write) os i))
    || (a.read && some_left (λ o. is_one_fork o.fork q && o.access.deny_read) os i)) || (a.write && some_left (λ o. is_one_fork o.fork q && o.access.deny_write) os i)

clash_more : (o a : Access) (R W D E : Bool) → ((((a.deny_read && (o.read || R)) || (a.deny_write && (o.write || W))) || (a.read && (o.deny_read || D))) || (a.write && (o.deny_write || E)))
    ≡ (is_clash o a || ((((a.deny_read && R) || (a.deny_write && W)) || (a.read && D)) || (a.write && E)))
clash_more o a R W D E =
    let p0 = o.read && a.deny_read in
    let p1 = o.write && a.deny_write in
    let p2 = o.deny_read && a.read in
    let p3 = o.deny_write && a.write in
    let P0 = a.deny_read && R in
    let P1 = a.deny_write && W in
    let P2 = a.read && D in
    let P3 = a.write && E in
    (λ i. ((spread a.deny_read o.read R i || spread a.deny_write o.write W i) || spread a.read o.deny_read D i) || spread a.write o.deny_write E i)
    ∙ ap (λ t. (t || (p2 || P2)) || (p3 || P3)) (swap4 p0 P0 p1 P1)
    ∙ ap (λ t. t || (p3 || P3)) (swap4 (p0 || p1) (P0 || P1) p2 P2)
    ∙ swap4 ((p0 || p1) || p2) ((P0 || P1) || P2) p3 P3
    ∙ ap (λ t. t || (((P0 || P1) || P2) || P3)) (or_assoc (p0 || p1) p2 p3 ∙ (λ i. (p0 || p1) || (turn a.read o.deny_read i || turn a.write o.deny_write i)))

clash_is : (os : List Open) (q : Fork) (a : Access) → clash_any os q a ≡ has_conflict os q a
clash_is [] q a = none a.deny_read a.deny_write a.read a.write
  where
    none : (w x y z : Bool) → ((((w && false) || (x && false)) || (y && false)) || (z && false)) ≡ false
    none w x y z = λ i. (((and-false w i || and-false x i) || and-false y i) || and-false z i)
clash_is (o ∷ os) q a = elim (is_one_fork o.fork q) as (λ b.
    ((((a.deny_read && ((b && o.access.read) || uses (λ m. m.read) q os)) || (a.deny_write && ((b && o.access.write) || uses (λ m. m.write) q os))) || (a.read && ((b && o.access.deny_read) || uses (λ m. m.deny_read) q os))) || (a.write && ((b && o.access.deny_write) || uses (λ m. m.deny_write) q os)))
    ≡ ((b && is_clash o.access a) || has_conflict os q a)) [
      | true ↦ clash_more o.access a (uses (λ m. m.read) q os) (uses (λ m. m.write) q os) (uses (λ m. m.deny_read) q os) (uses (λ m. m.deny_write) q os) ∙ ap (λ t. is_clash o.access a || t) (clash_is os q a)
      | false ↦ clash_is os q a
    ]

some_is : (os : List Open) (q : Fork) (t : ForkTally) → Some t ≡ tally_of os q → (t ≡ full os q) × (is_fork_open os q ≡ true)
some_is os q t found = elim (is_fork_open os q) as (λ b. is_fork_open os q ≡ b → Some t ≡ (if b then Some (full os q) else None) → (t ≡ full os q) × (is_fork_open os q ≡ true)) [
  | true ↦ λ is found. (cc found, is)
  | false ↦ λ is found. absurd (cc found)
] refl found

none_is : (os : List Open) (q : Fork) → None ≡ tally_of os q → is_fork_open os q ≡ false
none_is os q found = elim (is_fork_open os q) as (λ b. None ≡ (if b then Some (full os q) else None) → b ≡ false) [ true ↦ λ found. absurd (cc found) | false ↦ λ found. refl ] found

module _ {rows : List (ℕ × Opened)} {tallies : List (Fork × ForkTally)} (w : IsTallied rows tallies) where
  pub told_some : {whole : List Open} (f : Fork) (a : Access) (t : ForkTally) → opens_of rows ≡ whole → Some t ≡ at fork_cmp tallies f → (b : Bool) → b ≡ clash_with t.counts a → not b ≡ not (has_conflict whole f a)
  told_some f a t shown found b is =
      let t_is = (some_is (opens_of rows) f t (found ∙ w.tallied f)).0 in
      ap not (is ∙ (λ i. clash_with (t_is i).counts a) ∙ counted_any (opens_of rows) f a ∙ clash_is (opens_of rows) f a ∙ ap (λ l. has_conflict l f a) shown)

  pub told_none : {whole : List Open} (f : Fork) (a : Access) → opens_of rows ≡ whole → None ≡ at fork_cmp tallies f → true ≡ not (has_conflict whole f a)
  told_none f a shown found =
      let none = none_is (opens_of rows) f (found ∙ w.tallied f) in
      ap not (sym (none_both (λ o. is_one_fork o.fork f) (λ o. is_clash o.access a) (opens_of rows) none) ∙ ap (λ l. has_conflict l f a) shown)

  len_rows : Rise rows → length (opens_of rows) ≤ 65536
  len_rows s =
      let low = length-le_from_below 65536 (keys_of rows) s (All-from_recursion (λ k. k < 65536) (keys_of rows) w.low) in
      omega (arith, low, len_map rows, len_keys rows)
    where
      len_map : (rows : List (ℕ × Opened)) → length (opens_of rows) ≡ length rows
      len_map [] = refl
      len_map (e ∷ es) = ap suc (len_map es)

      len_keys : (rows : List (ℕ × Opened)) → length (keys_of rows) ≡ length rows
      len_keys [] = refl
      len_keys (e ∷ es) = ap suc (len_keys es)

  pub can_count : (f : Fork) → Rise rows → CanCount (unwrap_or (at fork_cmp tallies f) no_tally)
  can_count f s =
      let room = len_rows s in
      subst CanCount (sym (ap (λ o. unwrap_or o no_tally) (w.tallied f) ∙ unwrapped (opens_of rows) f)) (record {
        readers = omega (arith, room, length-filter-le (λ o. is_one_fork o.fork f && o.access.read) (opens_of rows));
        writers = omega (arith, room, length-filter-le (λ o. is_one_fork o.fork f && o.access.write) (opens_of rows));
        read_deniers = omega (arith, room, length-filter-le (λ o. is_one_fork o.fork f && o.access.deny_read) (opens_of rows));
        write_deniers = omega (arith, room, length-filter-le (λ o. is_one_fork o.fork f && o.access.deny_write) (opens_of rows));
        all = omega (arith, room, length-filter-le (λ o. is_one_fork o.fork f) (opens_of rows));
      })

-- ---- no two conflict

apart_new : (alike : Open → Open → Bool) (new : Open) (os : List Open) → ((a b : Open) → alike a b ≡ alike b a) → list_any (λ o. alike o new) os ≡ false → are_apart alike os ≡ true → are_apart alike (with_noted new os) ≡ true
apart_new alike new [] either none h = refl
apart_new alike new (o ∷ os) either none h =
    let parts = or_parts (alike o new) (list_any (λ x. alike x new) os) none in
    let rest = and_parts (not (list_any (alike o) os)) (are_apart alike os) h in
    elim (nat_lt new.reference o.reference) as (λ b. are_apart alike (if b then new ∷ o ∷ os else o ∷ with_noted new os) ≡ true) [
      | true ↦ and_from _ _ (ap not (any-same (alike new) (λ x. alike x new) (o ∷ os) (λ x. either new x) ∙ none)) h
      | false ↦ and_from _ _ (ap not (any_new (alike o) new os ∙ (λ i. parts.0 i || not-true (list_any (alike o) os) rest.0 i))) (apart_new alike new os either parts.1 rest.1)
    ]

any_filter : (p keep : Open → Bool) (os : List Open) → list_any p os ≡ false → list_any p (filter keep os) ≡ false
any_filter p keep [] none = refl
any_filter p keep (o ∷ os) none =
    let parts = or_parts (p o) (list_any p os) none in
    elim (keep o) as (λ b. list_any p (if b then o ∷ filter keep os else filter keep os) ≡ false) [ true ↦ (λ i. parts.0 i || any_filter p keep os parts.1 i) | false ↦ any_filter p keep os parts.1 ]

apart_map : (alike : Open → Open → Bool) (f : Open → Open) (os : List Open) → ((a b : Open) → alike (f a) (f b) ≡ alike a b) → are_apart alike (map f os) ≡ are_apart alike os
apart_map alike f [] same = refl
apart_map alike f (o ∷ os) same = λ i. not ((any-map (alike (f o)) f os ∙ any-same (λ x. alike (f o) (f x)) (alike o) os (same o)) i) && apart_map alike f os same i

clash_turns : (a b : Access) → is_clash a b ≡ is_clash b a
clash_turns a b = or_turns ((a.read && b.deny_read) || (a.write && b.deny_write)) ((b.read && a.deny_read) || (b.write && a.deny_write))
  where
    or_turns : (x y : Bool) → (x || y) ≡ (y || x)
    or_turns true true = refl
    or_turns true false = refl
    or_turns false true = refl
    or_turns false false = refl

conflict_turns : (a b : Open) → are_in_conflict a b ≡ are_in_conflict b a
conflict_turns a b = λ i. either_way a.fork b.fork i && clash_turns a.access b.access i

-- ---- each call
tally_new : (new : Open) (os : List Open) (q : Fork) (t : ForkTally) → t ≡ tally_with (full os new.fork) new.access → tally_of (with_noted new os) q ≡ cond (is_one_fork new.fork q) (Some t) (tally_of os q)
tally_new new os q t t_is = elim (is_one_fork new.fork q) as (λ b. is_one_fork new.fork q ≡ b → tally_of (with_noted new os) q ≡ cond b (Some t) (tally_of os q)) [
  | true ↦ λ same.
      let there : is_fork_open (with_noted new os) q ≡ true = any_new (λ o. is_one_fork o.fork q) new os ∙ ap (λ b. b || is_fork_open os q) same in
      (λ i. if there i then Some (full (with_noted new os) q) else None) ∙ ap Some (full_new new os q same ∙ ap (λ f. tally_with (full os f) new.access) (sym (same_fork new.fork q same)) ∙ sym t_is)
  | false ↦ λ other.
      let there : is_fork_open (with_noted new os) q ≡ is_fork_open os q = any_new (λ o. is_one_fork o.fork q) new os ∙ ap (λ b. b || is_fork_open os q) other in
      (λ i. if there i then Some (full_other new os q other i) else None)
] refl

pub record Noted (rows rows' : List (ℕ × Opened)) (tallies : List (Fork × ForkTally)) (whole : List Open) (r : ℕ) (v : Opened) : Type 0 where
  pub was : IsTallied rows tallies
  pub shown : opens_of rows ≡ whole
  pub fresh : has_reference whole r ≡ false
  pub free : has_conflict whole v.fork v.mode ≡ false
  pub new_rows : rows' ≡ insert_entry nat_cmp rows r v

module _ {rows rows' : List (ℕ × Opened)} {tallies : List (Fork × ForkTally)} {whole : List Open} {r : ℕ} {v : Opened} (n : Noted rows rows' tallies whole r v) where
  absent : at nat_cmp rows r ≡ None
  absent = fresh_row rows r (ap (λ l. has_reference l r) n.shown ∙ n.fresh)

  shown_new : opens_of rows' ≡ with_noted (open_of (r, v)) (opens_of rows)
  shown_new = ap opens_of n.new_rows ∙ shows_new rows r v absent

  pub noted_shows : opens_of rows' ≡ with_noted (record { reference = r; fork = v.fork; access = v.mode }) whole
  noted_shows = shown_new ∙ ap (with_noted (open_of (r, v))) n.shown

  pub noted_counted : {tallies' : List (Fork × ForkTally)} (t : ForkTally) → r < 65536 → t ≡ tally_with (unwrap_or (at fork_cmp tallies v.fork) no_tally) v.mode → ((q : Fork) → at fork_cmp tallies' q ≡ update (eq_by_cmp fork_cmp) (at fork_cmp tallies) v.fork (Some t) q) → IsTallied rows' tallies'
  noted_counted t low t_is updates = record {
    low = subst (λ l. AllByRecursion (λ k. k < 65536) (keys_of l)) (sym n.new_rows) (low_new (λ k. k < 65536) rows r v low n.was.low);
    tallied = λ q.
        let is : t ≡ tally_with (full (opens_of rows) v.fork) v.mode = t_is ∙ ap (λ o. tally_with (unwrap_or o no_tally) v.mode) (n.was.tallied v.fork) ∙ ap (λ x. tally_with x v.mode) (unwrapped (opens_of rows) v.fork) in
        updates q ∙ (λ i. cond (order_tells v.fork q i) (Some t) (n.was.tallied q i)) ∙ sym (ap (λ l. tally_of l q) shown_new ∙ tally_new (open_of (r, v)) (opens_of rows) q t is);
    apart = ap (are_apart are_in_conflict) shown_new
        ∙ apart_new are_in_conflict (open_of (r, v)) (opens_of rows) conflict_turns (ap (λ l. has_conflict l v.fork v.mode) n.shown ∙ n.free) n.was.apart;
  }

  pub undone : {rows'' : List (ℕ × Opened)} → rows'' ≡ remove_entry (is_at (nat_cmp r)) rows' → rows'' ≡ rows
  undone gone = gone ∙ ap (remove_entry (is_at (nat_cmp r))) n.new_rows ∙ out_again rows r v absent

-- a reference that is not there
pub nothing_gone : {rows' : List (ℕ × Opened)} (rows : List (ℕ × Opened)) (r : ℕ) → None ≡ at nat_cmp rows r → rows' ≡ remove_entry (is_at (nat_cmp r)) rows → rows' ≡ rows
nothing_gone rows r none gone = gone ∙ nothing_out rows r (sym none)

-- a key that is there can be given another value
pub put_over : {X Y : Type 0} (P : Type 0) (r : Result X Y) (t : ForkTally) (o : Option ForkTally) → Some t ≡ o → OnErr r (o ≡ None) → OnOk r P → P
put_over P (Ok x) t o found none p = p
put_over P (Err y) t o found none p = absurd (cc (found, none))

pub gone_there : (r : ℕ) (o : Option Opened) → cond (is_eq (nat_cmp r r)) None o ≡ None
gone_there r o = ap (λ b. cond b None o) (let e : is_eq (nat_cmp r r) ≡ true = grind (arith, nat_tests) in e)

pub gone_shows : {rows' : List (ℕ × Opened)} {whole : List Open} (rows : List (ℕ × Opened)) (r : ℕ) → Rise rows → opens_of rows ≡ whole → rows' ≡ remove_entry (is_at (nat_cmp r)) rows → opens_of rows' ≡ without_reference r whole
gone_shows rows r s shown gone = ap opens_of gone ∙ shows_less rows r s ∙ ap (without_reference r) shown

pub record Gone (rows rows' : List (ℕ × Opened)) (tallies : List (Fork × ForkTally)) (r : ℕ) (v : Opened) : Type 0 where
  pub was : IsTallied rows tallies
  pub rise : Rise rows
  pub found : Some v ≡ at nat_cmp rows r
  pub new_rows : rows' ≡ remove_entry (is_at (nat_cmp r)) rows
  pub absent : at nat_cmp rows' r ≡ None

module _ {rows rows' : List (ℕ × Opened)} {tallies : List (Fork × ForkTally)} {r : ℕ} {v : Opened} (g : Gone rows rows' tallies r v) where
  shown_old : opens_of rows ≡ with_noted (open_of (r, v)) (opens_of rows')
  shown_old = ap opens_of (put_back rows r v g.rise g.found ∙ ap (λ l. insert_entry nat_cmp l r v) (sym g.new_rows)) ∙ shows_new rows' r v g.absent

  was_open : is_fork_open (opens_of rows) v.fork ≡ true
  was_open = ap (λ l. is_fork_open l v.fork) shown_old ∙ any_new (λ o. is_one_fork o.fork v.fork) (open_of (r, v)) (opens_of rows') ∙ ap (λ b. b || is_fork_open (opens_of rows') v.fork) (one_fork-itself v.fork)

  was_full : full (opens_of rows) v.fork ≡ tally_with (full (opens_of rows') v.fork) v.mode
  was_full = ap (λ l. full l v.fork) shown_old ∙ full_new (open_of (r, v)) (opens_of rows') v.fork (one_fork-itself v.fork)

  pub no_tally_is_wrong : None ≡ at fork_cmp tallies v.fork → ⊥
  no_tally_is_wrong none = false≢true (sym (none_is (opens_of rows) v.fork (none ∙ g.was.tallied v.fork)) ∙ was_open)

  t_is : (t : ForkTally) → Some t ≡ at fork_cmp tallies v.fork → t ≡ tally_with (full (opens_of rows') v.fork) v.mode
  t_is t found = (some_is (opens_of rows) v.fork t (found ∙ g.was.tallied v.fork)).0 ∙ was_full

  pub has_open : (t : ForkTally) → Some t ≡ at fork_cmp tallies v.fork → HasOpen t v.mode
  has_open t found = subst (λ x. HasOpen x v.mode) (sym (t_is t found)) (record { reads = omega arith; writes = omega arith; denies_reading = omega arith; denies_writing = omega arith; is = omega arith })

  left_is : (t left : ForkTally) → Some t ≡ at fork_cmp tallies v.fork → left ≡ tally_without t v.mode → left ≡ full (opens_of rows') v.fork
  left_is t left found is = is ∙ ap (λ x. tally_without x v.mode) (t_is t found) ∙ taken_off (opens_of rows') v.fork v.mode

  others : (q : Fork) → is_one_fork v.fork q ≡ false → tally_of (opens_of rows) q ≡ tally_of (opens_of rows') q
  others q other =
      let there : is_fork_open (opens_of rows) q ≡ is_fork_open (opens_of rows') q = ap (λ l. is_fork_open l q) shown_old ∙ any_new (λ o. is_one_fork o.fork q) (open_of (r, v)) (opens_of rows') ∙ ap (λ b. b || is_fork_open (opens_of rows') q) other in
      let same : full (opens_of rows) q ≡ full (opens_of rows') q = ap (λ l. full l q) shown_old ∙ full_other (open_of (r, v)) (opens_of rows') q other in
      λ i. if there i then Some (same i) else None

  counted_gone : {tallies' : List (Fork × ForkTally)} (o : Option ForkTally) → o ≡ tally_of (opens_of rows') v.fork → ((q : Fork) → at fork_cmp tallies' q ≡ update (eq_by_cmp fork_cmp) (at fork_cmp tallies) v.fork o q) → IsTallied rows' tallies'
  counted_gone {tallies' = tallies'} o o_is updates = record {
    low = subst (λ l. AllByRecursion (λ k. k < 65536) (keys_of l)) (sym g.new_rows) (low_less (λ k. k < 65536) (is_at (nat_cmp r)) rows g.was.low);
    tallied = λ q. updates q ∙ (λ i. cond (order_tells v.fork q i) o (g.was.tallied q i)) ∙ elim (is_one_fork v.fork q) as (λ b. is_one_fork v.fork q ≡ b → cond b o (tally_of (opens_of rows) q) ≡ tally_of (opens_of rows') q) [
      | true ↦ λ same. o_is ∙ ap (tally_of (opens_of rows')) (same_fork v.fork q same)
      | false ↦ λ other. others q other
    ] refl;
    apart = ap (are_apart are_in_conflict) (ap opens_of g.new_rows ∙ shows_less rows r g.rise) ∙ apart-filter are_in_conflict (λ o. not (o.reference == r)) (opens_of rows) g.was.apart;
  }

  pub last_gone : {tallies' : List (Fork × ForkTally)} (t left : ForkTally) → Some t ≡ at fork_cmp tallies v.fork → left ≡ tally_without t v.mode → left.opens ≡ 0 → ((q : Fork) → at fork_cmp tallies' q ≡ update (eq_by_cmp fork_cmp) (at fork_cmp tallies) v.fork None q) → IsTallied rows' tallies'
  last_gone t left found is none updates =
      let n : length (filter (λ o. is_one_fork o.fork v.fork) (opens_of rows')) ≡ 0 = sym (λ i. (left_is t left found is i).opens) ∙ none in
      let no_one : is_fork_open (opens_of rows') v.fork ≡ false = sym (some_left (λ o. is_one_fork o.fork v.fork) (opens_of rows')) ∙ ap (nat_lt 0) n in
      counted_gone None (sym (λ i. if no_one i then Some (full (opens_of rows') v.fork) else None)) updates

  pub one_gone : {tallies' : List (Fork × ForkTally)} (t left : ForkTally) → Some t ≡ at fork_cmp tallies v.fork → left ≡ tally_without t v.mode → (left.opens ≡ 0 → ⊥) → ((q : Fork) → at fork_cmp tallies' q ≡ update (eq_by_cmp fork_cmp) (at fork_cmp tallies) v.fork (Some left) q) → IsTallied rows' tallies'
  one_gone t left found is some updates =
      let opens_is : left.opens ≡ length (filter (λ o. is_one_fork o.fork v.fork) (opens_of rows')) = λ i. (left_is t left found is i).opens in
      let n : nat_lt 0 left.opens ≡ true = grind (arith, nat_tests, some) in
      let still : is_fork_open (opens_of rows') v.fork ≡ true = sym (some_left (λ o. is_one_fork o.fork v.fork) (opens_of rows')) ∙ sym (ap (nat_lt 0) opens_is) ∙ n in
      counted_gone (Some left) (ap Some (left_is t left found is) ∙ sym (λ i. if still i then Some (full (opens_of rows') v.fork) else None)) updates

-- ---- two forks change places
shows_exchanged : (a b : Fork) (rows : List (ℕ × Opened)) → opens_of (map (exchange_row a b) rows) ≡ exchanged_opens a b (opens_of rows)
shows_exchanged a b [] = refl
shows_exchanged a b (e ∷ es) = ap (λ l. exchange_open a b (open_of e) ∷ l) (shows_exchanged a b es)

len_exchanged : (a b q : Fork) (has : Access → Bool) (os : List Open) → length (filter (λ o. is_one_fork o.fork q && has o.access) (exchanged_opens a b os)) ≡ length (filter (λ o. is_one_fork o.fork (in_exchange a b q) && has o.access) os)
len_exchanged a b q has [] = refl
len_exchanged a b q has (o ∷ os) =
    ap (λ t. length (if t && has o.access then exchange_open a b o ∷ filter (λ x. is_one_fork x.fork q && has x.access) (exchanged_opens a b os) else filter (λ x. is_one_fork x.fork q && has x.access) (exchanged_opens a b os))) (crosses a b o.fork q)
    ∙ elim (is_one_fork o.fork (in_exchange a b q) && has o.access) as (λ t. length (if t then exchange_open a b o ∷ filter (λ x. is_one_fork x.fork q && has x.access) (exchanged_opens a b os) else filter (λ x. is_one_fork x.fork q && has x.access) (exchanged_opens a b os))
    ≡ length (if t then o ∷ filter (λ x. is_one_fork x.fork (in_exchange a b q) && has x.access) os else filter (λ x. is_one_fork x.fork (in_exchange a b q) && has x.access) os)) [
      | true ↦ ap suc (len_exchanged a b q has os)
      | false ↦ len_exchanged a b q has os
    ]

all_exchanged : (a b q : Fork) (os : List Open) → length (filter (λ o. is_one_fork o.fork q) (exchanged_opens a b os)) ≡ length (filter (λ o. is_one_fork o.fork (in_exchange a b q)) os)
all_exchanged a b q [] = refl
all_exchanged a b q (o ∷ os) =
    ap (λ t. length (if t then exchange_open a b o ∷ filter (λ x. is_one_fork x.fork q) (exchanged_opens a b os) else filter (λ x. is_one_fork x.fork q) (exchanged_opens a b os))) (crosses a b o.fork q)
    ∙ elim (is_one_fork o.fork (in_exchange a b q)) as (λ t. length (if t then exchange_open a b o ∷ filter (λ x. is_one_fork x.fork q) (exchanged_opens a b os) else filter (λ x. is_one_fork x.fork q) (exchanged_opens a b os))
    ≡ length (if t then o ∷ filter (λ x. is_one_fork x.fork (in_exchange a b q)) os else filter (λ x. is_one_fork x.fork (in_exchange a b q)) os)) [
      | true ↦ ap suc (all_exchanged a b q os)
      | false ↦ all_exchanged a b q os
    ]

tally_exchanged : (a b q : Fork) (os : List Open) → tally_of (exchanged_opens a b os) q ≡ tally_of os (in_exchange a b q)
tally_exchanged a b q os =
    let there : is_fork_open (exchanged_opens a b os) q ≡ is_fork_open os (in_exchange a b q) = any-map (λ o. is_one_fork o.fork q) (exchange_open a b) os ∙ any-same (λ o. is_one_fork (in_exchange a b o.fork) q) (λ o. is_one_fork o.fork (in_exchange a b q)) os (λ o. crosses a b o.fork q) in
    λ i. if there i then Some (record {
      counts = len_exchanged a b q (λ m. m.read) os i ∷ len_exchanged a b q (λ m. m.write) os i ∷ len_exchanged a b q (λ m. m.deny_read) os i ∷ len_exchanged a b q (λ m. m.deny_write) os i ∷ [];
      opens = all_exchanged a b q os i;
    }) else None

pub exchange_shows : {rows' : List (ℕ × Opened)} {whole : List Open} (rows : List (ℕ × Opened)) (a b : Fork) → opens_of rows ≡ whole → rows' ≡ map (exchange_row a b) rows → opens_of rows' ≡ exchanged_opens a b whole
exchange_shows rows a b shown is = ap opens_of is ∙ shows_exchanged a b rows ∙ ap (exchanged_opens a b) shown

pub exchange_counted : {rows rows' : List (ℕ × Opened)} {tallies tallies' : List (Fork × ForkTally)} (a b : Fork) → IsTallied rows tallies → rows' ≡ map (exchange_row a b) rows → ((q : Fork) → at fork_cmp tallies' q ≡ exchanged fork_cmp (at fork_cmp tallies) a b q) → IsTallied rows' tallies'
exchange_counted {rows = rows} {rows' = rows'} {tallies = tallies} a b w is updates =
    let shown : opens_of rows' ≡ exchanged_opens a b (opens_of rows) = ap opens_of is ∙ shows_exchanged a b rows in
    record {
      low = subst (AllByRecursion (λ k. k < 65536)) (sym (ap keys_of is ∙ same_keys rows)) w.low;
      tallied = λ q. updates q ∙ found_crossed (at fork_cmp tallies) a b q ∙ w.tallied (in_exchange a b q) ∙ sym (ap (λ l. tally_of l q) shown ∙ tally_exchanged a b q (opens_of rows));
      apart = ap (are_apart are_in_conflict) shown ∙ apart_map are_in_conflict (exchange_open a b) (opens_of rows) (λ x y. ap (λ t. t && is_clash x.access y.access) (both_cross a b x.fork y.fork)) ∙ w.apart;
    }
  where
    same_keys : (rows : List (ℕ × Opened)) → keys_of (map (exchange_row a b) rows) ≡ keys_of rows
    same_keys [] = refl
    same_keys (e ∷ es) = ap (λ l. e.0 ∷ l) (same_keys es)

pub exchange_more : (a b : Fork) (first ys given new : List (ℕ × Opened)) (i : ℕ) (e : ℕ × Opened) (f : Fork) → i < length first → ys ≡ map (exchange_row a b) (take i first) ++ drop i first → given ≡ ys → e ≡ slice_index_or given i e → f ≡ in_exchange a b e.1.fork
    → ((d : ℕ × Opened) → new ≡ slice_set ys i (with_new_value (slice_index_or ys i d) (record { fork = f; mode = e.1.mode }))) → new ≡ map (exchange_row a b) (take (i + 1) first) ++ drop (i + 1) first
exchange_more a b first ys given new i e f within ys_is given_is read f_is new_is =
    let there : e ≡ slice_index_or ys i e = read ∙ ap (λ l. slice_index_or l i e) given_is in
    let row : with_new_value (slice_index_or ys i e) (record { fork = f; mode = e.1.mode }) ≡ exchange_row a b e = (λ j. ((sym there j).0, record { fork = f_is j; mode = e.1.mode })) in
    new_is e ∙ ap (λ r. slice_set ys i r) row ∙ map_over_more (exchange_row a b) first ys i e within ys_is there
