-- The rows of each fork tell what the list of locks tells, after each call.
use Rattle.std.proofs.Common.{◌≡◌, ◌∙◌, refl, sym, ap, subst, ℕ, zero, suc, ◌+◌, ◌-◌, ◌<◌, ◌≤◌, Bool, true, false, not, ◌&&◌, ◌||◌, ◌==◌, if◌then◌else◌, cond, List, [], ◌∷◌, length, filter, map, take, drop, ◌++◌, Some, None, unwrap_or, inl, inr, arith}
use Rattle.std.specs.Prelude.{nat_lt, nat_le, slice_index_or, slice_range, slice_set}
use Rattle.std.specs.Cmp.{both_ways}
use Rattle.std.specs.List.{list_any, insert, remove, position, position_or_len}
use Rattle.std.specs.List.Sorted.{IsNonDecreasingBy}
use Rattle.std.proofs.lemmas.Bool.{cases_lt, and_parts, eqb-true, leb-true, or_parts, le-leb, not-true, and_from}
use Rattle.std.proofs.lemmas.Bool.Decides.{nat_tests}
use Rattle.std.proofs.lemmas.List.Folds.{Any-from_list_any, list_any_at, list_any_more}
use Rattle.std.proofs.lemmas.List.{take-append-drop}
use Rattle.std.proofs.lemmas.List.Quantifiers.{position-Some}
use Rattle.std.proofs.lemmas.List.Sums.{fails_before_first}
use Rattle.std.proofs.lemmas.Option.{none-some}
use Rattle.std.proofs.lemmas.List.Kept.{AllPairs-filter, IsNonDecreasingBy-filter}
use Rattle.std.proofs.lemmas.List.Edits.{length-between, get_or-between, length-insert, get_or-insert_below, get_or-insert_at, get_or-insert_above, map_over_more}
use Rattle.std.proofs.lemmas.List.Sorted.{IsNonDecreasingBy-insert}
use Rattle.afp_base.specs.Choice.{first_holding}
use Rattle.afp_base.specs.DenyMode.{Fork, is_one_fork}
use Rattle.afp_base.specs.Limits.{most_locks}
use Rattle.afp_base.specs.Overlap.{Range, do_meet, do_overlap}
use Rattle.afp_base.specs.Apart.{are_apart}
use Rattle.deny_modes.proofs.Forks.{either_way, crosses, both_cross, found_crossed}
use Rattle.deny_modes.specs.lemma.ForkOrder.{fork_cmp}
use Rattle.deny_modes.specs.Opens.{in_exchange}
use Rattle.sorted_map.specs.map.Entries.{at, exchanged}
use Rattle.range_locks.specs.declared.fault.LockFault.TheVariants.{Locked, Overlap, Full}
use Rattle.range_locks.specs.declared.rows.LockRow.{LockRow}
use Rattle.range_locks.specs.declared.rows.Seen.{Seen}
use Rattle.range_locks.specs.Locks.{ForkLock, are_overlapping, is_met_by_other_lock, is_met_by_own_lock, count_held, lock_refusal, with_fork_lock, is_fork_lock, has_fork_lock, exchange_lock, exchanged_locks, without_holder, is_row, are_one_row, AreInOrder, AreIntervals}
use Rattle.range_locks.specs.lemma.Kept.{rows_at, holder_of, is_among, IsBehind, IsBefore, IsPlaceOf, IsLockTable}
use Rattle.range_locks.specs.lemma.Seen.{IsSeen}
use Rattle.afp_base.proofs.Facts.{and-false, and-true, eqb-itself, eqb_turn, or-false, or-true, or_swap}
use Rattle.afp_base.proofs.ListFacts.{any-same}
use Rattle.afp_base.proofs.Forks.{one_fork-itself, same_fork}

-- ---- tests

and_assoc : (a b c : Bool) → ((a && b) && c) ≡ (a && (b && c))
and_assoc true b c = refl
and_assoc false b c = refl

and_turns : (a b : Bool) → (a && b) ≡ (b && a)
and_turns true true = refl
and_turns true false = refl
and_turns false true = refl
and_turns false false = refl

any_new : (p : ForkLock → Bool) (new : ForkLock) (ls : List ForkLock) → list_any p (with_fork_lock new ls) ≡ (p new || list_any p ls)
any_new p new [] = refl
any_new p new (l ∷ ls) = elim (nat_lt new.reference l.reference) as (λ b. list_any p (if b then new ∷ l ∷ ls else l ∷ with_fork_lock new ls) ≡ (p new || (p l || list_any p ls))) [
  | true ↦ refl
  | false ↦ ap (λ t. p l || t) (any_new p new ls) ∙ or_swap (p l) (p new) (list_any p ls)
]

any_insert : (p : LockRow → Bool) (row : LockRow) (rows : List LockRow) (i : ℕ) → list_any p (insert rows i row) ≡ (p row || list_any p rows)
any_insert p row rows zero = refl
any_insert p row [] (suc i) = refl
any_insert p row (x ∷ xs) (suc i) = ap (λ t. p x || t) (any_insert p row xs i) ∙ or_swap (p x) (p row) (list_any p xs)

-- ---- a test of a fork's rows is a test of its locks
abbrev row_of : ForkLock → LockRow
row_of l = record { range = l.range; reference = record { 0 = l.reference } }

same_row : (a b : LockRow) → are_one_row a b ≡ true → a ≡ b
same_row a b h =
    let first = and_parts (a.reference.0 == b.reference.0) ((a.range.from == b.range.from) && (a.range.to == b.range.to)) h in
    let ends = and_parts (a.range.from == b.range.from) (a.range.to == b.range.to) first.1 in
    let reference = eqb-true a.reference.0 b.reference.0 first.0 in
    let from = eqb-true a.range.from b.range.from ends.0 in
    let to = eqb-true a.range.to b.range.to ends.1 in
    λ i. record { range = record { from = from i; to = to i }; reference = record { 0 = reference i } }

row_itself : (a : LockRow) → are_one_row a a ≡ true
row_itself a = λ i. eqb-itself a.reference.0 i && (eqb-itself a.range.from i && eqb-itself a.range.to i)

rows_tell : (locks : List ForkLock) (fork : Fork) (rows : List LockRow) (p : LockRow → Bool) → ((row : LockRow) → list_any (are_one_row row) rows ≡ list_any (λ l. is_one_fork l.fork fork && is_row row l) locks)
    → list_any p rows ≡ list_any (λ l. is_one_fork l.fork fork && p (row_of l)) locks
rows_tell locks fork rows p same = both_ways _ _
    (λ h.
    let f = Any-from_list_any p rows h in
    let there = list_any_at (are_one_row f.1) rows f.0 f.1 f.2 (ap (are_one_row f.1) f.3 ∙ row_itself f.1) in
    let g = Any-from_list_any (λ l. is_one_fork l.fork fork && is_row f.1 l) locks (sym (same f.1) ∙ there) in
    let parts = and_parts (is_one_fork g.1.fork fork) (is_row f.1 g.1) g.4 in
    list_any_at (λ l. is_one_fork l.fork fork && p (row_of l)) locks g.0 g.1 g.2
    (ap (λ l. is_one_fork l.fork fork && p (row_of l)) g.3 ∙ and_from _ _ parts.0 (sym (ap p (same_row f.1 (row_of g.1) parts.1)) ∙ f.4)))
    (λ h.
    let g = Any-from_list_any (λ l. is_one_fork l.fork fork && p (row_of l)) locks h in
    let parts = and_parts (is_one_fork g.1.fork fork) (p (row_of g.1)) g.4 in
    let there = list_any_at (λ l. is_one_fork l.fork fork && is_row (row_of g.1) l) locks g.0 g.1 g.2 (ap (λ l. is_one_fork l.fork fork && is_row (row_of g.1) l) g.3 ∙ and_from _ _ parts.0 (row_itself (row_of g.1))) in
    let f = Any-from_list_any (are_one_row (row_of g.1)) rows (same (row_of g.1) ∙ there) in
    list_any_at p rows f.0 f.1 f.2 (ap p f.3 ∙ sym (ap p (same_row (row_of g.1) f.1 f.4)) ∙ parts.1))

pub seen_other : {locks : List ForkLock} {fork : Fork} {rows : List LockRow} {r : ℕ} {range : Range} {seen : Seen} → AreIntervals locks fork rows → IsSeen rows r range seen → seen.other ≡ is_met_by_other_lock locks fork r range
seen_other {locks} {fork} {rows} {r} {range} i s =
    s.other ∙ rows_tell locks fork rows (λ row. do_meet row.range range && not (row.reference.0 == r)) i.same
    ∙ any-same (λ l. is_one_fork l.fork fork && (do_meet l.range range && not (l.reference == r))) (λ l. do_overlap l.fork l.range fork range && not (l.reference == r)) locks (λ l. sym (and_assoc (is_one_fork l.fork fork) (do_meet l.range range) (not (l.reference == r))))

pub seen_own : {locks : List ForkLock} {fork : Fork} {rows : List LockRow} {r : ℕ} {range : Range} {seen : Seen} → AreIntervals locks fork rows → IsSeen rows r range seen → seen.other ≡ false → seen.own ≡ is_met_by_own_lock locks fork r range
seen_own {locks} {fork} {rows} {r} {range} i s none =
    s.own none ∙ rows_tell locks fork rows (λ row. do_meet row.range range && (row.reference.0 == r)) i.same
    ∙ any-same (λ l. is_one_fork l.fork fork && (do_meet l.range range && (l.reference == r))) (λ l. do_overlap l.fork l.range fork range && (l.reference == r)) locks (λ l. sym (and_assoc (is_one_fork l.fork fork) (do_meet l.range range) (l.reference == r)))

-- ---- places by reference
pub put_behind : (ls : List ForkLock) (new : ForkLock) (place : ℕ) → IsBehind ls new.reference place → insert ls place new ≡ with_fork_lock new ls
put_behind [] new zero b = refl
put_behind [] new (suc place) b = absurd (omega (arith, b.within))
put_behind (l ∷ ls) new zero b =
    let h : true ≡ nat_lt new.reference l.reference = (let f = b.rest 0 l (omega arith) (omega arith) in grind (arith, nat_tests, f)) in
    ap (λ t. if t then new ∷ l ∷ ls else l ∷ with_fork_lock new ls) h
put_behind (l ∷ ls) new (suc place) b =
    let h : false ≡ nat_lt new.reference l.reference = (let f = b.front 0 l (omega arith) in grind (arith, nat_tests, f)) in
    ap (λ rest. l ∷ rest) (put_behind ls new place (record { within = omega (arith, b.within); front = λ k d less. b.front (suc k) d (omega arith); rest = λ k d low high. b.rest (suc k) d (omega arith) (omega arith) }))
    ∙ ap (λ t. if t then new ∷ l ∷ ls else l ∷ with_fork_lock new ls) h

count_none : (ls : List ForkLock) (r : ℕ) → ((k : ℕ) (d : ForkLock) → k < length ls → nat_le (holder_of (slice_index_or ls k d)) r ≡ false) → count_held r ls ≡ 0
count_none [] r none = refl
count_none (l ∷ ls) r none =
    let other : (l.reference == r) ≡ false = (let f = none 0 l (omega arith) in grind (arith, nat_tests, f)) in
    ap (λ b. length (if b then l ∷ filter (λ x. x.reference == r) ls else filter (λ x. x.reference == r) ls)) other ∙ count_none ls r (λ k d less. none (suc k) d (omega arith))

pub count_between : (ls : List ForkLock) (r first last : ℕ) → IsBefore ls r first → IsBehind ls r last → first + count_held r ls ≡ last
count_between [] r first last a b = omega (arith, a.within, b.within)
count_between (l ∷ ls) r zero zero a b = let none = count_none (l ∷ ls) r (λ k d less. b.rest k d (omega arith) less) in omega (arith, none)
count_between (l ∷ ls) r zero (suc last) a b =
    let same : (l.reference == r) ≡ true = (let f = a.rest 0 l (omega arith) (omega arith) in let g = b.front 0 l (omega arith) in grind (arith, nat_tests, f, g)) in
    let more = count_between ls r zero last (record { within = omega arith; front = λ k d less. absurd (omega arith); rest = λ k d low high. a.rest (suc k) d (omega arith) (omega arith) })
    (record { within = omega (arith, b.within); front = λ k d less. b.front (suc k) d (omega arith); rest = λ k d low high. b.rest (suc k) d (omega arith) (omega arith) }) in
    let here : count_held r (l ∷ ls) ≡ suc (count_held r ls) = ap (λ t. length (if t then l ∷ filter (λ x. x.reference == r) ls else filter (λ x. x.reference == r) ls)) same in
    omega (arith, more, here)
count_between (l ∷ ls) r (suc first) zero a b = absurd (let f = a.front 0 l (omega arith) in let g = b.rest 0 l (omega arith) (omega arith) in grind (arith, nat_tests, f, g))
count_between (l ∷ ls) r (suc first) (suc last) a b =
    let other : (l.reference == r) ≡ false = (let f = a.front 0 l (omega arith) in grind (arith, nat_tests, f)) in
    let more = count_between ls r first last (record { within = omega (arith, a.within); front = λ k d less. a.front (suc k) d (omega arith); rest = λ k d low high. a.rest (suc k) d (omega arith) (omega arith) })
    (record { within = omega (arith, b.within); front = λ k d less. b.front (suc k) d (omega arith); rest = λ k d low high. b.rest (suc k) d (omega arith) (omega arith) }) in
    let here : count_held r (l ∷ ls) ≡ count_held r ls = ap (λ t. length (if t then l ∷ filter (λ x. x.reference == r) ls else filter (λ x. x.reference == r) ls)) other in
    omega (arith, more, here)

-- ---- the locks of a reference stand together
none_own : (ls : List ForkLock) (r : ℕ) → ((k : ℕ) (d : ForkLock) → k < length ls → nat_le (holder_of (slice_index_or ls k d)) r ≡ false) → (filter (λ l. l.reference == r) ls ≡ []) × (ls ≡ without_holder r ls)
none_own [] r none = (refl, refl)
none_own (l ∷ ls) r none =
    let other : (l.reference == r) ≡ false = (let f = none 0 l (omega arith) in grind (arith, nat_tests, f)) in
    let more = none_own ls r (λ k d less. none (suc k) d (omega arith)) in (
      ap (λ b. if b then l ∷ filter (λ x. x.reference == r) ls else filter (λ x. x.reference == r) ls) other ∙ more.0,
      ap (λ rest. l ∷ rest) more.1 ∙ ap (λ b. if not b then l ∷ without_holder r ls else without_holder r ls) (sym other),
    )

all_of : (n : ℕ) → n - 0 ≡ n
all_of n = omega arith

one_less : (m n : ℕ) → suc m - suc n ≡ m - n
one_less m n = omega arith

pub own_part : (ls : List ForkLock) (r first last : ℕ) → IsBefore ls r first → IsBehind ls r last → (slice_range ls first last ≡ filter (λ l. l.reference == r) ls) × (take first ls ++ drop last ls ≡ without_holder r ls)
own_part [] r zero zero a b = (refl, refl)
own_part [] r zero (suc last) a b = absurd (omega (arith, b.within))
own_part [] r (suc first) last a b = absurd (omega (arith, a.within))
own_part (l ∷ ls) r zero zero a b = let none = none_own (l ∷ ls) r (λ k d less. b.rest k d (omega arith) less) in (sym none.0, none.1)
own_part (l ∷ ls) r zero (suc last) a b =
    let same : (l.reference == r) ≡ true = (let f = a.rest 0 l (omega arith) (omega arith) in let g = b.front 0 l (omega arith) in grind (arith, nat_tests, f, g)) in
    let more = own_part ls r zero last (record { within = omega arith; front = λ k d less. absurd (omega arith); rest = λ k d low high. a.rest (suc k) d (omega arith) (omega arith) })
    (record { within = omega (arith, b.within); front = λ k d less. b.front (suc k) d (omega arith); rest = λ k d low high. b.rest (suc k) d (omega arith) (omega arith) }) in (
      ap (λ n. take n (l ∷ ls)) (all_of (suc last)) ∙ ap (λ n. l ∷ take n ls) (sym (all_of last)) ∙ ap (λ rest. l ∷ rest) more.0 ∙ ap (λ t. if t then l ∷ filter (λ x. x.reference == r) ls else filter (λ x. x.reference == r) ls) (sym same),
      more.1 ∙ ap (λ t. if not t then l ∷ without_holder r ls else without_holder r ls) (sym same),
    )
own_part (l ∷ ls) r (suc first) zero a b = absurd (let f = a.front 0 l (omega arith) in let g = b.rest 0 l (omega arith) (omega arith) in grind (arith, nat_tests, f, g))
own_part (l ∷ ls) r (suc first) (suc last) a b =
    let other : (l.reference == r) ≡ false = (let f = a.front 0 l (omega arith) in grind (arith, nat_tests, f)) in
    let more = own_part ls r first last (record { within = omega (arith, a.within); front = λ k d less. a.front (suc k) d (omega arith); rest = λ k d low high. a.rest (suc k) d (omega arith) (omega arith) })
    (record { within = omega (arith, b.within); front = λ k d less. b.front (suc k) d (omega arith); rest = λ k d low high. b.rest (suc k) d (omega arith) (omega arith) }) in (
      ap (λ n. take n (drop first ls)) (one_less last first) ∙ more.0 ∙ ap (λ t. if t then l ∷ filter (λ x. x.reference == r) ls else filter (λ x. x.reference == r) ls) (sym other),
      ap (λ rest. l ∷ rest) more.1 ∙ ap (λ t. if not t then l ∷ without_holder r ls else without_holder r ls) (sym other),
    )

-- ---- a lock that is set
apart_new : (new : ForkLock) (ls : List ForkLock) → list_any (λ l. are_overlapping l new) ls ≡ false → are_apart are_overlapping ls ≡ true → are_apart are_overlapping (with_fork_lock new ls) ≡ true
apart_new new [] none h = refl
apart_new new (l ∷ ls) none h =
    let parts = or_parts (are_overlapping l new) (list_any (λ x. are_overlapping x new) ls) none in
    let rest = and_parts (not (list_any (are_overlapping l) ls)) (are_apart are_overlapping ls) h in
    elim (nat_lt new.reference l.reference) as (λ b. are_apart are_overlapping (if b then new ∷ l ∷ ls else l ∷ with_fork_lock new ls) ≡ true) [
      | true ↦ and_from _ _ (ap not (any-same (are_overlapping new) (λ x. are_overlapping x new) (l ∷ ls) (λ x. turns new x) ∙ none)) h
      | false ↦ and_from _ _ (ap not (any_new (are_overlapping l) new ls ∙ (λ i. parts.0 i || not-true (list_any (are_overlapping l) ls) rest.0 i))) (apart_new new ls parts.1 rest.1)
    ]
  where
    turns : (a b : ForkLock) → are_overlapping a b ≡ are_overlapping b a
    turns a b = λ i. either_way a.fork b.fork i && and_turns (nat_le a.range.from b.range.to) (nat_le b.range.from a.range.to) i

not_met : {locks : List ForkLock} {fork : Fork} {rows : List LockRow} {r : ℕ} {range : Range} {seen : Seen} → AreIntervals locks fork rows → IsSeen rows r range seen → seen.other ≡ false → seen.own ≡ false → list_any (λ row. do_meet row.range range) rows ≡ false
not_met {rows = rows} {r = r} {range = range} i s other own = neither rows (sym s.other ∙ other) (sym (s.own other) ∙ own)
  where
    neither : (rows : List LockRow) → list_any (λ row. do_meet row.range range && not (row.reference.0 == r)) rows ≡ false → list_any (λ row. do_meet row.range range && (row.reference.0 == r)) rows ≡ false → list_any (λ row. do_meet row.range range) rows ≡ false
    neither [] a b = refl
    neither (x ∷ xs) a b =
        let p = or_parts (do_meet x.range range && not (x.reference.0 == r)) _ a in
        let q = or_parts (do_meet x.range range && (x.reference.0 == r)) _ b in
        λ i. off (do_meet x.range range) (x.reference.0 == r) p.0 q.0 i || neither xs p.1 q.1 i
      where
        off : (m t : Bool) → (m && not t) ≡ false → (m && t) ≡ false → m ≡ false
        off true true a b = absurd (cc b)
        off true false a b = absurd (cc a)
        off false t a b = refl

abbrev lt : LockRow → LockRow → Bool
lt a b = nat_lt a.range.to b.range.from

ordered_new : (rows : List LockRow) (range : Range) (reference : ℕ) (seen : Seen) (row : LockRow) → row.range ≡ range → AreInOrder rows → IsSeen rows reference range seen → range.from ≤ range.to → list_any (λ x. do_meet x.range range) rows ≡ false → AreInOrder (insert rows seen.place row)
ordered_new rows range reference seen row range_is o s ordered none =
    let place = seen.place in
    let new = insert rows place row in
    let len = length-insert rows place row s.within in
    let low : (i : ℕ) (d : LockRow) → i < place → slice_index_or new i d ≡ slice_index_or rows i d = λ i d h. get_or-insert_below rows place row d i h s.within in
    let here : (d : LockRow) → slice_index_or new place d ≡ row = λ d. get_or-insert_at rows place row d s.within in
    let high : (i : ℕ) (d : LockRow) → place ≤ i → slice_index_or new (i + 1) d ≡ slice_index_or rows i d = λ i d h. get_or-insert_above rows place row d i h s.within in
    let behind : (i : ℕ) (d : LockRow) → place ≤ i → i < length rows → nat_lt range.to (slice_index_or rows i d).range.from ≡ true = λ i d h k. apart i d h k in
    record {
      valid = λ i d h. elim (cases_lt i place) [
        | inl less ↦ ap (λ (x : LockRow). nat_le x.range.from x.range.to) (low i d less) ∙ o.valid i d (omega (arith, s.within))
        | inr other ↦ elim (cases_lt place i) [
          | inl above ↦ up i d above (omega (arith, len)) high (λ x. nat_le x.range.from x.range.to) (o.valid (i - 1) d (omega (arith, len)))
          | inr not_above ↦ let same : i ≡ place = omega arith in
              ap (λ k. nat_le (slice_index_or new k d).range.from (slice_index_or new k d).range.to) same ∙ ap (λ (x : LockRow). nat_le x.range.from x.range.to) (here d) ∙ (λ j. nat_le (range_is j).from (range_is j).to)
              ∙ (let f : nat_le range.from range.to ≡ true = grind (arith, nat_tests) in f)
        ]
      ];
      rising = λ i j d less h. elim (cases_lt j place) [
        | inl j_low ↦ (λ k. lt (low i d (omega arith) k) (low j d j_low k)) ∙ o.rising i j d less (omega (arith, s.within))
        | inr j_not_low ↦ elim (cases_lt place j) [
          | inl j_high ↦
              let at_j : slice_index_or new j d ≡ slice_index_or rows (j - 1) d = one_up j d j_high high in
              elim (cases_lt i place) [
                | inl i_low ↦ (λ k. lt (low i d i_low k) (at_j k)) ∙ o.rising i (j - 1) d (omega arith) (omega (arith, len))
                | inr i_not_low ↦ elim (cases_lt place i) [
                  | inl i_high ↦ (λ k. lt (one_up i d i_high high k) (at_j k)) ∙ o.rising (i - 1) (j - 1) d (omega arith) (omega (arith, len))
                  | inr i_not_high ↦
                      let same : i ≡ place = omega arith in
                      (λ k. lt ((ap (λ n. slice_index_or new n d) same ∙ here d) k) (at_j k)) ∙ (λ k. nat_lt (range_is k).to (slice_index_or rows (j - 1) d).range.from) ∙ behind (j - 1) d (omega arith) (omega (arith, len))
                ]
              ]
          | inr j_not_high ↦
              let same : j ≡ place = omega arith in
              (λ k. lt (low i d (omega arith) k) ((ap (λ n. slice_index_or new n d) same ∙ here d) k)) ∙ (λ k. nat_lt (slice_index_or rows i d).range.to (range_is k).from) ∙ s.before i d (omega arith)
        ]
      ];
    }
  where
    one_up : (i : ℕ) (d : LockRow) → seen.place < i → ((k : ℕ) (d : LockRow) → seen.place ≤ k → slice_index_or (insert rows seen.place row) (k + 1) d ≡ slice_index_or rows k d) → slice_index_or (insert rows seen.place row) i d ≡ slice_index_or rows (i - 1) d
    one_up i d above high = let e : i ≡ i - 1 + 1 = omega arith in ap (λ k. slice_index_or (insert rows seen.place row) k d) e ∙ high (i - 1) d (omega arith)

    up : (i : ℕ) (d : LockRow) → seen.place < i → i < length rows + 1 → ((k : ℕ) (d : LockRow) → seen.place ≤ k → slice_index_or (insert rows seen.place row) (k + 1) d ≡ slice_index_or rows k d) → (p : LockRow → Bool) → p (slice_index_or rows (i - 1) d) ≡ true → p (slice_index_or (insert rows seen.place row) i d) ≡ true
    up i d above within high p h =
        let e : i ≡ i - 1 + 1 = omega arith in
        ap (λ k. p (slice_index_or (insert rows seen.place row) k d)) e ∙ ap p (high (i - 1) d (omega arith)) ∙ h

    apart : (i : ℕ) (d : LockRow) → seen.place ≤ i → i < length rows → nat_lt range.to (slice_index_or rows i d).range.from ≡ true
    apart i d low within =
        let x : LockRow = slice_index_or rows i d in
        let not_before = s.behind i d low within in
        let not_met = none_at rows i d within none in
        grind (arith, nat_tests, not_before, not_met)
      where
        none_at : (rows : List LockRow) (i : ℕ) (d : LockRow) → i < length rows → list_any (λ x. do_meet x.range range) rows ≡ false → do_meet (slice_index_or rows i d).range range ≡ false
        none_at [] i d h none = absurd (omega arith)
        none_at (x ∷ xs) zero d h none = (or_parts (do_meet x.range range) _ none).0
        none_at (x ∷ xs) (suc i) d h none = none_at xs i d (omega arith) (or_parts (do_meet x.range range) _ none).1

-- what a lock is set on
pub record Set (locks new_locks : List ForkLock) (forks new_forks : List (Fork × List LockRow)) (rows : List LockRow) (fork : Fork) (r : ℕ) (range : Range) (seen : Seen) : Type 0 where
  pub was : IsLockTable locks forks
  pub rows_are : rows ≡ rows_at forks fork
  pub looked : IsSeen rows r range seen
  pub other : seen.other ≡ false
  pub own : seen.own ≡ false
  pub new_rows : (q : Fork) → rows_at new_forks q ≡ (if is_one_fork fork q then insert (rows_at forks fork) seen.place (record { range = range; reference = record { 0 = r } }) else rows_at forks q)
  pub new_list : new_locks ≡ with_fork_lock (record { reference = r; fork = fork; range = range }) locks
  pub new_order : IsNonDecreasingBy holder_of new_locks

module _ {locks new_locks : List ForkLock} {forks new_forks : List (Fork × List LockRow)} {rows : List LockRow} {fork : Fork} {r : ℕ} {range : Range} {seen : Seen} (s : Set locks new_locks forks new_forks rows fork r range seen) where
  abbrev new : ForkLock
  new = record { reference = r; fork = fork; range = range }

  abbrev row : LockRow
  row = record { range = range; reference = record { 0 = r } }

  looked : IsSeen (rows_at forks fork) r range seen
  looked = subst (λ l. IsSeen l r range seen) s.rows_are s.looked

  none : list_any (λ x. do_meet x.range range) (rows_at forks fork) ≡ false
  none = not_met (s.was.intervals fork) looked s.other s.own

  abbrev has : Fork → LockRow → ForkLock → Bool
  has q x l = is_one_fork l.fork q && is_row x l

  here : (q : Fork) → is_one_fork fork q ≡ true → AreIntervals new_locks q (insert (rows_at forks fork) seen.place row)
  here q same = record {
    order = ordered_new (rows_at forks fork) range r seen row refl (s.was.intervals fork).order looked looked.ordered none;
    same = λ x. any_insert (are_one_row x) row (rows_at forks fork) seen.place
        ∙ ap (λ b. are_one_row x row || b) ((s.was.intervals fork).same x ∙ ap (λ f. list_any (has f x) locks) (same_fork fork q same))
        ∙ sym (ap (list_any (has q x)) s.new_list ∙ any_new (has q x) new locks ∙ ap (λ b. (b && is_row x new) || list_any (has q x) locks) same);
  }

  there : (q : Fork) → is_one_fork fork q ≡ false → AreIntervals new_locks q (rows_at forks q)
  there q other = record {
    order = (s.was.intervals q).order;
    same = λ x. (s.was.intervals q).same x ∙ sym (ap (list_any (has q x)) s.new_list ∙ any_new (has q x) new locks ∙ ap (λ b. (b && is_row x new) || list_any (has q x) locks) other);
  }

  pub set_kept : IsLockTable new_locks new_forks
  set_kept = record {
    order = s.new_order;
    apart = ap (are_apart are_overlapping) s.new_list
        ∙ apart_new new locks (sym (rows_tell locks fork (rows_at forks fork) (λ x. do_meet x.range range) (s.was.intervals fork).same) ∙ none) s.was.apart;
    intervals = λ q. subst (AreIntervals new_locks q) (sym (s.new_rows q))
        (elim (is_one_fork fork q) as (λ b. is_one_fork fork q ≡ b → AreIntervals new_locks q (if b then insert (rows_at forks fork) seen.place row else rows_at forks q)) [ true ↦ λ same. here q same | false ↦ λ other. there q other ] refl);
  }

-- what was looked at
pub record Looked (locks whole : List ForkLock) (forks : List (Fork × List LockRow)) (rows : List LockRow) (fork : Fork) (r : ℕ) (range : Range) (seen : Seen) : Type 0 where
  pub was : IsLockTable locks forks
  pub shown : locks ≡ whole
  pub rows_are : rows ≡ rows_at forks fork
  pub looked : IsSeen rows r range seen

module _ {locks whole : List ForkLock} {forks : List (Fork × List LockRow)} {rows : List LockRow} {fork : Fork} {r : ℕ} {range : Range} {seen : Seen} (l : Looked locks whole forks rows fork r range seen) where
  there_rows : AreIntervals locks fork rows
  there_rows = subst (AreIntervals locks fork) (sym l.rows_are) (l.was.intervals fork)

  pub other_is : (b : Bool) → seen.other ≡ b → is_met_by_other_lock whole fork r range ≡ b
  other_is b is = sym (seen_other there_rows l.looked ∙ ap (λ x. is_met_by_other_lock x fork r range) l.shown) ∙ is

  pub own_is : seen.other ≡ false → (b : Bool) → seen.own ≡ b → is_met_by_own_lock whole fork r range ≡ b
  own_is none b is = sym (seen_own there_rows l.looked none ∙ ap (λ x. is_met_by_own_lock x fork r range) l.shown) ∙ is

  pub is_locked : seen.other ≡ true → lock_refusal whole fork r range ≡ Some Locked
  is_locked other = λ i. first_holding ((other_is true other i, Locked) ∷ (is_met_by_own_lock whole fork r range, Overlap) ∷ (nat_le most_locks (count_held r whole), Full) ∷ [])

  pub is_overlap : seen.other ≡ false → seen.own ≡ true → lock_refusal whole fork r range ≡ Some Overlap
  is_overlap other own = λ i. first_holding ((other_is false other i, Locked) ∷ (own_is other true own i, Overlap) ∷ (nat_le most_locks (count_held r whole), Full) ∷ [])

  full_is : (n : ℕ) (given : List ForkLock) → given ≡ locks → n ≡ count_held r given → (b : Bool) → nat_le most_locks n ≡ b → nat_le most_locks (count_held r whole) ≡ b
  full_is n given given_is n_is b is = sym (ap (nat_le most_locks) (n_is ∙ ap (count_held r) (given_is ∙ l.shown))) ∙ is

  pub is_full : (n : ℕ) (given : List ForkLock) → seen.other ≡ false → seen.own ≡ false → given ≡ locks → n ≡ count_held r given → 1024 ≤ n → lock_refusal whole fork r range ≡ Some Full
  is_full n given other own given_is n_is enough =
      let is : nat_le most_locks n ≡ true = grind (arith, nat_tests) in
      λ i. first_holding ((other_is false other i, Locked) ∷ (own_is other false own i, Overlap) ∷ (full_is n given given_is n_is true is i, Full) ∷ [])

  pub is_free : (n : ℕ) (given : List ForkLock) → seen.other ≡ false → seen.own ≡ false → given ≡ locks → n ≡ count_held r given → n < 1024 → lock_refusal whole fork r range ≡ None
  is_free n given other own given_is n_is few =
      let is : nat_le most_locks n ≡ false = grind (arith, nat_tests) in
      λ i. first_holding ((other_is false other i, Locked) ∷ (own_is other false own i, Overlap) ∷ (full_is n given given_is n_is false is i, Full) ∷ [])

-- a lock goes into the list behind those of its reference
pub listed : {list reserved given new : List ForkLock} {place : ℕ} (held : ForkLock) (b : Bool) → IsNonDecreasingBy holder_of list → reserved ≡ list → given ≡ reserved → IsBehind given held.reference place → b ≡ true → new ≡ (if b then insert reserved place held else reserved)
    → (new ≡ with_fork_lock held list) × IsNonDecreasingBy holder_of new
listed {list} {reserved} {given} {new} {place} held b order reserved_is given_is behind b_is new_is =
    let there : IsBehind list held.reference place = subst (λ l. IsBehind l held.reference place) (given_is ∙ reserved_is) behind in
    let put : new ≡ insert list place held = new_is ∙ (λ i. if b_is i then insert (reserved_is i) place held else reserved_is i) in (
      put ∙ put_behind list held place there,
      subst (IsNonDecreasingBy holder_of) (sym put) (IsNonDecreasingBy-insert holder_of list place held order there.within
          (λ k d less. let f = there.front k d less in leb-true (holder_of (slice_index_or list k d)) held.reference f)
          (λ k d low high. let f = there.rest k d low high in above_it (holder_of (slice_index_or list k d)) held.reference f)),
    )
  where
    above_it : (m n : ℕ) → nat_le m n ≡ false → n ≤ m
    above_it m n h = grind (arith, nat_tests, h)

-- ---- locks that go
pub any_filter : {A : Type 0} (p keep : A → Bool) (xs : List A) → list_any p (filter keep xs) ≡ list_any (λ x. p x && keep x) xs
any_filter p keep [] = refl
any_filter p keep (x ∷ xs) = elim (keep x) as (λ b. list_any p (if b then x ∷ filter keep xs else filter keep xs) ≡ ((p x && b) || list_any (λ y. p y && keep y) xs)) [
  | true ↦ (λ i. and-true (p x) i || any_filter p keep xs i)
  | false ↦ any_filter p keep xs ∙ ap (λ b. b || list_any (λ y. p y && keep y) xs) (sym (and-false (p x)))
]

none_filter : (p keep : ForkLock → Bool) (ls : List ForkLock) → list_any p ls ≡ false → list_any p (filter keep ls) ≡ false
none_filter p keep [] h = refl
none_filter p keep (l ∷ ls) h =
    let parts = or_parts (p l) (list_any p ls) h in
    elim (keep l) as (λ b. list_any p (if b then l ∷ filter keep ls else filter keep ls) ≡ false) [ true ↦ (λ i. parts.0 i || none_filter p keep ls parts.1 i) | false ↦ none_filter p keep ls parts.1 ]

apart_filter : (keep : ForkLock → Bool) (ls : List ForkLock) → are_apart are_overlapping ls ≡ true → are_apart are_overlapping (filter keep ls) ≡ true
apart_filter keep [] h = refl
apart_filter keep (l ∷ ls) h =
    let parts = and_parts (not (list_any (are_overlapping l) ls)) (are_apart are_overlapping ls) h in
    elim (keep l) as (λ b. are_apart are_overlapping (if b then l ∷ filter keep ls else filter keep ls) ≡ true) [
      | true ↦ and_from _ _ (ap not (none_filter (are_overlapping l) keep ls (not-true (list_any (are_overlapping l) ls) parts.0))) (apart_filter keep ls parts.1)
      | false ↦ apart_filter keep ls parts.1
    ]

abbrev AllValid : List LockRow → Type 0
AllValid rows = (i : ℕ) (d : LockRow) → i < length rows → nat_le (slice_index_or rows i d).range.from (slice_index_or rows i d).range.to ≡ true

valid_more : (keep : LockRow → Bool) (x : LockRow) (xs : List LockRow) → ((d : LockRow) → 0 < length (x ∷ xs) → nat_le x.range.from x.range.to ≡ true) → AllValid (filter keep xs) → AllValid (filter keep (x ∷ xs))
valid_more keep x xs here others = elim (keep x) as (λ b. AllValid (if b then x ∷ filter keep xs else filter keep xs)) [ true ↦ first | false ↦ others ]
  where
    first : AllValid (x ∷ filter keep xs)
    first zero d h = here d (omega arith)
    first (suc i) d h = others i d (omega arith)

valid_filter : (keep : LockRow → Bool) (rows : List LockRow) → AllValid rows → AllValid (filter keep rows)
valid_filter keep [] v = λ i d h. absurd (omega arith)
valid_filter keep (x ∷ xs) v = valid_more keep x xs (v 0) (valid_filter keep xs (λ k e l. v (suc k) e (omega arith)))

order_filter : (keep : LockRow → Bool) (rows : List LockRow) → AreInOrder rows → AreInOrder (filter keep rows)
order_filter keep rows o = record {
  valid = valid_filter keep rows o.valid;
  rising = AllPairs-filter (λ a b. nat_lt a.range.to b.range.from ≡ true) keep rows o.rising;
}

-- where the list and the rows of each fork lose alike, all is kept
pub record Lost (locks new_locks : List ForkLock) (forks new_forks : List (Fork × List LockRow)) (keep : ForkLock → Bool) (stays : Fork → LockRow → Bool) : Type 0 where
  pub was : IsLockTable locks forks
  pub new_list : new_locks ≡ filter keep locks
  pub new_rows : (q : Fork) → rows_at new_forks q ≡ filter (stays q) (rows_at forks q)
  pub alike : (q : Fork) (l : ForkLock) → is_one_fork l.fork q ≡ true → stays q (row_of l) ≡ keep l

pub lost_kept : {locks new_locks : List ForkLock} {forks new_forks : List (Fork × List LockRow)} {keep : ForkLock → Bool} {stays : Fork → LockRow → Bool} → Lost locks new_locks forks new_forks keep stays → IsLockTable new_locks new_forks
lost_kept {locks} {new_locks} {forks} {new_forks} {keep} {stays} l = record {
  order = subst (IsNonDecreasingBy holder_of) (sym l.new_list) (IsNonDecreasingBy-filter holder_of keep locks l.was.order);
  apart = ap (are_apart are_overlapping) l.new_list ∙ apart_filter keep locks l.was.apart;
  intervals = λ q. subst (AreIntervals new_locks q) (sym (l.new_rows q)) (record {
    order = order_filter (stays q) (rows_at forks q) (l.was.intervals q).order;
    same = λ x.
        any_filter (are_one_row x) (stays q) (rows_at forks q)
        ∙ rows_tell locks q (rows_at forks q) (λ y. are_one_row x y && stays q y) (l.was.intervals q).same
        ∙ any-same (λ y. is_one_fork y.fork q && (is_row x y && stays q (row_of y))) (λ y. (is_one_fork y.fork q && is_row x y) && keep y) locks (λ y. regroup (is_one_fork y.fork q) (is_row x y) (stays q (row_of y)) (keep y) (l.alike q y))
        ∙ sym (any_filter (λ y. is_one_fork y.fork q && is_row x y) keep locks)
        ∙ sym (ap (list_any (λ y. is_one_fork y.fork q && is_row x y)) l.new_list);
  });
}
  where
    regroup : (a b c d : Bool) → (a ≡ true → c ≡ d) → (a && (b && c)) ≡ ((a && b) && d)
    regroup true b c d same = ap (λ t. b && t) (same refl)
    regroup false b c d same = refl

-- a lock that goes
pub lock_alike : (fork : Fork) (row : LockRow) (q : Fork) (l : ForkLock) → is_one_fork l.fork q ≡ true → (if is_one_fork fork q then not (are_one_row row (row_of l)) else true) ≡ not (is_fork_lock fork row.reference.0 row.range l)
lock_alike fork row q l on = ap (λ f. if is_one_fork fork f then not (are_one_row row (row_of l)) else true) (sym (same_fork l.fork q on)) ∙ ap (λ t. if t then not (are_one_row row (row_of l)) else true) (either_way fork l.fork)
    ∙ elim (is_one_fork l.fork fork) as (λ t. (if t then not (are_one_row row (row_of l)) else true) ≡ not (t && ((l.reference == row.reference.0) && ((l.range.from == row.range.from) && (l.range.to == row.range.to))))) [
      | true ↦ ap not (λ i. eqb_turn row.reference.0 l.reference i && (eqb_turn row.range.from l.range.from i && eqb_turn row.range.to l.range.to i))
      | false ↦ refl
    ]

filter_if : (b : Bool) (keep : LockRow → Bool) (rows : List LockRow) → (if b then filter keep rows else rows) ≡ filter (λ x. if b then keep x else true) rows
filter_if true keep rows = refl
filter_if false keep [] = refl
filter_if false keep (x ∷ xs) = ap (λ l. x ∷ l) (filter_if false keep xs)

pub taken_rows : (forks new_forks : List (Fork × List LockRow)) (fork : Fork) (keep : LockRow → Bool) → ((q : Fork) → rows_at new_forks q ≡ (if is_one_fork fork q then filter keep (rows_at forks fork) else rows_at forks q))
    → (q : Fork) → rows_at new_forks q ≡ filter (λ x. if is_one_fork fork q then keep x else true) (rows_at forks q)
taken_rows forks new_forks fork keep new_is q = new_is q ∙ elim (is_one_fork fork q) as (λ b. is_one_fork fork q ≡ b → (if b then filter keep (rows_at forks fork) else rows_at forks q) ≡ filter (λ x. if b then keep x else true) (rows_at forks q)) [
  | true ↦ λ same. ap (λ f. filter keep (rows_at forks f)) (same_fork fork q same)
  | false ↦ λ other. filter_if false keep (rows_at forks q)
] refl

-- of locks no two of which overlap, one alone has those ends
alike_overlap : (fork : Fork) (r : ℕ) (range : Range) (a b : ForkLock) → range.from ≤ range.to → is_fork_lock fork r range a ≡ true → is_fork_lock fork r range b ≡ true → are_overlapping a b ≡ true
alike_overlap fork r range a b ordered is_a is_b =
    let p = and_parts (is_one_fork a.fork fork) ((a.reference == r) && ((a.range.from == range.from) && (a.range.to == range.to))) is_a in
    let p_ends = and_parts (a.range.from == range.from) (a.range.to == range.to) (and_parts (a.reference == r) _ p.1).1 in
    let q = and_parts (is_one_fork b.fork fork) ((b.reference == r) && ((b.range.from == range.from) && (b.range.to == range.to))) is_b in
    let q_ends = and_parts (b.range.from == range.from) (b.range.to == range.to) (and_parts (b.reference == r) _ q.1).1 in
    let a_from = eqb-true a.range.from range.from p_ends.0 in
    let a_to = eqb-true a.range.to range.to p_ends.1 in
    let b_from = eqb-true b.range.from range.from q_ends.0 in
    let b_to = eqb-true b.range.to range.to q_ends.1 in
    and_from _ _ (ap (is_one_fork a.fork) (same_fork b.fork fork q.0) ∙ p.0)
    (and_from _ _ (le-leb a.range.from b.range.to (omega (arith, a_from, b_to))) (le-leb b.range.from a.range.to (omega (arith, b_from, a_to))))

pub remove_one : (fork : Fork) (r : ℕ) (range : Range) (ls : List ForkLock) (place : ℕ) → range.from ≤ range.to → are_apart are_overlapping ls ≡ true → place < length ls → ((d : ForkLock) → is_fork_lock fork r range (slice_index_or ls place d) ≡ true) → remove ls place ≡ filter (λ l. not (is_fork_lock fork r range l)) ls
remove_one fork r range [] place ordered apart within is = absurd (omega arith)
remove_one fork r range (l ∷ ls) zero ordered apart within is =
    others ls (not-true (list_any (are_overlapping l) ls) (and_parts (not (list_any (are_overlapping l) ls)) (are_apart are_overlapping ls) apart).0)
    ∙ ap (λ b. if not b then l ∷ filter (λ x. not (is_fork_lock fork r range x)) ls else filter (λ x. not (is_fork_lock fork r range x)) ls) (sym (is l))
  where
    others : (xs : List ForkLock) → list_any (are_overlapping l) xs ≡ false → xs ≡ filter (λ x. not (is_fork_lock fork r range x)) xs
    others [] none = refl
    others (x ∷ xs) none =
        let parts = or_parts (are_overlapping l x) (list_any (are_overlapping l) xs) none in
        let other : is_fork_lock fork r range x ≡ false = elim (is_fork_lock fork r range x) as (λ b. is_fork_lock fork r range x ≡ b → b ≡ false) [ true ↦ λ same. sym (alike_overlap fork r range l x ordered (is l) same) ∙ parts.0 | false ↦ λ _. refl ] refl in
        ap (λ rest. x ∷ rest) (others xs parts.1) ∙ ap (λ b. if not b then x ∷ filter (λ y. not (is_fork_lock fork r range y)) xs else filter (λ y. not (is_fork_lock fork r range y)) xs) (sym other)
remove_one fork r range (l ∷ ls) (suc place) ordered apart within is =
    let parts = and_parts (not (list_any (are_overlapping l) ls)) (are_apart are_overlapping ls) apart in
    let alone = not-true (list_any (are_overlapping l) ls) parts.0 in
    let other : is_fork_lock fork r range l ≡ false = elim (is_fork_lock fork r range l) as (λ b. is_fork_lock fork r range l ≡ b → b ≡ false) [
      | true ↦ λ same. sym (list_any_at (are_overlapping l) ls place l (omega arith) (alike_overlap fork r range l (slice_index_or ls place l) ordered same (is l))) ∙ alone
      | false ↦ λ _. refl
    ] refl in
    ap (λ rest. l ∷ rest) (remove_one fork r range ls place ordered parts.1 (omega arith) is)
    ∙ ap (λ b. if not b then l ∷ filter (λ x. not (is_fork_lock fork r range x)) ls else filter (λ x. not (is_fork_lock fork r range x)) ls) (sym other)

-- the bytes of a lock that is kept end where they begin or behind it
bytes_in_order : {locks : List ForkLock} {forks : List (Fork × List LockRow)} (place : ℕ) (d : ForkLock) → IsLockTable locks forks → place < length locks → nat_le (slice_index_or locks place d).range.from (slice_index_or locks place d).range.to ≡ true
bytes_in_order {locks} {forks} place d k within =
    let q : Fork = (slice_index_or locks place d).fork in
    elim (nat_le (slice_index_or locks place d).range.from (slice_index_or locks place d).range.to) as (λ b. nat_le (slice_index_or locks place d).range.from (slice_index_or locks place d).range.to ≡ b → b ≡ true) [
      | true ↦ λ _. refl
      | false ↦ λ is.
          let there = list_any_at (λ l. is_one_fork l.fork q && falls (row_of l)) locks place d within (and_from _ _ (one_fork-itself q) (ap not is)) in
          let f = Any-from_list_any falls (rows_at forks q) (rows_tell locks q (rows_at forks q) falls (k.intervals q).same ∙ there) in
          sym (ap not ((k.intervals q).order.valid f.0 f.1 f.2)) ∙ ap falls f.3 ∙ f.4
    ] refl
  where
    falls : LockRow → Bool
    falls row = not (nat_le row.range.from row.range.to)

-- the list without the lock at its place
pub one_taken : {locks given new_locks : List ForkLock} {forks : List (Fork × List LockRow)} (fork : Fork) (r : ℕ) (range : Range) (place : ℕ) → IsLockTable locks forks → given ≡ locks → IsPlaceOf given fork r range (Some place) → new_locks ≡ remove locks place → new_locks ≡ filter (λ l. not (is_fork_lock fork r range l)) locks
one_taken {locks} {given} fork r range place k same is new_is =
    let any : ForkLock = record { reference = r; fork = fork; range = range } in
    let there = subst (λ ls. IsPlaceOf ls fork r range (Some place)) same is in
    let ends = and_parts ((slice_index_or locks place any).range.from == range.from) ((slice_index_or locks place any).range.to == range.to) (and_parts _ _ (and_parts _ _ (there.1 any)).1).1 in
    new_is ∙ remove_one fork r range locks place (in_order _ _ _ _ (bytes_in_order place any k there.0) ends.0 ends.1) k.apart there.0 there.1
  where
    in_order : (a b m n : ℕ) → nat_le a b ≡ true → (a == m) ≡ true → (b == n) ≡ true → m ≤ n
    in_order a b m n h from to = let e = eqb-true a m from in let f = eqb-true b n to in grind (arith, nat_tests, h, e, f)

pub is_there : {given whole : List ForkLock} (fork : Fork) (r : ℕ) (range : Range) (place : ℕ) → given ≡ whole → IsPlaceOf given fork r range (Some place) → has_fork_lock whole fork r range ≡ true
is_there {given} {whole} fork r range place same is =
    let any : ForkLock = record { reference = r; fork = fork; range = range } in
    sym (ap (list_any (is_fork_lock fork r range)) same) ∙ list_any_at (is_fork_lock fork r range) given place any is.0 (is.1 any)

-- what stands at the first place that passes, and where none does
pub place_passes : (p : ForkLock → Bool) (ls : List ForkLock) (place : ℕ) (any : ForkLock) → Some place ≡ position p ls → (place < length ls) × ((d : ForkLock) → p (slice_index_or ls place d) ≡ true)
place_passes p ls place any is = ((position-Some p ls place any (sym is)).0, λ d. (position-Some p ls place d (sym is)).1)

pub none_passes : (p : ForkLock → Bool) (ls : List ForkLock) → None ≡ position p ls → list_any p ls ≡ false
none_passes p ls is = elim (nat_lt (position_or_len p ls) (length ls)) as (λ b. nat_lt (position_or_len p ls) (length ls) ≡ b → None ≡ cond b (Some (position_or_len p ls)) None → list_any p ls ≡ false) [
  | true ↦ λ inside some. absurd (none-some (position_or_len p ls) some)
  | false ↦ λ outside _. elim (list_any p ls) as (λ b. list_any p ls ≡ b → b ≡ false) [
    | true ↦ λ any.
        let f = Any-from_list_any p ls any in
        let high : length ls ≤ position_or_len p ls = grind (arith, nat_tests, outside) in
        sym (ap p f.3 ∙ f.4) ∙ fails_before_first p ls f.0 f.1 (omega (arith, f.2))
    | false ↦ λ _. refl
  ] refl
] refl is

-- a lock is in the list where it is among those of its reference
pub found : {list own : List ForkLock} (fork : Fork) (r : ℕ) (range : Range) (first last place : ℕ) → IsBefore list r first → IsBehind list r last → own ≡ slice_range list first last → IsPlaceOf own fork r range (Some place) → IsPlaceOf list fork r range (Some (first + place))
found {list} {own} fork r range first last place before behind given is =
    let len = ap length given ∙ length-between list first last behind.within in
    let inside : first + place < last = omega (arith, len, is.0) in
    (omega (arith, behind.within), λ d. ap (is_fork_lock fork r range) (sym (ap (λ l. slice_index_or l place d) given ∙ get_or-between list first last place d inside)) ∙ is.1 d)

pub not_found : {list own : List ForkLock} (fork : Fork) (r : ℕ) (range : Range) (first last : ℕ) → IsBefore list r first → IsBehind list r last → own ≡ slice_range list first last → IsPlaceOf own fork r range None → IsPlaceOf list fork r range None
not_found {list} {own} fork r range first last before behind given is =
    sym (ap (list_any (is_fork_lock fork r range)) (given ∙ (own_part list r first last before behind).0) ∙ any_filter (is_fork_lock fork r range) (λ l. l.reference == r) list
    ∙ any-same (λ l. is_fork_lock fork r range l && (l.reference == r)) (is_fork_lock fork r range) list (λ l. again (is_one_fork l.fork fork) (l.reference == r) ((l.range.from == range.from) && (l.range.to == range.to))))
    ∙ is
  where
    again : (a b c : Bool) → ((a && (b && c)) && b) ≡ (a && (b && c))
    again true true true = refl
    again true true false = refl
    again true false c = refl
    again false b c = refl

-- ---- the locks of a reference go
abbrev pub stays_of : ℕ → LockRow → Bool
stays_of r x = not (x.reference.0 == r)

stay_all : (r : ℕ) (rows : List LockRow) → list_any (λ x. x.reference.0 == r) rows ≡ false → rows ≡ filter (stays_of r) rows
stay_all r [] h = refl
stay_all r (x ∷ xs) h =
    let parts = or_parts (x.reference.0 == r) (list_any (λ y. y.reference.0 == r) xs) h in
    ap (λ l. x ∷ l) (stay_all r xs parts.1) ∙ ap (λ b. if not b then x ∷ filter (stays_of r) xs else filter (stays_of r) xs) (sym parts.0)

stay_twice : (r : ℕ) (rows : List LockRow) → filter (stays_of r) (filter (stays_of r) rows) ≡ filter (stays_of r) rows
stay_twice r [] = refl
stay_twice r (x ∷ xs) = elim (x.reference.0 == r) as (λ b. x.reference.0 == r ≡ b → filter (stays_of r) (if not b then x ∷ filter (stays_of r) xs else filter (stays_of r) xs) ≡ (if not b then x ∷ filter (stays_of r) xs else filter (stays_of r) xs)) [
  | true ↦ λ is. stay_twice r xs
  | false ↦ λ is. ap (λ b. if not b then x ∷ filter (stays_of r) (filter (stays_of r) xs) else filter (stays_of r) (filter (stays_of r) xs)) is ∙ ap (λ l. x ∷ l) (stay_twice r xs)
] refl

-- the list without the part where they stand
pub part_gone : {locks new_locks kept : List ForkLock} (r first last : ℕ) → IsBefore locks r first → IsBehind locks r last → new_locks ≡ kept → kept ≡ take first locks ++ drop last locks → new_locks ≡ without_holder r locks
part_gone {locks} r first last before behind new_is kept_is = new_is ∙ kept_is ∙ (own_part locks r first last before behind).1

pub no_part : (locks : List ForkLock) (r first last : ℕ) → IsBefore locks r first → IsBehind locks r last → last ≤ first → locks ≡ without_holder r locks
no_part locks r first last before behind low =
    let count = count_between locks r first last before behind in
    let same : last ≡ first = omega (arith, count, low) in
    sym (ap (λ n. take first locks ++ drop n locks) same ∙ take-append-drop first locks) ∙ (own_part locks r first last before behind).1

pub cleared : {locks own : List ForkLock} {forks : List (Fork × List LockRow)} (new_forks : List (Fork × List LockRow)) (r first last : ℕ) → IsLockTable locks forks → IsBefore locks r first → IsBehind locks r last → own ≡ slice_range locks first last
    → ((q : Fork) → rows_at new_forks q ≡ (if is_among own q then filter (stays_of r) (rows_at forks q) else rows_at forks q)) → (q : Fork) → rows_at new_forks q ≡ filter (stays_of r) (rows_at forks q)
cleared {locks} {own} {forks} new_forks r first last k before behind given new_is q = new_is q ∙ elim (is_among own q) as (λ b. is_among own q ≡ b → (if b then filter (stays_of r) (rows_at forks q) else rows_at forks q) ≡ filter (stays_of r) (rows_at forks q)) [
  | true ↦ λ is. refl
  | false ↦ λ is. stay_all r (rows_at forks q) (rows_tell locks q (rows_at forks q) (λ x. x.reference.0 == r) (k.intervals q).same
      ∙ sym (ap (λ ls. is_among ls q) (given ∙ (own_part locks r first last before behind).0) ∙ any_filter (λ l. is_one_fork l.fork q) (λ l. l.reference == r) locks) ∙ is)
] refl

-- the rows of a reference after the first so many of its locks
abbrev pub are_cleared : ℕ → List ForkLock → List (Fork × List LockRow) → Fork → List LockRow
are_cleared r ls forks q = if is_among ls q then filter (stays_of r) (rows_at forks q) else rows_at forks q

among_more : (ls : List ForkLock) (i : ℕ) (x : ForkLock) (q : Fork) → i < length ls → x ≡ slice_index_or ls i x → is_among (take (i + 1) ls) q ≡ (is_among (take i ls) q || is_one_fork x.fork q)
among_more ls i x q within read = list_any_more (λ l. is_one_fork l.fork q) ls i x within ∙ ap (λ l. is_among (take i ls) q || is_one_fork l.fork q) (sym read)

pub clear_step : (ls : List ForkLock) (i : ℕ) (x : ForkLock) (r : ℕ) (first mid after : List (Fork × List LockRow)) (fork : Fork) → i < length ls → x ≡ slice_index_or ls i x → fork ≡ x.fork → ((q : Fork) → rows_at mid q ≡ are_cleared r (take i ls) first q)
    → ((q : Fork) → rows_at after q ≡ (if is_one_fork fork q then filter (stays_of r) (rows_at mid fork) else rows_at mid q))
    → (q : Fork) → rows_at after q ≡ are_cleared r (take (i + 1) ls) first q
clear_step ls i x r first mid after fork within read fork_is before now_is q =
    now_is q ∙ ap (λ f. if is_one_fork f q then filter (stays_of r) (rows_at mid f) else rows_at mid q) fork_is
    ∙ elim (is_one_fork x.fork q) as (λ b. is_one_fork x.fork q ≡ b → (if b then filter (stays_of r) (rows_at mid x.fork) else rows_at mid q) ≡ (if is_among (take i ls) q || b then filter (stays_of r) (rows_at first q) else rows_at first q)) [
      | true ↦ λ same.
          ap (λ f. filter (stays_of r) (rows_at mid f)) (same_fork x.fork q same) ∙ ap (filter (stays_of r)) (before q)
          ∙ elim (is_among (take i ls) q) as (λ h. filter (stays_of r) (if h then filter (stays_of r) (rows_at first q) else rows_at first q) ≡ filter (stays_of r) (rows_at first q)) [ true ↦ stay_twice r (rows_at first q) | false ↦ refl ]
          ∙ ap (λ t. if t then filter (stays_of r) (rows_at first q) else rows_at first q) (sym (or-true (is_among (take i ls) q)))
      | false ↦ λ other. before q ∙ ap (λ t. if t then filter (stays_of r) (rows_at first q) else rows_at first q) (sym (or-false (is_among (take i ls) q)))
    ] refl
    ∙ ap (λ t. if t then filter (stays_of r) (rows_at first q) else rows_at first q) (sym (among_more ls i x q within read))

-- a fork that an earlier lock was on has no such row any more
pub clear_skip : (ls : List ForkLock) (i : ℕ) (x : ForkLock) (r : ℕ) (first mid : List (Fork × List LockRow)) (fork : Fork) → i < length ls → x ≡ slice_index_or ls i x → fork ≡ x.fork → is_among (take i ls) fork ≡ true → ((q : Fork) → rows_at mid q ≡ are_cleared r (take i ls) first q)
    → (q : Fork) → rows_at mid q ≡ are_cleared r (take (i + 1) ls) first q
clear_skip ls i x r first mid fork within read fork_is earlier before q =
    before q ∙ ap (λ t. if t then filter (stays_of r) (rows_at first q) else rows_at first q)
    (sym (among_more ls i x q within read ∙ elim (is_one_fork x.fork q) as (λ b. is_one_fork x.fork q ≡ b → (is_among (take i ls) q || b) ≡ is_among (take i ls) q) [
      | true ↦ λ same. or-true (is_among (take i ls) q) ∙ sym (sym (ap (is_among (take i ls)) (fork_is ∙ same_fork x.fork q same)) ∙ earlier)
      | false ↦ λ _. or-false (is_among (take i ls) q)
    ] refl))

-- ---- two forks change places
exchange_any : (a b q : Fork) (y : LockRow) (ls : List ForkLock) → list_any (λ l. is_one_fork l.fork q && is_row y l) (exchanged_locks a b ls) ≡ list_any (λ l. is_one_fork l.fork (in_exchange a b q) && is_row y l) ls
exchange_any a b q y [] = refl
exchange_any a b q y (l ∷ ls) = λ i. (crosses a b l.fork q i && is_row y l) || exchange_any a b q y ls i

exchange_apart : (a b : Fork) (ls : List ForkLock) → are_apart are_overlapping (exchanged_locks a b ls) ≡ are_apart are_overlapping ls
exchange_apart a b [] = refl
exchange_apart a b (l ∷ ls) = λ i. not (same ls i) && exchange_apart a b ls i
  where
    same : (ls : List ForkLock) → list_any (are_overlapping (exchange_lock a b l)) (exchanged_locks a b ls) ≡ list_any (are_overlapping l) ls
    same [] = refl
    same (x ∷ xs) = λ i. (both_cross a b l.fork x.fork i && do_meet l.range x.range) || same xs i

pub exchange_kept : {locks new_locks : List ForkLock} {forks new_forks : List (Fork × List LockRow)} (a b : Fork) → IsLockTable locks forks → new_locks ≡ exchanged_locks a b locks → IsNonDecreasingBy holder_of (exchanged_locks a b locks) → ((q : Fork) → at fork_cmp new_forks q ≡ exchanged fork_cmp (at fork_cmp forks) a b q) → IsLockTable new_locks new_forks
exchange_kept {locks} {new_locks} {forks} {new_forks} a b k list_is order new_is = record {
  order = subst (IsNonDecreasingBy holder_of) (sym list_is) order;
  apart = ap (are_apart are_overlapping) list_is ∙ exchange_apart a b locks ∙ k.apart;
  intervals = λ q.
      let rows_are : rows_at new_forks q ≡ rows_at forks (in_exchange a b q) = ap (λ o. unwrap_or o []) (new_is q ∙ found_crossed (at fork_cmp forks) a b q) in
      subst (AreIntervals new_locks q) (sym rows_are) (record {
        order = (k.intervals (in_exchange a b q)).order;
        same = λ y. (k.intervals (in_exchange a b q)).same y ∙ sym (ap (list_any (λ l. is_one_fork l.fork q && is_row y l)) list_is ∙ exchange_any a b q y locks);
      });
}

pub exchange_order : (a b : Fork) (ls : List ForkLock) → IsNonDecreasingBy holder_of ls → IsNonDecreasingBy holder_of (exchanged_locks a b ls)
exchange_order a b ls order = λ i j d low high.
    let len = length_same ls in
    let within : j < length ls = omega (arith, len, high) in
    let e : holder_of (slice_index_or (exchanged_locks a b ls) i d) ≡ holder_of (slice_index_or ls i d) = holder_same ls i d (omega (arith, low, within)) in
    let f : holder_of (slice_index_or (exchanged_locks a b ls) j d) ≡ holder_of (slice_index_or ls j d) = holder_same ls j d within in
    let g : holder_of (slice_index_or ls i d) ≤ holder_of (slice_index_or ls j d) = order i j d low within in
    omega (arith, e, f, g)
  where
    length_same : (ls : List ForkLock) → length (exchanged_locks a b ls) ≡ length ls
    length_same [] = refl
    length_same (l ∷ ls) = ap suc (length_same ls)

    holder_same : (ls : List ForkLock) (i : ℕ) (d : ForkLock) → i < length ls → holder_of (slice_index_or (exchanged_locks a b ls) i d) ≡ holder_of (slice_index_or ls i d)
    holder_same [] i d h = absurd (omega arith)
    holder_same (l ∷ ls) zero d h = refl
    holder_same (l ∷ ls) (suc i) d h = holder_same ls i d (omega arith)

pub exchange_more : (a b : Fork) (first ys : List ForkLock) (i : ℕ) (x put : ForkLock) → i < length first → ys ≡ map (exchange_lock a b) (take i first) ++ drop i first → x ≡ slice_index_or ys i x → put ≡ exchange_lock a b x → slice_set ys i put ≡ map (exchange_lock a b) (take (i + 1) first) ++ drop (i + 1) first
exchange_more a b first ys i x put within ys_is read put_is = ap (slice_set ys i) put_is ∙ map_over_more (exchange_lock a b) first ys i x within ys_is read
