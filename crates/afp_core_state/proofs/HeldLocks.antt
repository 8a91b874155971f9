-- The locks of the table, and those that a world has; and what goes with open forks that are closed.
use Rattle.std.proofs.Common.{◌≡◌, ◌∙◌, refl, sym, ap, subst, ℕ, zero, suc, ◌+◌, ◌-◌, ◌<◌, ◌≤◌, Bool, true, false, cond, not, ◌||◌, ◌&&◌, ◌==◌, if◌then◌else◌, List, [], ◌∷◌, map, filter, Option, Some, None, min, arith}
use Rattle.std.specs.Prelude.{Result, Ok, Err, IfSome, IsSome, count_by, nat_le, nat_lt}
use Rattle.std.specs.List.{list_any, list_all}
use Rattle.std.specs.Ordering.{nat_cmp}
use Rattle.std.proofs.lemmas.Bool.{and_parts, eq-eqb, eqb-false, eqb-true, le-leb, ne_eqb}
use Rattle.std.proofs.lemmas.List.Folds.{list_all-map}
use Rattle.afp_base.specs.Choice.{first_holding}
use Rattle.afp_base.specs.DenyMode.{Fork, is_one_fork}
use Rattle.afp_base.specs.Limits.{most_locks}
use Rattle.afp_base.specs.Overlap.{Range, do_meet}
use Rattle.afp_base.specs.declared.code.Code.TheVariants.{LockErr, NoMoreLocks, RangeOverlap}
use Rattle.afp_serial.specs.World.{Refused, plain, is_open, World, OpenFork, Lock}
use Rattle.afp_serial.specs.ForkLaws.{MeetsNoneBehind, MeetsUpToLastByte, is_lock_range}
use Rattle.afp_serial.specs.Fork.{with_open}
use Rattle.afp_serial.specs.Lock.{has_lock, has_most_locks, is_lock, is_met_by_own, locking_refusals, with_lock}
use Rattle.afp_base.specs.Limits.{last_byte}
use Rattle.afp_serial.specs.OnFork.{is_locked, is_met_by_other, meets_lock}
use Rattle.afp_serial.specs.Sound.{share_fork}
use Rattle.afp_serial.proofs.ForkFacts.{any-same}
use Rattle.fork_table.specs.ForkTable as table
use Rattle.fork_table.specs.declared.open_fork.OpenFork.{OpenFork as Row}
use Rattle.range_locks.specs.Locks as held
use Rattle.range_locks.specs.declared.fault.LockFault.{LockFault}
use Rattle.range_locks.specs.declared.fault.LockFault.TheVariants.{Locked, Overlap, Full, Memory}
use Rattle.range_locks.specs.declared.fault.NotLocked.{NotLocked}
use Rattle.sorted_map.specs.map.Entries.{at}
use Rattle.afp_core_state.specs.Forks.{AllHeld, ClosingUndoes, Forks, HasForks, LocksRange, UnlocksRange, forks_of, left_of, lock_of, with_locks}
use Rattle.afp_core_state.specs.lemma.LockRanges.{AreInRange}
use Rattle.afp_core_state.proofs.OpenRows.{Rise, count-map, open-at, open-rows, row_of, told, told-at}
use Rattle.afp_base.proofs.Facts.{and-false}
use Rattle.afp_base.proofs.ListFacts.{all-filter, any-map, filter-map}
use Rattle.afp_base.proofs.Forks.{one_fork-itself, same_fork}

-- ---- lists whose elements all pass a test

filter-where : {A : Type 0} (q p r : A → Bool) (xs : List A) → list_all q xs ≡ true → ((x : A) → q x ≡ true → p x ≡ r x) → filter p xs ≡ filter r xs
filter-where q p r [] all same = refl
filter-where q p r (x ∷ xs) all same =
    let e = and_parts (q x) (list_all q xs) all in
    λ i. cond (same x e.0 i) (x ∷ filter-where q p r xs e.1 same i) (filter-where q p r xs e.1 same i)

all-where : {A : Type 0} (q p : A → Bool) (xs : List A) → list_all q xs ≡ true → ((x : A) → q x ≡ true → p x ≡ true) → list_all p xs ≡ true
all-where q p [] all gives = refl
all-where q p (x ∷ xs) all gives =
    let e = and_parts (q x) (list_all q xs) all in
    λ i. gives x e.0 i && all-where q p xs e.1 gives i

-- ---- the fork of a lock

-- the open fork at a reference of a lock is of the lock's fork
held-at : (rows : List (ℕ × Row)) (l : held.ForkLock) → Rise rows → table.is_held rows l ≡ true → told (λ o. is_one_fork o.fork l.fork) (at nat_cmp rows l.reference) ≡ true
held-at rows l rise h = sym (told-at (λ o. is_one_fork o.fork l.fork) rows l.reference rise) ∙ h

held-fork : (rows : List (ℕ × Row)) (l : held.ForkLock) (o : Row) → Rise rows → table.is_held rows l ≡ true → at nat_cmp rows l.reference ≡ Some o → o.fork ≡ l.fork
held-fork rows l o rise h found = same_fork o.fork l.fork (sym (ap (told (λ (x : Row). is_one_fork x.fork l.fork)) found) ∙ held-at rows l rise h)

held-open : (rows : List (ℕ × Row)) (l : held.ForkLock) → Rise rows → table.is_held rows l ≡ true → is_open (map row_of rows) l.reference ≡ true
held-open rows l rise h = open-rows rows l.reference ∙ more rows h
  where
    more : (rs : List (ℕ × Row)) → list_any (λ row. (row.0 == l.reference) && is_one_fork row.1.fork l.fork) rs ≡ true → list_any (λ row. row.0 == l.reference) rs ≡ true
    more [] h = absurd (cc h)
    more (e ∷ es) h = elim (e.0 == l.reference) as (λ b. ((b && is_one_fork e.1.fork l.fork) || list_any (λ row. (row.0 == l.reference) && is_one_fork row.1.fork l.fork) es) ≡ true → (b || list_any (λ row. row.0 == l.reference) es) ≡ true) [
      | true ↦ λ h. refl
      | false ↦ λ h. more es h
    ] h

-- a lock's reference and another one are open on one fork just where the other's fork is the lock's
shares : (rows : List (ℕ × Row)) (l : held.ForkLock) (r : ℕ) (o : Row) → Rise rows → table.is_held rows l ≡ true → at nat_cmp rows r ≡ Some o → share_fork (map row_of rows) l.reference r ≡ is_one_fork l.fork o.fork
shares rows l r o rise h found =
    any-map (λ (x : OpenFork). (x.reference == l.reference) && list_any (λ (y : OpenFork). (y.reference == r) && is_one_fork x.fork y.fork) (map row_of rows)) row_of rows
    ∙ told-at (λ x. list_any (λ (y : OpenFork). (y.reference == r) && is_one_fork x.fork y.fork) (map row_of rows)) rows l.reference rise
    ∙ by (at nat_cmp rows l.reference) (held-at rows l rise h)
  where
    inner : (f : Fork) → list_any (λ (y : OpenFork). (y.reference == r) && is_one_fork f y.fork) (map row_of rows) ≡ is_one_fork f o.fork
    inner f = any-map (λ (y : OpenFork). (y.reference == r) && is_one_fork f y.fork) row_of rows ∙ told-at (λ y. is_one_fork f y.fork) rows r rise ∙ ap (told (λ (y : Row). is_one_fork f y.fork)) found

    by : (q : Option Row) → told (λ x. is_one_fork x.fork l.fork) q ≡ true → told (λ x. list_any (λ (y : OpenFork). (y.reference == r) && is_one_fork x.fork y.fork) (map row_of rows)) q ≡ is_one_fork l.fork o.fork
    by None k = absurd (cc k)
    by (Some x) k = inner x.fork ∙ ap (λ f. is_one_fork f o.fork) (same_fork x.fork l.fork k)

-- What is known of a world and the table, and of the open fork of a reference.
pub record Finds (w : World) (t : table.Table) (x : OpenFork) (r : ℕ) (o : Row) : Type 0 where
  pub has : HasForks w (forks_of t)
  pub sound : table.TableIsSound t
  pub number : x.reference ≡ r
  pub found : at nat_cmp t.opens r ≡ Some o

-- ---- locks that meet a range

meets : (w : World) (t : table.Table) (x : OpenFork) (r : ℕ) (o : Row) (range : Range) → Finds w t x r o → (l : held.ForkLock) → table.is_held t.opens l ≡ true → meets_lock w x range (lock_of l) ≡ (is_one_fork l.fork o.fork && do_meet l.range range)
meets w t x r o range f l h =
    (λ i. share_fork (f.has.opens i) l.reference (f.number i) && do_meet l.range range)
    ∙ ap (λ b. b && do_meet l.range range) (shares t.opens l r o f.sound.rising h f.found)

met-other : (w : World) (t : table.Table) (x : OpenFork) (r : ℕ) (o : Row) (range : Range) → Finds w t x r o → is_met_by_other w x range ≡ held.is_met_by_other_lock t.locks o.fork r range
unfolding is_met_by_other
met-other w t x r o range f =
    ap (list_any (λ (lock : Lock). meets_lock w x range lock && not (lock.reference == x.reference))) f.has.locks
    ∙ any-map (λ (lock : Lock). meets_lock w x range lock && not (lock.reference == x.reference)) lock_of t.locks
    ∙ any-same (table.is_held t.opens) (λ l. meets_lock w x range (lock_of l) && not (l.reference == x.reference)) (λ l. (is_one_fork l.fork o.fork && do_meet l.range range) && not (l.reference == r)) t.locks f.sound.held
    (λ l h. λ i. meets w t x r o range f l h i && not (l.reference == f.number i))

met-own : (w : World) (t : table.Table) (x : OpenFork) (r : ℕ) (o : Row) (range : Range) → Finds w t x r o → is_met_by_own w x range ≡ held.is_met_by_own_lock t.locks o.fork r range
unfolding is_met_by_own
met-own w t x r o range f =
    ap (list_any (λ (lock : Lock). meets_lock w x range lock && (lock.reference == x.reference))) f.has.locks
    ∙ any-map (λ (lock : Lock). meets_lock w x range lock && (lock.reference == x.reference)) lock_of t.locks
    ∙ any-same (table.is_held t.opens) (λ l. meets_lock w x range (lock_of l) && (l.reference == x.reference)) (λ l. (is_one_fork l.fork o.fork && do_meet l.range range) && (l.reference == r)) t.locks f.sound.held
    (λ l h. λ i. meets w t x r o range f l h i && (l.reference == f.number i))

most-held : (w : World) (t : table.Table) (x : OpenFork) (r : ℕ) (o : Row) → Finds w t x r o → has_most_locks w x ≡ nat_le most_locks (held.count_held r t.locks)
unfolding has_most_locks
most-held w t x r o f =
    (λ i. nat_le 1024 (count_by (λ (lock : Lock). lock.reference == f.number i) (f.has.locks i)))
    ∙ ap (nat_le 1024) (count-map (λ (lock : Lock). lock.reference == r) lock_of t.locks)

-- ---- a range is locked

with-map : (new : held.ForkLock) (ls : List held.ForkLock) → map lock_of (held.with_fork_lock new ls) ≡ with_lock (lock_of new) (map lock_of ls)
with-map new [] = refl
with-map new (l ∷ ls) = elim (nat_lt new.reference l.reference) as (λ b. map lock_of (if b then new ∷ l ∷ ls else l ∷ held.with_fork_lock new ls) ≡ (if b then lock_of new ∷ lock_of l ∷ map lock_of ls else lock_of l ∷ with_lock (lock_of new) (map lock_of ls))) [
  | true ↦ refl
  | false ↦ ap (λ m. lock_of l ∷ m) (with-map new ls)
]

-- what is refused, by the table's faults
abbrev code_of : LockFault → Option Refused
code_of Locked = Some (plain LockErr)
code_of Overlap = Some (plain RangeOverlap)
code_of Full = Some (plain NoMoreLocks)
code_of Memory = None

abbrev coded : Option LockFault → Option Refused
coded None = None
coded (Some fault) = code_of fault

three : (a b c : Bool) → first_holding ((a, plain LockErr) ∷ (b, plain RangeOverlap) ∷ (c, plain NoMoreLocks) ∷ []) ≡ coded (first_holding ((a, Locked) ∷ (b, Overlap) ∷ (c, Full) ∷ []))
three true b c = refl
three false true c = refl
three false false true = refl
three false false false = refl

refusal-is : (w : World) (t : table.Table) (x : OpenFork) (r : ℕ) (o : Row) (range : Range) → Finds w t x r o → first_holding (locking_refusals w x range) ≡ coded (held.lock_refusal t.locks o.fork r range)
refusal-is w t x r o range f =
    (λ i. first_holding ((met-other w t x r o range f i, plain LockErr) ∷ (met-own w t x r o range f i, plain RangeOverlap) ∷ (most-held w t x r o f i, plain NoMoreLocks) ∷ []))
    ∙ three (held.is_met_by_other_lock t.locks o.fork r range) (held.is_met_by_own_lock t.locks o.fork r range) (nat_le most_locks (held.count_held r t.locks))

-- the table with other locks
less-locks : (t t' : table.Table) (ls : List Lock) → t'.opens ≡ t.opens → map lock_of t'.locks ≡ ls → forks_of t' ≡ with_locks (forks_of t) ls
less-locks t t' ls opens locks = λ i. record { opens = map row_of (opens i); locks = locks i }

no-change : (t t' : table.Table) → t'.opens ≡ t.opens → t'.locks ≡ t.locks → forks_of t' ≡ forks_of t
no-change t t' opens locks = λ i. record { opens = map row_of (opens i); locks = map lock_of (locks i) }

pub locks-range : (w : World) (t t' : table.Table) (x : OpenFork) (r : ℕ) (o : Row) (range : Range) (res : Result (Unit {0}) LockFault) → Finds w t x r o
    → t'.opens ≡ t.opens → held.SetsLock t.locks o.fork r range res t'.locks → LocksRange w (forks_of t) x range res (forks_of t')
locks-range w t t' x r o range (Ok done) f opens is = (
  refusal-is w t x r o range f ∙ ap coded is.0,
  less-locks t t' (with_lock (record { reference = x.reference; range = range }) (map lock_of t.locks)) opens
      (ap (map lock_of) is.1 ∙ with-map (record { reference = r; fork = o.fork; range = range }) t.locks ∙ (λ i. with_lock (record { reference = sym f.number i; range = range }) (map lock_of t.locks))),
)
locks-range w t t' x r o range (Err Locked) f opens is = (refusal-is w t x r o range f ∙ ap coded is.0, no-change t t' opens is.1)
locks-range w t t' x r o range (Err Overlap) f opens is = (refusal-is w t x r o range f ∙ ap coded is.0, no-change t t' opens is.1)
locks-range w t t' x r o range (Err Full) f opens is = (refusal-is w t x r o range f ∙ ap coded is.0, no-change t t' opens is.1)
locks-range w t t' x r o range (Err Memory) f opens is = no-change t t' opens is.1

-- ---- a range is unlocked

one-lock : (rows : List (ℕ × Row)) (r : ℕ) (o : Row) (range : Range) → Rise rows → at nat_cmp rows r ≡ Some o → (l : held.ForkLock) → table.is_held rows l ≡ true → is_lock r range (lock_of l) ≡ held.is_fork_lock o.fork r range l
one-lock rows r o range rise found l h = by (l.reference == r) refl
  where
    by : (b : Bool) → (l.reference == r) ≡ b → ((l.reference == r) && ((l.range.from == range.from) && (l.range.to == range.to))) ≡ (is_one_fork l.fork o.fork && ((l.reference == r) && ((l.range.from == range.from) && (l.range.to == range.to))))
    by true same =
        let there : at nat_cmp rows l.reference ≡ Some o = ap (at nat_cmp rows) (eqb-true l.reference r same) ∙ found in
        let fork : is_one_fork l.fork o.fork ≡ true = ap (is_one_fork l.fork) (held-fork rows l o rise h there) ∙ one_fork-itself l.fork in
        ap (λ b. b && ((l.reference == r) && ((l.range.from == range.from) && (l.range.to == range.to)))) (sym fork)
    by false other =
        ap (λ b. b && ((l.range.from == range.from) && (l.range.to == range.to))) other
        ∙ sym (and-false (is_one_fork l.fork o.fork))
        ∙ ap (λ b. is_one_fork l.fork o.fork && (b && ((l.range.from == range.from) && (l.range.to == range.to)))) (sym other)

has-is : (w : World) (t : table.Table) (x : OpenFork) (r : ℕ) (o : Row) (range : Range) → Finds w t x r o → has_lock w x range ≡ held.has_fork_lock t.locks o.fork r range
unfolding has_lock
has-is w t x r o range f =
    (λ i. list_any (is_lock (f.number i) range) (f.has.locks i))
    ∙ any-map (is_lock r range) lock_of t.locks
    ∙ any-same (table.is_held t.opens) (λ l. is_lock r range (lock_of l)) (held.is_fork_lock o.fork r range) t.locks f.sound.held (one-lock t.opens r o range f.sound.rising f.found)

pub unlocks-range : (w : World) (t t' : table.Table) (x : OpenFork) (r : ℕ) (o : Row) (range : Range) (res : Result (Unit {0}) NotLocked) → Finds w t x r o
    → t'.opens ≡ t.opens → held.TakesLock t.locks o.fork r range res t'.locks → UnlocksRange w (forks_of t) x range res (forks_of t')
unlocks-range w t t' x r o range (Ok done) f opens is = (
  has-is w t x r o range f ∙ is.0,
  less-locks t t' (filter (λ (lock : Lock). not (is_lock x.reference range lock)) (map lock_of t.locks)) opens
      (ap (map lock_of) is.1
      ∙ ap (map lock_of) (filter-where (table.is_held t.opens) (λ l. not (held.is_fork_lock o.fork r range l)) (λ l. not (is_lock r range (lock_of l))) t.locks f.sound.held (λ l h. ap not (sym (one-lock t.opens r o range f.sound.rising f.found l h))))
      ∙ sym (filter-map (λ (lock : Lock). not (is_lock r range lock)) lock_of t.locks)
      ∙ (λ i. filter (λ (lock : Lock). not (is_lock (sym f.number i) range lock)) (map lock_of t.locks))),
)
unlocks-range w t t' x r o range (Err fault) f opens is = (has-is w t x r o range f ∙ is.0, no-change t t' opens is.1)

-- ---- bytes that locks of others cover

shown-range : (w : World) (t : table.Table) → HasForks w (forks_of t) → AreInRange t.locks → list_all (λ (lock : Lock). is_lock_range lock.range) w.locks ≡ true
shown-range w t has all = ap (list_all (λ (lock : Lock). is_lock_range lock.range)) has.locks ∙ list_all-map (λ (lock : Lock). is_lock_range lock.range) lock_of t.locks ∙ all

pub no-bytes : (w : World) (x : OpenFork) (from count : ℕ) → count ≡ 0 → false ≡ is_locked w x from count
no-bytes w x from count none = ap (is_locked w x from) (sym none)

pub none-behind : (w : World) (t : table.Table) (x : OpenFork) (from count : ℕ) → MeetsNoneBehind → HasForks w (forks_of t) → AreInRange t.locks → last_byte < from → false ≡ is_locked w x from count
none-behind w t x from zero law has all behind = refl
none-behind w t x from (suc more) law has all behind = sym (law w x (record { from = from; to = from + more }) (shown-range w t has all) behind)

pub up-to-top : (w : World) (t : table.Table) (x : OpenFork) (r : ℕ) (o : Row) (from count to : ℕ) → MeetsUpToLastByte → Finds w t x r o → AreInRange t.locks → 0 < count → to ≡ min (from + (count - 1)) last_byte
    → held.is_met_by_other_lock t.locks o.fork r (record { from = from; to = to }) ≡ is_locked w x from count
up-to-top w t x r o from zero to law f all some is = absurd (omega (arith, some))
up-to-top w t x r o from (suc more) to law f all some is =
    let end : from + (suc more - 1) ≡ from + more = omega arith in
    sym (met-other w t x r o (record { from = from; to = to }) f)
    ∙ ap (λ n. is_met_by_other w x (record { from = from; to = n })) (is ∙ ap (λ n. min n last_byte) end)
    ∙ sym (law w x from (from + more) (shown-range w t f.has all))

-- ---- open forks are closed

pub close-is : (goes : Row → Bool) (stays : OpenFork → Bool) (t : table.Table) → ((r : ℕ) (o : Row) → stays (row_of (r, o)) ≡ not (goes o)) → forks_of (table.closing goes t) ≡ left_of stays (forks_of t)
close-is goes stays t same =
    let all_rows : (rows : List (ℕ × Row)) → map row_of (filter (λ (row : ℕ × Row). not (goes row.1)) rows) ≡ filter stays (map row_of rows) = λ rows. ap (map row_of) (filter-alike rows) ∙ sym (filter-map stays row_of rows) in
    λ i. record {
      opens = all_rows t.opens i;
      locks = (ap (map lock_of) (filter-open (filter (λ (row : ℕ × Row). not (goes row.1)) t.opens) t.locks)
          ∙ sym (filter-map (λ (lock : Lock). is_open (map row_of (filter (λ (row : ℕ × Row). not (goes row.1)) t.opens)) lock.reference) lock_of t.locks)
          ∙ ap (λ (opens : List OpenFork). filter (λ (lock : Lock). is_open opens lock.reference) (map lock_of t.locks)) (all_rows t.opens)) i;
    }
  where
    filter-alike : (rows : List (ℕ × Row)) → filter (λ (row : ℕ × Row). not (goes row.1)) rows ≡ filter (λ row. stays (row_of row)) rows
    filter-alike [] = refl
    filter-alike (row ∷ rows) = λ i. cond (sym (same row.0 row.1) i) (row ∷ filter-alike rows i) (filter-alike rows i)

    filter-open : (rows : List (ℕ × Row)) (ls : List held.ForkLock) → filter (λ (l : held.ForkLock). table.is_open_reference rows l.reference) ls ≡ filter (λ l. is_open (map row_of rows) l.reference) ls
    filter-open rows [] = refl
    filter-open rows (l ∷ ls) = λ i. cond (sym (open-rows rows l.reference) i) (l ∷ filter-open rows ls i) (filter-open rows ls i)

-- of the open forks without those of a reference, another reference is open where it was
still-open : (opens : List OpenFork) (r k : ℕ) → is_open opens k ≡ true → is_open (filter (λ (o : OpenFork). not (o.reference == r)) opens) k ≡ not (k == r)
still-open opens r k open_was = by (k == r) refl
  where
    gone : k ≡ r → (os : List OpenFork) → is_open (filter (λ (o : OpenFork). not (o.reference == r)) os) k ≡ false
    gone one [] = refl
    gone one (o ∷ os) = elim (o.reference == r) as (λ b. (o.reference == r) ≡ b → is_open (if not b then o ∷ filter (λ (o : OpenFork). not (o.reference == r)) os else filter (λ (o : OpenFork). not (o.reference == r)) os) k ≡ false) [
      | true ↦ λ same. gone one os
      | false ↦ λ other. (λ i. (ap (λ n. o.reference == n) one ∙ other) i || gone one os i)
    ] refl

    kept : (k == r) ≡ false → (os : List OpenFork) → is_open os k ≡ true → is_open (filter (λ (o : OpenFork). not (o.reference == r)) os) k ≡ true
    kept apart [] h = absurd (cc h)
    kept apart (o ∷ os) h = elim (o.reference == r) as (λ b. (o.reference == r) ≡ b → is_open (if not b then o ∷ filter (λ (o : OpenFork). not (o.reference == r)) os else filter (λ (o : OpenFork). not (o.reference == r)) os) k ≡ true) [
      | true ↦ λ same.
          let third : (o.reference == k) ≡ false = ne_eqb o.reference k (λ here. eqb-false k r apart (sym here ∙ eqb-true o.reference r same)) in
          kept apart os (ap (λ b. b || is_open os k) (sym third) ∙ h)
      | false ↦ λ other. elim (o.reference == k) as (λ b. (b || is_open os k) ≡ true → (b || is_open (filter (λ (o : OpenFork). not (o.reference == r)) os) k) ≡ true) [
        | true ↦ λ h. refl
        | false ↦ λ h. kept apart os h
      ] h
    ] refl

    by : (b : Bool) → (k == r) ≡ b → is_open (filter (λ (o : OpenFork). not (o.reference == r)) opens) k ≡ not (k == r)
    by true same = gone (eqb-true k r same) opens ∙ ap not (sym same)
    by false other = kept other opens open_was ∙ ap not (sym other)

pub close-one : (t t' : table.Table) (r : ℕ) → table.TableIsSound t → t'.opens ≡ filter (λ (row : ℕ × Row). not (row.0 == r)) t.opens → t'.locks ≡ held.without_holder r t.locks → forks_of t' ≡ left_of (λ (o : OpenFork). not (o.reference == r)) (forks_of t)
close-one t t' r sound opens locks = λ i. record {
  opens = (ap (map row_of) opens ∙ sym (filter-map (λ (o : OpenFork). not (o.reference == r)) row_of t.opens)) i;
  locks = (ap (map lock_of) locks
      ∙ ap (map lock_of) (filter-where (table.is_held t.opens) (λ l. not (l.reference == r)) (λ l. is_open (filter (λ (o : OpenFork). not (o.reference == r)) (map row_of t.opens)) l.reference) t.locks sound.held
      (λ l h. sym (still-open (map row_of t.opens) r l.reference (held-open t.opens l sound.rising h))))
      ∙ sym (filter-map (λ (lock : Lock). is_open (filter (λ (o : OpenFork). not (o.reference == r)) (map row_of t.opens)) lock.reference) lock_of t.locks)) i;
}

-- ---- what is kept

pub all-held : (t : table.Table) → table.TableIsSound t → AllHeld (forks_of t)
all-held t sound =
    list_all-map (λ (lock : Lock). is_open (map row_of t.opens) lock.reference) lock_of t.locks
    ∙ all-where (table.is_held t.opens) (λ l. is_open (map row_of t.opens) l.reference) t.locks sound.held (λ l h. held-open t.opens l sound.rising h)

pub left-in-range : (keep : held.ForkLock → Bool) (ls : List held.ForkLock) → AreInRange ls → AreInRange (filter keep ls)
left-in-range keep ls all = all-filter (λ (l : held.ForkLock). is_lock_range l.range) keep ls all

pub closed-in-range : (goes : Row → Bool) (t t' : table.Table) → t' ≡ table.closing goes t → AreInRange t.locks → AreInRange t'.locks
closed-in-range goes t t' is all =
    subst (λ (t : table.Table). AreInRange t.locks) (sym is) (left-in-range (λ (l : held.ForkLock). table.is_open_reference (filter (λ (row : ℕ × Row). not (goes row.1)) t.opens) l.reference) t.locks all)

-- the law: closing undoes an opening
pub closing-undoes : ClosingUndoes
closing-undoes old o held_all free = λ i. record { opens = same i; locks = ((λ j. filter (λ (lock : Lock). is_open (same j) lock.reference) old.locks) ∙ all_stay old.locks held_all) i }
  where
    none_go : (os : List OpenFork) → is_open os o.reference ≡ false → filter (λ (other : OpenFork). not (other.reference == o.reference)) os ≡ os
    none_go [] free = refl
    none_go (x ∷ xs) free = elim (x.reference == o.reference) as (λ b. (b || is_open xs o.reference) ≡ false → (if not b then x ∷ filter (λ (other : OpenFork). not (other.reference == o.reference)) xs else filter (λ (other : OpenFork). not (other.reference == o.reference)) xs) ≡ x ∷ xs) [
      | true ↦ λ free. absurd (cc free)
      | false ↦ λ free. ap (λ l. x ∷ l) (none_go xs free)
    ] free

    placed_goes : (os : List OpenFork) → is_open os o.reference ≡ false → filter (λ (other : OpenFork). not (other.reference == o.reference)) (with_open o os) ≡ os
    placed_goes [] free = ap (λ b. if not b then o ∷ [] else []) (eq-eqb o.reference o.reference refl)
    placed_goes (x ∷ xs) free = elim (nat_lt o.reference x.reference) as (λ b. filter (λ (other : OpenFork). not (other.reference == o.reference)) (if b then o ∷ x ∷ xs else x ∷ with_open o xs) ≡ x ∷ xs) [
      | true ↦
          ap (λ b. if not b then o ∷ filter (λ (other : OpenFork). not (other.reference == o.reference)) (x ∷ xs) else filter (λ (other : OpenFork). not (other.reference == o.reference)) (x ∷ xs)) (eq-eqb o.reference o.reference refl)
          ∙ none_go (x ∷ xs) free
      | false ↦ elim (x.reference == o.reference) as (λ b. (b || is_open xs o.reference) ≡ false → (if not b then x ∷ filter (λ (other : OpenFork). not (other.reference == o.reference)) (with_open o xs) else filter (λ (other : OpenFork). not (other.reference == o.reference)) (with_open o xs)) ≡ x ∷ xs) [
        | true ↦ λ free. absurd (cc free)
        | false ↦ λ free. ap (λ l. x ∷ l) (placed_goes xs free)
      ] free
    ]

    same : filter (λ (other : OpenFork). not (other.reference == o.reference)) (with_open o old.opens) ≡ old.opens
    same = placed_goes old.opens free

    all_stay : (ls : List Lock) → list_all (λ (lock : Lock). is_open old.opens lock.reference) ls ≡ true → filter (λ (lock : Lock). is_open old.opens lock.reference) ls ≡ ls
    all_stay [] h = refl
    all_stay (l ∷ ls) h =
        let e = and_parts (is_open old.opens l.reference) (list_all (λ (lock : Lock). is_open old.opens lock.reference) ls) h in
        ap (λ b. if b then l ∷ filter (λ (lock : Lock). is_open old.opens lock.reference) ls else filter (λ (lock : Lock). is_open old.opens lock.reference) ls) e.0 ∙ ap (λ m. l ∷ m) (all_stay ls e.1)

-- ---- answers of the table, as a world has them

pub some-at : (t : table.Table) (old : Forks) (r : ℕ) → forks_of t ≡ old → is_open old.opens r ≡ true → IsSome (at nat_cmp t.opens r)
some-at t old r shown open_was = sym (open-rows t.opens r ∙ open-at t.opens r) ∙ ap (λ (f : Forks). is_open f.opens r) shown ∙ open_was

at-some : (q : Option Row) → IsSome q → (o : Row) × (q ≡ Some o)
at-some None h = absurd (cc h)
at-some (Some o) h = (o, refl)

pub lock-answers : (w : World) (x : OpenFork) (old : Forks) (t t' : table.Table) (r : ℕ) (range : Range) (res : Result (Unit {0}) LockFault) → table.TableIsSound t → forks_of t ≡ old → is_open old.opens r ≡ true
    → t'.opens ≡ t.opens → IfSome (at nat_cmp t.opens r) (λ o. held.SetsLock t.locks o.fork r range res t'.locks) → HasForks w old → x.reference ≡ r → LocksRange w old x range res (forks_of t')
lock-answers w x old t t' r range res sound shown open_was opens is has number =
    let o = at-some (at nat_cmp t.opens r) (some-at t old r shown open_was) in
    let sets : held.SetsLock t.locks o.0.fork r range res t'.locks = subst (λ (q : Option Row). IfSome q (λ o. held.SetsLock t.locks o.fork r range res t'.locks)) o.1 is in
    subst (λ (f : Forks). LocksRange w f x range res (forks_of t')) shown
    (locks-range w t t' x r o.0 range res (record { has = subst (HasForks w) (sym shown) has; sound = sound; number = number; found = o.1 }) opens sets)

pub unlock-answers : (w : World) (x : OpenFork) (old : Forks) (t t' : table.Table) (r : ℕ) (range : Range) (res : Result (Unit {0}) NotLocked) → table.TableIsSound t → forks_of t ≡ old → is_open old.opens r ≡ true
    → t'.opens ≡ t.opens → IfSome (at nat_cmp t.opens r) (λ o. held.TakesLock t.locks o.fork r range res t'.locks) → HasForks w old → x.reference ≡ r → UnlocksRange w old x range res (forks_of t')
unlock-answers w x old t t' r range res sound shown open_was opens is has number =
    let o = at-some (at nat_cmp t.opens r) (some-at t old r shown open_was) in
    let takes : held.TakesLock t.locks o.0.fork r range res t'.locks = subst (λ (q : Option Row). IfSome q (λ o. held.TakesLock t.locks o.fork r range res t'.locks)) o.1 is in
    subst (λ (f : Forks). UnlocksRange w f x range res (forks_of t')) shown
    (unlocks-range w t t' x r o.0 range res (record { has = subst (HasForks w) (sym shown) has; sound = sound; number = number; found = o.1 }) opens takes)

pub blocks-answers : (w : World) (x : OpenFork) (old : Forks) (t : table.Table) (r from count to : ℕ) (res : Bool) → MeetsUpToLastByte → AreInRange t.locks → table.TableIsSound t → forks_of t ≡ old → is_open old.opens r ≡ true
    → (count ≡ 0 → ⊥) → to ≡ min (from + (count - 1)) last_byte → IfSome (at nat_cmp t.opens r) (λ o. res ≡ held.is_met_by_other_lock t.locks o.fork r (record { from = from; to = to })) → HasForks w old → x.reference ≡ r → res ≡ is_locked w x from count
blocks-answers w x old t r from count to res law all sound shown open_was some to_is is has number =
    let o = at-some (at nat_cmp t.opens r) (some-at t old r shown open_was) in
    let met : res ≡ held.is_met_by_other_lock t.locks o.0.fork r (record { from = from; to = to }) = subst (λ (q : Option Row). IfSome q (λ o. res ≡ held.is_met_by_other_lock t.locks o.fork r (record { from = from; to = to }))) o.1 is in
    met ∙ up-to-top w t x r o.0 from count to law (record { has = subst (HasForks w) (sym shown) has; sound = sound; number = number; found = o.1 }) all (omega (arith, some)) to_is

all-with : (q : held.ForkLock → Bool) (new : held.ForkLock) (ls : List held.ForkLock) → q new ≡ true → list_all q ls ≡ true → list_all q (held.with_fork_lock new ls) ≡ true
all-with q new [] here all = (λ i. here i && true)
all-with q new (l ∷ ls) here all =
    let e = and_parts (q l) (list_all q ls) all in
    elim (nat_lt new.reference l.reference) as (λ b. list_all q (if b then new ∷ l ∷ ls else l ∷ held.with_fork_lock new ls) ≡ true) [
      | true ↦ (λ i. here i && all i)
      | false ↦ (λ i. e.0 i && all-with q new ls here e.1 i)
    ]

sets-in-range : (old new : List held.ForkLock) (f : Fork) (r : ℕ) (range : Range) (res : Result (Unit {0}) LockFault) → is_lock_range range ≡ true → AreInRange old → held.SetsLock old f r range res new → AreInRange new
sets-in-range old new f r range (Ok done) here all is = ap (list_all (λ (l : held.ForkLock). is_lock_range l.range)) is.1 ∙ all-with (λ (l : held.ForkLock). is_lock_range l.range) (record { reference = r; fork = f; range = range }) old here all
sets-in-range old new f r range (Err Locked) here all is = subst AreInRange (sym is.1) all
sets-in-range old new f r range (Err Overlap) here all is = subst AreInRange (sym is.1) all
sets-in-range old new f r range (Err Full) here all is = subst AreInRange (sym is.1) all
sets-in-range old new f r range (Err Memory) here all is = subst AreInRange (sym is.1) all

takes-in-range : (old new : List held.ForkLock) (f : Fork) (r : ℕ) (range : Range) (res : Result (Unit {0}) NotLocked) → AreInRange old → held.TakesLock old f r range res new → AreInRange new
takes-in-range old new f r range (Ok done) all is = subst AreInRange (sym is.1) (left-in-range (λ (l : held.ForkLock). not (held.is_fork_lock f r range l)) old all)
takes-in-range old new f r range (Err fault) all is = subst AreInRange (sym is.1) all

pub lock-in-range : (old : Forks) (t t' : table.Table) (r : ℕ) (range : Range) (res : Result (Unit {0}) LockFault) → AreInRange t.locks → forks_of t ≡ old → is_open old.opens r ≡ true → range.from ≤ range.to → range.to ≤ 9223372036854775807
    → IfSome (at nat_cmp t.opens r) (λ o. held.SetsLock t.locks o.fork r range res t'.locks) → AreInRange t'.locks
lock-in-range old t t' r range res all shown open_was order top is =
    let o = at-some (at nat_cmp t.opens r) (some-at t old r shown open_was) in
    sets-in-range t.locks t'.locks o.0.fork r range res (λ i. le-leb range.from range.to order i && le-leb range.to last_byte top i) all
    (subst (λ (q : Option Row). IfSome q (λ o. held.SetsLock t.locks o.fork r range res t'.locks)) o.1 is)

pub unlock-in-range : (old : Forks) (t t' : table.Table) (r : ℕ) (range : Range) (res : Result (Unit {0}) NotLocked) → AreInRange t.locks → forks_of t ≡ old → is_open old.opens r ≡ true
    → IfSome (at nat_cmp t.opens r) (λ o. held.TakesLock t.locks o.fork r range res t'.locks) → AreInRange t'.locks
unlock-in-range old t t' r range res all shown open_was is =
    let o = at-some (at nat_cmp t.opens r) (some-at t old r shown open_was) in
    takes-in-range t.locks t'.locks o.0.fork r range res all
    (subst (λ (q : Option Row). IfSome q (λ o. held.TakesLock t.locks o.fork r range res t'.locks)) o.1 is)
