-- Byte-range locks (AFP Reference, FPByteRangeLock).
use Rattle.std.specs.Prelude.{◌≡◌, ℕ, ◌==◌, ◌<◌, nat_le, nat_lt, Bool, true, false, not, ◌&&◌, if◌then◌else◌, List, [], ◌∷◌, filter, length, map, slice_index_or, Option, Some, None, Result, Ok, Err}
use Rattle.std.specs.List.{list_any}
use Rattle.afp_base.specs.Choice.{first_holding}
use Rattle.afp_base.specs.DenyMode.{Fork, is_one_fork}
use Rattle.afp_base.specs.Limits.{most_locks}
use Rattle.afp_base.specs.Overlap.{Range, do_overlap}
use Rattle.deny_modes.specs.Opens.{in_exchange}
use Rattle.range_locks.specs.declared.fault.LockFault.{LockFault}
use Rattle.range_locks.specs.declared.fault.LockFault.TheVariants.{Locked, Overlap, Full, Memory}
use Rattle.range_locks.specs.declared.fault.NotLocked.{NotLocked}
use Rattle.range_locks.specs.declared.rows.LockRow.{LockRow}

-- a lock: the reference that holds it, the fork, and its bytes
pub record ForkLock : Type 0 where
  pub reference : ℕ
  pub fork : Fork
  pub range : Range

-- two locks on one fork share a byte
abbrev pub are_overlapping : ForkLock → ForkLock → Bool
are_overlapping a b = do_overlap a.fork a.range b.fork b.range

-- another reference's lock on the fork shares a byte with the range
abbrev pub is_met_by_other_lock : List ForkLock → Fork → ℕ → Range → Bool
is_met_by_other_lock locks fork reference range = list_any (λ l. do_overlap l.fork l.range fork range && not (l.reference == reference)) locks

-- the reference's own lock on the fork does
abbrev pub is_met_by_own_lock : List ForkLock → Fork → ℕ → Range → Bool
is_met_by_own_lock locks fork reference range = list_any (λ l. do_overlap l.fork l.range fork range && (l.reference == reference)) locks

-- how many locks the reference has
abbrev pub count_held : ℕ → List ForkLock → ℕ
count_held reference locks = length (filter (λ l. l.reference == reference) locks)

-- the refusals of a lock, in order
abbrev pub lock_refusal : List ForkLock → Fork → ℕ → Range → Option LockFault
lock_refusal locks fork reference range = first_holding (
    (is_met_by_other_lock locks fork reference range, Locked)
    ∷ (is_met_by_own_lock locks fork reference range, Overlap)
    ∷ (nat_le most_locks (count_held reference locks), Full)
    ∷ [])

-- the locks, which stand by rising reference and for one reference in the order in which they were set, with one more
abbrev pub with_fork_lock : ForkLock → List ForkLock → List ForkLock
with_fork_lock new [] = new ∷ []
with_fork_lock new (l ∷ ls) = if nat_lt new.reference l.reference then new ∷ l ∷ ls else l ∷ with_fork_lock new ls

-- What `lock` answers: Ok where nothing refuses it, and the lock is set; else the first refusal, and nothing changes. Want of
-- memory comes only where nothing refuses it, and changes nothing.
abbrev pub SetsLock : List ForkLock → Fork → ℕ → Range → Result (Unit {0}) LockFault → List ForkLock → Type 0
SetsLock old fork reference range (Ok done) new = (lock_refusal old fork reference range ≡ None) × (new ≡ with_fork_lock (record { reference = reference; fork = fork; range = range }) old)
SetsLock old fork reference range (Err Locked) new = (lock_refusal old fork reference range ≡ Some Locked) × (new ≡ old)
SetsLock old fork reference range (Err Overlap) new = (lock_refusal old fork reference range ≡ Some Overlap) × (new ≡ old)
SetsLock old fork reference range (Err Full) new = (lock_refusal old fork reference range ≡ Some Full) × (new ≡ old)
SetsLock old fork reference range (Err Memory) new = (lock_refusal old fork reference range ≡ None) × (new ≡ old)

-- the lock of that reference on that fork, with exactly these ends
abbrev pub is_fork_lock : Fork → ℕ → Range → ForkLock → Bool
is_fork_lock fork reference range l = is_one_fork l.fork fork && ((l.reference == reference) && ((l.range.from == range.from) && (l.range.to == range.to)))

abbrev pub has_fork_lock : List ForkLock → Fork → ℕ → Range → Bool
has_fork_lock locks fork reference range = list_any (is_fork_lock fork reference range) locks

-- What `unlock` answers: Ok exactly where the reference has the lock with these ends, and it goes; else nothing changes.
abbrev pub TakesLock : List ForkLock → Fork → ℕ → Range → Result (Unit {0}) NotLocked → List ForkLock → Type 0
TakesLock old fork reference range (Ok done) new = (has_fork_lock old fork reference range ≡ true) × (new ≡ filter (λ l. not (is_fork_lock fork reference range l)) old)
TakesLock old fork reference range (Err fault) new = (has_fork_lock old fork reference range ≡ false) × (new ≡ old)

-- the locks without those of a reference
abbrev pub without_holder : ℕ → List ForkLock → List ForkLock
without_holder reference locks = filter (λ l. not (l.reference == reference)) locks

-- each lock on one of two forks made one on the other
abbrev pub exchange_lock : Fork → Fork → ForkLock → ForkLock
exchange_lock a b l = record l { fork = in_exchange a b l.fork }

abbrev pub exchanged_locks : Fork → Fork → List ForkLock → List ForkLock
exchanged_locks a b locks = map (exchange_lock a b) locks

-- a row of a fork is a lock
abbrev pub is_row : LockRow → ForkLock → Bool
is_row row l = (row.reference.0 == l.reference) && ((row.range.from == l.range.from) && (row.range.to == l.range.to))

abbrev pub are_one_row : LockRow → LockRow → Bool
are_one_row a b = (a.reference.0 == b.reference.0) && ((a.range.from == b.range.from) && (a.range.to == b.range.to))

-- rows that end before the next ones begin
pub record AreInOrder (rows : List LockRow) : Type 0 where
  pub valid : (i : ℕ) (d : LockRow) → i < length rows → let row : LockRow = slice_index_or rows i d in nat_le row.range.from row.range.to ≡ true
  pub rising : (i j : ℕ) (d : LockRow) → i < j → j < length rows → let a : LockRow = slice_index_or rows i d in let b : LockRow = slice_index_or rows j d in nat_lt a.range.to b.range.from ≡ true

-- The intervals of a fork: by rising start, and exactly its locks.
pub record AreIntervals (locks : List ForkLock) (fork : Fork) (rows : List LockRow) : Type 0 where
  pub order : AreInOrder rows
  pub same : (row : LockRow) → list_any (are_one_row row) rows ≡ list_any (λ l. is_one_fork l.fork fork && is_row row l) locks
