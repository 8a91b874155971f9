-- What is kept for the locks: a list by reference, and rows by fork (this profile).
use Rattle.std.specs.Prelude.{◌≡◌, ℕ, ◌≤◌, ◌<◌, nat_le, nat_lt, Bool, true, false, List, [], length, slice_index_or, unwrap_or, Option, Some, None}
use Rattle.std.specs.List.{list_any}
use Rattle.std.specs.List.Sorted.{IsNonDecreasingBy}
use Rattle.afp_base.specs.DenyMode.{Fork, is_one_fork}
use Rattle.sorted_map.specs.map.Entries.{at}
use Rattle.afp_base.specs.Overlap.{Range}
use Rattle.afp_base.specs.Apart.{are_apart}
use Rattle.deny_modes.specs.lemma.ForkOrder.{fork_cmp}
use Rattle.range_locks.specs.declared.rows.LockRow.{LockRow}
use Rattle.range_locks.specs.Locks.{ForkLock, are_overlapping, AreIntervals, is_fork_lock, has_fork_lock}

-- the rows of a fork
abbrev pub rows_at : List (Fork × List LockRow) → Fork → List LockRow
rows_at forks fork = unwrap_or (at fork_cmp forks fork) []

abbrev pub holder_of : ForkLock → ℕ
holder_of l = l.reference

-- the place behind the locks of that reference and of those below it
pub record IsBehind (locks : List ForkLock) (reference place : ℕ) : Type 0 where
  pub within : place ≤ length locks
  pub front : (k : ℕ) (d : ForkLock) → k < place → nat_le (holder_of (slice_index_or locks k d)) reference ≡ true
  pub rest : (k : ℕ) (d : ForkLock) → place ≤ k → k < length locks → nat_le (holder_of (slice_index_or locks k d)) reference ≡ false

-- the place of the first lock of that reference or of one above it
pub record IsBefore (locks : List ForkLock) (reference place : ℕ) : Type 0 where
  pub within : place ≤ length locks
  pub front : (k : ℕ) (d : ForkLock) → k < place → nat_lt (holder_of (slice_index_or locks k d)) reference ≡ true
  pub rest : (k : ℕ) (d : ForkLock) → place ≤ k → k < length locks → nat_lt (holder_of (slice_index_or locks k d)) reference ≡ false

-- some of the locks is on that fork
abbrev pub is_among : List ForkLock → Fork → Bool
is_among locks fork = list_any (λ l. is_one_fork l.fork fork) locks

-- the place of the lock of that reference on that fork, with exactly these ends; none where there is no such lock
abbrev pub IsPlaceOf : List ForkLock → Fork → ℕ → Range → Option ℕ → Type 0
IsPlaceOf locks fork reference range (Some place) = (place < length locks) × ((d : ForkLock) → is_fork_lock fork reference range (slice_index_or locks place d) ≡ true)
IsPlaceOf locks fork reference range None = has_fork_lock locks fork reference range ≡ false

-- references do not fall along the list, no two locks on one fork share a byte, and each fork has its rows
pub record IsLockTable (locks : List ForkLock) (forks : List (Fork × List LockRow)) : Type 0 where
  pub order : IsNonDecreasingBy holder_of locks
  pub apart : are_apart are_overlapping locks ≡ true
  pub intervals : (fork : Fork) → AreIntervals locks fork (rows_at forks fork)
