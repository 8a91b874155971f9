-- The open forks of all sessions and their locks, as a world has them (AFP Reference, "FPOpenFork", "FPCloseFork", "FPByteRangeLock").
use Rattle.std.specs.Prelude.{◌≡◌, ℕ, ◌==◌, Bool, true, false, not, List, filter, map, Some, None, Result, Ok, Err}
use Rattle.std.specs.List.{list_all}
use Rattle.afp_base.specs.Choice.{first_holding}
use Rattle.afp_base.specs.DenyMode.{Access, Fork}
use Rattle.afp_base.specs.Overlap.{Range}
use Rattle.afp_base.specs.declared.code.Code.TheVariants.{LockErr, NoMoreLocks, RangeOverlap}
use Rattle.afp_base.specs.declared.ids.ForkRef.{ForkRef}
use Rattle.afp_base.specs.declared.ids.NodeId.{NodeId}
use Rattle.afp_serial.specs.World.{plain, is_open, World, Session, OpenFork, Lock}
use Rattle.afp_serial.specs.Fork.{has_most_forks, is_denied, lowest_free, with_open}
use Rattle.afp_serial.specs.Lock.{has_lock, is_lock, locking_refusals, with_lock}
use Rattle.volume_spec.specs.Shared.{Opened}
use Rattle.fork_table.specs.ForkTable.{Table}
use Rattle.fork_table.specs.declared.open_fork.OpenFault.{OpenFault}
use Rattle.fork_table.specs.declared.open_fork.OpenFault.TheVariants.{Deny, TooMany, Memory}
use Rattle.fork_table.specs.declared.open_fork.OpenFork as table
use Rattle.range_locks.specs.Locks as locks
use Rattle.range_locks.specs.declared.fault.LockFault.{LockFault}
use Rattle.range_locks.specs.declared.fault.LockFault.TheVariants as fault
use Rattle.range_locks.specs.declared.fault.NotLocked.{NotLocked}

-- the open forks by rising reference, and the locks by rising reference, those of one reference as they were set
pub record Forks : Type 0 where
  pub opens : List OpenFork
  pub locks : List Lock

-- an open fork, and a lock, as the table has them
abbrev pub open_of : ℕ → table.OpenFork → OpenFork
open_of reference o = record { reference = reference; session = o.session.0; fork = o.fork; access = o.mode }

abbrev pub lock_of : locks.ForkLock → Lock
lock_of l = record { reference = l.reference; range = l.range }

abbrev pub forks_of : Table → Forks
forks_of t = record { opens = map (λ (row : ℕ × table.OpenFork). open_of row.0 row.1) t.opens; locks = map lock_of t.locks }

-- the world has these open forks and locks
pub record HasForks (w : World) (f : Forks) : Type 0 where
  pub opens : w.opens ≡ f.opens
  pub locks : w.locks ≡ f.locks

abbrev pub with_opens : Forks → List OpenFork → Forks
with_opens f opens = record f { opens = opens }

abbrev pub with_locks : Forks → List Lock → Forks
with_locks f locks = record f { locks = locks }

-- each lock's reference is open
abbrev pub AllHeld : Forks → Type 0
AllHeld f = list_all (λ lock. is_open f.opens lock.reference) f.locks ≡ true

-- the open forks that pass, and the locks of their references
abbrev pub left_of : (OpenFork → Bool) → Forks → Forks
left_of stays f = record { opens = filter stays f.opens; locks = filter (λ lock. is_open (filter stays f.opens) lock.reference) f.locks }

-- the new open fork of a session
abbrev pub new_open : Forks → ℕ → Fork → Access → OpenFork
new_open f session fork access = record { reference = lowest_free f.opens; session = session; fork = fork; access = access }

-- What `open` answers, in a world that has these open forks: the fork is open under the lowest reference that is free; or its first refusal, and nothing
-- changes; or there is no memory, and nothing changes.
abbrev pub OpensFork : World → Session → Forks → Fork → Access → Result ForkRef OpenFault → Forks → Type 0
OpensFork w s old fork access (Ok r) new = (is_denied w fork access ≡ false) × (has_most_forks w s ≡ false) × (r.0 ≡ lowest_free old.opens) × (new ≡ with_opens old (with_open (new_open old s.number fork access) old.opens))
OpensFork w s old fork access (Err Deny) new = (is_denied w fork access ≡ true) × (new ≡ old)
OpensFork w s old fork access (Err TooMany) new = (is_denied w fork access ≡ false) × (has_most_forks w s ≡ true) × (new ≡ old)
OpensFork w s old fork access (Err Memory) new = new ≡ old

-- What `lock` answers, of the open fork of its reference: the range is locked; or its first refusal, and nothing changes; or there is no memory, and nothing changes.
abbrev pub LocksRange : World → Forks → OpenFork → Range → Result (Unit {0}) LockFault → Forks → Type 0
LocksRange w old o range (Ok done) new = (first_holding (locking_refusals w o range) ≡ None) × (new ≡ with_locks old (with_lock (record { reference = o.reference; range = range }) old.locks))
LocksRange w old o range (Err fault.Locked) new = (first_holding (locking_refusals w o range) ≡ Some (plain LockErr)) × (new ≡ old)
LocksRange w old o range (Err fault.Overlap) new = (first_holding (locking_refusals w o range) ≡ Some (plain RangeOverlap)) × (new ≡ old)
LocksRange w old o range (Err fault.Full) new = (first_holding (locking_refusals w o range) ≡ Some (plain NoMoreLocks)) × (new ≡ old)
LocksRange w old o range (Err fault.Memory) new = new ≡ old

-- What `unlock` answers: the lock with exactly these ends is gone; or there is none, and nothing changes.
abbrev pub UnlocksRange : World → Forks → OpenFork → Range → Result (Unit {0}) NotLocked → Forks → Type 0
UnlocksRange w old o range (Ok done) new = (has_lock w o range ≡ true) × (new ≡ with_locks old (filter (λ lock. not (is_lock o.reference range lock)) old.locks))
UnlocksRange w old o range (Err fault) new = (has_lock w o range ≡ false) × (new ≡ old)

-- open forks, each by its node and whether it is the resource fork
abbrev pub shown_opens : List (NodeId × Bool) → List Opened
shown_opens opens = map (λ (open_fork : NodeId × Bool). record { node = open_fork.0.0; resource = open_fork.1 }) opens

-- the law: closing the fork that was opened last undoes its opening
abbrev pub ClosingUndoes : Type 0
ClosingUndoes = (old : Forks) (o : OpenFork) → AllHeld old → is_open old.opens o.reference ≡ false
    → left_of (λ (other : OpenFork). not (other.reference == o.reference)) (with_opens old (with_open o old.opens)) ≡ old
