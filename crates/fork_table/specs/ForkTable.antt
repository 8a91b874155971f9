-- The open forks of all sessions, with their locks (AFP Reference, FPOpenFork, FPCloseFork, FPByteRangeLock).
use Rattle.std.specs.Prelude.{◌≡◌, ℕ, ◌==◌, ◌≤◌, ◌<◌, nat_le, Bool, true, false, not, ◌&&◌, if◌then◌else◌, List, [], ◌∷◌, filter, length, map, Option, Some, None, Result, Ok, Err}
use Rattle.std.specs.List.{list_any, list_all}
use Rattle.std.specs.List.Sorted.{IsStrictlySortedBy}
use Rattle.std.specs.Map.{keys_of}
use Rattle.std.specs.BTreeMap.{insert_entry}
use Rattle.std.specs.Ordering.{nat_cmp}
use Rattle.afp_base.specs.declared.ids.ForkRef.{ForkRef}
use Rattle.afp_base.specs.declared.ids.NodeId.{NodeId}
use Rattle.afp_base.specs.declared.ids.SessionNumber.{SessionNumber}
use Rattle.afp_base.specs.Choice.{first_holding}
use Rattle.afp_base.specs.DenyMode.{Access, Fork, is_one_fork}
use Rattle.afp_base.specs.Limits.{most_forks}
use Rattle.afp_base.specs.Apart.{are_apart}
use Rattle.deny_modes.specs.Opens.{Open, has_conflict, are_in_conflict, in_exchange}
use Rattle.range_locks.specs.Locks.{ForkLock, are_overlapping}
use Rattle.fork_table.specs.declared.open_fork.OpenFork.{OpenFork}
use Rattle.fork_table.specs.declared.open_fork.OpenFault.{OpenFault}
use Rattle.fork_table.specs.declared.open_fork.OpenFault.TheVariants.{Deny, TooMany, Memory}

-- the open forks with their references, which rise, and the locks by rising reference
pub record Table : Type 0 where
  pub opens : List (ℕ × OpenFork)
  pub locks : List ForkLock

-- an open without its session
abbrev pub plain_open : ℕ × OpenFork → Open
plain_open row = record { reference = row.0; fork = row.1.fork; access = row.1.mode }

-- the opens without their sessions
abbrev pub plain_opens : List (ℕ × OpenFork) → List Open
plain_opens rows = map plain_open rows

-- the reference is one of these
abbrev pub is_open_reference : List (ℕ × OpenFork) → ℕ → Bool
is_open_reference rows reference = list_any (λ row. row.0 == reference) rows

-- The lowest number from 1 that is no reference.
pub record IsLowestFree (rows : List (ℕ × OpenFork)) (reference : ℕ) : Type 0 where
  pub first : 1 ≤ reference
  pub free : is_open_reference rows reference ≡ false
  pub lower : (k : ℕ) → 1 ≤ k → k < reference → is_open_reference rows k ≡ true

-- the session opened the fork
abbrev pub is_open_of_session : ℕ → OpenFork → Bool
is_open_of_session session o = o.session.0 == session

-- the session opened the fork, which is of the volume
abbrev pub is_of_volume : ℕ → ℕ → OpenFork → Bool
is_of_volume session volume o = (o.session.0 == session) && (o.fork.volume == volume)

-- how many forks the session has open
abbrev pub count_open : ℕ → List (ℕ × OpenFork) → ℕ
count_open session rows = length (filter (λ row. is_open_of_session session row.1) rows)

-- the refusals of an open, in order
abbrev pub open_refusal : Table → SessionNumber → Fork → Access → Option OpenFault
open_refusal t session fork access = first_holding (
    (has_conflict (plain_opens t.opens) fork access, Deny)
    ∷ (nat_le most_forks (count_open session.0 t.opens), TooMany)
    ∷ [])

-- the table with one more open
abbrev pub with_reference : ℕ → OpenFork → Table → Table
with_reference reference o t = record { opens = insert_entry nat_cmp t.opens reference o; locks = t.locks }

-- What `open` answers: Ok where nothing refuses it, with the lowest free reference, and the fork is open; else the first refusal,
-- and nothing changes. Want of memory comes only where nothing refuses it, and changes nothing.
abbrev pub OpensInTable : Table → SessionNumber → Fork → Access → Result ForkRef OpenFault → Table → Type 0
OpensInTable old session fork access (Ok r) new = (open_refusal old session fork access ≡ None) × (IsLowestFree old.opens r.0 × (new ≡ with_reference r.0 (record { session = session; fork = fork; mode = access }) old))
OpensInTable old session fork access (Err Deny) new = (open_refusal old session fork access ≡ Some Deny) × (new ≡ old)
OpensInTable old session fork access (Err TooMany) new = (open_refusal old session fork access ≡ Some TooMany) × (new ≡ old)
OpensInTable old session fork access (Err Memory) new = (open_refusal old session fork access ≡ None) × (new ≡ old)

-- an open, where it is the session's
abbrev pub own_open : ℕ → Option OpenFork → Option OpenFork
own_open session None = None
own_open session (Some o) = if o.session.0 == session then Some o else None

-- the open forks of a volume, each as its node and whether it is the resource fork
abbrev pub forks_of : ℕ → List (ℕ × OpenFork) → List (NodeId × Bool)
forks_of volume rows = map (λ row. (record { 0 = row.1.fork.node }, row.1.fork.resource)) (filter (λ row. row.1.fork.volume == volume) rows)

-- the table without the opens that pass, and with the locks of the references that are still open
abbrev pub closing : (OpenFork → Bool) → Table → Table
closing goes t = record { opens = filter (λ row. not (goes row.1)) t.opens; locks = filter (λ l. is_open_reference (filter (λ row. not (goes row.1)) t.opens) l.reference) t.locks }

-- an open with its fork exchanged
abbrev pub exchange_row : Fork → Fork → ℕ × OpenFork → ℕ × OpenFork
exchange_row a b row = (row.0, record row.1 { fork = in_exchange a b row.1.fork })

-- the lock is on the fork of a reference that is open
abbrev pub is_held : List (ℕ × OpenFork) → ForkLock → Bool
is_held rows l = list_any (λ row. (row.0 == l.reference) && is_one_fork row.1.fork l.fork) rows

-- What is kept true: no two opens conflict, no two locks on one fork share a byte, each lock is on the fork of a reference that is
-- open, and references rise, so that no two are the same.
pub record TableIsSound (t : Table) : Type 0 where
  pub apart : are_apart are_in_conflict (plain_opens t.opens) ≡ true
  pub separate : are_apart are_overlapping t.locks ≡ true
  pub held : list_all (is_held t.opens) t.locks ≡ true
  pub rising : IsStrictlySortedBy nat_cmp (keys_of t.opens)
