-- The references that each session has open, as they are kept: by session, and then by reference (this profile).
use Rattle.std.specs.Prelude.{◌≡◌, ℕ, ◌==◌, ◌-◌, ◌≤◌, ◌<◌, Bool, true, false, List, filter, length, map, take, drop, slice_index_or}
use Rattle.std.specs.Ordering.{nat_cmp, ordering_then}
use Rattle.std.specs.declared.cmp.Ordering.{Ordering}
use Rattle.fork_table.specs.declared.open_fork.OpenFork.{OpenFork}
use Rattle.fork_table.specs.declared.own.OwnRef.{OwnRef}
use Rattle.fork_table.specs.ForkTable.{is_open_of_session}

-- the order of sessions, and of the references of one session
abbrev pub own_cmp : OwnRef → OwnRef → Ordering
own_cmp a b = ordering_then (nat_cmp a.session.0 b.session.0) (nat_cmp a.reference.0 b.reference.0)

abbrev pub session_of : OwnRef × Unit {0} → ℕ
session_of entry = entry.0.session.0

-- the session has the reference
abbrev pub is_own : ℕ → OwnRef × Unit {0} → Bool
is_own session entry = session_of entry == session

-- the reference of an open, with its session
abbrev pub own_ref : ℕ → OpenFork → OwnRef
own_ref reference o = record { session = o.session; reference = record { 0 = reference } }

abbrev pub own_entry : ℕ × OpenFork → OwnRef × Unit {0}
own_entry row = (own_ref row.0 row.1, tt)

-- of each session the entries are those of its opens
abbrev pub AreOwn : List (ℕ × OpenFork) → List (OwnRef × Unit {0}) → Type 0
AreOwn rows own = (session : ℕ) → filter (is_own session) own ≡ map own_entry (filter (λ row. is_open_of_session session row.1) rows)

-- the entries before the place pass, and no other does
pub record IsSplitBy (test : OwnRef × Unit {0} → Bool) (own : List (OwnRef × Unit {0})) (place : ℕ) : Type 0 where
  pub within : place ≤ length own
  pub front : (k : ℕ) (d : OwnRef × Unit {0}) → k < place → test (slice_index_or own k d) ≡ true
  pub rest : (k : ℕ) (d : OwnRef × Unit {0}) → place ≤ k → k < length own → test (slice_index_or own k d) ≡ false

-- the entries of a session stand from this place on, and end before that one
pub record IsOwnPart (own : List (OwnRef × Unit {0})) (session first behind : ℕ) : Type 0 where
  pub order : first ≤ behind
  pub within : behind ≤ length own
  pub part : take (behind - first) (drop first own) ≡ filter (is_own session) own
