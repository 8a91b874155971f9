-- The links of a table between their turns, beside those that were handed back.
use Rattle.std.specs.Prelude.{◌≡◌, ◌⊎◌, ℕ, ◌+◌, ◌<◌, true, false, List, [], ◌∷◌, ◌++◌, length, Option, Some, None, is_some, count_by, slice_index_or}
use Rattle.std.specs.List.{AllZip}
use Rattle.slab.specs.Slab.{Slab}
use Rattle.afp_base.specs.Counts.{CountsOn}
use Rattle.afp_outside.specs.ends.Gate.{Passed}
use Rattle.afp_outside.specs.ends.Link.{LinkState, IsFresh}
use Rattle.afp_outside.specs.ends.Listener.{DoorState}
use Rattle.afp_serial.specs.Household.{Household}
use Rattle.afp_serial.specs.Shown.{Shown}
use Rattle.afp_serial.specs.StatusBlock.{status_block}
use Rattle.afp_server.specs.connection.Connection.{ConnectionState, Stands}
use Rattle.afp_server.specs.connection.Turn.{places_of, shown_to}
use Rattle.afp_server.specs.doors.Served.{Drains, Grows}
use Rattle.afp_server.specs.link.Progress.{Start}
use Rattle.afp_server.specs.declared.doors.door.WorkerEnd.{WorkerEnd}
use Rattle.afp_server.specs.declared.doors.door.WorkerEnd.TheVariants as ends
use Rattle.afp_server_table.specs.declared.turns.Taken.{Taken}
use Rattle.afp_server_table.specs.declared.turns.Taken.TheVariants as takes
use Rattle.afp_server_table.specs.AtOnce.{Differ, IsOneOf, ServedInTurns}

-- a link in a table: its number, which says how many were taken before it, and where it stands
pub record SeatState (L A : Type 0) : Type 0 where
  pub number : ℕ
  pub connection : ConnectionState L A

-- the links of a table, and how many were taken in all
pub record LinksState (L A : Type 0) : Type 0 where
  pub seats : Slab (SeatState L A)
  pub taken : ℕ

-- A link is served: it stands where its own turns led it, from a fresh one that owned no place.
abbrev pub IsServing : {L A : Type 0} → (L → LinkState) → (A → Passed) → List ℕ → ℕ → List ℕ → List ℕ → Shown → SeatState L A → Type 0
IsServing state passed block turns owners places b seat =
    (start : Start) × IsFresh start.link × (start.shown.mine ≡ []) × Stands state passed block turns seat.connection start (shown_to (places_of seat.number owners places) b)

-- How a door has gone on beside its links: it is open, or is closed or failed, once, as `end` says.
abbrev pub DoorAt : {L : Type 0} → DoorState L → Option WorkerEnd → DoorState L → Type 0
DoorAt old None new = (new.closed ≡ false) × (new.faults ≡ old.faults)
DoorAt old (Some ends.Closed) new = (new.closed ≡ true) × (new.faults ≡ old.faults)
DoorAt old (Some ends.Failed) new = (new.closed ≡ false) × CountsOn 1 old.faults new.faults
DoorAt old (Some ends.Memory) new = ⊥

-- all are less than n
abbrev pub EachBelow : ℕ → List ℕ → Type 0
EachBelow n [] = Unit {0}
EachBelow n (k ∷ ks) = (k < n) × EachBelow n ks

-- the one under a key
abbrev pub seat_at : {T : Type 0} → List (Option T) → ℕ → Option T
seat_at slots key = slice_index_or slots key None

-- The links that a door handed out, from where it and its teller stood at first: some were served and handed back, each other one stands in
-- the table, with a number of its own.
pub record LinksStand {L A : Type 0} (state : L → LinkState) (passed : A → Passed) (house : Household) (turns : ℕ) (old : DoorState L) (a : Shown) (end : Option WorkerEnd) (slots : List (Option (SeatState L A))) (count : ℕ) (new : DoorState L) (b : Shown) : Type 0 where
  pub owners : List ℕ
  pub places : List ℕ
  pub numbers : List ℕ
  pub links : List L
  pub grows : Grows a places b
  pub each : length owners ≡ length places
  pub owned : EachBelow count owners
  pub differ : Differ numbers
  pub ended : EachBelow count numbers
  pub served : AllZip (λ n link. ServedInTurns state passed house turns a.start b.history link (places_of n owners places)) numbers links
  pub known : (n : ℕ) → n < count → IsOneOf n numbers ⊎ ((key : ℕ) × (seat : SeatState L A) × (seat_at slots key ≡ Some seat) × (seat.number ≡ n))
  pub taken : (key : ℕ) (seat : SeatState L A) → seat_at slots key ≡ Some seat → seat.number < count
  pub alive : (key : ℕ) (seat : SeatState L A) → seat_at slots key ≡ Some seat → IsOneOf seat.number numbers → ⊥
  pub apart : (key other : ℕ) (seat one : SeatState L A) → seat_at slots key ≡ Some seat → seat_at slots other ≡ Some one → seat.number ≡ one.number → key ≡ other
  pub serving : (key : ℕ) (seat : SeatState L A) → seat_at slots key ≡ Some seat → IsServing state passed (status_block house) turns owners places b seat
  pub handed : new.handed ≡ old.handed + length links + count_by is_some slots
  pub back : new.back ≡ old.back ++ links
  pub door : DoorAt old end new

-- What a turn of the table keeps: wherever it began, its links stand as its door and its teller went on.
abbrev pub KeepsLinks : {L A : Type 0} → (L → LinkState) → (A → Passed) → List ℕ → ℕ → LinksState L A → DoorState L → Shown → LinksState L A → DoorState L → Shown → Type 0
KeepsLinks {L} state passed block turns links door a after next b = (house : Household) (old : DoorState L) (first : Shown) (end : Option WorkerEnd) → block ≡ status_block house
    → LinksStand state passed house turns old first end links.seats.slots links.taken door a → LinksStand state passed house turns old first end after.seats.slots after.taken next b

-- The same for what comes through the door, which may be closed or fail there; nothing is asked meanwhile.
abbrev pub TakesOn : {L A : Type 0} → (L → LinkState) → (A → Passed) → List ℕ → ℕ → LinksState L A → DoorState L → Shown → Option WorkerEnd → Option WorkerEnd → LinksState L A → DoorState L → Type 0
TakesOn {L} state passed block turns links door a end ends after next = (house : Household) (old : DoorState L) (first : Shown) → block ≡ status_block house
    → LinksStand state passed house turns old first end links.seats.slots links.taken door a → LinksStand state passed house turns old first ends after.seats.slots after.taken next a

-- why no more links come
abbrev pub end_taken : Taken → Option WorkerEnd
end_taken takes.One = None
end_taken takes.NotYet = None
end_taken (takes.Ended end) = Some end
