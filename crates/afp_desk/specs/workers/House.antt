-- What serving a house over its doors comes to (this profile).
use Rattle.std.specs.Prelude.{◌≡◌, ℕ, Bool, true, false, List, cond, length}
use Rattle.std.specs.List.{list_any}
use Rattle.afp_base.specs.Counts.{counted}
use Rattle.afp_core.specs.turns.Loads.{IsLoadedServer}
use Rattle.afp_core.specs.turns.Retiring.{RetiresServer}
use Rattle.afp_core.specs.turns.ServerState.{ServerState}
use Rattle.afp_core_state.specs.Holding.{AreHeld}
use Rattle.afp_desk.specs.desk.Passes.{remembered, start_then, core_then}
use Rattle.afp_outside.specs.ends.Gate.{Passed}
use Rattle.afp_outside.specs.ends.Link.{LinkState}
use Rattle.afp_outside.specs.ends.Listener.{DoorState}
use Rattle.afp_serial.specs.declared.ask.Entry.{Entry}
use Rattle.afp_serial.specs.History.{opened_in}
use Rattle.afp_serial.specs.Household.{Household}
use Rattle.afp_server.specs.declared.doors.door.WorkerEnd.{WorkerEnd}
use Rattle.afp_server.specs.declared.doors.door.WorkerEnd.TheVariants.{Closed, Failed, Memory}
use Rattle.afp_desk.specs.workers.Doors.{Account, DoorsServed}
use Rattle.afp_desk.specs.workers.Keeping.{Keeping, steady_in}
use Rattle.afp_desk.specs.declared.workers.gather.Done.{Done}
use Rattle.afp_desk.specs.declared.workers.house.Closing.{Closing}

-- a worker found no memory for a link
abbrev pub is_memory : WorkerEnd → Bool
is_memory Closed = false
is_memory Failed = false
is_memory Memory = true

-- a worker's door failed
abbrev pub is_failed : WorkerEnd → Bool
is_failed Closed = false
is_failed Failed = true
is_failed Memory = false

-- How a whole run ended, the first that holds: a worker found no memory; a door failed; each door is closed.
abbrev pub run_end : {Y : Type 0} → List (Done Y) → WorkerEnd
run_end done = cond (list_any (λ d. is_memory d.end) done) Memory (cond (list_any (λ d. is_failed d.end) done) Failed Closed)

-- the history that a closing shows
abbrev pub history_of : {Y : Type 0} → Closing Y → List Entry
history_of f = (remembered f.trace.last.views).history

-- the core as it was at closing
abbrev pub ended_of : {Y : Type 0} → Closing Y → ServerState
ended_of f = core_then f.trace.last.views

-- what a closing shows
abbrev pub closing_of : {Y : Type 0} → Closing Y → Account Y
closing_of f = record { core = ended_of f; history = history_of f; started = start_then f.trace.last.views; ended = ended_of f; done = f.done.items }

-- A core's doors were served. At closing there are keepers that hold the volumes of the last world, and then each was asked to settle, once.
pub record ServesCore {L P Y K : Type 0} (state : L → LinkState) (passed : P → Passed) (door : Y → DoorState L) (kept_by : Keeping K) (house : Household) (turns : ℕ) (start : ServerState) (doors : List Y) (f : Closing Y) : Type 0 where
  pub serves : DoorsServed state passed door house turns start doors (closing_of f)
  pub entries : f.counts.entries ≡ (ended_of f).entries
  pub sessions : f.counts.sessions ≡ (ended_of f).opened
  pub end : f.end ≡ run_end f.done.items
  pub held : AreHeld kept_by.records kept_by.sure kept_by.faults (ended_of f).world.volumes (ended_of f).faults (ended_of f).sure
  pub retires : RetiresServer kept_by.faults kept_by.sure kept_by.settles (ended_of f) f.retired

-- The volumes of a house were loaded from their keepers, and its doors were served. The counts are those of the history: its entries, and how many
-- of them opened a session, each up to the last number of a count.
pub record ServesHouse {L P Y K : Type 0} (state : L → LinkState) (passed : P → Passed) (door : Y → DoorState L) (kept_by : Keeping K) (house : Household) (turns : ℕ) (now : ℕ) (keepers : List K) (doors : List Y) (f : Closing Y) : Type 0 where
  pub start : ServerState
  pub loaded : IsLoadedServer (steady_in kept_by) kept_by.sure kept_by.faults house now keepers start
  pub serves : ServesCore state passed door kept_by house turns start doors f
  pub entries : f.counts.entries ≡ counted (length (history_of f)) 0
  pub sessions : f.counts.sessions ≡ counted (opened_in start.world (history_of f)) 0
