-- What any number of doors came to (this profile).
use Rattle.std.specs.Prelude.{◌≡◌, ℕ, ◌<◌, true, List, length, sum, take}
use mathlib.Core.Option.{some}
use lib.ListN.{get_elem?}
use Rattle.afp_base.specs.Counts.{Rises}
use Rattle.afp_outside.specs.ends.Gate.{Passed}
use Rattle.afp_outside.specs.ends.Link.{LinkState}
use Rattle.afp_outside.specs.ends.Listener.{DoorState}
use Rattle.afp_serial.specs.declared.ask.Entry.{Entry}
use Rattle.afp_serial.specs.History.{faults_in, is_lawful, stand}
use Rattle.afp_serial.specs.Household.{Household}
use Rattle.afp_serial.specs.Shown.{Rising}
use Rattle.afp_serial.specs.Sound.{IsSound}
use Rattle.afp_serial.specs.World.{World}
use Rattle.afp_core.specs.turns.ServerState.{ServerState}
use Rattle.afp_desk.specs.desk.StandsFor.{StandsFor}
use Rattle.afp_desk.specs.desk.Totals.{total, times}
use Rattle.afp_desk.specs.desk.Passes.{remembered, start_then, core_then}
use Rattle.afp_server.specs.doors.Served.{ServesDoor}
use Rattle.afp_desk.specs.declared.workers.gather.Done.{Done}
use Rattle.afp_desk.specs.declared.workers.doors.Finished.{Finished}

-- The core at the end, the history, the core at the start and at the end as a trace tells them, and the doors.
pub record Account (Y : Type 0) : Type 0 where
  pub core : ServerState
  pub history : List Entry
  pub started : ServerState
  pub ended : ServerState
  pub done : List (Done Y)

-- what a finished run shows
abbrev pub account_of : {X Y : Type 0} → Finished X Y → Account Y
account_of f = record { core = f.core; history = (remembered f.trace.last.views).history; started = start_then f.trace.last.views; ended = core_then f.trace.last.views; done = f.done.items }

-- A door's links were served out of a history, at places of its own, which rise in it.
pub record DoorServed {L P Y : Type 0} (state : L → LinkState) (passed : P → Passed) (door : Y → DoorState L) (house : Household) (turns : ℕ) (start : World) (history : List Entry) (old : Y) (mine : List ℕ) (d : Done Y) : Type 0 where
  pub rising : Rising 0 mine (length history)
  pub serves : ServesDoor state passed house turns start history (door old) mine d.end (door d.door)

-- All doors were served out of one lawful history, which begins at the start, and whose world is sound at each place. There is a list of places for
-- each door, and each place of the history stands in just one of them, once. The core stands for the history, and no fault of a keeper gives leave for two entries.
pub record DoorsServed {L P Y : Type 0} (state : L → LinkState) (passed : P → Passed) (door : Y → DoorState L) (house : Household) (turns : ℕ) (start : ServerState) (doors : List Y) (f : Account Y) : Type 0 where
  pub places : List (List ℕ)
  pub traced : (f.started ≡ start) × (f.ended ≡ f.core)
  pub lawful : is_lawful start.world f.history ≡ true
  pub sound : (k : ℕ) → IsSound (stand start.world (take k f.history))
  pub stands : StandsFor start f.history f.core
  pub faults : Rises (faults_in f.history) (sum start.faults) (sum f.core.faults)
  pub parted : (k : ℕ) → k < length f.history → total (times k) places ≡ 1
  pub lists : length places ≡ length doors
  pub whole : length f.done ≡ length doors
  pub each : (i : ℕ) (d : Done Y) → get_elem? f.done i ≡ some d
      → (old : Y) × (mine : List ℕ) × (get_elem? doors i ≡ some old) × (get_elem? places i ≡ some mine) × DoorServed state passed door house turns start.world f.history old mine d
