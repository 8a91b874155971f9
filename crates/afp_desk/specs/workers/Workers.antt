-- What a worker did (this profile).
use Rattle.std.specs.Prelude.{◌≡◌, ℕ, List}
use Rattle.afp_outside.specs.ends.Gate.{Passed}
use Rattle.afp_outside.specs.ends.Link.{LinkState}
use Rattle.afp_outside.specs.ends.Listener.{DoorState}
use Rattle.afp_serial.specs.Household.{Household}
use Rattle.record_keeper.specs.declared.keeper.Keeper.{Ghosts}
use Rattle.afp_desk.specs.declared.desk.view.View.{View}
use Rattle.afp_desk.specs.desk.Rule.{shown_of}
use Rattle.afp_desk.specs.desk.Passes.{view}
use Rattle.afp_server.specs.doors.Served.{Grows, ServesDoor}
use Rattle.afp_server.specs.declared.doors.door.WorkerEnd.{WorkerEnd}
use Rattle.afp_desk.specs.declared.workers.worker.Worker.{Worker}

-- The links of a door were served with a pass, which keeps its share; its places went on by those of the door's links.
pub record Works {L P : Type 0} (state : L → LinkState) (passed : P → Passed) (house : Household) (turns : ℕ) (p : View) (old : DoorState L) (q : View) (end : WorkerEnd) (new : DoorState L) : Type 0 where
  pub share : q.share ≡ p.share
  pub places : List ℕ
  pub grows : Grows (shown_of p) places (shown_of q)
  pub serves : ServesDoor state passed house turns (shown_of p).start (shown_of q).history old places end new

-- the same of a worker before and after its work
abbrev pub Worked : {L P X Y : Type 0} {g : Ghosts X} → (L → LinkState) → (P → Passed) → (Y → DoorState L) → Household → ℕ → Worker X Y g → Worker X Y g → Type 0
Worked state passed door house turns a b = Works state passed house turns (view a.pass) (door a.door) (view b.pass) b.end (door b.door)
