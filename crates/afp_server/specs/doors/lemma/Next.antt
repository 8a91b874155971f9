-- What the code and the proofs go by beside the rest; no public contract cites it.
use Rattle.std.specs.Prelude.{◌≡◌, ℕ, ◌+◌, true, false, List, [], ◌∷◌, ◌++◌, length, Option, Some, None}
use Rattle.afp_base.specs.Counts.{CountsOn}
use Rattle.afp_outside.specs.ends.Gate.{Passed}
use Rattle.afp_outside.specs.ends.Link.{LinkState, IsFresh}
use Rattle.afp_outside.specs.ends.Listener.{DoorState}
use Rattle.afp_serial.specs.Household.{Household}
use Rattle.afp_serial.specs.Shown.{Shown}
use Rattle.afp_serial.specs.StatusBlock.{status_block}
use Rattle.afp_serial.specs.Went.{Step, Went}
use Rattle.afp_server.specs.link.LinkRun.{IsServed}
use Rattle.afp_server.specs.link.Passing.{Passes}
use Rattle.afp_server.specs.declared.link.serve.LinkEnd.{LinkEnd}
use Rattle.afp_server.specs.doors.Served.{Drains, Grows, Served}
use Rattle.afp_server.specs.declared.doors.door.WorkerEnd.{WorkerEnd}
use Rattle.afp_server.specs.declared.doors.door.WorkerEnd.TheVariants as ends

-- the next link came, was served, and was handed back
pub record ServesOne {L P : Type 0} (state : L → LinkState) (passed : P → Passed) (house : Household) (turns : ℕ) (old : DoorState L) (a : Shown) (new : DoorState L) (b : Shown) : Type 0 where
  pub link : L
  pub fresh : LinkState
  pub is_fresh : IsFresh fresh
  pub answer : LinkEnd
  pub steps : List Step
  pub served : IsServed (status_block house) turns fresh answer (state link) steps
  pub went : Went a steps b
  pub passes : Passes passed answer steps
  pub handed : new.handed ≡ old.handed + 1
  pub back : new.back ≡ old.back ++ link ∷ []
  pub closed : new.closed ≡ old.closed
  pub faults : new.faults ≡ old.faults

-- the next link came, and there was no memory for it
pub record HandsBack {L : Type 0} (state : L → LinkState) (old new : DoorState L) : Type 0 where
  pub link : L
  pub unread : IsFresh (state link)
  pub handed : new.handed ≡ old.handed + 1
  pub back : new.back ≡ old.back ++ link ∷ []
  pub closed : new.closed ≡ old.closed
  pub faults : new.faults ≡ old.faults

-- no link came
pub record HandsNone {L : Type 0} (old new : DoorState L) : Type 0 where
  pub handed : new.handed ≡ old.handed
  pub back : new.back ≡ old.back

-- Serving the next link, by why there was none.
abbrev pub ServesNext : {L P : Type 0} → (L → LinkState) → (P → Passed) → Household → ℕ → DoorState L → Shown → Option WorkerEnd → DoorState L → Shown → Type 0
ServesNext state passed house turns old a None new b = ServesOne state passed house turns old a new b
ServesNext state passed house turns old a (Some ends.Closed) new b = HandsNone old new × (new.closed ≡ true) × (new.faults ≡ old.faults) × (b ≡ a)
ServesNext state passed house turns old a (Some ends.Failed) new b = HandsNone old new × (new.closed ≡ old.closed) × CountsOn 1 old.faults new.faults × (b ≡ a)
ServesNext state passed house turns old a (Some ends.Memory) new b = HandsBack state old new × (b ≡ a)

-- links were served, and the door is open and did not fail
pub record ServedSoFar {L P : Type 0} (state : L → LinkState) (passed : P → Passed) (house : Household) (turns : ℕ) (old : DoorState L) (a : Shown) (new : DoorState L) (b : Shown) : Type 0 where
  pub links : List L
  pub places : List ℕ
  pub grows : Grows a places b
  pub served : Served state passed house turns a.start b.history links places
  pub handed : new.handed ≡ old.handed + length links
  pub back : new.back ≡ old.back ++ links
  pub open_still : new.closed ≡ false
  pub faults : new.faults ≡ old.faults

-- where the door is closed, Drain is asked at last
abbrev pub Leaves : WorkerEnd → Shown → Shown → Type 0
Leaves ends.Closed a b = Drains a b
Leaves ends.Failed a b = b ≡ a
Leaves ends.Memory a b = b ≡ a
