-- What it is to serve the links of a door out of one history (this profile).
use Rattle.std.specs.Prelude.{◌≡◌, ℕ, ◌+◌, true, false, List, [], ◌∷◌, ◌++◌, length}
use Rattle.afp_base.specs.Counts.{CountsOn, Rises}
use Rattle.afp_outside.specs.ends.Gate.{Passed}
use Rattle.afp_outside.specs.ends.Link.{LinkState, IsFresh}
use Rattle.afp_outside.specs.ends.Listener.{DoorState}
use Rattle.afp_serial.specs.Answer.{link_number}
use Rattle.afp_serial.specs.History.{faults_in, own}
use Rattle.afp_serial.specs.Household.{Household}
use Rattle.afp_serial.specs.Shown.{Rising, Shown}
use Rattle.afp_serial.specs.StatusBlock.{status_block}
use Rattle.afp_serial.specs.Went.{Step, step, steps_of, answered, Went}
use Rattle.afp_serial.specs.World.{World}
use Rattle.afp_serial.specs.declared.ask.Ask.TheVariants as ask
use Rattle.afp_serial.specs.declared.ask.Entry.{Entry}
use Rattle.afp_serial.specs.declared.ask.Told.{Told}
use Rattle.afp_server.specs.link.LinkRun.{IsServed}
use Rattle.afp_server.specs.link.Passing.{Passes}
use Rattle.afp_server.specs.declared.link.serve.LinkEnd.{LinkEnd}
use Rattle.afp_server.specs.declared.doors.door.WorkerEnd.{WorkerEnd}
use Rattle.afp_server.specs.declared.doors.door.WorkerEnd.TheVariants as ends

-- A teller's own places went on by these, and others may have added entries too.
pub record Grows (a : Shown) (places : List ℕ) (b : Shown) : Type 0 where
  pub between : List Entry
  pub start : b.start ≡ a.start
  pub history : b.history ≡ a.history ++ between
  pub mine : b.mine ≡ a.mine ++ places
  pub within : Rising (length a.history) places (length b.history)
  pub faults : Rises (faults_in between) a.faults b.faults

-- A fresh link was served whole, its steps that were not told Memory are in order the entries at these places, and its calls went
-- through the gate. `state` is what a link of the door is seen as, and `passed` what a log of the gate tells.
pub record ServedLink {L P : Type 0} (state : L → LinkState) (passed : P → Passed) (house : Household) (turns : ℕ) (start : World) (history : List Entry) (link : L) (places : List ℕ) : Type 0 where
  pub fresh : LinkState
  pub is_fresh : IsFresh fresh
  pub answer : LinkEnd
  pub steps : List Step
  pub served : IsServed (status_block house) turns fresh answer (state link) steps
  pub told : steps_of (own start history places) ≡ answered steps
  pub passes : Passes passed answer steps

-- The links were served one after the other: the places are a part for the first link, and a rest that serves the others.
abbrev pub Served : {L P : Type 0} → (L → LinkState) → (P → Passed) → Household → ℕ → World → List Entry → List L → List ℕ → Type 0
Served state passed house turns start history [] places = places ≡ []
Served state passed house turns start history (link ∷ links) places = (part : List ℕ) × (rest : List ℕ) × (places ≡ part ++ rest)
    × ServedLink state passed house turns start history link part × Served state passed house turns start history links rest

-- Drain was asked at link 0 and moment 0: it stands at these places, at none where it was told Memory.
pub record IsDrain (start : World) (history : List Entry) (places : List ℕ) : Type 0 where
  pub answer : Told
  pub told : steps_of (own start history places) ≡ answered (step 0 (link_number 0) ask.Drain answer ∷ [])

-- a teller was asked Drain, at link 0 and moment 0
abbrev pub Drains : Shown → Shown → Type 0
Drains a b = (answer : Told) × Went a (step 0 (link_number 0) ask.Drain answer ∷ []) b

-- The door is closed. Each link that it handed out was served, and handed back as it was then; behind the places of all of them is that of Drain.
pub record EndsClosed {L P : Type 0} (state : L → LinkState) (passed : P → Passed) (house : Household) (turns : ℕ) (start : World) (history : List Entry) (old : DoorState L) (places : List ℕ) (new : DoorState L) : Type 0 where
  pub links : List L
  pub own_places : List ℕ
  pub drain : List ℕ
  pub all : places ≡ own_places ++ drain
  pub served : Served state passed house turns start history links own_places
  pub drained : IsDrain start history drain
  pub handed : new.handed ≡ old.handed + length links
  pub back : new.back ≡ old.back ++ links
  pub closed : new.closed ≡ true
  pub faults : new.faults ≡ old.faults

-- The door failed, once, behind the links that were served and handed back.
pub record EndsFailed {L P : Type 0} (state : L → LinkState) (passed : P → Passed) (house : Household) (turns : ℕ) (start : World) (history : List Entry) (old : DoorState L) (places : List ℕ) (new : DoorState L) : Type 0 where
  pub links : List L
  pub served : Served state passed house turns start history links places
  pub handed : new.handed ≡ old.handed + length links
  pub back : new.back ≡ old.back ++ links
  pub closed : new.closed ≡ false
  pub fault : CountsOn 1 old.faults new.faults

-- There was no memory for the last link, of which nothing was read: it was handed back as it came, behind the links that were served.
pub record EndsWithoutRoom {L P : Type 0} (state : L → LinkState) (passed : P → Passed) (house : Household) (turns : ℕ) (start : World) (history : List Entry) (old : DoorState L) (places : List ℕ) (new : DoorState L) : Type 0 where
  pub links : List L
  pub last : L
  pub unread : IsFresh (state last)
  pub served : Served state passed house turns start history links places
  pub handed : new.handed ≡ old.handed + length links + 1
  pub back : new.back ≡ old.back ++ (links ++ last ∷ [])
  pub closed : new.closed ≡ false
  pub faults : new.faults ≡ old.faults

-- All links of a door, by why there were no more: at these places of a history that begins at that world.
abbrev pub ServesDoor : {L P : Type 0} → (L → LinkState) → (P → Passed) → Household → ℕ → World → List Entry → DoorState L → List ℕ → WorkerEnd → DoorState L → Type 0
ServesDoor state passed house turns start history old places ends.Closed new = EndsClosed state passed house turns start history old places new
ServesDoor state passed house turns start history old places ends.Failed new = EndsFailed state passed house turns start history old places new
ServesDoor state passed house turns start history old places ends.Memory new = EndsWithoutRoom state passed house turns start history old places new
