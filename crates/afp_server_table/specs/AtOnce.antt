-- What it is to serve many links of one teller at once, in turns (this profile).
use Rattle.std.specs.Prelude.{◌≡◌, ◌⊎◌, ℕ, ◌+◌, ◌<◌, true, false, List, [], ◌∷◌, ◌++◌, length}
use Rattle.std.specs.List.{AllZip}
use Rattle.afp_base.specs.Counts.{CountsOn}
use Rattle.afp_outside.specs.ends.Gate.{Passed}
use Rattle.afp_outside.specs.ends.Link.{LinkState, IsFresh}
use Rattle.afp_outside.specs.ends.Listener.{DoorState}
use Rattle.afp_serial.specs.History.{own}
use Rattle.afp_serial.specs.Household.{Household}
use Rattle.afp_serial.specs.StatusBlock.{status_block}
use Rattle.afp_serial.specs.Went.{Step, steps_of, answered}
use Rattle.afp_serial.specs.World.{World}
use Rattle.afp_serial.specs.declared.ask.Entry.{Entry}
use Rattle.afp_server.specs.connection.Connection.{IsServedUnheld}
use Rattle.afp_server.specs.connection.Turn.{places_of}
use Rattle.afp_server.specs.doors.Served.{IsDrain, ServedLink}
use Rattle.afp_server.specs.link.Passing.{Passes}
use Rattle.afp_server.specs.declared.doors.door.WorkerEnd.{WorkerEnd}
use Rattle.afp_server.specs.declared.doors.door.WorkerEnd.TheVariants as ends
use Rattle.afp_server.specs.declared.link.serve.LinkEnd.{LinkEnd}

-- A fresh link was served up to where there was no memory for its bytes between two turns; its steps that were not told Memory are the
-- entries at these places, and its calls went through the gate.
pub record ServedUnheld {L P : Type 0} (state : L → LinkState) (passed : P → Passed) (house : Household) (turns : ℕ) (start : World) (history : List Entry) (link : L) (places : List ℕ) : Type 0 where
  pub fresh : LinkState
  pub is_fresh : IsFresh fresh
  pub answer : LinkEnd
  pub steps : List Step
  pub served : IsServedUnheld (status_block house) turns fresh answer (state link) steps
  pub told : steps_of (own start history places) ≡ answered steps
  pub passes : Passes passed answer steps

-- A link was served as one that is served alone, word for word, or there was no memory for its bytes between two turns.
abbrev pub ServedInTurns : {L P : Type 0} → (L → LinkState) → (P → Passed) → Household → ℕ → World → List Entry → L → List ℕ → Type 0
ServedInTurns state passed house turns start history link places =
    ServedLink state passed house turns start history link places ⊎ ServedUnheld state passed house turns start history link places

-- it is one of these numbers
abbrev pub IsOneOf : ℕ → List ℕ → Type 0
IsOneOf n [] = ⊥
IsOneOf n (m ∷ ms) = (n ≡ m) ⊎ IsOneOf n ms

-- each of them is one of these numbers
abbrev pub EachIsOneOf : List ℕ → List ℕ → Type 0
EachIsOneOf [] numbers = Unit {0}
EachIsOneOf (n ∷ ns) numbers = IsOneOf n numbers × EachIsOneOf ns numbers

-- no number comes twice
abbrev pub Differ : List ℕ → Type 0
Differ [] = Unit {0}
Differ (n ∷ ns) = (IsOneOf n ns → ⊥) × Differ ns

-- The links were served at once, in whatever turns. Each has a number of its own, and each place an owner, which is the number of one of them:
-- so each place is one link's, and each link was served out of its own.
pub record ServedAtOnce {L P : Type 0} (state : L → LinkState) (passed : P → Passed) (house : Household) (turns : ℕ) (start : World) (history : List Entry) (links : List L) (places : List ℕ) : Type 0 where
  pub numbers : List ℕ
  pub differ : Differ numbers
  pub owners : List ℕ
  pub each : length owners ≡ length places
  pub owned : EachIsOneOf owners numbers
  pub served : AllZip (λ n link. ServedInTurns state passed house turns start history link (places_of n owners places)) numbers links

-- The door is closed. Each link that it handed out was served, and handed back as it was then; behind the places of all of them is that of Drain.
pub record ClosesAtOnce {L P : Type 0} (state : L → LinkState) (passed : P → Passed) (house : Household) (turns : ℕ) (start : World) (history : List Entry) (old : DoorState L) (places : List ℕ) (new : DoorState L) : Type 0 where
  pub links : List L
  pub own_places : List ℕ
  pub drain : List ℕ
  pub all : places ≡ own_places ++ drain
  pub served : ServedAtOnce state passed house turns start history links own_places
  pub drained : IsDrain start history drain
  pub handed : new.handed ≡ old.handed + length links
  pub back : new.back ≡ old.back ++ links
  pub closed : new.closed ≡ true
  pub faults : new.faults ≡ old.faults

-- The door failed, once; each link that it had handed out was served on, and handed back.
pub record FailsAtOnce {L P : Type 0} (state : L → LinkState) (passed : P → Passed) (house : Household) (turns : ℕ) (start : World) (history : List Entry) (old : DoorState L) (places : List ℕ) (new : DoorState L) : Type 0 where
  pub links : List L
  pub served : ServedAtOnce state passed house turns start history links places
  pub handed : new.handed ≡ old.handed + length links
  pub back : new.back ≡ old.back ++ links
  pub closed : new.closed ≡ false
  pub fault : CountsOn 1 old.faults new.faults

-- All links of a door at once, by why there were no more; want of memory is no reason.
abbrev pub ServesPoll : {L P : Type 0} → (L → LinkState) → (P → Passed) → Household → ℕ → World → List Entry → DoorState L → List ℕ → WorkerEnd → DoorState L → Type 0
ServesPoll state passed house turns start history old places ends.Closed new = ClosesAtOnce state passed house turns start history old places new
ServesPoll state passed house turns start history old places ends.Failed new = FailsAtOnce state passed house turns start history old places new
ServesPoll state passed house turns start history old places ends.Memory new = ⊥
