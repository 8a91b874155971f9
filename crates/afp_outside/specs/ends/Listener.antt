-- A door through which links come, and what its calls do to it (this profile).
use Rattle.std.specs.Prelude.{◌≡◌, ℕ, ◌+◌, Bool, true, List, [], ◌∷◌, ◌++◌}
use Rattle.afp_base.specs.Counts.{CountsOn}
use Rattle.afp_outside.specs.ends.Link.{LinkState, IsFresh}
use Rattle.afp_outside.specs.declared.ends.listener.Accepted.{Accepted}
use Rattle.afp_outside.specs.declared.ends.listener.Accepted.TheVariants.{Link, Closed, Failed}

-- How many links it handed out, the links handed back, each as it was then, whether it has answered
-- that it is closed, and how often it failed.
pub record DoorState (L : Type 0) : Type 0 where
  pub handed : ℕ
  pub back : List L
  pub closed : Bool
  pub faults : ℕ

-- A fresh link was handed out, and no fault was counted.
pub record HandsOut {L : Type 0} (state : L → LinkState) (old : DoorState L) (link : L) (new : DoorState L) : Type 0 where
  pub fresh : IsFresh (state link)
  pub handed : new.handed ≡ old.handed + 1
  pub back : new.back ≡ old.back
  pub closed : new.closed ≡ old.closed
  pub faults : new.faults ≡ old.faults

-- The door is closed: no link comes any more, and no fault was counted.
pub record Closes {L : Type 0} (old new : DoorState L) : Type 0 where
  pub handed : new.handed ≡ old.handed
  pub back : new.back ≡ old.back
  pub closed : new.closed ≡ true
  pub faults : new.faults ≡ old.faults

-- No link was handed out, and the fault is counted, once.
pub record FailsToAccept {L : Type 0} (old new : DoorState L) : Type 0 where
  pub handed : new.handed ≡ old.handed
  pub back : new.back ≡ old.back
  pub closed : new.closed ≡ old.closed
  pub faults : CountsOn 1 old.faults new.faults

-- An accept by its answer; `state` is what a link of this door is seen as.
abbrev pub Accepts : {L : Type 0} → (L → LinkState) → DoorState L → Accepted L → DoorState L → Type 0
Accepts state old (Link link) new = HandsOut state old link new
Accepts state old Closed new = Closes old new
Accepts state old Failed new = FailsToAccept old new

-- A link was handed back, as it is.
pub record TakesBack {L : Type 0} (old : DoorState L) (link : L) (new : DoorState L) : Type 0 where
  pub handed : new.handed ≡ old.handed
  pub back : new.back ≡ old.back ++ link ∷ []
  pub closed : new.closed ≡ old.closed
  pub faults : new.faults ≡ old.faults
