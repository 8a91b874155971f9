-- Who dials links, and what its calls do to it (this profile).
use Rattle.std.specs.Prelude.{◌≡◌, ℕ, ◌+◌, List, [], ◌∷◌, ◌++◌, Result, Ok, Err}
use Rattle.afp_base.specs.Counts.{CountsOn}
use Rattle.afp_outside.specs.ends.Link.{LinkState, IsFresh}
use Rattle.afp_outside.specs.declared.ends.dialer.DialFault.{DialFault}
use Rattle.afp_outside.specs.declared.ends.dialer.DialFault.TheVariants.{Failed, Memory}

-- How many links it handed out, the links handed back, each as it was then, and how often it failed.
pub record DialerState (L : Type 0) : Type 0 where
  pub handed : ℕ
  pub back : List L
  pub faults : ℕ

-- A fresh link was handed out, and no fault was counted.
pub record DialsLink {L : Type 0} (state : L → LinkState) (old : DialerState L) (link : L) (new : DialerState L) : Type 0 where
  pub fresh : IsFresh (state link)
  pub handed : new.handed ≡ old.handed + 1
  pub back : new.back ≡ old.back
  pub faults : new.faults ≡ old.faults

-- No link was handed out, and the fault is counted, once.
pub record FailsToDial {L : Type 0} (old new : DialerState L) : Type 0 where
  pub handed : new.handed ≡ old.handed
  pub back : new.back ≡ old.back
  pub faults : CountsOn 1 old.faults new.faults

-- A dial by its answer; `state` is what a link of this dialer is seen as. Want of memory changes nothing.
abbrev pub Dials : {L : Type 0} → (L → LinkState) → DialerState L → Result L DialFault → DialerState L → Type 0
Dials state old (Ok link) new = DialsLink state old link new
Dials state old (Err Failed) new = FailsToDial old new
Dials state old (Err Memory) new = new ≡ old

-- A link was handed back, as it is.
pub record TakesBack {L : Type 0} (old : DialerState L) (link : L) (new : DialerState L) : Type 0 where
  pub handed : new.handed ≡ old.handed
  pub back : new.back ≡ old.back ++ link ∷ []
  pub faults : new.faults ≡ old.faults
