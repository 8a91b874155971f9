-- What a caller asked of a teller, in order (this profile).
use Rattle.std.specs.Prelude.{◌≡◌, ℕ, List, [], ◌∷◌, ◌++◌, length}
use Rattle.afp_base.specs.Counts.{Rises}
use Rattle.afp_base.specs.declared.ids.LinkNumber.{LinkNumber}
use Rattle.afp_serial.specs.declared.ask.Ask.{Ask}
use Rattle.afp_serial.specs.declared.ask.Entry.{Entry}
use Rattle.afp_serial.specs.declared.ask.Told.{Told}
use Rattle.afp_serial.specs.declared.ask.Told.TheVariants.{Opened, Reply, Live, Done, Displaced, Memory}
use Rattle.afp_serial.specs.History.{Own, faults_in, own}
use Rattle.afp_serial.specs.Shown.{Rising, Shown}

-- An ask with its moment and link, and what it was told.
pub record Step : Type 0 where
  pub at : ℕ
  pub link : LinkNumber
  pub ask : Ask
  pub told : Told

abbrev pub step : ℕ → LinkNumber → Ask → Told → Step
step now link ask told = record { at = now; link = link; ask = ask; told = told }

abbrev pub step_of : Own → Step
step_of o = step o.0.at o.0.link o.0.ask o.1

abbrev pub steps_of : List Own → List Step
steps_of [] = []
steps_of (o ∷ os) = step_of o ∷ steps_of os

abbrev pub and_step : Told → Step → List Step → List Step
and_step (Opened l) s ss = s ∷ ss
and_step (Reply code block ends) s ss = s ∷ ss
and_step (Live drain) s ss = s ∷ ss
and_step Done s ss = s ∷ ss
and_step Displaced s ss = s ∷ ss
and_step Memory s ss = ss

-- the steps that were not told Memory
abbrev pub answered : List Step → List Step
answered [] = []
answered (s ∷ ss) = and_step s.told s (answered ss)

-- A teller was asked these steps: its new places are, in order, those of the steps that were not told Memory.
pub record Went (a : Shown) (steps : List Step) (b : Shown) : Type 0 where
  pub between : List Entry
  pub places : List ℕ
  pub start : b.start ≡ a.start
  pub history : b.history ≡ a.history ++ between
  pub mine : b.mine ≡ a.mine ++ places
  pub within : Rising (length a.history) places (length b.history)
  pub told : steps_of (own a.start b.history places) ≡ answered steps
  pub faults : Rises (faults_in between) a.faults b.faults
