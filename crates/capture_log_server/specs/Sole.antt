-- A teller that alone asks (this profile).
use Rattle.std.specs.Prelude.{◌≡◌, ℕ, zero, suc, List, [], ◌∷◌, ◌++◌, length}
use Rattle.afp_serial.specs.History.{faults_in}
use Rattle.afp_serial.specs.Household.{Household}
use Rattle.afp_serial.specs.Shown.{Shown}
use Rattle.afp_serial.specs.World.{fresh_world}

-- the places below n, rising
abbrev pub places_below : ℕ → List ℕ
places_below zero = []
places_below (suc n) = places_below n ++ n ∷ []

-- Each ask of its history was its own, and none met a fault of a keeper.
pub record IsSole (t : Shown) : Type 0 where
  pub mine : t.mine ≡ places_below (length t.history)
  pub faultless : faults_in t.history ≡ 0

-- It serves a house that nobody has used, from a moment on, and nobody has asked it.
pub record IsFreshTeller (house : Household) (now : ℕ) (t : Shown) : Type 0 where
  pub start : t.start ≡ fresh_world house now
  pub history : t.history ≡ []
