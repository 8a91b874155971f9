-- A core at the end of a history (this profile).
use Rattle.std.specs.Prelude.{◌≡◌, List}
use Rattle.afp_core.specs.turns.Counted.{IsCounted}
use Rattle.afp_core.specs.turns.ServerState.{ServerState}
use Rattle.afp_core.specs.turns.Sureness.{MeetsNoFaults, SureKept}
use Rattle.afp_serial.specs.History.{stand}
use Rattle.afp_serial.specs.declared.ask.Entry.{Entry}

-- The core's world is what the history makes of the world at the start, its counts went on by the history, and the keepers are as sure as they were.
-- Where all of them are sure, no entry met a fault.
pub record StandsFor (start : ServerState) (history : List Entry) (core : ServerState) : Type 0 where
  pub world : core.world ≡ stand start.world history
  pub counted : IsCounted start history core
  pub keepers : SureKept start core
  pub faultless : MeetsNoFaults start history
