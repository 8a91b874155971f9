-- What a core has counted of a history (this profile).
use Rattle.std.specs.Prelude.{◌≡◌, List, length}
use Rattle.afp_base.specs.Counts.{counted}
use Rattle.afp_core.specs.turns.ServerState.{ServerState}
use Rattle.afp_serial.specs.History.{opened_in}
use Rattle.afp_serial.specs.declared.ask.Entry.{Entry}

-- The counts went on from those at the start: by one for each entry, and by one for each that opened a session.
pub record IsCounted (start : ServerState) (history : List Entry) (c : ServerState) : Type 0 where
  pub entries : c.entries ≡ counted (length history) start.entries
  pub opened : c.opened ≡ counted (opened_in start.world history) start.opened
