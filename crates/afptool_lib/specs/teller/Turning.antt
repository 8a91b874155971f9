-- A turn of the core, by whether there was memory (this profile).
use Rattle.std.specs.Prelude.{ℕ, Option, Some, None}
use Rattle.afp_base.specs.declared.ids.LinkNumber.{LinkNumber}
use Rattle.afp_serial.specs.declared.ask.Ask.{Ask}
use Rattle.afp_serial.specs.declared.ask.Told.{Told}
use Rattle.afp_core.specs.turns.ServerState.{ServerState}
use Rattle.afp_core.specs.turns.Turn.{BecomesEntry, Refrains}

abbrev pub Turns : ServerState → ℕ → LinkNumber → Ask → Option Told → ServerState → Type 0
Turns c now link ask None d = Refrains c link ask d
Turns c now link ask (Some told) d = BecomesEntry c now link ask told d
