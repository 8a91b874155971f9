-- A server of nothing, for values that are never made (this profile).
use Rattle.std.specs.Prelude.{[]}
use Rattle.afp_serial.specs.Household.{household}
use Rattle.afp_core.specs.turns.ServerState.{ServerState, start_server}

-- no volume, no keeper, no name
abbrev pub no_server : ServerState
no_server = start_server (household [] [] [] [] [] []) 0 [] [] [] []
