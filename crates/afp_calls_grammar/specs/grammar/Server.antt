-- The requests about the server (AFP Reference, "Server Commands"). Each has its fields, and beside them how they are read.
use Rattle.std.specs.Prelude.{ℕ, [], ◌∷◌}
use Rattle.afp_calls_grammar.specs.grammar.Commands.{get_srvr_info_command, get_srvr_parms_command, get_srvr_msg_command}
use Rattle.afp_calls_grammar.specs.declared.grammar.call.Call.TheVariants.{GetSrvrInfo, GetSrvrParms, GetSrvrMsg}
use Rattle.afp_calls_grammar.specs.grammar.Words.{LastPad, Number, Pad, Layout, in_command, command, last_pad, pad, u16}
use Rattle.afp_calls_grammar.specs.grammar.Reading.{Reader, reader, Alone}

-- AFP Reference, FPGetSrvrInfo
abbrev pub get_srvr_info : Layout
get_srvr_info = in_command (command get_srvr_info_command ∷ last_pad ∷ [])

abbrev pub get_srvr_info_reader : Reader
get_srvr_info_reader = reader get_srvr_info_command (LastPad ∷ []) (λ _. Alone GetSrvrInfo)

-- AFP Reference, FPGetSrvrParms
abbrev pub get_srvr_parms : Layout
get_srvr_parms = in_command (command get_srvr_parms_command ∷ last_pad ∷ [])

abbrev pub get_srvr_parms_reader : Reader
get_srvr_parms_reader = reader get_srvr_parms_command (LastPad ∷ []) (λ _. Alone GetSrvrParms)

-- AFP Reference, FPGetSrvrMsg
abbrev pub get_srvr_msg : ℕ → ℕ → Layout
get_srvr_msg kind bits = in_command (command get_srvr_msg_command ∷ pad ∷ u16 kind ∷ u16 bits ∷ [])

abbrev pub get_srvr_msg_reader : Reader
get_srvr_msg_reader = reader get_srvr_msg_command (Pad ∷ Number 2 ∷ Number 2 ∷ []) (λ _ kind bits. Alone (GetSrvrMsg kind bits))
