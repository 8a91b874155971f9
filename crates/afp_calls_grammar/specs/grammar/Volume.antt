-- The requests about volumes (AFP Reference, "Volume Commands"). Each has its fields, and beside them how they are read.
use Rattle.std.specs.Prelude.{ℕ, List, [], ◌∷◌}
use Rattle.afp_base.specs.declared.ids.VolumeId.{VolumeId}
use Rattle.afp_calls_grammar.specs.grammar.Commands.{open_vol_command, close_vol_command, get_vol_parms_command, set_vol_parms_command, flush_command}
use Rattle.afp_calls_grammar.specs.declared.grammar.call.Call.TheVariants.{OpenVol, CloseVol, GetVolParms, SetVolParms, Flush}
use Rattle.afp_calls_grammar.specs.grammar.Words.{Counted, Number, Pad, Tail, Layout, in_command, command, pad, str, tail, u16, volume_id}
use Rattle.afp_calls_grammar.specs.grammar.Reading.{Reader, reader, Alone}

-- AFP Reference, FPOpenVol
abbrev pub open_vol : ℕ → List ℕ → Layout
open_vol bits name = in_command (command open_vol_command ∷ pad ∷ u16 bits ∷ str name ∷ [])

abbrev pub open_vol_reader : Reader
open_vol_reader = reader open_vol_command (Pad ∷ Number 2 ∷ Counted 1 ∷ []) (λ _ bits name. Alone (OpenVol bits name))

-- AFP Reference, FPCloseVol
abbrev pub close_vol : VolumeId → Layout
close_vol volume = in_command (command close_vol_command ∷ pad ∷ volume_id volume ∷ [])

abbrev pub close_vol_reader : Reader
close_vol_reader = reader close_vol_command (Pad ∷ Number 2 ∷ []) (λ _ volume. Alone (CloseVol (record { 0 = volume })))

-- AFP Reference, FPGetVolParms
abbrev pub get_vol_parms : VolumeId → ℕ → Layout
get_vol_parms volume bits = in_command (command get_vol_parms_command ∷ pad ∷ volume_id volume ∷ u16 bits ∷ [])

abbrev pub get_vol_parms_reader : Reader
get_vol_parms_reader = reader get_vol_parms_command (Pad ∷ Number 2 ∷ Number 2 ∷ []) (λ _ volume bits. Alone (GetVolParms (record { 0 = volume }) bits))

-- AFP Reference, FPSetVolParms
abbrev pub set_vol_parms : VolumeId → ℕ → List ℕ → Layout
set_vol_parms volume bits rest = in_command (command set_vol_parms_command ∷ pad ∷ volume_id volume ∷ u16 bits ∷ tail rest ∷ [])

abbrev pub set_vol_parms_reader : Reader
set_vol_parms_reader = reader set_vol_parms_command (Pad ∷ Number 2 ∷ Number 2 ∷ Tail ∷ []) (λ _ volume bits rest. Alone (SetVolParms (record { 0 = volume }) bits rest))

-- AFP Reference, FPFlush
abbrev pub flush : VolumeId → Layout
flush volume = in_command (command flush_command ∷ pad ∷ volume_id volume ∷ [])

abbrev pub flush_reader : Reader
flush_reader = reader flush_command (Pad ∷ Number 2 ∷ []) (λ _ volume. Alone (Flush (record { 0 = volume })))
