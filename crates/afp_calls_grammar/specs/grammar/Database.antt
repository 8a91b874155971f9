-- The requests that open and close the desktop database (AFP Reference, "Desktop Database Commands"). Each has its fields, and beside them how they are read.
use Rattle.std.specs.Prelude.{ℕ, [], ◌∷◌}
use Rattle.afp_base.specs.declared.ids.VolumeId.{VolumeId}
use Rattle.afp_calls_grammar.specs.grammar.Commands.{open_dt_command, close_dt_command}
use Rattle.afp_calls_grammar.specs.declared.grammar.call.Call.TheVariants.{OpenDT, CloseDT}
use Rattle.afp_calls_grammar.specs.grammar.Words.{Number, Pad, Layout, in_command, command, pad, u16, volume_id}
use Rattle.afp_calls_grammar.specs.grammar.Reading.{Reader, reader, Alone}

-- AFP Reference, FPOpenDT
abbrev pub open_dt : VolumeId → Layout
open_dt volume = in_command (command open_dt_command ∷ pad ∷ volume_id volume ∷ [])

abbrev pub open_dt_reader : Reader
open_dt_reader = reader open_dt_command (Pad ∷ Number 2 ∷ []) (λ _ volume. Alone (OpenDT (record { 0 = volume })))

-- AFP Reference, FPCloseDT
abbrev pub close_dt : ℕ → Layout
close_dt dt = in_command (command close_dt_command ∷ pad ∷ u16 dt ∷ [])

abbrev pub close_dt_reader : Reader
close_dt_reader = reader close_dt_command (Pad ∷ Number 2 ∷ []) (λ _ dt. Alone (CloseDT dt))
