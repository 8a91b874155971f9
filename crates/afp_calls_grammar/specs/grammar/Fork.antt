-- The requests about open forks (AFP Reference, "Fork Commands"). Each has its fields, and beside them how they are read.
use Rattle.std.specs.Prelude.{ℕ, List, [], ◌∷◌}
use Rattle.afp_base.specs.declared.ids.VolumeId.{VolumeId}
use Rattle.afp_base.specs.declared.ids.NodeId.{NodeId}
use Rattle.afp_base.specs.declared.ids.ForkRef.{ForkRef}
use Rattle.afp_names.specs.Path.{PathValue}
use Rattle.afp_calls_grammar.specs.grammar.Commands.{open_fork_command, close_fork_command, flush_fork_command, get_fork_parms_command, set_fork_parms_command}
use Rattle.afp_calls_grammar.specs.declared.grammar.call.Call.TheVariants.{OpenFork, CloseFork, FlushFork, GetForkParms, SetForkParms}
use Rattle.afp_calls_grammar.specs.grammar.Words.{Number, Pad, Pathname, Tail, Layout, in_command, command, fork_ref, node_id, pad, pathname, tail, u16, u8, volume_id}
use Rattle.afp_calls_grammar.specs.grammar.Reading.{Reader, reader, Alone}

-- AFP Reference, FPOpenFork
abbrev pub open_fork : ℕ → VolumeId → NodeId → ℕ → ℕ → PathValue → Layout
open_fork flag volume dir bits mode path = in_command (command open_fork_command ∷ u8 flag ∷ volume_id volume ∷ node_id dir ∷ u16 bits ∷ u16 mode ∷ pathname path ∷ [])

abbrev pub open_fork_reader : Reader
open_fork_reader = reader open_fork_command (Number 1 ∷ Number 2 ∷ Number 4 ∷ Number 2 ∷ Number 2 ∷ Pathname ∷ []) (λ flag volume dir bits mode path. Alone (OpenFork flag (record { 0 = volume }) (record { 0 = dir }) bits mode path))

-- AFP Reference, FPCloseFork
abbrev pub close_fork : ForkRef → Layout
close_fork reference = in_command (command close_fork_command ∷ pad ∷ fork_ref reference ∷ [])

abbrev pub close_fork_reader : Reader
close_fork_reader = reader close_fork_command (Pad ∷ Number 2 ∷ []) (λ _ reference. Alone (CloseFork (record { 0 = reference })))

-- AFP Reference, FPFlushFork
abbrev pub flush_fork : ForkRef → Layout
flush_fork reference = in_command (command flush_fork_command ∷ pad ∷ fork_ref reference ∷ [])

abbrev pub flush_fork_reader : Reader
flush_fork_reader = reader flush_fork_command (Pad ∷ Number 2 ∷ []) (λ _ reference. Alone (FlushFork (record { 0 = reference })))

-- AFP Reference, FPGetForkParms
abbrev pub get_fork_parms : ForkRef → ℕ → Layout
get_fork_parms reference bits = in_command (command get_fork_parms_command ∷ pad ∷ fork_ref reference ∷ u16 bits ∷ [])

abbrev pub get_fork_parms_reader : Reader
get_fork_parms_reader = reader get_fork_parms_command (Pad ∷ Number 2 ∷ Number 2 ∷ []) (λ _ reference bits. Alone (GetForkParms (record { 0 = reference }) bits))

-- AFP Reference, FPSetForkParms
abbrev pub set_fork_parms : ForkRef → ℕ → List ℕ → Layout
set_fork_parms reference bits rest = in_command (command set_fork_parms_command ∷ pad ∷ fork_ref reference ∷ u16 bits ∷ tail rest ∷ [])

abbrev pub set_fork_parms_reader : Reader
set_fork_parms_reader = reader set_fork_parms_command (Pad ∷ Number 2 ∷ Number 2 ∷ Tail ∷ []) (λ _ reference bits rest. Alone (SetForkParms (record { 0 = reference }) bits rest))
