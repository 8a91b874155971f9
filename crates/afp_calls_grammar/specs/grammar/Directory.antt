-- The requests about directories (AFP Reference, "Directory Commands"). Each has its fields, and beside them how they are read.
use Rattle.std.specs.Prelude.{[], ◌∷◌}
use Rattle.afp_base.specs.declared.ids.VolumeId.{VolumeId}
use Rattle.afp_base.specs.declared.ids.NodeId.{NodeId}
use Rattle.afp_names.specs.Path.{PathValue}
use Rattle.afp_calls_grammar.specs.grammar.Commands.{create_dir_command, open_dir_command, close_dir_command}
use Rattle.afp_calls_grammar.specs.declared.grammar.call.Call.TheVariants.{CreateDir, OpenDir, CloseDir}
use Rattle.afp_calls_grammar.specs.grammar.Words.{Number, Pad, Pathname, Layout, in_command, command, node_id, pad, pathname, volume_id}
use Rattle.afp_calls_grammar.specs.grammar.Reading.{Reader, reader, Alone}

-- AFP Reference, FPCreateDir
abbrev pub create_dir : VolumeId → NodeId → PathValue → Layout
create_dir volume dir path = in_command (command create_dir_command ∷ pad ∷ volume_id volume ∷ node_id dir ∷ pathname path ∷ [])

abbrev pub create_dir_reader : Reader
create_dir_reader = reader create_dir_command (Pad ∷ Number 2 ∷ Number 4 ∷ Pathname ∷ []) (λ _ volume dir path. Alone (CreateDir (record { 0 = volume }) (record { 0 = dir }) path))

-- AFP Reference, FPOpenDir
abbrev pub open_dir : VolumeId → NodeId → PathValue → Layout
open_dir volume dir path = in_command (command open_dir_command ∷ pad ∷ volume_id volume ∷ node_id dir ∷ pathname path ∷ [])

abbrev pub open_dir_reader : Reader
open_dir_reader = reader open_dir_command (Pad ∷ Number 2 ∷ Number 4 ∷ Pathname ∷ []) (λ _ volume dir path. Alone (OpenDir (record { 0 = volume }) (record { 0 = dir }) path))

-- AFP Reference, FPCloseDir
abbrev pub close_dir : VolumeId → NodeId → Layout
close_dir volume dir = in_command (command close_dir_command ∷ pad ∷ volume_id volume ∷ node_id dir ∷ [])

abbrev pub close_dir_reader : Reader
close_dir_reader = reader close_dir_command (Pad ∷ Number 2 ∷ Number 4 ∷ []) (λ _ volume dir. Alone (CloseDir (record { 0 = volume }) (record { 0 = dir })))
