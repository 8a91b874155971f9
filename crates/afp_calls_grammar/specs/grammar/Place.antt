-- The requests about the places of files and directories (AFP Reference, "Combined Directory-File Commands"). Each has its fields, and beside them how they are read.
use Rattle.std.specs.Prelude.{[], ◌∷◌}
use Rattle.afp_base.specs.declared.ids.VolumeId.{VolumeId}
use Rattle.afp_base.specs.declared.ids.NodeId.{NodeId}
use Rattle.afp_names.specs.Path.{PathValue}
use Rattle.afp_calls_grammar.specs.grammar.Commands.{delete_command, rename_command, move_and_rename_command}
use Rattle.afp_calls_grammar.specs.declared.grammar.call.Call.TheVariants.{Delete, Rename, MoveAndRename}
use Rattle.afp_calls_grammar.specs.grammar.Words.{Number, Pad, Pathname, Layout, in_command, command, node_id, pad, pathname, volume_id}
use Rattle.afp_calls_grammar.specs.grammar.Reading.{Reader, reader, Alone}

-- AFP Reference, FPDelete
abbrev pub delete : VolumeId → NodeId → PathValue → Layout
delete volume dir path = in_command (command delete_command ∷ pad ∷ volume_id volume ∷ node_id dir ∷ pathname path ∷ [])

abbrev pub delete_reader : Reader
delete_reader = reader delete_command (Pad ∷ Number 2 ∷ Number 4 ∷ Pathname ∷ []) (λ _ volume dir path. Alone (Delete (record { 0 = volume }) (record { 0 = dir }) path))

-- AFP Reference, FPRename
abbrev pub rename : VolumeId → NodeId → PathValue → PathValue → Layout
rename volume dir path new_path = in_command (command rename_command ∷ pad ∷ volume_id volume ∷ node_id dir ∷ pathname path ∷ pathname new_path ∷ [])

abbrev pub rename_reader : Reader
rename_reader = reader rename_command (Pad ∷ Number 2 ∷ Number 4 ∷ Pathname ∷ Pathname ∷ []) (λ _ volume dir path new_path. Alone (Rename (record { 0 = volume }) (record { 0 = dir }) path new_path))

-- AFP Reference, FPMoveAndRename
abbrev pub move_and_rename : VolumeId → NodeId → NodeId → PathValue → PathValue → PathValue → Layout
move_and_rename volume dir target_dir path target_path new_path = in_command (command move_and_rename_command ∷ pad ∷ volume_id volume ∷ node_id dir ∷ node_id target_dir ∷ pathname path ∷ pathname target_path ∷ pathname new_path ∷ [])

abbrev pub move_and_rename_reader : Reader
move_and_rename_reader = reader move_and_rename_command (Pad ∷ Number 2 ∷ Number 4 ∷ Number 4 ∷ Pathname ∷ Pathname ∷ Pathname ∷ []) (λ _ volume dir target_dir path target_path new_path. Alone (MoveAndRename (record { 0 = volume }) (record { 0 = dir }) (record { 0 = target_dir }) path target_path new_path))
