-- The requests about files (AFP Reference, "File Commands"). Each has its fields, and beside them how they are read.
use Rattle.std.specs.Prelude.{ℕ, List, [], ◌∷◌}
use Rattle.afp_base.specs.declared.ids.VolumeId.{VolumeId}
use Rattle.afp_base.specs.declared.ids.NodeId.{NodeId}
use Rattle.afp_names.specs.Path.{PathValue}
use Rattle.afp_calls_grammar.specs.grammar.Commands.{create_file_command, copy_file_command, set_file_parms_command, exchange_files_command}
use Rattle.afp_calls_grammar.specs.declared.grammar.call.Call.TheVariants.{CreateFile, CopyFile, SetFileParms, ExchangeFiles}
use Rattle.afp_calls_grammar.specs.grammar.Words.{Even, Number, Pad, Pathname, Tail, Layout, in_command, command, even, node_id, pad, pathname, tail, u16, u8, volume_id}
use Rattle.afp_calls_grammar.specs.grammar.Reading.{Reader, reader, Alone}

-- AFP Reference, FPCreateFile
abbrev pub create_file : ℕ → VolumeId → NodeId → PathValue → Layout
create_file flag volume dir path = in_command (command create_file_command ∷ u8 flag ∷ volume_id volume ∷ node_id dir ∷ pathname path ∷ [])

abbrev pub create_file_reader : Reader
create_file_reader = reader create_file_command (Number 1 ∷ Number 2 ∷ Number 4 ∷ Pathname ∷ []) (λ flag volume dir path. Alone (CreateFile flag (record { 0 = volume }) (record { 0 = dir }) path))

-- AFP Reference, FPCopyFile
abbrev pub copy_file : VolumeId → NodeId → VolumeId → NodeId → PathValue → PathValue → PathValue → Layout
copy_file volume dir target_volume target_dir path target_path new_path = in_command (command copy_file_command ∷ pad ∷ volume_id volume ∷ node_id dir ∷ volume_id target_volume ∷ node_id target_dir ∷ pathname path ∷ pathname target_path ∷ pathname new_path ∷ [])

abbrev pub copy_file_reader : Reader
copy_file_reader = reader copy_file_command (Pad ∷ Number 2 ∷ Number 4 ∷ Number 2 ∷ Number 4 ∷ Pathname ∷ Pathname ∷ Pathname ∷ []) (λ _ volume dir target_volume target_dir path target_path new_path. Alone (CopyFile (record { 0 = volume }) (record { 0 = dir }) (record { 0 = target_volume }) (record { 0 = target_dir }) path target_path new_path))

-- AFP Reference, FPSetFileParms
abbrev pub set_file_parms : VolumeId → NodeId → ℕ → PathValue → List ℕ → Layout
set_file_parms volume dir bits path rest = in_command (command set_file_parms_command ∷ pad ∷ volume_id volume ∷ node_id dir ∷ u16 bits ∷ pathname path ∷ even ∷ tail rest ∷ [])

abbrev pub set_file_parms_reader : Reader
set_file_parms_reader = reader set_file_parms_command (Pad ∷ Number 2 ∷ Number 4 ∷ Number 2 ∷ Pathname ∷ Even ∷ Tail ∷ []) (λ _ volume dir bits path _ rest. Alone (SetFileParms (record { 0 = volume }) (record { 0 = dir }) bits path rest))

-- AFP Reference, FPExchangeFiles
abbrev pub exchange_files : VolumeId → NodeId → NodeId → PathValue → PathValue → Layout
exchange_files volume dir second_dir path second_path = in_command (command exchange_files_command ∷ pad ∷ volume_id volume ∷ node_id dir ∷ node_id second_dir ∷ pathname path ∷ pathname second_path ∷ [])

abbrev pub exchange_files_reader : Reader
exchange_files_reader = reader exchange_files_command (Pad ∷ Number 2 ∷ Number 4 ∷ Number 4 ∷ Pathname ∷ Pathname ∷ []) (λ _ volume dir second_dir path second_path. Alone (ExchangeFiles (record { 0 = volume }) (record { 0 = dir }) (record { 0 = second_dir }) path second_path))
