-- The requests about the parameters of files and directories (AFP Reference, "Combined Directory-File Commands"). Each has its fields, and beside them how they are read.
use Rattle.std.specs.Prelude.{ℕ, List, [], ◌∷◌}
use Rattle.afp_base.specs.declared.ids.VolumeId.{VolumeId}
use Rattle.afp_base.specs.declared.ids.NodeId.{NodeId}
use Rattle.afp_names.specs.Path.{PathValue}
use Rattle.afp_calls_grammar.specs.grammar.Commands.{set_dir_parms_command, get_file_dir_parms_command, set_file_dir_parms_command}
use Rattle.afp_calls_grammar.specs.declared.grammar.call.Call.TheVariants.{SetDirParms, GetFileDirParms, SetFileDirParms}
use Rattle.afp_calls_grammar.specs.grammar.Words.{Even, Number, Pad, Pathname, Tail, Layout, in_command, command, even, node_id, pad, pathname, tail, u16, volume_id}
use Rattle.afp_calls_grammar.specs.grammar.Reading.{Reader, reader, Alone}

-- AFP Reference, FPSetDirParms
abbrev pub set_dir_parms : VolumeId → NodeId → ℕ → PathValue → List ℕ → Layout
set_dir_parms volume dir bits path rest = in_command (command set_dir_parms_command ∷ pad ∷ volume_id volume ∷ node_id dir ∷ u16 bits ∷ pathname path ∷ even ∷ tail rest ∷ [])

abbrev pub set_dir_parms_reader : Reader
set_dir_parms_reader = reader set_dir_parms_command (Pad ∷ Number 2 ∷ Number 4 ∷ Number 2 ∷ Pathname ∷ Even ∷ Tail ∷ []) (λ _ volume dir bits path _ rest. Alone (SetDirParms (record { 0 = volume }) (record { 0 = dir }) bits path rest))

-- AFP Reference, FPGetFileDirParms
abbrev pub get_file_dir_parms : VolumeId → NodeId → ℕ → ℕ → PathValue → Layout
get_file_dir_parms volume dir file_bits dir_bits path = in_command (command get_file_dir_parms_command ∷ pad ∷ volume_id volume ∷ node_id dir ∷ u16 file_bits ∷ u16 dir_bits ∷ pathname path ∷ [])

abbrev pub get_file_dir_parms_reader : Reader
get_file_dir_parms_reader = reader get_file_dir_parms_command (Pad ∷ Number 2 ∷ Number 4 ∷ Number 2 ∷ Number 2 ∷ Pathname ∷ []) (λ _ volume dir file_bits dir_bits path. Alone (GetFileDirParms (record { 0 = volume }) (record { 0 = dir }) file_bits dir_bits path))

-- AFP Reference, FPSetFileDirParms
abbrev pub set_file_dir_parms : VolumeId → NodeId → ℕ → PathValue → List ℕ → Layout
set_file_dir_parms volume dir bits path rest = in_command (command set_file_dir_parms_command ∷ pad ∷ volume_id volume ∷ node_id dir ∷ u16 bits ∷ pathname path ∷ even ∷ tail rest ∷ [])

abbrev pub set_file_dir_parms_reader : Reader
set_file_dir_parms_reader = reader set_file_dir_parms_command (Pad ∷ Number 2 ∷ Number 4 ∷ Number 2 ∷ Pathname ∷ Even ∷ Tail ∷ []) (λ _ volume dir bits path _ rest. Alone (SetFileDirParms (record { 0 = volume }) (record { 0 = dir }) bits path rest))
