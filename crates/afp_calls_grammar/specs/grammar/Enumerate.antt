-- The requests that list a directory (AFP Reference, "Directory Commands"). Each has its fields, and beside them how they are read.
use Rattle.std.specs.Prelude.{ℕ, [], ◌∷◌}
use Rattle.afp_base.specs.declared.ids.VolumeId.{VolumeId}
use Rattle.afp_base.specs.declared.ids.NodeId.{NodeId}
use Rattle.afp_names.specs.Path.{PathValue}
use Rattle.afp_calls_grammar.specs.grammar.Commands.{enumerate_command, enumerate_ext_command, enumerate_ext2_command}
use Rattle.afp_calls_grammar.specs.declared.grammar.call.Call.TheVariants.{Enumerate, EnumerateExt, EnumerateExt2}
use Rattle.afp_calls_grammar.specs.grammar.Words.{Number, Pad, Pathname, Layout, in_command, command, node_id, pad, pathname, u16, u32, volume_id}
use Rattle.afp_calls_grammar.specs.grammar.Reading.{Reader, reader, Alone}

-- AFP Reference, FPEnumerate
abbrev pub enumerate : VolumeId → NodeId → ℕ → ℕ → ℕ → ℕ → ℕ → PathValue → Layout
enumerate volume dir file_bits dir_bits count start size path = in_command (command enumerate_command ∷ pad ∷ volume_id volume ∷ node_id dir ∷ u16 file_bits ∷ u16 dir_bits ∷ u16 count ∷ u16 start ∷ u16 size ∷ pathname path ∷ [])

abbrev pub enumerate_reader : Reader
enumerate_reader = reader enumerate_command (Pad ∷ Number 2 ∷ Number 4 ∷ Number 2 ∷ Number 2 ∷ Number 2 ∷ Number 2 ∷ Number 2 ∷ Pathname ∷ []) (λ _ volume dir file_bits dir_bits count start size path. Alone (Enumerate (record { 0 = volume }) (record { 0 = dir }) file_bits dir_bits count start size path))

-- AFP Reference, FPEnumerateExt
abbrev pub enumerate_ext : VolumeId → NodeId → ℕ → ℕ → ℕ → ℕ → ℕ → PathValue → Layout
enumerate_ext volume dir file_bits dir_bits count start size path = in_command (command enumerate_ext_command ∷ pad ∷ volume_id volume ∷ node_id dir ∷ u16 file_bits ∷ u16 dir_bits ∷ u16 count ∷ u16 start ∷ u16 size ∷ pathname path ∷ [])

abbrev pub enumerate_ext_reader : Reader
enumerate_ext_reader = reader enumerate_ext_command (Pad ∷ Number 2 ∷ Number 4 ∷ Number 2 ∷ Number 2 ∷ Number 2 ∷ Number 2 ∷ Number 2 ∷ Pathname ∷ []) (λ _ volume dir file_bits dir_bits count start size path. Alone (EnumerateExt (record { 0 = volume }) (record { 0 = dir }) file_bits dir_bits count start size path))

-- AFP Reference, FPEnumerateExt2
abbrev pub enumerate_ext2 : VolumeId → NodeId → ℕ → ℕ → ℕ → ℕ → ℕ → PathValue → Layout
enumerate_ext2 volume dir file_bits dir_bits count start size path = in_command (command enumerate_ext2_command ∷ pad ∷ volume_id volume ∷ node_id dir ∷ u16 file_bits ∷ u16 dir_bits ∷ u16 count ∷ u32 start ∷ u32 size ∷ pathname path ∷ [])

abbrev pub enumerate_ext2_reader : Reader
enumerate_ext2_reader = reader enumerate_ext2_command (Pad ∷ Number 2 ∷ Number 4 ∷ Number 2 ∷ Number 2 ∷ Number 2 ∷ Number 4 ∷ Number 4 ∷ Pathname ∷ []) (λ _ volume dir file_bits dir_bits count start size path. Alone (EnumerateExt2 (record { 0 = volume }) (record { 0 = dir }) file_bits dir_bits count start size path))
