-- The requests about file ids (AFP Reference, "File Commands"). Each has its fields, and beside them how they are read.
use Rattle.std.specs.Prelude.{ℕ, [], ◌∷◌}
use Rattle.afp_base.specs.declared.ids.VolumeId.{VolumeId}
use Rattle.afp_base.specs.declared.ids.NodeId.{NodeId}
use Rattle.afp_names.specs.Path.{PathValue}
use Rattle.afp_calls_grammar.specs.grammar.Commands.{create_id_command, delete_id_command, resolve_id_command}
use Rattle.afp_calls_grammar.specs.declared.grammar.call.Call.TheVariants.{CreateID, DeleteID, ResolveID}
use Rattle.afp_calls_grammar.specs.grammar.Words.{Number, Pad, Pathname, Layout, in_command, command, node_id, pad, pathname, u16, volume_id}
use Rattle.afp_calls_grammar.specs.grammar.Reading.{Reader, reader, Alone}

-- AFP Reference, FPCreateID
abbrev pub create_id : VolumeId → NodeId → PathValue → Layout
create_id volume dir path = in_command (command create_id_command ∷ pad ∷ volume_id volume ∷ node_id dir ∷ pathname path ∷ [])

abbrev pub create_id_reader : Reader
create_id_reader = reader create_id_command (Pad ∷ Number 2 ∷ Number 4 ∷ Pathname ∷ []) (λ _ volume dir path. Alone (CreateID (record { 0 = volume }) (record { 0 = dir }) path))

-- AFP Reference, FPDeleteID
abbrev pub delete_id : VolumeId → NodeId → Layout
delete_id volume id = in_command (command delete_id_command ∷ pad ∷ volume_id volume ∷ node_id id ∷ [])

abbrev pub delete_id_reader : Reader
delete_id_reader = reader delete_id_command (Pad ∷ Number 2 ∷ Number 4 ∷ []) (λ _ volume id. Alone (DeleteID (record { 0 = volume }) (record { 0 = id })))

-- AFP Reference, FPResolveID
abbrev pub resolve_id : VolumeId → NodeId → ℕ → Layout
resolve_id volume id bits = in_command (command resolve_id_command ∷ pad ∷ volume_id volume ∷ node_id id ∷ u16 bits ∷ [])

abbrev pub resolve_id_reader : Reader
resolve_id_reader = reader resolve_id_command (Pad ∷ Number 2 ∷ Number 4 ∷ Number 2 ∷ []) (λ _ volume id bits. Alone (ResolveID (record { 0 = volume }) (record { 0 = id }) bits))
