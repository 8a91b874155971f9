-- The requests about APPL mappings (AFP Reference, "Desktop Database Commands"). Each has its fields, and beside them how they are read.
use Rattle.std.specs.Prelude.{ℕ, List, [], ◌∷◌}
use Rattle.afp_base.specs.declared.ids.NodeId.{NodeId}
use Rattle.afp_names.specs.Path.{PathValue}
use Rattle.afp_calls_grammar.specs.grammar.Commands.{add_appl_command, remove_appl_command, get_appl_command}
use Rattle.afp_calls_grammar.specs.declared.grammar.call.Call.TheVariants.{AddAPPL, RemoveAPPL, GetAPPL}
use Rattle.afp_calls_grammar.specs.grammar.Words.{Number, Pad, Pathname, Plain, Layout, in_command, command, node_id, pad, pathname, plain_bytes, u16, u32}
use Rattle.afp_calls_grammar.specs.grammar.Reading.{Reader, reader, Alone}

-- AFP Reference, FPAddAPPL
abbrev pub add_appl : ℕ → NodeId → List ℕ → ℕ → PathValue → Layout
add_appl dt dir creator tag path = in_command (command add_appl_command ∷ pad ∷ u16 dt ∷ node_id dir ∷ plain_bytes 4 creator ∷ u32 tag ∷ pathname path ∷ [])

abbrev pub add_appl_reader : Reader
add_appl_reader = reader add_appl_command (Pad ∷ Number 2 ∷ Number 4 ∷ Plain 4 ∷ Number 4 ∷ Pathname ∷ []) (λ _ dt dir creator tag path. Alone (AddAPPL dt (record { 0 = dir }) creator tag path))

-- AFP Reference, FPRemoveAPPL
abbrev pub remove_appl : ℕ → NodeId → List ℕ → PathValue → Layout
remove_appl dt dir creator path = in_command (command remove_appl_command ∷ pad ∷ u16 dt ∷ node_id dir ∷ plain_bytes 4 creator ∷ pathname path ∷ [])

abbrev pub remove_appl_reader : Reader
remove_appl_reader = reader remove_appl_command (Pad ∷ Number 2 ∷ Number 4 ∷ Plain 4 ∷ Pathname ∷ []) (λ _ dt dir creator path. Alone (RemoveAPPL dt (record { 0 = dir }) creator path))

-- AFP Reference, FPGetAPPL
abbrev pub get_appl : ℕ → List ℕ → ℕ → ℕ → Layout
get_appl dt creator index bits = in_command (command get_appl_command ∷ pad ∷ u16 dt ∷ plain_bytes 4 creator ∷ u16 index ∷ u16 bits ∷ [])

abbrev pub get_appl_reader : Reader
get_appl_reader = reader get_appl_command (Pad ∷ Number 2 ∷ Plain 4 ∷ Number 2 ∷ Number 2 ∷ []) (λ _ dt creator index bits. Alone (GetAPPL dt creator index bits))
