-- The requests about users and groups (AFP Reference, "User Commands"). Each has its fields, and beside them how they are read.
use Rattle.std.specs.Prelude.{ℕ, List, [], ◌∷◌, nat_le, if◌then◌else◌}
use Rattle.afp_calls_grammar.specs.grammar.Commands.{get_user_info_command, map_id_command, map_name_command}
use Rattle.afp_calls_grammar.specs.grammar.Kinds.{first_function, last_function, last_utf8_function}
use Rattle.afp_calls_grammar.specs.declared.grammar.call.Call.TheVariants.{GetUserInfo, MapID, MapName}
use Rattle.afp_calls_grammar.specs.grammar.Words.{Counted, Number, Within, Layout, in_command, command, counted_field, u16, u32, u8, u8_within}
use Rattle.afp_calls_grammar.specs.grammar.Reading.{Reader, reader, Alone, Then}

-- FPMapName's name is UTF-8 behind a count of 2 bytes in its first functions, and stands behind a count of 1 byte in the others (this profile)
abbrev pub name_count : ℕ → ℕ
name_count function = if nat_le function last_utf8_function then 2 else 1

-- AFP Reference, FPGetUserInfo
abbrev pub get_user_info : ℕ → ℕ → ℕ → Layout
get_user_info flag id bits = in_command (command get_user_info_command ∷ u8 flag ∷ u32 id ∷ u16 bits ∷ [])

abbrev pub get_user_info_reader : Reader
get_user_info_reader = reader get_user_info_command (Number 1 ∷ Number 4 ∷ Number 2 ∷ []) (λ flag id bits. Alone (GetUserInfo flag id bits))

-- AFP Reference, FPMapID; the layout is this profile's
abbrev pub map_id : ℕ → ℕ → Layout
map_id function id = in_command (command map_id_command ∷ u8_within first_function last_function function ∷ u32 id ∷ [])

abbrev pub map_id_reader : Reader
map_id_reader = reader map_id_command (Within 1 first_function last_function ∷ Number 4 ∷ []) (λ function id. Alone (MapID function id))

-- AFP Reference, FPMapName; the layout is this profile's
abbrev pub map_name : ℕ → List ℕ → Layout
map_name function name = in_command (command map_name_command ∷ u8_within first_function last_function function ∷ counted_field (name_count function) name ∷ [])

abbrev pub map_name_reader : Reader
map_name_reader = reader map_name_command (Within 1 first_function last_function ∷ []) (λ function. Then (Counted (name_count function)) (λ name. Alone (MapName function name)))
