-- The requests about icons (AFP Reference, "Desktop Database Commands"). Each has its fields, and beside them how they are read.
use Rattle.std.specs.Prelude.{ℕ, List, [], ◌∷◌}
use Rattle.afp_calls_grammar.specs.grammar.Commands.{add_icon_command, get_icon_command, get_icon_info_command}
use Rattle.afp_calls_grammar.specs.declared.grammar.call.Call.TheVariants.{AddIcon, GetIcon, GetIconInfo}
use Rattle.afp_calls_grammar.specs.grammar.Words.{Number, Pad, Plain, Layout, in_command, in_write, command, pad, plain_bytes, u16, u32, u8}
use Rattle.afp_calls_grammar.specs.grammar.Reading.{Reader, reader, Alone, With}

-- AFP Reference, FPAddIcon
abbrev pub add_icon : ℕ → List ℕ → List ℕ → ℕ → ℕ → ℕ → List ℕ → Layout
add_icon dt creator kind icon_kind tag size piece = in_write (command add_icon_command ∷ pad ∷ u16 dt ∷ plain_bytes 4 creator ∷ plain_bytes 4 kind ∷ u8 icon_kind ∷ pad ∷ u32 tag ∷ u16 size ∷ []) size piece

abbrev pub add_icon_reader : Reader
add_icon_reader = reader add_icon_command (Pad ∷ Number 2 ∷ Plain 4 ∷ Plain 4 ∷ Number 1 ∷ Pad ∷ Number 4 ∷ Number 2 ∷ []) (λ _ dt creator kind icon_kind _ tag size. With size (λ piece. AddIcon dt creator kind icon_kind tag size piece))

-- AFP Reference, FPGetIcon
abbrev pub get_icon : ℕ → List ℕ → List ℕ → ℕ → ℕ → Layout
get_icon dt creator kind icon_kind length = in_command (command get_icon_command ∷ pad ∷ u16 dt ∷ plain_bytes 4 creator ∷ plain_bytes 4 kind ∷ u8 icon_kind ∷ pad ∷ u16 length ∷ [])

abbrev pub get_icon_reader : Reader
get_icon_reader = reader get_icon_command (Pad ∷ Number 2 ∷ Plain 4 ∷ Plain 4 ∷ Number 1 ∷ Pad ∷ Number 2 ∷ []) (λ _ dt creator kind icon_kind _ length. Alone (GetIcon dt creator kind icon_kind length))

-- AFP Reference, FPGetIconInfo
abbrev pub get_icon_info : ℕ → List ℕ → ℕ → Layout
get_icon_info dt creator index = in_command (command get_icon_info_command ∷ pad ∷ u16 dt ∷ plain_bytes 4 creator ∷ u16 index ∷ [])

abbrev pub get_icon_info_reader : Reader
get_icon_info_reader = reader get_icon_info_command (Pad ∷ Number 2 ∷ Plain 4 ∷ Number 2 ∷ []) (λ _ dt creator index. Alone (GetIconInfo dt creator index))
