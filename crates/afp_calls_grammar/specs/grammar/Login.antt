-- The requests that begin and end a session (AFP Reference, "Login Commands"). Each has its fields, and beside them how they are read.
use Rattle.std.specs.Prelude.{ℕ, List, [], ◌∷◌}
use Rattle.afp_calls_grammar.specs.grammar.Commands.{login_command, login_ext_command, logout_command}
use Rattle.afp_names.specs.Path.{long_names, utf8_names}
use Rattle.afp_calls_grammar.specs.declared.grammar.call.Call.TheVariants.{Login, LoginExt, Logout}
use Rattle.afp_calls_grammar.specs.grammar.Words.{Counted, Even, LastPad, Literal, Number, Pad, Tail, Within, Layout, in_command, command, counted_field, even, last_pad, literal, pad, str, tail, u16, u8_within, count_size}
use Rattle.afp_calls_grammar.specs.grammar.Reading.{Reader, reader, Alone, words}

-- AFP Reference, FPLogin
abbrev pub login : List ℕ → List ℕ → List ℕ → Layout
login version uam rest = in_command (command login_command ∷ str version ∷ str uam ∷ tail rest ∷ [])

abbrev pub login_reader : Reader
login_reader = reader login_command (Counted 1 ∷ Counted 1 ∷ Tail ∷ []) (λ version uam rest. Alone (Login version uam rest))

-- AFP Reference, FPLoginExt; the layout is this profile's. A user name of UTF-8 stands behind its type and a count of 2 bytes. The path's bytes are free: they need spell no path.
abbrev pub login_ext : ℕ → List ℕ → List ℕ → List ℕ → ℕ → List ℕ → List ℕ → Layout
login_ext flags version uam name path_kind path rest = in_command (command login_ext_command ∷ pad ∷ u16 flags ∷ str version ∷ str uam ∷ literal utf8_names ∷ counted_field 2 name ∷ u8_within long_names utf8_names path_kind ∷ counted_field (count_size path_kind) path ∷ even ∷ tail rest ∷ [])

abbrev pub login_ext_reader : Reader
login_ext_reader = reader login_ext_command (Pad ∷ Number 2 ∷ Counted 1 ∷ Counted 1 ∷ Literal utf8_names ∷ Counted 2 ∷ Within 1 long_names utf8_names ∷ []) (λ _ flags version uam _ name path_kind. words (Counted (count_size path_kind) ∷ Even ∷ Tail ∷ []) (λ path _ rest. Alone (LoginExt flags version uam name path_kind path rest)))

-- AFP Reference, FPLogout
abbrev pub logout : Layout
logout = in_command (command logout_command ∷ last_pad ∷ [])

abbrev pub logout_reader : Reader
logout_reader = reader logout_command (LastPad ∷ []) (λ _. Alone Logout)
