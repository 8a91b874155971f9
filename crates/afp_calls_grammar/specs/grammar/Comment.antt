-- The requests about comments (AFP Reference, "Desktop Database Commands"). Each has its fields, and beside them how they are read.
use Rattle.std.specs.Prelude.{ℕ, List, [], ◌∷◌}
use Rattle.afp_base.specs.declared.ids.NodeId.{NodeId}
use Rattle.afp_names.specs.Path.{PathValue}
use Rattle.afp_calls_grammar.specs.grammar.Commands.{add_comment_command, remove_comment_command, get_comment_command}
use Rattle.afp_calls_grammar.specs.declared.grammar.call.Call.TheVariants.{AddComment, RemoveComment, GetComment}
use Rattle.afp_calls_grammar.specs.grammar.Words.{Counted, Even, Number, Pad, Pathname, Layout, in_command, command, even, node_id, pad, pathname, str, u16}
use Rattle.afp_calls_grammar.specs.grammar.Reading.{Reader, reader, Alone}

-- AFP Reference, FPAddComment
abbrev pub add_comment : ℕ → NodeId → PathValue → List ℕ → Layout
add_comment dt dir path comment = in_command (command add_comment_command ∷ pad ∷ u16 dt ∷ node_id dir ∷ pathname path ∷ even ∷ str comment ∷ [])

abbrev pub add_comment_reader : Reader
add_comment_reader = reader add_comment_command (Pad ∷ Number 2 ∷ Number 4 ∷ Pathname ∷ Even ∷ Counted 1 ∷ []) (λ _ dt dir path _ comment. Alone (AddComment dt (record { 0 = dir }) path comment))

-- AFP Reference, FPRemoveComment
abbrev pub remove_comment : ℕ → NodeId → PathValue → Layout
remove_comment dt dir path = in_command (command remove_comment_command ∷ pad ∷ u16 dt ∷ node_id dir ∷ pathname path ∷ [])

abbrev pub remove_comment_reader : Reader
remove_comment_reader = reader remove_comment_command (Pad ∷ Number 2 ∷ Number 4 ∷ Pathname ∷ []) (λ _ dt dir path. Alone (RemoveComment dt (record { 0 = dir }) path))

-- AFP Reference, FPGetComment
abbrev pub get_comment : ℕ → NodeId → PathValue → Layout
get_comment dt dir path = in_command (command get_comment_command ∷ pad ∷ u16 dt ∷ node_id dir ∷ pathname path ∷ [])

abbrev pub get_comment_reader : Reader
get_comment_reader = reader get_comment_command (Pad ∷ Number 2 ∷ Number 4 ∷ Pathname ∷ []) (λ _ dt dir path. Alone (GetComment dt (record { 0 = dir }) path))
