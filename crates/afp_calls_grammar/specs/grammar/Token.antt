-- The requests by which a client comes back to its session (AFP Reference, "Login Commands"; their layouts are this profile's). Each has its fields, and beside them how they are read.
use Rattle.std.specs.Prelude.{ℕ, List, [], ◌∷◌, Option, Bool, ◌==◌, ◌||◌, length}
use Rattle.afp_calls_grammar.specs.grammar.Commands.{get_session_token_command, disconnect_old_session_command}
use Rattle.afp_calls_grammar.specs.grammar.Kinds.{login_without_id, login_with_time_and_id, reconn_with_time_and_id}
use Rattle.afp_calls_grammar.specs.declared.grammar.call.Call.TheVariants.{GetSessionToken, DisconnectOldSession}
use Rattle.afp_calls_grammar.specs.grammar.Words.{Count, Counted, Number, Optional, Pad, Plain, Within, Layout, in_command, command, count_in, counted_field, optional, pad, plain_bytes, u16, u16_within}
use Rattle.afp_calls_grammar.specs.grammar.Reading.{Reader, reader, Alone, Then}

-- a request for a token of these types has a time stamp before its id (AFP Reference, FPGetSessionToken)
abbrev pub has_stamp : ℕ → Bool
has_stamp kind = (kind == login_with_time_and_id) || (kind == reconn_with_time_and_id)

-- AFP Reference, FPGetSessionToken; the layout is this profile's
abbrev pub get_session_token : ℕ → Option ℕ → List ℕ → Layout
get_session_token kind stamp id = in_command (command get_session_token_command ∷ pad ∷ u16_within login_without_id reconn_with_time_and_id kind ∷ count_in 4 (length id) ∷ optional (has_stamp kind) 4 stamp ∷ plain_bytes (length id) id ∷ [])

abbrev pub get_session_token_reader : Reader
get_session_token_reader = reader get_session_token_command (Pad ∷ Within 2 login_without_id reconn_with_time_and_id ∷ []) (λ _ kind. Then (Count 4) (λ size. Then (Optional (has_stamp kind) 4) (λ stamp. Then (Plain size) (λ id. Alone (GetSessionToken kind stamp id)))))

-- AFP Reference, FPDisconnectOldSession; the layout is this profile's
abbrev pub disconnect_old_session : ℕ → List ℕ → Layout
disconnect_old_session kind token = in_command (command disconnect_old_session_command ∷ pad ∷ u16 kind ∷ counted_field 4 token ∷ [])

abbrev pub disconnect_old_session_reader : Reader
disconnect_old_session_reader = reader disconnect_old_session_command (Pad ∷ Number 2 ∷ Counted 4 ∷ []) (λ _ kind token. Alone (DisconnectOldSession kind token))
