-- Each request about the session: logging in and out, tokens, and what the server tells of itself and of users has the fields that its reader reads.
use Rattle.std.proofs.Common.{◌≡◌, ℕ, List, [], ◌∷◌, length, Option, refl, sym, ◌∙◌, ap}
use Rattle.std.specs.List.{AllByRecursion}
use Rattle.afp_calls_grammar.specs.grammar.Words.{BeginsWith, in_command, command, pad, u16_within, count_in, optional, plain_bytes}
use Rattle.afp_calls_grammar.specs.grammar.Readers.{session_readers}
use Rattle.afp_calls_grammar.specs.grammar.Token.{get_session_token_reader, has_stamp}
use Rattle.afp_calls_grammar.specs.grammar.Commands.{get_session_token_command}
use Rattle.afp_calls_grammar.specs.grammar.Kinds.{login_without_id, reconn_with_time_and_id}
use Rattle.afp_calls_grammar.proofs.OfGrammar.ReaderLemmas.{ReaderIsSound}

-- a token's id has as many bytes as its count says
id_counted : (place kind size : ℕ) (stamp : Option ℕ) (id bytes : List ℕ) → BeginsWith place (pad ∷ u16_within login_without_id reconn_with_time_and_id kind ∷ count_in 4 size ∷ optional (has_stamp kind) 4 stamp ∷ plain_bytes size id ∷ []) bytes → length id ≡ size
id_counted place kind size stamp id bytes h = let last = h.4.4.4.4.3 in ap length (sym last.1) ∙ last.0

token_sound : ReaderIsSound get_session_token_reader
token_sound vs bytes h =
    let size : length vs.1.1.1.1.0 ≡ vs.1.1.0 = id_counted 1 vs.1.0 vs.1.1.0 vs.1.1.1.0 vs.1.1.1.1.0 bytes h in
    ap (λ (n : ℕ). in_command (command get_session_token_command ∷ pad ∷ u16_within login_without_id reconn_with_time_and_id vs.1.0 ∷ count_in 4 n ∷ optional (has_stamp vs.1.0) 4 vs.1.1.1.0 ∷ plain_bytes n vs.1.1.1.1.0 ∷ [])) size

pub session_sound : AllByRecursion ReaderIsSound session_readers
session_sound = (λ vs bytes h. refl, (λ vs bytes h. refl, (λ vs bytes h. refl, (token_sound, (λ vs bytes h. refl, (λ vs bytes h. refl, (λ vs bytes h. refl, (λ vs bytes h. refl, (λ vs bytes h. refl, (λ vs bytes h. refl, (λ vs bytes h. refl, tt)))))))))))
