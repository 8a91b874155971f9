-- FPGetSessionToken and FPDisconnectOldSession (AFP Reference, under these names; what they do is this profile's).
use Rattle.std.specs.Prelude.{ℕ, ◌==◌, Bool, false, not, ◌&&◌, List, [], ◌∷◌, Option, Some, None, find, is_none, bytes_eq, length}
use Rattle.afp_base.specs.declared.code.Code.TheVariants.{AccessDenied, ItemNotFound, ParamErr}
use Rattle.afp_replies.specs.declared.reply.Reply.TheVariants.{Token}
use Rattle.afp_serial.specs.Token.{session_token}
use Rattle.afp_serial.specs.World.{Effect, Refusal, CallRow, commits_nothing, is_expired, plain, with_empty_reply, with_session, without_session, World, Session}

-- FPGetSessionToken: it is never refused

abbrev pub get_session_token_row : CallRow
get_session_token_row = record {
  refusals = λ w s. [];
  effect = λ w s. record { world = w; reply = Token (session_token w.house.token_key s.number) };
  committed = commits_nothing;
}

-- FPDisconnectOldSession

-- another session than that of this number, which has a link or lost it less than 600 seconds ago, and whose token this is
abbrev pub is_old_session : List ℕ → ℕ → ℕ → List ℕ → Session → Bool
is_old_session key now number token other = not (other.number == number) && (not (is_expired now other.place) && bytes_eq (session_token key other.number) token)

-- that session, under a server's key, at a moment, among these
unfoldable pub old_session : List ℕ → ℕ → List Session → ℕ → List ℕ → Option Session
old_session key now sessions number token = find (is_old_session key now number token) sessions

abbrev pub old_session_in : World → Session → List ℕ → Option Session
old_session_in w s token = old_session w.house.token_key w.latest w.sessions s.number token

abbrev pub is_same_user : Option ℕ → Option ℕ → Bool
is_same_user (Some a) (Some b) = a == b
is_same_user (Some a) None = false
is_same_user None b = false

-- the old session is of another user, or of none
abbrev pub is_of_another : Session → Option Session → Bool
is_of_another s None = false
is_of_another s (Some old) = not (is_same_user old.user s.user)

-- why it does not come back
abbrev pub old_session_refusals : Session → Option Session → List Refusal
old_session_refusals s old =
    (is_none old, plain ItemNotFound)
    ∷ (is_of_another s old, plain AccessDenied)
    ∷ (not (length s.volumes == 0), plain ParamErr)
    ∷ []

-- This session ends, and the old one has its link. The old one keeps its user, volumes, open forks, locks and kept answers.
abbrev pub rejoins : World → Session → Option Session → Effect
rejoins w s None = with_empty_reply w
rejoins w s (Some old) = with_empty_reply (with_session (without_session w s.number) (record old { place = s.place }))

abbrev pub disconnect_old_session_row : List ℕ → CallRow
disconnect_old_session_row token = record {
  refusals = λ w s. old_session_refusals s (old_session_in w s token);
  effect = λ w s. rejoins w s (old_session_in w s token);
  committed = commits_nothing;
}
