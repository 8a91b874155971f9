-- The sessions of a server, with the next link number and the key of their tokens (this profile).
use Rattle.std.specs.Prelude.{◌≡◌, ℕ, ◌+◌, ◌==◌, nat_le, nat_lt, Bool, true, false, not, ◌||◌, if◌then◌else◌, List, [], ◌∷◌, ◌++◌, filter, find, length, map, Option, None, Some, Result, Ok, Err}
use Rattle.std.specs.List.{list_all}
use Rattle.afp_base.specs.Cached.{Request, Answer, cached_answer}
use Rattle.afp_base.specs.Choice.{first_holding}
use Rattle.afp_base.specs.declared.code.Code.{Code}
use Rattle.afp_base.specs.declared.ids.LinkNumber.{LinkNumber}
use Rattle.afp_base.specs.declared.ids.SessionNumber.{SessionNumber}
use Rattle.afp_serial.specs.Answer.{new_session}
use Rattle.afp_serial.specs.KeptAnswers.{with_answer}
use Rattle.afp_serial.specs.Limits.{links_end, most_sessions}
use Rattle.afp_serial.specs.OnFork.{placed}
use Rattle.afp_serial.specs.SessionToken.{old_session, old_session_refusals}
use Rattle.afp_serial.specs.World.{has_opened, is_expired, is_on_link, plain, Session}
use Rattle.session_table.specs.declared.sessions.SessionFault.{SessionFault}
use Rattle.session_table.specs.declared.sessions.SessionFault.TheVariants.{Full, Memory}

-- the sessions in the order in which they were opened, the next link number, and the key
pub record Table : Type 0 where
  pub sessions : List Session
  pub next_link : ℕ
  pub token_key : List ℕ

abbrev pub with_sessions : Table → List Session → Table
with_sessions t sessions = record t { sessions = sessions }

-- the session of that number
abbrev pub session_of : List Session → ℕ → Option Session
session_of sessions number = find (λ s. s.number == number) sessions

-- the sessions with this one in place of the one of its number
abbrev pub replaced : List Session → Session → List Session
replaced sessions session = map (λ s. if s.number == session.number then session else s) sessions

-- the sessions without the one of that number
abbrev pub ended : List Session → ℕ → List Session
ended sessions number = filter (λ s. not (s.number == number)) sessions

-- the session of this number came to be another
abbrev pub Becomes : Table → ℕ → (Session → Session) → Table → Type 0
Becomes old number change new = (s : Session) → session_of old.sessions number ≡ Some s → new ≡ with_sessions old (replaced old.sessions (change s))

-- each session's number was drawn as a link number
abbrev pub AreBelow : Table → Type 0
AreBelow t = list_all (λ s. nat_lt s.number t.next_link) t.sessions ≡ true

-- the session with that volume open too, by rising ids; twice is once
abbrev pub with_opened : Session → ℕ → Session
with_opened s volume = record s { volumes = if has_opened s volume then s.volumes else placed (λ other. other) volume s.volumes }

-- no answer is kept for the request in the session of this number
abbrev pub HasNone : Table → ℕ → Request → Type 0
HasNone t number r = (s : Session) → session_of t.sessions number ≡ Some s → cached_answer s.cache r ≡ None

-- the sessions with one more answer kept in that of a number
abbrev pub keeping : List Session → ℕ → Request → Answer → List Session
keeping sessions number r answer = map (λ s. if s.number == number then with_answer r answer s else s) sessions

-- no session can be opened: there are 64, or the link numbers have ended
abbrev pub is_full : Table → Bool
is_full t = nat_le most_sessions (length t.sessions) || nat_le links_end t.next_link

-- What `open` answers: a session on the next link; or its refusal, or there is no memory, and nothing changes.
abbrev pub Opens : Table → Result LinkNumber SessionFault → Table → Type 0
Opens old (Ok link) new = (is_full old ≡ false) × (link.0 ≡ old.next_link) × (new ≡ record old { next_link = old.next_link + 1; sessions = old.sessions ++ new_session old.next_link ∷ [] })
Opens old (Err Full) new = (is_full old ≡ true) × (new ≡ old)
Opens old (Err Memory) new = new ≡ old

-- a session is found by its link, and by its number
pub record IsAt (sessions : List Session) (link number : ℕ) : Type 0 where
  pub session : Session
  pub linked : find (λ s. is_on_link link s.place) sessions ≡ Some session
  pub numbered : session_of sessions number ≡ Some session
  pub same : session.number ≡ number

-- a session lost its link too long ago
pub record IsGone (sessions : List Session) (now number : ℕ) : Type 0 where
  pub session : Session
  pub first : find (λ s. is_expired now s.place) sessions ≡ Some session
  pub same : session.number ≡ number

-- What `adopt` answers of a session: it ends, and the old one of that token has its place; or why it does not come back, and nothing changes.
abbrev pub Adopts : Table → Session → List ℕ → ℕ → Result SessionNumber Code → Table → Type 0
Adopts old s token now (Ok number) new =
    (o : Session) × (old_session old.token_key now old.sessions s.number token ≡ Some o) × (first_holding (old_session_refusals s (Some o)) ≡ None) × (number.0 ≡ o.number)
    × (new ≡ with_sessions old (replaced (ended old.sessions s.number) (record o { place = s.place })))
Adopts old s token now (Err code) new =
    (first_holding (old_session_refusals s (old_session old.token_key now old.sessions s.number token)) ≡ Some (plain code)) × (new ≡ old)
