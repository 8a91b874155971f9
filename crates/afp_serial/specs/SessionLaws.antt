-- The laws of rows on sessions, in the subject's own words: what a call leaves of them (this profile).
use Rattle.std.specs.Prelude.{◌≡◌, ℕ, ◌==◌, Bool, true, false, not, List, find, filter, map, Option, None, Some}
use Rattle.afp_base.specs.Cached.{Request, Kept, cached_answer}
use Rattle.afp_calls_grammar.specs.declared.grammar.call.Call.{Call}
use Rattle.afp_calls_grammar.specs.declared.grammar.call.Call.TheVariants.{DisconnectOldSession, Login, LoginExt, Logout}
use Rattle.afp_serial.specs.declared.attachment.Attachment.{Attachment}
use Rattle.afp_serial.specs.Rows.{effect}
use Rattle.afp_serial.specs.Sound.{IsSound}
use Rattle.afp_serial.specs.World.{CallRow, with_session, World, Session}

-- the calls that may end a session, or give one another link
abbrev pub moves_sessions : Call → Bool
moves_sessions (DisconnectOldSession kind token) = true
moves_sessions Logout = true
moves_sessions call = false

-- the calls that may change who has logged in
abbrev pub logs_in : Call → Bool
logs_in (Login version uam tail) = true
logs_in (LoginExt flags version uam name path_kind path tail) = true
logs_in call = false

-- The sessions of a world v behind a world w are as they were, or the one that asked has other volumes; it has another user only where one may
-- log in. Its number, its link or the moment at which it lost it, and the answers that are kept for it stay.
pub data SessionsAfter (user_changes : Bool) (w : World) (s : Session) (v : World) : Type 0 where
  all_stay : v.sessions ≡ w.sessions → SessionsAfter user_changes w s v
  asking_changes : (t : Session) → t.number ≡ s.number → t.place ≡ s.place → t.cache ≡ s.cache → (user_changes ≡ false → t.user ≡ s.user) → v.sessions ≡ (with_session w t).sessions → SessionsAfter user_changes w s v

-- what a row owes that moves no session
abbrev pub RowLeavesSessions : Call → CallRow → Type 0
RowLeavesSessions call row = moves_sessions call ≡ false → (w : World) (s : Session) → SessionsAfter (logs_in call) w s (row.effect w s).world

-- the law of each such call
abbrev pub LeavesSessions : Type 0
LeavesSessions = (w : World) (s : Session) (call : Call) → moves_sessions call ≡ false → SessionsAfter (logs_in call) w s (effect w s call).world

-- the sessions of other numbers
abbrev pub others : ℕ → List Session → List Session
others number sessions = filter (λ s. not (s.number == number)) sessions

-- so all other sessions stay as they are, with their users and volumes
abbrev pub LeavesOthers : Type 0
LeavesOthers = (w : World) (s : Session) (call : Call) → moves_sessions call ≡ false → others s.number (effect w s call).world.sessions ≡ others s.number w.sessions

-- what a call leaves of each session, that which asks too
pub record SessionMark : Type 0 where
  pub number : ℕ
  pub place : Attachment
  pub cache : List Kept

abbrev pub mark_of : Session → SessionMark
mark_of s = record { number = s.number; place = s.place; cache = s.cache }

abbrev pub marks : World → List SessionMark
marks w = map mark_of w.sessions

abbrev pub users : World → List (Option ℕ)
users w = map (λ s. s.user) w.sessions

abbrev pub LeavesMarks : Type 0
LeavesMarks = (w : World) (s : Session) (test : Session → Bool) (call : Call) → IsSound w → find test w.sessions ≡ Some s → moves_sessions call ≡ false → marks (effect w s call).world ≡ marks w

-- and each user, but where one may log in
abbrev pub LeavesUsers : Type 0
LeavesUsers = (w : World) (s : Session) (test : Session → Bool) (call : Call) → IsSound w → find test w.sessions ≡ Some s → moves_sessions call ≡ false → logs_in call ≡ false → users (effect w s call).world ≡ users w

-- an answer that was not kept for a request is not kept behind a call's effect either
abbrev pub KeepsNoneNew : Type 0
KeepsNoneNew =
    (w : World) (s x : Session) (test : Session → Bool) (call : Call) (r : Request)
    → IsSound w
    → find test w.sessions ≡ Some s
    → cached_answer s.cache r ≡ None
    → find (λ y. y.number == s.number) (effect w s call).world.sessions ≡ Some x
    → cached_answer x.cache r ≡ None
