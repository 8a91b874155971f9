-- The serial file server as such a server: its worlds, what it is asked and tells, and what is seen of a session (this profile).
use Rattle.std.specs.Prelude.{◌≡◌, ℕ, ◌≤◌, nat_lt, Bool, false, ◌&&◌, if◌then◌else◌, List, [], ◌∷◌, ◌++◌, length, None}
use Rattle.afp_base.specs.Cached as cached
use Rattle.afp_base.specs.Limits.{last_moment}
use Rattle.afp_base.specs.declared.code.Code.{Code}
use Rattle.afp_base.specs.declared.code.Code.TheVariants as code
use Rattle.afp_calls_grammar.specs.grammar.Call.{canonical_call}
use Rattle.afp_calls_grammar.specs.declared.grammar.call.Call.TheVariants as calls
use Rattle.volume_spec.specs.TypedVolume.{are_bytes}
use Rattle.afp_serial.specs.declared.ask.Ask as serial
use Rattle.afp_serial.specs.declared.ask.Ask.TheVariants as ask
use Rattle.afp_serial.specs.declared.ask.Entry as entries
use Rattle.afp_serial.specs.declared.ask.Outcome as outcomes
use Rattle.afp_serial.specs.declared.ask.Outcome.TheVariants as outcome
use Rattle.afp_serial.specs.declared.ask.Told as tolds
use Rattle.afp_serial.specs.declared.ask.Told.TheVariants as told
use Rattle.afp_serial.specs.Answer.{after, answer, is_legal, link_number}
use Rattle.afp_serial.specs.Ranges.{is_moment}
use Rattle.afp_serial.specs.SessionViews as views
use Rattle.afp_serial.specs.SessionViews.{AsksUnkept, view_at, wish_of}
use Rattle.afp_serial.specs.Sound.{IsSound}
use Rattle.afp_serial.specs.Token.{session_token}
use Rattle.afp_serial.specs.World.{World}
use Rattle.once_across_breaks.specs.once.Messages.{Answer, Body, Does, Fine, Kept, Login, Logout, MiscErr, NoMemory, Other, Refuses, Rejoin, Sent, Token, request_of, wire_id}
use Rattle.once_across_breaks.specs.once.Server.{Ask, Bye, Calls, Displaced, Drain, Entry, Fault, Live, Lost, Machine, Open, Opened, Outcome, Parted, Pulse, Ran, Reply, Sends, Told, View, numbers_end}

-- The key under which a server makes its tokens; and what the client logs in with.
pub record Setup : Type 0 where
  pub key : List ℕ
  pub login : Sent
  pub unkept : wish_of (request_of 0 login) ≡ AsksUnkept

-- ---- what the client asks, in bytes

-- whether a request can carry the token
abbrev pub can_carry : List ℕ → Bool
can_carry token = nat_lt (length token) 4294967296 && are_bytes (canonical_call (calls.DisconnectOldSession 0 token))

-- a token that no request can carry is asked for as an empty one, which is no session's
abbrev pub carried : List ℕ → List ℕ
carried token = if can_carry token then token else []

-- the frame of a request, but for its id: whether it is a Write, the place of a Write's data, and the payload
pub record Framed : Type 0 where
  pub write : Bool
  pub offset : ℕ
  pub payload : List ℕ

abbrev pub in_command : List ℕ → Framed
in_command block = record { write = false; offset = 0; payload = block }

abbrev pub framed : Sent → Framed
framed sent = record { write = sent.write; offset = sent.offset; payload = sent.payload }

-- what the client writes for what it asks
abbrev pub written : Setup → Body → Framed
written u Login = framed u.login
written u Token = in_command (canonical_call (calls.GetSessionToken 0 None []))
written u (Rejoin token) = in_command (canonical_call (calls.DisconnectOldSession 0 (carried token)))
written u (Does Logout) = in_command (canonical_call calls.Logout)
written u (Does (Other command)) = framed command.sent

-- ---- entries

abbrev pub ask_of : Setup → Ask → serial.Ask
ask_of u Open = ask.Open 0
ask_of u (Calls id body) = ask.Call (wire_id id) (written u body).write (written u body).offset (written u body).payload
ask_of u (Sends id sent) = ask.Call (wire_id id) sent.write sent.offset sent.payload
ask_of u Pulse = ask.Pulse
ask_of u Bye = ask.Bye
ask_of u Lost = ask.Lost
ask_of u Drain = ask.Drain

abbrev pub outcome_of : Outcome → outcomes.Outcome
outcome_of Ran = outcome.Done
outcome_of Fault = outcome.Fault

-- moments past the last one count as it
abbrev pub moment_of : ℕ → ℕ
moment_of moment = if is_moment moment then moment else last_moment

abbrev pub entry_of : Setup → Entry → entries.Entry
entry_of u e = record { link = link_number e.link; at = moment_of e.moment; ask = ask_of u e.ask; outcome = outcome_of e.outcome }

-- ---- what is told, and what is seen of a session

abbrev pub answer_by : Code → List ℕ → Answer
answer_by code.Ok block = Fine block
answer_by code.MiscErr block = MiscErr
answer_by code.NoMemory block = NoMemory
answer_by other block = Refuses other block

-- want of memory is told of no entry
abbrev pub told_of : tolds.Told → Told
told_of (told.Opened link) = Opened link.0
told_of (told.Reply code block ends) = Reply (answer_by code block) ends
told_of (told.Live drain) = Live
told_of told.Done = Parted
told_of told.Displaced = Displaced
told_of told.Memory = Displaced

-- the answers that are kept, the newest first
abbrev pub newest_first : List cached.Kept → List Kept
newest_first [] = []
newest_first (k ∷ ks) = newest_first ks ++ record { request = k.request; answer = answer_by k.answer.code k.answer.block } ∷ []

abbrev pub view_of : views.View → View
view_of v = record { holder = v.holder; alive = v.alive; cache = newest_first v.cache; next = v.next }

abbrev pub machine : Setup → Machine World
machine u = record {
  told = λ w e. told_of (answer w (entry_of u e));
  after = λ w e. after w (entry_of u e);
  view = λ w n. view_of (view_at w n);
  token = λ n. session_token u.key n;
  is_legal = λ w e. is_legal w (entry_of u e);
}

-- A sound world of a server with that key, whose next link number is in its range, and is not 0: no session has the link 0. So is each at the start, and each that legal entries leave.
pub record IsSoundUnder (key : List ℕ) (w : World) : Type 0 where
  pub sound : IsSound w
  pub under : w.house.token_key ≡ key
  pub from_one : 1 ≤ w.next_link
  pub within : w.next_link ≤ numbers_end
