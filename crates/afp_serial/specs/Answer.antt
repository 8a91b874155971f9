-- The serial answer to an ask, and the world after it (this profile). In all of these the world's latest moment is already the ask's.
use Rattle.std.specs.Prelude.{ℕ, ◌+◌, ◌==◌, nat_le, Bool, true, false, not, ◌&&◌, ◌||◌, if◌then◌else◌, List, [], ◌∷◌, ◌++◌, length, Option, None, Some, is_some, is_none}
use Rattle.afp_base.specs.Cached.{Request, Answer, cached_answer}
use Rattle.afp_base.specs.declared.code.Code.{Code}
use Rattle.afp_base.specs.declared.code.Code.TheVariants as code
use Rattle.afp_base.specs.declared.ids.LinkNumber.{LinkNumber}
use Rattle.afp_serial.specs.declared.ask.Ask.{Ask}
use Rattle.afp_serial.specs.declared.ask.Ask.TheVariants as ask
use Rattle.afp_serial.specs.declared.ask.Entry.{Entry}
use Rattle.afp_serial.specs.declared.ask.Outcome.{Outcome}
use Rattle.afp_serial.specs.declared.ask.Outcome.TheVariants as outcome
use Rattle.afp_serial.specs.declared.ask.Told.{Told}
use Rattle.afp_serial.specs.declared.ask.Told.TheVariants as told
use Rattle.afp_serial.specs.declared.attachment.Attachment.TheVariants.{Attached, Detached}
use Rattle.afp_replies.specs.Replies.{canonical_reply}
use Rattle.afp_calls_grammar.specs.grammar.Commands.{get_srvr_info_command, login_command, login_ext_command, logout_command}
use Rattle.afp_calls_grammar.specs.declared.grammar.call.Call.{Call}
use Rattle.afp_serial.specs.KeptAnswers.{block_of, enclosed_of, keeping, kept_answer}
use Rattle.afp_serial.specs.World.{Effect, Refused, session_at, ending, is_expired, with_session, without_session, World, Session, at_moment, plain}
use Rattle.afp_serial.specs.Limits.{most_sessions, links_end}
use Rattle.afp_serial.specs.Ranges.{is_typed_entry}
use Rattle.afp_serial.specs.Rows.{effect, committed, ends_session, refusal}
use Rattle.std.specs.List.{list_any}
use Rattle.afp_base.specs.declared.code.Code.TheVariants.{ParamErr, CallNotSupported, UserNotAuth}
use Rattle.afp_calls_grammar.specs.grammar.Spelt.{is_command, spelt_call}

-- The steps by which a call of a session is decided (this profile). The first of these that applies gives the answer:
-- an equal request whose answer is kept; no command; a command that is none; no user, where the command asks for one; no spelling
-- of the command's row; the refusals of its row; its effect.

-- the commands that ask for no user
abbrev pub commands_without_user : List ℕ
commands_without_user = get_srvr_info_command ∷ login_command ∷ logout_command ∷ login_ext_command ∷ []

abbrev pub needs_user : ℕ → Bool
needs_user command = not (list_any (λ other. other == command) commands_without_user)

-- What a call comes to: the answer that is kept for it, a refusal, or its effect.
pub data Verdict : Type 0 where
  repeats : Answer → Verdict
  refused : Refused → Verdict
  runs : Call → Verdict

-- last, the refusals of the call's row
abbrev pub verdict_of_row : Call → Option Refused → Verdict
verdict_of_row call (Some told) = refused told
verdict_of_row call None = runs call

-- before them, whether block and enclosed bytes spell a call
abbrev pub verdict_of_spelling : World → Session → Option Call → Verdict
verdict_of_spelling w s None = refused (plain ParamErr)
verdict_of_spelling w s (Some call) = verdict_of_row call (refusal w s call)

-- before that, whether the command is one, and whether it may come without a user
abbrev pub verdict_of_command : World → Session → Request → ℕ → Verdict
verdict_of_command w s r command =
    if not (is_command command) then refused (plain CallNotSupported)
    else if is_none s.user && needs_user command then refused (plain UserNotAuth)
    else verdict_of_spelling w s (spelt_call (block_of r) (enclosed_of r))

-- before that, whether there is a command
abbrev pub verdict_of_block : World → Session → Request → List ℕ → Verdict
verdict_of_block w s r [] = refused (plain ParamErr)
verdict_of_block w s r (command ∷ fields) = verdict_of_command w s r command

-- first, whether an answer is kept for an equal request
abbrev pub verdict_of_kept : World → Session → Request → Option Answer → Verdict
verdict_of_kept w s r (Some answer) = repeats answer
verdict_of_kept w s r None = verdict_of_block w s r (block_of r)

-- what a call of a session comes to
unfoldable pub verdict : World → Session → Request → Verdict
verdict w s r = verdict_of_kept w s r (cached_answer s.cache r)

-- ---- the answers

abbrev pub link_number : ℕ → LinkNumber
link_number n = record { 0 = n }

abbrev pub request : ℕ → Bool → ℕ → List ℕ → Request
request id write offset payload = record { id = id; write = write; offset = offset; payload = payload }

-- Open

-- there are 64 sessions, or the link numbers have ended
abbrev pub is_full : World → Bool
is_full w = nat_le most_sessions (length w.sessions) || nat_le links_end w.next_link

-- a session on the link of its number, which nobody has logged in to
abbrev pub new_session : ℕ → Session
new_session number = record { number = number; place = Attached (link_number number); user = None; volumes = []; cache = [] }

abbrev pub with_new_session : World → World
with_new_session w = record w { next_link = w.next_link + 1; sessions = w.sessions ++ new_session w.next_link ∷ [] }

-- a call, by what its steps come to

-- a reply with no bytes, behind which the session goes on
abbrev pub refusal_reply : Code → Told
refusal_reply code = told.Reply code [] false

abbrev pub refused_reply : Refused → Told
refused_reply r = told.Reply r.code (canonical_reply r.reply) false

abbrev pub effect_reply : Call → Effect → Told
effect_reply call e = told.Reply code.Ok (canonical_reply e.reply) (ends_session call)

abbrev pub told_verdict : World → Session → Verdict → Outcome → Told
told_verdict w s (repeats answer) o = told.Reply answer.code answer.block false
told_verdict w s (refused r) o = refused_reply r
told_verdict w s (runs call) outcome.Fault = refusal_reply code.MiscErr
told_verdict w s (runs call) outcome.Done = effect_reply call (effect w s call)

abbrev pub after_verdict : World → Session → Verdict → Outcome → World
after_verdict w s (repeats answer) o = w
after_verdict w s (refused code) o = w
after_verdict w s (runs call) outcome.Fault = w
after_verdict w s (runs call) outcome.Done = (effect w s call).world

abbrev pub told_call : World → Option Session → Request → Outcome → Told
told_call w None r o = told.Displaced
told_call w (Some s) r o = told_verdict w s (verdict w s r) o

-- what is newly kept, by what the request comes to: an answer that is told again is kept already
abbrev pub newly_kept : Request → Verdict → Told → Option Answer
newly_kept r (repeats answer) t = None
newly_kept r (refused refusal) t = kept_answer r t
newly_kept r (runs call) t = kept_answer r t

abbrev pub after_call : World → Option Session → Request → Outcome → World
after_call w None r o = w
after_call w (Some s) r o = keeping (after_verdict w s (verdict w s r) o) s.number r (newly_kept r (verdict w s r) (told_verdict w s (verdict w s r) o))

-- The index of the volume whose keeper a call commits to or settles: that of its row, where the call would have its effect. So a
-- fault of that keeper hides no refusal.
abbrev pub committed_by : World → Session → Verdict → Option ℕ
committed_by w s (repeats answer) = None
committed_by w s (refused code) = None
committed_by w s (runs call) = committed w s call

abbrev pub committed_in : World → Option Session → Request → Option ℕ
committed_in w None r = None
committed_in w (Some s) r = committed_by w s (verdict w s r)

-- Pulse

abbrev pub without_expired : World → World
without_expired w = ending w (λ s. not (is_expired w.latest s.place))

-- link 0 is no link of a session, and asks for the sweep alone
abbrev pub told_pulse : World → ℕ → Option Session → Told
told_pulse w link None = if link == 0 then told.Live w.drain else told.Displaced
told_pulse w link (Some s) = told.Live w.drain

-- Bye and Lost

abbrev pub told_parting : Option Session → Told
told_parting None = told.Displaced
told_parting (Some s) = told.Done

-- The session ends, with its open forks and locks.
abbrev pub after_parting : World → Option Session → World
after_parting w None = w
after_parting w (Some s) = without_session w s.number

-- A session that lost its link waits for its client where it has a user; else it ends.
abbrev pub losing : World → Session → Option ℕ → World
losing w s None = without_session w s.number
losing w s (Some user) = with_session w (record s { place = Detached w.latest })

abbrev pub after_lost : World → Option Session → World
after_lost w None = w
after_lost w (Some s) = losing w s s.user

-- Drain

-- since when the server is about to stop: the first such moment counts
abbrev pub drain_moment : ℕ → Option ℕ → Option ℕ
drain_moment now None = Some now
drain_moment now (Some moment) = Some moment

-- what an ask is told
unfoldable pub answer_at : World → ℕ → Ask → Outcome → Told
answer_at w link (ask.Open attention) o = if is_full w then refusal_reply code.NoMoreSessions else told.Opened (link_number w.next_link)
answer_at w link (ask.Call id write offset payload) o = told_call w (session_at w link) (request id write offset payload) o
answer_at w link ask.Pulse o = told_pulse w link (session_at w link)
answer_at w link ask.Bye o = told_parting (session_at w link)
answer_at w link ask.Lost o = told_parting (session_at w link)
answer_at w link ask.Drain o = told.Done

-- the world that it leaves
unfoldable pub after_at : World → ℕ → Ask → Outcome → World
after_at w link (ask.Open attention) o = if is_full w then w else with_new_session w
after_at w link (ask.Call id write offset payload) o = after_call w (session_at w link) (request id write offset payload) o
after_at w link ask.Pulse o = without_expired w
after_at w link ask.Bye o = after_parting w (session_at w link)
after_at w link ask.Lost o = after_lost w (session_at w link)
after_at w link ask.Drain o = record w { drain = drain_moment w.latest w.drain }

-- the index of the volume whose keeper it commits to or settles, or none
unfoldable pub committed_at : World → ℕ → Ask → Option ℕ
committed_at w link (ask.Open attention) = None
committed_at w link (ask.Call id write offset payload) = committed_in w (session_at w link) (request id write offset payload)
committed_at w link ask.Pulse = None
committed_at w link ask.Bye = None
committed_at w link ask.Lost = None
committed_at w link ask.Drain = None

abbrev pub answer : World → Entry → Told
answer w e = answer_at (at_moment w e.at) e.link.0 e.ask e.outcome

abbrev pub after : World → Entry → World
after w e = after_at (at_moment w e.at) e.link.0 e.ask e.outcome

-- the volume of that entry's keeper
abbrev pub committed_of : World → Entry → Option ℕ
committed_of w e = committed_at (at_moment w e.at) e.link.0 e.ask

-- a fault may come where a keeper is committed to or settles
abbrev pub is_legal_outcome : Option ℕ → Outcome → Bool
is_legal_outcome index outcome.Done = true
is_legal_outcome index outcome.Fault = is_some index

-- An entry is legal where its moment and its ask are in their ranges, and its outcome may come there.
abbrev pub is_legal : World → Entry → Bool
is_legal w e = is_typed_entry e && is_legal_outcome (committed_of w e) e.outcome
