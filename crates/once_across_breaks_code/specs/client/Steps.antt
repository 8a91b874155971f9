-- The laws of single steps.
use Rattle.std.specs.Prelude.{◌≡◌, ◌≢◌, ◌≤◌, ℕ, Bool, true, false, if◌then◌else◌, List, [], ◌∷◌, ◌++◌, Option, Some, None, IfSome, length}
use Rattle.afp_base.specs.Limits.{payload_limit}
use Rattle.afp_base.specs.declared.code.Code.{Code}
use Rattle.dsi_frame.specs.Frame.{Frame}
use Rattle.dsi_frame.specs.Replies.{listed}
use Rattle.dsi_session.specs.RequestIds.{first_request_id}
use Rattle.afp_calls_grammar.specs.grammar.Call.{canonical_call}
use Rattle.afp_calls_grammar.specs.declared.grammar.call.Call as grammar
use Rattle.volume_spec.specs.TypedVolume.{are_bytes}
use Rattle.afp_client.specs.session.Opening.{login_call, open_session_frame}
use Rattle.afp_client.specs.session.State.{ClientState, IsReady, call_frame}
use Rattle.afp_client.specs.session.Takes.{Step, answers, asked, begun, broken, takes}
use Rattle.afp_client.specs.declared.session.event.Event.{Event}
use Rattle.afp_client.specs.declared.session.event.Event.TheVariants as events
use Rattle.afp_client.specs.declared.session.login.Login as logins
use Rattle.afp_client.specs.declared.session.stage.Stage.TheVariants as stages
use Rattle.once_across_breaks.specs.once.Messages.{Answer, Call, Done}
use Rattle.once_across_breaks.specs.once.Run.{Client, Wait}
use Rattle.once_across_breaks.specs.once.Frames.{Heard, Taken, request_that_waits, tag_of}
use Rattle.once_across_breaks.specs.once.Serial.{Setup, answer_by}
use Rattle.once_across_breaks_code.specs.client.Requests.{IsAnswer, IsAskable, IsCall, LogsIn, request_frame, tag_in}
use Rattle.once_across_breaks_code.specs.client.Related.{IsClient}
use Rattle.once_across_breaks_code.specs.client.Moves.{Breaks, Commands, Takes, frames_of, moved}

-- the result that comes with an event
abbrev pub result_told : Option Wait → Code → List ℕ → List Done
result_told None c block = []
result_told (Some w) c block = record { id = w.id; call = w.call; answer = answer_by c block } ∷ []

abbrev pub results_with : Event → Option Wait → List Done
results_with (events.Told c block) wait = result_told wait c block
results_with event wait = []

abbrev pub is_told : Event → Bool
is_told (events.Told c block) = true
is_told event = false

-- the call that waits, and whether it waits on behind an event
abbrev pub call_of : Option Wait → Option Call
call_of None = None
call_of (Some w) = Some w.call

abbrev pub waits_behind : {A : Type 0} → Event → Option A → Option A
waits_behind event call = if is_told event then None else call

-- What the client does is what the law's client does: they are one behind it and write the same; where a result is told, the law's client has that result
-- more and no call waits, and else it has the same results and the same call waits.
pub record IsOne (u : Setup) (c : Client) (t : Taken) (st : Step) : Type 0 where
  pub client : IsClient u t.client st.state
  pub writes : listed st.writes ≡ frames_of u t
  pub results : t.client.results ≡ c.results ++ results_with st.event c.wait
  pub waits : call_of t.client.wait ≡ waits_behind st.event (call_of c.wait)

-- ---- breaks and calls

-- A client that lost its link is the same client. When it begins the next one, so does the law's client, and OpenSession is written.
abbrev pub BreaksStay : Type 0
BreaksStay = (u : Setup) (c : Client) (s : ClientState) → IsClient u c s → IsClient u c (broken s)

abbrev pub BeginsAreBreaks : Type 0
BeginsAreBreaks =
    (u : Setup) (c : Client) (s : ClientState)
    → IsClient u c s
    → (t : Taken) × (moved c Breaks ≡ Some t) × IsClient u t.client (begun s) × (open_session_frame first_request_id ∷ [] ≡ frames_of u t) × (t.client.results ≡ c.results)

-- a client that is ready and is asked a call: the law's client asks the command that carries it, and the same frame is written
abbrev pub AsksAreCommands : Type 0
AsksAreCommands =
    (u : Setup) (c : Client) (s : ClientState) (command : Call) (call : grammar.Call)
    → IsClient u c s
    → IsReady s
    → IsCall u command call
    → (t : Taken) × (moved c (Commands command) ≡ Some t) × IsClient u t.client (asked s call) × (call_frame s.next_id call ∷ [] ≡ frames_of u t) × (t.client.results ≡ c.results)

-- each call that a client can be asked is carried by a command, and each login is one that the law's client may have
abbrev pub CallsAreCommands : Type 0
CallsAreCommands = (u : Setup) (call : grammar.Call) → IsAskable call → (command : Call) × IsCall u command call

abbrev pub LoginsAreTheirs : Type 0
LoginsAreTheirs = (key : List ℕ) (login : logins.Login) → are_bytes (canonical_call (login_call login)) ≡ true → length (canonical_call (login_call login)) ≤ payload_limit → (u : Setup) × (u.key ≡ key) × LogsIn u login

-- ---- frames that come

-- the frame is a reply to a request of this frame
pub record IsReplyTo (request f : Frame) : Type 0 where
  pub reply : f.reply ≡ true
  pub same : answers request.command request.id f ≡ true

-- The reply to the request that waits comes: both take it, or neither. The law's client is told the answer that the reply's code and payload say.
abbrev pub AreSame : Setup → Client → Option Taken → Option Step → Type 0
AreSame u c None None = Unit {0}
AreSame u c (Some t) (Some st) = IsOne u c t st
AreSame u c None (Some st) = ⊥
AreSame u c (Some t) None = ⊥

abbrev pub RepliesAreTaken : Type 0
RepliesAreTaken =
    (u : Setup) (c : Client) (s : ClientState) (h : Heard) (a : Answer) (code : Code) (f : Frame)
    → IsClient u c s
    → s.stage ≢ stages.Unlinked
    → request_that_waits c c.stage ≡ Some h
    → IsReplyTo (request_frame u c.opening_id h) f
    → are_bytes f.payload ≡ true
    → IsAnswer h a (answer_by code f.payload)
    → AreSame u c (moved c (Takes (tag_of h) a)) (takes s (Some code) f)

-- what its command and id show is enough
abbrev pub TagsAreShown : Type 0
TagsAreShown =
    (u : Setup) (c : Client) (s : ClientState) (h : Heard) (a : Answer) (f : Frame)
    → IsClient u c s
    → request_that_waits c c.stage ≡ Some h
    → IsReplyTo (request_frame u c.opening_id h) f
    → moved c (Takes (tag_in f) a) ≡ moved c (Takes (tag_of h) a)

-- a reply that is taken is one to that request, and the law's client takes it
pub record IsTaken (u : Setup) (c : Client) (found : Option Code) (f : Frame) (st : Step) : Type 0 where
  pub code : Code
  pub request : Heard
  pub taken : Taken
  pub found_is : found ≡ Some code
  pub waits : request_that_waits c c.stage ≡ Some request
  pub reply : IsReplyTo (request_frame u c.opening_id request) f
  pub takes : moved c (Takes (tag_in f) (answer_by code f.payload)) ≡ Some taken
  pub one : IsOne u c taken st

abbrev pub OnlyRepliesAreTaken : Type 0
OnlyRepliesAreTaken =
    (u : Setup) (c : Client) (s : ClientState) (found : Option Code) (f : Frame)
    → IsClient u c s
    → f.reply ≡ true
    → are_bytes f.payload ≡ true
    → IfSome (takes s found f) (IsTaken u c found f)

-- a request of the server leaves the client as it is, writes no request, and tells no result
pub record Stays (s : ClientState) (st : Step) : Type 0 where
  pub state : st.state ≡ s
  pub writes : IfSome st.writes (λ f. f.reply ≡ true)
  pub untold : is_told st.event ≡ false

abbrev pub RequestsLeaveAll : Type 0
RequestsLeaveAll = (s : ClientState) (found : Option Code) (f : Frame) → f.reply ≡ false → IfSome (takes s found f) (Stays s)
