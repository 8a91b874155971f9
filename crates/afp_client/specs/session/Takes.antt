-- What a client does (this profile): it opens its link, writes one request at a time, and writes it again where its link broke or the
-- server found no memory.
use Rattle.std.specs.Prelude.{◌≡◌, ◌≢◌, ℕ, ◌+◌, ◌==◌, ◌&&◌, nat_lt, Bool, true, false, List, [], length, drop, Option, Some, None, option_map, if◌then◌else◌}
use Rattle.byteorder.specs.Endian.{big_number}
use Rattle.afp_base.specs.declared.code.Code.{Code}
use Rattle.afp_base.specs.declared.code.Code.TheVariants as code
use Rattle.dsi_frame.specs.Frame.{Frame, canonical_frame, command_number}
use Rattle.dsi_frame.specs.Replies.{code_word, reply_to}
use Rattle.dsi_frame.specs.declared.frame.DsiCommand.{DsiCommand}
use Rattle.dsi_frame.specs.declared.frame.DsiCommand.TheVariants as commands
use Rattle.dsi_session.specs.RequestIds.{first_request_id, id_after}
use Rattle.afp_calls_grammar.specs.declared.grammar.call.Call.{Call}
use Rattle.afp_client.specs.session.Opening.{opening_frame}
use Rattle.afp_client.specs.session.State.{ClientState, Waiting, call_frame}
use Rattle.afp_client.specs.declared.session.event.Event.{Event}
use Rattle.afp_client.specs.declared.session.event.Event.TheVariants as events
use Rattle.afp_client.specs.declared.session.stage.OpeningStep.{OpeningStep}
use Rattle.afp_client.specs.declared.session.stage.OpeningStep.TheVariants as steps
use Rattle.afp_client.specs.declared.session.stage.Stage.{Stage}
use Rattle.afp_client.specs.declared.session.stage.Stage.TheVariants as stages

-- What a step of the client does: the state behind it, the frame that it writes, if it writes one, and what it is.
pub record Step : Type 0 where
  pub state : ClientState
  pub writes : Option Frame
  pub event : Event

abbrev pub step : ClientState → Option Frame → Event → Step
step s frame event = record { state = s; writes = frame; event = event }

-- the bytes of a frame, where there is one
abbrev pub written : Option Frame → List ℕ
written None = []
written (Some f) = canonical_frame f

-- how often at most a request is written again, under a new id, because it was told that there was no memory
abbrev pub most_retries : ℕ
most_retries = 3

-- the code whose number a word is, where it is one
abbrev pub IsCodeIn : ℕ → Option Code → Type 0
IsCodeIn word None = (c : Code) → code_word c ≢ word
IsCodeIn word (Some c) = code_word c ≡ word

-- the request is told that there was no memory, and may be written again
abbrev pub is_retried : Code → ℕ → Bool
is_retried code.NoMemory retries = nat_lt retries most_retries
is_retried c retries = false

abbrev pub is_ok : Code → Bool
is_ok code.Ok = true
is_ok c = false

-- a client that has a link begins its opening; one that is lost stays so
abbrev pub stage_begun : Stage → Stage
stage_begun stages.Lost = stages.Lost
stage_begun stages.Unlinked = stages.Opening steps.OpenSession first_request_id 0
stage_begun (stages.Opening step id retries) = stages.Opening steps.OpenSession first_request_id 0
stage_begun stages.Ready = stages.Opening steps.OpenSession first_request_id 0

abbrev pub stage_broken : Stage → Stage
stage_broken stages.Lost = stages.Lost
stage_broken stages.Unlinked = stages.Unlinked
stage_broken (stages.Opening step id retries) = stages.Unlinked
stage_broken stages.Ready = stages.Unlinked

-- a link begins: OpenSession is written
abbrev pub begun : ClientState → ClientState
begun s = record s { stage = stage_begun s.stage }

-- the link broke; the token, and the request that waits, stay
abbrev pub broken : ClientState → ClientState
broken s = record s { stage = stage_broken s.stage }

-- the client asks a call: its request waits
abbrev pub asked : ClientState → Call → ClientState
asked s call = record s { waiting = Some (record { request = call_frame s.next_id call; retries = 0 }); next_id = id_after s.next_id }

-- a request of the opening is written, under this id
abbrev pub writes_opening : ClientState → OpeningStep → ℕ → ℕ → Step
writes_opening s at id retries =
    step (record s { stage = stages.Opening at id retries }) (Some (opening_frame s.login s.token at id)) events.Step

-- the link is opened, and a request that waits is written again, as it was
abbrev pub opened : ClientState → Step
opened s = step (record s { stage = stages.Ready }) (option_map (λ (w : Waiting). w.request) s.waiting) events.Ready

-- the most bytes of a token: FPDisconnectOldSession's block has 8 more
abbrev pub most_token : ℕ
most_token = 131064

-- the token that a reply's payload shows: a count of 4 bytes, and so many bytes
abbrev pub token_in : List ℕ → Option (List ℕ)
token_in payload =
    if nat_lt 3 (length payload) && (big_number 4 payload == length (drop 4 payload)) && nat_lt (length (drop 4 payload)) (most_token + 1)
    then Some (drop 4 payload) else None

-- the last request of the opening, with this id, is told Ok: a client without a token has one now, and its commands count on from here
abbrev pub session_told : ClientState → Option (List ℕ) → ℕ → List ℕ → Option Step
session_told s (Some token) id payload = Some (opened s)
session_told s None id payload = option_map (λ token. opened (record s { token = Some token; next_id = id_after id })) (token_in payload)

-- a request of the opening, with this id, is told Ok: the next one is written
abbrev pub opening_told : ClientState → OpeningStep → ℕ → List ℕ → Option Step
opening_told s steps.OpenSession id payload = Some (writes_opening s steps.Login (id_after id) 0)
opening_told s steps.Login id payload = Some (writes_opening s steps.Session (id_after id) 0)
opening_told s steps.Session id payload = session_told s s.token id payload

-- what it is that a request of the opening is refused: the session is lost where it was to be taken up again
abbrev pub session_refusal : Option (List ℕ) → Code → Event
session_refusal None c = events.Refused c
session_refusal (Some token) c = events.Lost c

abbrev pub refusal : Option (List ℕ) → OpeningStep → Code → Event
refusal token steps.OpenSession c = events.Refused c
refusal token steps.Login c = events.Refused c
refusal token steps.Session c = session_refusal token c

-- the reply to a request of the opening comes
abbrev pub opening_replied : ClientState → OpeningStep → ℕ → ℕ → Code → List ℕ → Option Step
opening_replied s at id retries c payload =
    if is_retried c retries then Some (writes_opening s at (id_after id) (retries + 1))
    else if is_ok c then opening_told s at id payload
    else Some (step (record s { stage = stages.Lost }) None (refusal s.token at c))

-- a frame under another id
abbrev pub with_id : Frame → ℕ → Frame
with_id f id = record f { id = id }

-- the reply to the request that waits comes
abbrev pub waiting_replied : ClientState → Waiting → Code → List ℕ → Step
waiting_replied s w c payload =
    if is_retried c w.retries
    then step (record s { waiting = Some (record { request = with_id w.request s.next_id; retries = w.retries + 1 }); next_id = id_after s.next_id })
    (Some (with_id w.request s.next_id)) events.Step
    else step (record s { waiting = None }) None (events.Told c payload)

-- a frame is a reply to a request with this command and this id
abbrev pub answers : DsiCommand → ℕ → Frame → Bool
answers command id f = (command_number f.command == command_number command) && (f.id == id)

-- the frame that replies, where it does, by the code that its word tells
abbrev pub if_answers : Bool → Option Code → (Code → Option Step) → Option Step
if_answers true (Some c) does = does c
if_answers true None does = None
if_answers false c does = None

-- the command of a request of the opening
abbrev pub opening_command : OpeningStep → DsiCommand
opening_command steps.OpenSession = commands.OpenSession
opening_command steps.Login = commands.Command
opening_command steps.Session = commands.Command

-- a reply comes on a link that is opened
abbrev pub ready_reply : ClientState → Option Waiting → Option Code → Frame → Option Step
ready_reply s None c f = None
ready_reply s (Some w) c f = if_answers (answers w.request.command w.request.id f) c (λ c. Some (waiting_replied s w c f.payload))

-- a reply comes
abbrev pub takes_reply : ClientState → Stage → Option Code → Frame → Option Step
takes_reply s stages.Unlinked c f = None
takes_reply s (stages.Opening at id retries) c f =
    if_answers (answers (opening_command at) id f) c (λ c. opening_replied s at id retries c f.payload)
takes_reply s stages.Ready c f = ready_reply s s.waiting c f
takes_reply s stages.Lost c f = None

-- the reply to an Attention (AFP over TCP, "DSIAttention")
abbrev pub attention_reply : Frame → Frame
attention_reply f = reply_to f code.Ok []

-- a request comes: three kinds are taken
abbrev pub takes_request : ClientState → DsiCommand → Frame → Option Step
takes_request s commands.Tickle f = Some (step s None events.Tickle)
takes_request s commands.CloseSession f = Some (step s None events.Closed)
takes_request s commands.Attention f =
    if length f.payload == 2 then Some (step s (Some (attention_reply f)) (events.Attention (big_number 2 f.payload))) else None
takes_request s commands.Command f = None
takes_request s commands.Write f = None
takes_request s commands.GetStatus f = None
takes_request s commands.OpenSession f = None

-- What a frame does, with the code that its word tells; none where it is not taken, and so is bad.
abbrev pub takes_by : Bool → ClientState → Option Code → Frame → Option Step
takes_by true s c f = takes_reply s s.stage c f
takes_by false s c f = takes_request s f.command f

abbrev pub takes : ClientState → Option Code → Frame → Option Step
takes s c f = takes_by f.reply s c f
