-- What happened on a client's link, the newest first (this profile).
use Rattle.std.specs.Prelude.{◌≡◌, ℕ, ◌+◌, ◌||◌, Bool, true, false, List, [], ◌∷◌, ◌++◌, length, Option, Some, None}
use Rattle.afp_base.specs.declared.code.Code.{Code}
use Rattle.afp_outside.specs.ends.Link.{Event, piece, quiet}
use Rattle.afp_calls_grammar.specs.declared.grammar.call.Call.{Call}
use Rattle.dsi_frame.specs.Frame.{Frame, canonical_frame}
use Rattle.dsi_frame.specs.declared.frame.DsiCommand.TheVariants as commands
use Rattle.dsi_session.specs.RequestIds.{first_request_id}
use Rattle.afp_client.specs.session.Opening.{open_session_frame}
use Rattle.afp_client.specs.session.State.{ClientState, IsReady, call_frame, is_lost, is_opened}
use Rattle.afp_client.specs.session.Takes.{IsCodeIn, asked, begun, written}
use Rattle.afp_client.specs.session.Takes as S
use Rattle.afp_client.specs.session.Run.{Result}
use Rattle.afp_client.specs.declared.session.event.Event.{Event as ClientEvent}
use Rattle.afp_client.specs.declared.session.event.Event.TheVariants as events
use Rattle.afp_client.specs.declared.links.talk.Limit.{Limit}

-- Frames of the client's own that draw no id (AFP over TCP, "DSITickle" and "DSICloseSession").
abbrev pub tickle_frame : Frame
tickle_frame = record { reply = false; command = commands.Tickle; id = 0; word = 0; payload = [] }

abbrev pub close_session_frame : Frame
close_session_frame = record { reply = false; command = commands.CloseSession; id = 0; word = 0; payload = [] }

-- A read gave bytes; a quiet came; a read was the last, since it found the end or failed; a Tickle was written; a limit was set to what may be spent;
-- the client, in this state, asked a call; or, in this state, it took a frame by this step. Of a read first what had been written before it, where the
-- link tells that, and its moment.
pub data Happening : Type 0 where
  received : Option (List ℕ) → ℕ → List ℕ → Happening
  was_quiet : Option (List ℕ) → ℕ → Happening
  read_last : Option (List ℕ) → ℕ → Happening
  tickled : Happening
  limited : Limit → Happening
  asks : ClientState → Call → Happening
  took : ClientState → Frame → S.Step → Happening

-- what the link's reads gave
abbrev pub events_in : List Happening → List Event
events_in [] = []
events_in (received before now bytes ∷ all) = events_in all ++ piece before now bytes ∷ []
events_in (was_quiet before now ∷ all) = events_in all ++ quiet before now ∷ []
events_in (read_last before now ∷ all) = events_in all
events_in (tickled ∷ all) = events_in all
events_in (limited l ∷ all) = events_in all
events_in (asks s call ∷ all) = events_in all
events_in (took s f st ∷ all) = events_in all

-- the bytes that came
abbrev pub came_in : List Happening → List ℕ
came_in [] = []
came_in (received before now bytes ∷ all) = came_in all ++ bytes
came_in (was_quiet before now ∷ all) = came_in all
came_in (read_last before now ∷ all) = came_in all
came_in (tickled ∷ all) = came_in all
came_in (limited l ∷ all) = came_in all
came_in (asks s call ∷ all) = came_in all
came_in (took s f st ∷ all) = came_in all

-- the frames that were taken
abbrev pub taken_in : List Happening → List Frame
taken_in [] = []
taken_in (received before now bytes ∷ all) = taken_in all
taken_in (was_quiet before now ∷ all) = taken_in all
taken_in (read_last before now ∷ all) = taken_in all
taken_in (tickled ∷ all) = taken_in all
taken_in (limited l ∷ all) = taken_in all
taken_in (asks s call ∷ all) = taken_in all
taken_in (took s f st ∷ all) = taken_in all ++ f ∷ []

-- what is to be written: first the OpenSession by which a link is begun
abbrev pub to_write : List Happening → List ℕ
to_write [] = canonical_frame (open_session_frame first_request_id)
to_write (received before now bytes ∷ all) = to_write all
to_write (was_quiet before now ∷ all) = to_write all
to_write (read_last before now ∷ all) = to_write all
to_write (tickled ∷ all) = to_write all ++ canonical_frame tickle_frame
to_write (limited l ∷ all) = to_write all
to_write (asks s call ∷ all) = to_write all ++ canonical_frame (call_frame s.next_id call)
to_write (took s f st ∷ all) = to_write all ++ written st.writes

-- what it cost: the bytes that came, and the quiets
abbrev pub cost_in : List Happening → ℕ
cost_in [] = 0
cost_in (received before now bytes ∷ all) = cost_in all + length bytes
cost_in (was_quiet before now ∷ all) = cost_in all + 1
cost_in (read_last before now ∷ all) = cost_in all
cost_in (tickled ∷ all) = cost_in all
cost_in (limited l ∷ all) = cost_in all
cost_in (asks s call ∷ all) = cost_in all
cost_in (took s f st ∷ all) = cost_in all

-- the limits that were set, the oldest first, with those before
abbrev pub limits_in : List Limit → List Happening → List Limit
limits_in was [] = was
limits_in was (received before now bytes ∷ all) = limits_in was all
limits_in was (was_quiet before now ∷ all) = limits_in was all
limits_in was (read_last before now ∷ all) = limits_in was all
limits_in was (tickled ∷ all) = limits_in was all
limits_in was (limited l ∷ all) = limits_in was all ++ l ∷ []
limits_in was (asks s call ∷ all) = limits_in was all
limits_in was (took s f st ∷ all) = limits_in was all

-- the moment of the last read, on a link that was dialled at this one
abbrev pub now_in : ℕ → List Happening → ℕ
now_in began [] = began
now_in began (received before now bytes ∷ all) = now
now_in began (was_quiet before now ∷ all) = now
now_in began (read_last before now ∷ all) = now
now_in began (tickled ∷ all) = now_in began all
now_in began (limited l ∷ all) = now_in began all
now_in began (asks s call ∷ all) = now_in began all
now_in began (took s f st ∷ all) = now_in began all

-- the moment at which bytes came last; where none came yet, that of the dial
abbrev pub read_in : ℕ → List Happening → ℕ
read_in began [] = began
read_in began (received before now bytes ∷ all) = now
read_in began (was_quiet before now ∷ all) = read_in began all
read_in began (read_last before now ∷ all) = read_in began all
read_in began (tickled ∷ all) = read_in began all
read_in began (limited l ∷ all) = read_in began all
read_in began (asks s call ∷ all) = read_in began all
read_in began (took s f st ∷ all) = read_in began all

-- the moment at which a frame was written last, where one is written at this one
abbrev pub wrote_by : Option Frame → ℕ → ℕ → ℕ
wrote_by None now last = last
wrote_by (Some f) now last = now

-- the moment at which was written last: at first OpenSession, at that of the dial
abbrev pub wrote_in : ℕ → List Happening → ℕ
wrote_in began [] = began
wrote_in began (received before now bytes ∷ all) = wrote_in began all
wrote_in began (was_quiet before now ∷ all) = wrote_in began all
wrote_in began (read_last before now ∷ all) = wrote_in began all
wrote_in began (tickled ∷ all) = now_in began all
wrote_in began (limited l ∷ all) = wrote_in began all
wrote_in began (asks s call ∷ all) = now_in began all
wrote_in began (took s f st ∷ all) = wrote_by st.writes (now_in began all) (wrote_in began all)

-- how much may be spent in all, by the last limit
abbrev pub allowed_by : ℕ → List Limit → ℕ
allowed_by most [] = most
allowed_by most (l ∷ limits) = allowed_by l.turns limits

abbrev pub allowed : List Limit → ℕ
allowed limits = allowed_by 0 limits

-- the step is the reply to a command: its result, or one that is asked again since there was no memory
abbrev pub is_reply : Bool → ClientEvent → Bool
is_reply opened (events.Told c block) = true
is_reply opened events.Step = opened
is_reply opened event = false

-- a command got a reply
abbrev pub replied_in : List Happening → Bool
replied_in [] = false
replied_in (received before now bytes ∷ all) = replied_in all
replied_in (was_quiet before now ∷ all) = replied_in all
replied_in (read_last before now ∷ all) = replied_in all
replied_in (tickled ∷ all) = replied_in all
replied_in (limited l ∷ all) = replied_in all
replied_in (asks s call ∷ all) = replied_in all
replied_in (took s f st ∷ all) = is_reply (is_opened s.stage) st.event || replied_in all

-- the call that waits for its result, after an event
abbrev pub asked_by : Option Call → ClientEvent → Option Call
asked_by call (events.Told c block) = None
asked_by call event = call

-- the results, with the result of the call that waited
abbrev pub told_to : Option Call → Code → List ℕ → List Result → List Result
told_to (Some call) c block before = before ++ record { call = call; code = c; block = block } ∷ []
told_to None c block before = before

-- the results, after an event
abbrev pub result_by : Option Call → ClientEvent → List Result → List Result
result_by call (events.Told c block) before = told_to call c block before
result_by call event before = before

-- the call that waits for its result; the first may have been asked on an earlier link
abbrev pub asked_in : Option Call → List Happening → Option Call
asked_in was [] = was
asked_in was (received before now bytes ∷ all) = asked_in was all
asked_in was (was_quiet before now ∷ all) = asked_in was all
asked_in was (read_last before now ∷ all) = asked_in was all
asked_in was (tickled ∷ all) = asked_in was all
asked_in was (limited l ∷ all) = asked_in was all
asked_in was (asks s call ∷ all) = Some call
asked_in was (took s f st ∷ all) = asked_by (asked_in was all) st.event

-- the results
abbrev pub results_in : Option Call → List Happening → List Result
results_in was [] = []
results_in was (received before now bytes ∷ all) = results_in was all
results_in was (was_quiet before now ∷ all) = results_in was all
results_in was (read_last before now ∷ all) = results_in was all
results_in was (tickled ∷ all) = results_in was all
results_in was (limited l ∷ all) = results_in was all
results_in was (asks s call ∷ all) = results_in was all
results_in was (took s f st ∷ all) = result_by (asked_in was all) st.event (results_in was all)

-- From this state the link is begun, and what happened leads to another.
abbrev pub Leads : ClientState → List Happening → ClientState → Type 0
Leads s [] t = t ≡ begun s
Leads s (received before now bytes ∷ all) t = Leads s all t
Leads s (was_quiet before now ∷ all) t = Leads s all t
Leads s (read_last before now ∷ all) t = Leads s all t
Leads s (tickled ∷ all) t = Leads s all t
Leads s (limited l ∷ all) t = Leads s all t
Leads s (asks mid call ∷ all) t = Leads s all mid × IsReady mid × (t ≡ asked mid call)
Leads s (took mid f st ∷ all) t = Leads s all mid × (is_lost mid.stage ≡ false) × (found : Option Code) × IsCodeIn f.word found × (S.takes mid found f ≡ Some st) × (t ≡ st.state)
