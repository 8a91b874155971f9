-- What happens on a link, in one order (this profile).
use Rattle.std.specs.Prelude.{◌≡◌, ◌≢◌, ℕ, ◌<◌, ◌≤◌, true, false, List, [], ◌∷◌, ◌++◌, Option, Some, None, option_map, MatchOption}
use Rattle.afp_base.specs.declared.ids.LinkNumber.{LinkNumber}
use Rattle.afp_outside.specs.ends.Link.{Event, piece, quiet, LinkState}
use Rattle.afp_serial.specs.declared.ask.Ask.TheVariants as ask
use Rattle.afp_serial.specs.declared.ask.Told.{Told}
use Rattle.afp_serial.specs.declared.ask.Told.TheVariants as told
use Rattle.afp_serial.specs.Went.{Step, step}
use Rattle.dsi_frame.specs.Frame.{Frame}
use Rattle.dsi_frame.specs.declared.frame.Reason.{Reason}
use Rattle.dsi_session.specs.Pulse.{silence_limit, seconds_between}
use Rattle.afp_server.specs.link.Did.{Did}
use Rattle.afp_server.specs.link.Requests.{Requests, no_requests, after_reply, drain_in, is_over, request_at, requests_after}
use Rattle.dsi_frame.specs.Replies.{listed}
use Rattle.afp_server.specs.link.Script.{Does}
use Rattle.afp_server.specs.declared.link.stage.Stage.{Stage}
use Rattle.afp_server.specs.declared.link.stage.Stage.TheVariants as stages
use Rattle.afp_server.specs.declared.link.stage.FrameEnd.{FrameEnd}
use Rattle.afp_server.specs.declared.link.stage.FrameEnd.TheVariants as ends

-- What a quiet comes to: the steps that it asks, the request that is written in it, how far the link has come with it, and what
-- decides its requests then.
pub record Idled : Type 0 where
  pub steps : List Step
  pub request : Option Frame
  pub stage : Stage
  pub requests : Requests

-- A read that gave bytes; a quiet, with what it came to; or a frame that was handled, with what that did. Of a read
-- first what had been written before it, where the link tells that, and its moment.
pub data Happening : Type 0 where
  received : Option (List ℕ) → ℕ → List ℕ → Happening
  was_quiet : Option (List ℕ) → ℕ → Idled → Happening
  handled : Frame → Did → Happening

-- what the reads gave
abbrev pub events_in : List Happening → List Event
events_in [] = []
events_in (received written now bytes ∷ trace) = piece written now bytes ∷ events_in trace
events_in (was_quiet written now idled ∷ trace) = quiet written now ∷ events_in trace
events_in (handled f did ∷ trace) = events_in trace

-- the frames that were handled
abbrev pub frames_in : List Happening → List Frame
frames_in [] = []
frames_in (received written now bytes ∷ trace) = frames_in trace
frames_in (was_quiet written now idled ∷ trace) = frames_in trace
frames_in (handled f did ∷ trace) = f ∷ frames_in trace

-- the replies to them
abbrev pub replies_in : List Happening → List Frame
replies_in [] = []
replies_in (received written now bytes ∷ trace) = replies_in trace
replies_in (was_quiet written now idled ∷ trace) = replies_in trace
replies_in (handled f did ∷ trace) = listed did.reply ++ replies_in trace

-- all frames that were written: the replies, and the requests of quiets
abbrev pub sent_in : List Happening → List Frame
sent_in [] = []
sent_in (received written now bytes ∷ trace) = sent_in trace
sent_in (was_quiet written now idled ∷ trace) = listed idled.request ++ sent_in trace
sent_in (handled f did ∷ trace) = listed did.reply ++ sent_in trace

-- all that was asked, with what it was told
abbrev pub steps_in : List Happening → List Step
steps_in [] = []
steps_in (received written now bytes ∷ trace) = steps_in trace
steps_in (was_quiet written now idled ∷ trace) = idled.steps ++ steps_in trace
steps_in (handled f did ∷ trace) = did.steps ++ steps_in trace

-- that part of it that the frames asked
abbrev pub frame_steps_in : List Happening → List Step
frame_steps_in [] = []
frame_steps_in (received written now bytes ∷ trace) = frame_steps_in trace
frame_steps_in (was_quiet written now idled ∷ trace) = frame_steps_in trace
frame_steps_in (handled f did ∷ trace) = did.steps ++ frame_steps_in trace

-- How far a link has come, the moment of its last read, that of the last one that gave bytes, and what decides its requests; at first
-- the moment of its making stands for each.
pub record Standing : Type 0 where
  pub stage : Stage
  pub now : ℕ
  pub last_read : ℕ
  pub requests : Requests

abbrev pub standing : Stage → Requests → LinkState → Standing
standing stage requests link = record { stage = stage; now = link.now; last_read = link.last_read; requests = requests }

-- where a link begins to be served
abbrev pub begun : LinkState → Standing
begun link = standing stages.Fresh (no_requests link.now) link

-- why what happened ends a link: as a frame does, by silence, by a drain, or because the request of a quiet could not be written
pub data Cause : Type 0 where
  closed : Cause
  displaced : Cause
  bad : Reason → Cause
  silent : Cause
  drained : Cause
  unwritten : Cause

abbrev pub cause_of : FrameEnd → Cause
cause_of ends.Closed = closed
cause_of ends.Displaced = displaced
cause_of (ends.Bad reason) = bad reason

-- nothing is asked or written
abbrev pub idled_still : Stage → Requests → Idled
idled_still stage a = record { steps = []; request = None; stage = stage; requests = a }

-- a Pulse, and what is written by its answer
abbrev pub pulsed : ℕ → LinkNumber → Requests → Told → Idled
pulsed now link a answer = record {
  steps = step now link ask.Pulse answer ∷ [];
  request = request_at now (drain_in answer) a;
  stage = stages.Open link;
  requests = requests_after now (drain_in answer) a;
}

-- A quiet on an open session asks Pulse at its link, is not told that it was displaced, and the time of a drain is not over.
pub record StaysOpen (now : ℕ) (link : LinkNumber) (a : Requests) (idled : Idled) : Type 0 where
  pub answer : Told
  pub lives : answer ≢ told.Displaced
  pub in_time : is_over (drain_in answer) now ≡ false
  pub is : idled ≡ pulsed now link a answer

-- A quiet before a session is open asks and writes nothing.
abbrev pub IdlesOn : ℕ → Stage → Requests → Idled → Type 0
IdlesOn now stages.Fresh a idled = idled ≡ idled_still stages.Fresh a
IdlesOn now (stages.Open link) a idled = StaysOpen now link a idled
IdlesOn now stages.Closing a idled = ⊥

-- A quiet on an open session asks Pulse at its link, and is told that it was displaced: nothing is written.
pub record IsDisplaced (now : ℕ) (stage : Stage) (a : Requests) (idled : Idled) : Type 0 where
  pub link : LinkNumber
  pub in_session : stage ≡ stages.Open link
  pub is : idled ≡ record { steps = step now link ask.Pulse told.Displaced ∷ []; request = None; stage = stages.Closing; requests = a }

-- A quiet on an open session asks Pulse at its link, and is told a drain whose time is over: behind what is written, a Bye, whatever
-- that is told.
pub record IsDrained (now : ℕ) (stage : Stage) (a : Requests) (idled : Idled) : Type 0 where
  pub link : LinkNumber
  pub in_session : stage ≡ stages.Open link
  pub drain : ℕ
  pub over : is_over (Some drain) now ≡ true
  pub answer : Told
  pub is : idled ≡ record {
    steps = step now link ask.Pulse (told.Live (Some drain)) ∷ step now link ask.Bye answer ∷ [];
    request = request_at now (Some drain) a;
    stage = stages.Closing;
    requests = requests_after now (Some drain) a;
  }

-- A quiet on an open session asks Pulse at its link, and the request that is to be written cannot be.
pub record IsUnwritten (now : ℕ) (stage : Stage) (a : Requests) (idled : Idled) : Type 0 where
  pub link : LinkNumber
  pub in_session : stage ≡ stages.Open link
  pub answer : Told
  pub lives : answer ≢ told.Displaced
  pub is : idled ≡ pulsed now link a answer

-- A quiet, by why it ends the link, where it does: silence goes first, and asks nothing (AFP over TCP, DSITickle).
abbrev pub Idles : ℕ → ℕ → Stage → Requests → Idled → Option Cause → Type 0
Idles last_read now stage a idled (Some silent) = (silence_limit ≤ seconds_between last_read now) × (idled ≡ idled_still stage a)
Idles last_read now stage a idled (Some displaced) = (seconds_between last_read now < silence_limit) × IsDisplaced now stage a idled
Idles last_read now stage a idled (Some drained) = (seconds_between last_read now < silence_limit) × IsDrained now stage a idled
Idles last_read now stage a idled (Some unwritten) = (seconds_between last_read now < silence_limit) × IsUnwritten now stage a idled
Idles last_read now stage a idled None = (seconds_between last_read now < silence_limit) × IdlesOn now stage a idled
Idles last_read now stage a idled (Some closed) = ⊥
Idles last_read now stage a idled (Some (bad reason)) = ⊥

-- What happens takes a link from one standing to another, and may end it.
abbrev pub MovesStanding : List ℕ → Standing → Happening → Standing → Option Cause → Type 0
MovesStanding block a (received written now bytes) b cause = (b ≡ record { stage = a.stage; now = now; last_read = now; requests = a.requests }) × (cause ≡ None)
MovesStanding block a (was_quiet written now idled) b cause =
    Idles a.last_read now a.stage a.requests idled cause × (b ≡ record { stage = idled.stage; now = now; last_read = a.last_read; requests = idled.requests })
MovesStanding block a (handled f did) b cause =
    Does block a.now a.stage f did × (b ≡ record { stage = did.stage; now = a.now; last_read = a.last_read; requests = after_reply a.now did.reply a.requests }) × (cause ≡ option_map cause_of did.end)

-- The trace takes a link from one standing to another, step by step; the last happening may end it.
abbrev pub Follows : List ℕ → Standing → List Happening → Standing → Option Cause → Type 0
Follows block a [] b cause = (b ≡ a) × (cause ≡ None)
Follows block a (happening ∷ trace) b cause =
    (mid : Standing) × (why : Option Cause) × MovesStanding block a happening mid why
    × MatchOption why (Follows block mid trace b cause) (λ c. (trace ≡ []) × (b ≡ mid) × (cause ≡ Some c))
