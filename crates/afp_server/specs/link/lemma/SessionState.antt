-- What the session machine of a link does (this profile).
use Rattle.std.specs.Prelude.{◌≡◌, ◌≢◌, ℕ, ◌<◌, ◌≤◌, true, false, List, [], ◌∷◌, drop, Option, None, Result, Ok, Err, IfNone}
use Rattle.afp_base.specs.declared.bytes.OutOfMemory.{OutOfMemory}
use Rattle.afp_base.specs.declared.ids.LinkNumber.{LinkNumber}
use Rattle.afp_serial.specs.declared.ask.Ask.{Ask}
use Rattle.afp_serial.specs.declared.ask.Ask.TheVariants as asks
use Rattle.afp_serial.specs.declared.ask.Told.{Told}
use Rattle.afp_serial.specs.declared.ask.Told.TheVariants as tells
use Rattle.afp_serial.specs.Answered.{told_of}
use Rattle.afp_serial.specs.declared.answered.Answered.{Answered}
use Rattle.afp_serial.specs.Shown.{Shown, is_answer_to}
use Rattle.afp_serial.specs.Went.{step, Went}
use Rattle.dsi_frame.specs.Frame.{Frame, header_length}
use Rattle.afp_server.specs.link.Did.{Did}
use Rattle.afp_server.specs.link.LinkRun.{carries_call}
use Rattle.dsi_frame.specs.Replies.{listed, spelling_of}
use Rattle.afp_server.specs.link.Calls.{CallTold}
use Rattle.dsi_frame.specs.declared.frame.DsiCommand.{DsiCommand}
use Rattle.afp_server.specs.link.Script.{Does, OpenDoes}
use Rattle.afp_server.specs.link.Tally.{tallied, and_told, replies_after, refused_after}
use Rattle.dsi_session.specs.Pulse.{silence_limit, seconds_between}
use Rattle.afp_server.specs.link.Requests.{drain_in}
use Rattle.afp_server.specs.declared.link.stage.FrameEnd.{FrameEnd}
use Rattle.afp_server.specs.declared.link.stage.Idle.{Idle}
use Rattle.afp_server.specs.declared.link.stage.Idle.TheVariants as idles
use Rattle.afp_server.specs.declared.link.stage.Stage.{Stage}
use Rattle.afp_server.specs.declared.link.stage.Stage.TheVariants as stages
use Rattle.afp_server.specs.declared.link.tally.Tally.{Tally}

-- the status block of its server, how far its link has come, the bytes of the reply to its last frame: none, where there is
-- none; and the tally of its frames
pub record SessionState : Type 0 where
  pub block : List ℕ
  pub stage : Stage
  pub reply : List ℕ
  pub tally : Tally

-- what was told, where its bytes stand behind those of a header in the room of the reply
abbrev pub told_in : Answered → SessionState → Told
told_in answered s = told_of answered (drop header_length s.reply)

-- The machine did this: it asked the steps, and holds the reply.
pub record Acts (old : SessionState) (before : Shown) (did : Did) (new : SessionState) (after : Shown) : Type 0 where
  pub state : new ≡ record { block = old.block; stage = did.stage; reply = spelling_of (listed did.reply); tally = tallied old.tally did.steps (listed did.reply) }
  pub went : Went before did.steps after

-- A frame is handled by its row; or it is a call, and there was no memory for a copy of its payload: it was not asked.
abbrev pub Handles : ℕ → Frame → SessionState → Shown → Result (Option FrameEnd) OutOfMemory → SessionState → Shown → Type 0
Handles now f old before (Ok end) new after =
    (did : Did) × Does old.block now old.stage f did × Acts old before did new after × (end ≡ did.end)
Handles now f old before (Err fault) new after =
    (link : LinkNumber) × (old.stage ≡ stages.Open link) × (f.reply ≡ false) × (carries_call f.command ≡ true)
    × (new.stage ≡ old.stage) × (new.block ≡ old.block) × (after ≡ before) × (new.tally ≡ old.tally)

-- the same of a request on an open session
abbrev pub HandlesOpen : ℕ → LinkNumber → DsiCommand → Frame → SessionState → Shown → Result (Option FrameEnd) OutOfMemory → SessionState → Shown → Type 0
HandlesOpen now link command f old before (Ok end) new after =
    (did : Did) × OpenDoes old.block now link command f did × Acts old before did new after × (end ≡ did.end)
HandlesOpen now link command f old before (Err fault) new after =
    (carries_call command ≡ true) × (new.stage ≡ old.stage) × (new.block ≡ old.block) × (after ≡ before) × (new.tally ≡ old.tally)

-- A Pulse was asked at this link, told that it was not displaced, and told this drain's moment, or none.
pub record PulsesLive (now : ℕ) (link : LinkNumber) (before : Shown) (drain : Option ℕ) (after : Shown) : Type 0 where
  pub answer : Told
  pub lives : answer ≢ tells.Displaced
  pub drain_is : drain ≡ drain_in answer
  pub went : Went before (step now link asks.Pulse answer ∷ []) after

-- What the machine does at a quiet: silence, and a link that has no session, ask nothing; an open session asks Pulse, and closes where
-- it was displaced.
abbrev pub AsksPulse : ℕ → ℕ → SessionState → Shown → Idle → SessionState → Shown → Type 0
AsksPulse last_read now old before idles.Silent new after = (silence_limit ≤ seconds_between last_read now) × (new ≡ old) × (after ≡ before)
AsksPulse last_read now old before idles.On new after = (seconds_between last_read now < silence_limit) × (old.stage ≡ stages.Fresh) × (new ≡ old) × (after ≡ before)
AsksPulse last_read now old before idles.Displaced new after =
    (seconds_between last_read now < silence_limit) × (link : LinkNumber) × (old.stage ≡ stages.Open link) × (new ≡ record old { stage = stages.Closing })
    × Went before (step now link asks.Pulse tells.Displaced ∷ []) after
AsksPulse last_read now old before (idles.Live link drain) new after =
    (seconds_between last_read now < silence_limit) × (old.stage ≡ stages.Open link) × (new ≡ old) × PulsesLive now link before drain after

-- What a Pulse's answer does: a session that was displaced closes its link.
abbrev pub PulseTold : LinkNumber → Told → SessionState → Idle → SessionState → Type 0
PulseTold link tells.Displaced old idle new = (idle ≡ idles.Displaced) × (new ≡ record old { stage = stages.Closing })
PulseTold link (tells.Opened other) old idle new = (idle ≡ idles.Live link None) × (new ≡ old)
PulseTold link (tells.Reply c block ends) old idle new = (idle ≡ idles.Live link None) × (new ≡ old)
PulseTold link (tells.Live drain) old idle new = (idle ≡ idles.Live link drain) × (new ≡ old)
PulseTold link tells.Done old idle new = (idle ≡ idles.Live link None) × (new ≡ old)
PulseTold link tells.Memory old idle new = (idle ≡ idles.Live link None) × (new ≡ old)

-- A call was replied to, or not, and the link goes on or ends, by what it was told.
pub record CalledBy (f : Frame) (told : Told) (reply : Option Frame) (old new : SessionState) (end : Option FrameEnd) : Type 0 where
  pub called : (link : LinkNumber) → old.stage ≡ stages.Open link → CallTold f link told reply new.stage end
  pub replied : new.reply ≡ spelling_of (listed reply)
  pub block : new.block ≡ old.block
  pub tally : new.tally ≡ record { replies = replies_after old.tally.replies (listed reply); refused = refused_after old.tally.refused (listed reply); answered = and_told told old.tally.answered }
  pub goes_on : IfNone end (new.stage ≡ old.stage)

-- what a call and an Open may be told: whatever they ask
abbrev pub IsCallAnswer : Told → Type 0
IsCallAnswer told = is_answer_to (asks.Call 0 false 0 []) told ≡ true

abbrev pub IsOpenAnswer : Told → Type 0
IsOpenAnswer told = is_answer_to (asks.Open 0) told ≡ true

-- a call
abbrev pub IsCall : Ask → Type 0
IsCall (asks.Call id write offset payload) = Unit {0}
IsCall (asks.Open attention) = ⊥
IsCall asks.Pulse = ⊥
IsCall asks.Bye = ⊥
IsCall asks.Lost = ⊥
IsCall asks.Drain = ⊥
