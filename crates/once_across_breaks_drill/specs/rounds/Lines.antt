-- The server end of a link, to which whole requests go (this profile).
use Rattle.std.specs.Prelude.{◌≡◌, ◌≢◌, ◌≤◌, ℕ, true, List, [], ◌∷◌, ◌++◌, All, Option, Some, None}
use Rattle.afp_base.specs.declared.ids.LinkNumber.{LinkNumber}
use Rattle.afp_serial.specs.Shown.{Shown}
use Rattle.afp_serial.specs.Went.{step}
use Rattle.afp_serial.specs.declared.ask.Ask.TheVariants as asks
use Rattle.afp_serial.specs.declared.ask.Told.{Told}
use Rattle.afp_server.specs.link.Did.{Did}
use Rattle.afp_server.specs.link.Script.{Does}
use Rattle.afp_server.specs.link.Tally.{answered_after}
use Rattle.afp_server.specs.link.Wire.{WireState}
use Rattle.afp_server.specs.declared.link.stage.FrameEnd.{FrameEnd}
use Rattle.afp_server.specs.declared.link.stage.Stage.{Stage}
use Rattle.afp_server.specs.declared.link.stage.Stage.TheVariants.{Closing}
use Rattle.capture_log_server.specs.Connections.{Extends}
use Rattle.dsi_frame.specs.Deframe.{GivenOut}
use Rattle.dsi_frame.specs.Frame.{Frame}
use Rattle.dsi_frame.specs.Replies.{listed, spelling_of}

-- A line: the status block of its server, and how far its link has come.
pub record LineState : Type 0 where
  pub block : List ℕ
  pub stage : Stage

-- A wire goes on, and holds no part of a frame; so many bytes were fed to it at most.
pub record IsBetween (w : WireState) (fed : ℕ) : Type 0 where
  pub goes_on : w.end ≡ None
  pub live : w.stage ≢ Closing
  pub whole : w.held.rest ≡ []
  pub most : w.held.place ≤ fed
  pub bytes : List ℕ
  pub past : List Frame
  pub given : GivenOut bytes past w.held

-- The frame of a request does this at a server, at a moment: it asks these steps, and nobody else asks; each is
-- told the serial answer where no fault is met, and none want of memory, and its reply, if there is one, stands behind the bytes in `out`.
pub record Serves (now : ℕ) (f : Frame) (old : LineState) (out : List ℕ) (t : Shown) (sent : List ℕ) (u : Shown) : Type 0 where
  pub moment : ℕ
  pub did : Did
  pub does : Does old.block moment old.stage f did
  pub moments : All (λ s. s.at ≡ now) did.steps
  pub extends : Extends t did.steps u
  pub answered : answered_after true did.steps ≡ true
  pub sent_is : sent ≡ out ++ spelling_of (listed did.reply)

-- The line behind it, where the link goes on.
abbrev pub LineBehind : LineState → Did → Option LineState → Type 0
LineBehind old did None = (end : FrameEnd) × (did.end ≡ Some end)
LineBehind old did (Some line) = (did.end ≡ None) × (line.block ≡ old.block) × (line.stage ≡ did.stage)

-- What a request does at a line, by the line behind it: the same server, and how far its link has come; or the request ended the link.
abbrev pub ServesLine : ℕ → Frame → LineState → List ℕ → Shown → Option LineState → List ℕ → Shown → Type 0
ServesLine now f old out t line sent u = (serves : Serves now f old out t sent u) × LineBehind old serves.did line

-- The link of a line is lost: an open session asks Lost.
abbrev pub Loses : ℕ → Option LinkNumber → Shown → Shown → Type 0
Loses now None t u = u ≡ t
Loses now (Some link) t u = (answer : Told) × Extends t (step now link asks.Lost answer ∷ []) u
