-- What a link that is fed as bytes does (this profile).
use Rattle.std.specs.Prelude.{◌≡◌, ◌⊎◌, ℕ, ◌+◌, List, [], ◌∷◌, ◌++◌, length, Option, Some, None, All}
use Rattle.afp_base.specs.declared.ids.LinkNumber.{LinkNumber}
use Rattle.afp_serial.specs.Shown.{Shown}
use Rattle.afp_serial.specs.Went.{Step, Went}
use Rattle.dsi_frame.specs.Buffered.{Buffered}
use Rattle.dsi_frame.specs.Deframe.{GivenOut}
use Rattle.dsi_frame.specs.Frame.{Frame}
use Rattle.dsi_frame.specs.Stream.{Begins, IsUnfinished, Stopped}
use Rattle.dsi_frame.specs.declared.frame.BadFrame.{BadFrame}
use Rattle.afp_server.specs.link.LinkRun.{Fills, Parts}
use Rattle.dsi_frame.specs.Replies.{spelling_of}
use Rattle.afp_server.specs.link.Script.{Script}
use Rattle.afp_server.specs.link.Tally.{no_tally, tallied}
use Rattle.afp_server.specs.declared.link.stage.FrameEnd.{FrameEnd}
use Rattle.afp_server.specs.declared.link.stage.FrameEnd.TheVariants as ends
use Rattle.afp_server.specs.declared.link.stage.Stage.{Stage}
use Rattle.afp_server.specs.declared.link.stage.Stage.TheVariants as stages
use Rattle.afp_server.specs.declared.link.tally.Tally.{Tally}
use Rattle.afp_server.specs.declared.link.wire.WireEnd.{WireEnd}
use Rattle.afp_server.specs.declared.link.wire.WireEnd.TheVariants as wires

-- A wire: its server's status block, what it holds of the bytes fed, how far the link has come, the tally of its last feed, and the
-- end that was answered, if one was.
pub record WireState : Type 0 where
  pub block : List ℕ
  pub held : Buffered
  pub stage : Stage
  pub tally : Tally
  pub end : Option WireEnd

-- the link of the session that is open, if one is
abbrev pub open_link : Stage → Option LinkNumber
open_link stages.Fresh = None
open_link (stages.Open link) = Some link
open_link stages.Closing = None

-- Where a piece is fed: the status block, the moment, all bytes that were fed before and the frames that were handled of them, how
-- far the link has come, the bytes in `out`, and what the teller shows.
pub record FeedStart : Type 0 where
  pub block : List ℕ
  pub now : ℕ
  pub bytes : List ℕ
  pub past : List Frame
  pub stage : Stage
  pub out : List ℕ
  pub shown : Shown

-- Where that came to: how far the link has come, the tally of what was answered since, the bytes in `out`, and what the teller shows.
pub record FeedPoint : Type 0 where
  pub stage : Stage
  pub tally : Tally
  pub out : List ℕ
  pub shown : Shown

abbrev pub feed_point : Stage → Tally → List ℕ → Shown → FeedPoint
feed_point stage tally out shown = record { stage = stage; tally = tally; out = out; shown = shown }

-- The frames were handled in order, each step at that moment, and their replies stand behind what was in `out`; the last frame
-- may end the link.
pub record Handled (start : FeedStart) (frames : List Frame) (end : Option FrameEnd) (p : FeedPoint) : Type 0 where
  pub steps : List Step
  pub replies : List Frame
  pub script : Script start.block start.stage frames steps replies p.stage end
  pub moments : All (λ s. s.at ≡ start.now) steps
  pub sent : p.out ≡ start.out ++ spelling_of replies
  pub tally : p.tally ≡ tallied no_tally steps replies
  pub went : Went start.shown steps p.shown

-- Of all these bytes the frames that were given out were handled, none of them ended the link, and the rest is held.
pub record FedSoFar (start : FeedStart) (bytes : List ℕ) (held : Buffered) (p : FeedPoint) : Type 0 where
  pub frames : List Frame
  pub handled : Handled start frames None p
  pub given : GivenOut bytes (start.past ++ frames) held

-- A frame ended the link so; of what stands behind it nothing is said.
pub record FedToEnd (start : FeedStart) (bytes : List ℕ) (end : FrameEnd) (p : FeedPoint) : Type 0 where
  pub frames : List Frame
  pub handled : Handled start frames (Some end) p
  pub left : List ℕ
  pub fills : Fills bytes (start.past ++ frames) left
  pub closing : p.stage ≡ stages.Closing

-- Behind the frames handled there is a bad header.
pub record FedToHeader (start : FeedStart) (bytes : List ℕ) (b : BadFrame) (p : FeedPoint) : Type 0 where
  pub frames : List Frame
  pub handled : Handled start frames None p
  pub stopped : Stopped bytes (start.past ++ frames) b.at b.reason

-- The last frame may not come where it came; it begins where those before it end.
pub record FedToFrame (start : FeedStart) (bytes : List ℕ) (b : BadFrame) (p : FeedPoint) : Type 0 where
  pub before : List Frame
  pub last : Frame
  pub handled : Handled start (before ++ last ∷ []) (Some (ends.Bad b.reason)) p
  pub left : List ℕ
  pub fills : Fills bytes (start.past ++ before) left
  pub begins : Begins left last
  pub place : b.at + length left ≡ length bytes

-- There was no memory before the next frame: some frames were handled, in order, and no step is of another one.
pub record FedInPart (start : FeedStart) (bytes : List ℕ) (p : FeedPoint) : Type 0 where
  pub frames : List Frame
  pub handled : Handled start frames None p
  pub left : List ℕ
  pub fills : Fills bytes (start.past ++ frames) left

-- why it ended
abbrev pub FedTo : FeedStart → List ℕ → WireEnd → FeedPoint → Type 0
FedTo start bytes wires.Closed p = FedToEnd start bytes ends.Closed p
FedTo start bytes wires.Displaced p = FedToEnd start bytes ends.Displaced p
FedTo start bytes (wires.Bad b) p = FedToHeader start bytes b p ⊎ FedToFrame start bytes b p
FedTo start bytes wires.Memory p = FedInPart start bytes p

-- All whole frames of these bytes were handled, and less than a frame is left; or the link ended.
abbrev pub Feeds : FeedStart → List ℕ → Option WireEnd → Buffered → FeedPoint → Type 0
Feeds start bytes None held p = FedSoFar start bytes held p × IsUnfinished held.rest
Feeds start bytes (Some end) held p = FedTo start bytes end p

-- The end of a link, with what was asked at it.
pub record PartsBy (stage : Stage) (now : ℕ) (before after : Shown) : Type 0 where
  pub steps : List Step
  pub parts : Parts stage now steps
  pub went : Went before steps after
