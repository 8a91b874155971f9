-- What a frame, all frames that came, and a quiet bring a link to.
use Rattle.std.specs.Prelude.{◌≡◌, ℕ, true, false, ◌<◌, List, length, Option, Some, None}
use Rattle.afp_base.specs.declared.ids.LinkNumber.{LinkNumber}
use Rattle.afp_outside.specs.ends.Link.{LinkState}
use Rattle.afp_outside.specs.ends.Whole.{Sends, SendsPart}
use Rattle.afp_serial.specs.Shown.{Shown}
use Rattle.afp_serial.specs.Went.{Went}
use Rattle.dsi_frame.specs.Buffered.{buffer_length}
use Rattle.dsi_frame.specs.Stream.{IsUnfinished}
use Rattle.dsi_frame.specs.Replies.{listed, spelling_of}
use Rattle.afp_server.specs.link.Requests.{Requests, is_over, request_at, requests_after}
use Rattle.afp_server.specs.link.Trace.{Cause, displaced, silent, drained, unwritten, Idled, Idles}
use Rattle.afp_server.specs.declared.link.serve.LinkEnd.{LinkEnd}
use Rattle.afp_server.specs.declared.link.serve.LinkEnd.TheVariants as links
use Rattle.afp_server.specs.declared.link.stage.FrameEnd.{FrameEnd}
use Rattle.afp_server.specs.declared.link.stage.FrameEnd.TheVariants as ends
use Rattle.afp_server.specs.declared.link.stage.Stage.{Stage}
use Rattle.afp_server.specs.declared.link.stage.Stage.TheVariants as stages
use Rattle.afp_server.specs.link.Progress.{Start, Point, SoFar, Ended, LeavesBy}

-- A frame was handled: from wherever the link had come, it goes on or ends.
abbrev pub ServesFrame : Start → ℕ → Option LinkEnd → Point → Type 0
ServesFrame start cost None p = SoFar start p cost
ServesFrame start cost (Some end) p = Ended start end p.stage p.link p.shown p.passed

-- All frames that came were handled: less than a frame is left, and there is room for more.
abbrev pub ServesFrames : Start → ℕ → Option LinkEnd → Point → Type 0
ServesFrames start cost None p = SoFar start p cost × IsUnfinished p.held.rest × (length p.held.rest < buffer_length)
ServesFrames start cost (Some end) p = Ended start end p.stage p.link p.shown p.passed

-- why a link ends, by the frame that ends it, which begins at this place
abbrev pub end_of_frame : FrameEnd → ℕ → LinkEnd
end_of_frame ends.Closed at = links.Closed
end_of_frame ends.Displaced at = links.Displaced
end_of_frame (ends.Bad reason) at = links.Bad (record { at = at; reason = reason })

-- What a quiet comes to, by why it ends the link, where it does: its request was written, or could not be.
abbrev pub IdleEnds : LinkState → Option LinkEnd → Option Cause → List ℕ → LinkState → Type 0
IdleEnds link None cause wrote end = (cause ≡ None) × Sends link wrote 0 end
IdleEnds link (Some (links.Silent last_read now)) cause wrote end = (cause ≡ Some silent) × Sends link wrote 0 end × (last_read ≡ end.last_read) × (now ≡ end.now)
IdleEnds link (Some links.Displaced) cause wrote end = (cause ≡ Some displaced) × Sends link wrote 0 end
IdleEnds link (Some links.Drained) cause wrote end = (cause ≡ Some drained) × Sends link wrote 0 end
IdleEnds link (Some links.WriteFault) cause wrote end = (cause ≡ Some unwritten) × SendsPart link wrote end
IdleEnds link (Some links.Closed) cause wrote end = ⊥
IdleEnds link (Some links.Ended) cause wrote end = ⊥
IdleEnds link (Some (links.Cut at)) cause wrote end = ⊥
IdleEnds link (Some (links.Bad b)) cause wrote end = ⊥
IdleEnds link (Some links.ReadFault) cause wrote end = ⊥
IdleEnds link (Some links.Spent) cause wrote end = ⊥
IdleEnds link (Some links.Memory) cause wrote end = ⊥

-- A quiet was answered, behind its read: the link goes on, or ends.
pub record IdlesLink (link : LinkState) (stage : Stage) (a : Requests) (before : Shown) (answer : Option LinkEnd) (next : Stage) (b : Requests) (end : LinkState) (after : Shown) : Type 0 where
  pub idled : Idled
  pub cause : Option Cause
  pub idles : Idles link.last_read link.now stage a idled cause
  pub ends : IdleEnds link answer cause (spelling_of (listed idled.request)) end
  pub stage_is : next ≡ idled.stage
  pub requests_is : b ≡ idled.requests
  pub went : Went before idled.steps after

-- What such a quiet comes to behind its Pulse, by why it ends the link, where it does.
abbrev pub OpenEnds : LinkState → LinkNumber → Option ℕ → List ℕ → Shown → Option LinkEnd → Stage → LinkState → Shown → Type 0
OpenEnds link number drain wrote before None next end after = (is_over drain link.now ≡ false) × (next ≡ stages.Open number) × (after ≡ before) × Sends link wrote 0 end
OpenEnds link number drain wrote before (Some links.WriteFault) next end after = (next ≡ stages.Open number) × (after ≡ before) × SendsPart link wrote end
OpenEnds link number drain wrote before (Some links.Drained) next end after =
    (is_over drain link.now ≡ true) × (next ≡ stages.Closing) × Sends link wrote 0 end × LeavesBy link.now number before after
OpenEnds link number drain wrote before (Some links.Closed) next end after = ⊥
OpenEnds link number drain wrote before (Some links.Ended) next end after = ⊥
OpenEnds link number drain wrote before (Some (links.Cut at)) next end after = ⊥
OpenEnds link number drain wrote before (Some (links.Bad b)) next end after = ⊥
OpenEnds link number drain wrote before (Some (links.Silent last_read now)) next end after = ⊥
OpenEnds link number drain wrote before (Some links.Displaced) next end after = ⊥
OpenEnds link number drain wrote before (Some links.ReadFault) next end after = ⊥
OpenEnds link number drain wrote before (Some links.Spent) next end after = ⊥
OpenEnds link number drain wrote before (Some links.Memory) next end after = ⊥

-- The same of an open session at this link, behind a Pulse that was told this drain's moment, or none: by the end, what was asked since.
abbrev pub IdlesOpen : LinkState → LinkNumber → Option ℕ → Requests → Shown → Option LinkEnd → Stage → Requests → LinkState → Shown → Type 0
IdlesOpen link number drain a before answer next b end after =
    (b ≡ requests_after link.now drain a) × OpenEnds link number drain (spelling_of (listed (request_at link.now drain a))) before answer next end after
