-- What handling a frame comes to (this profile).
use Rattle.std.specs.Prelude.{List, [], Option, Some, None}
use Rattle.afp_serial.specs.Went.{Step}
use Rattle.dsi_frame.specs.Frame.{Frame}
use Rattle.dsi_frame.specs.declared.frame.Reason.{Reason}
use Rattle.afp_server.specs.declared.link.stage.Stage.{Stage}
use Rattle.afp_server.specs.declared.link.stage.FrameEnd.{FrameEnd}
use Rattle.afp_server.specs.declared.link.stage.FrameEnd.TheVariants as ends

-- The steps that a frame asks, the reply to it, how far the link has come with it, and why it ends the link,
-- where it does.
pub record Did : Type 0 where
  pub steps : List Step
  pub reply : Option Frame
  pub stage : Stage
  pub end : Option FrameEnd

-- nothing: no ask, no reply, and the link goes on
abbrev pub nothing : Stage → Did
nothing stage = record { steps = []; reply = None; stage = stage; end = None }

-- a reply without an ask, and the link goes on
abbrev pub replies : Frame → Stage → Did
replies reply stage = record { steps = []; reply = Some reply; stage = stage; end = None }

-- a frame that may not come here ends the link
abbrev pub is_bad : Reason → Stage → Did
is_bad reason stage = record { steps = []; reply = None; stage = stage; end = Some (ends.Bad reason) }
