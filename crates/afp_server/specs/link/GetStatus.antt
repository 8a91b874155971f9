-- DSIGetStatus (AFP over TCP).
use Rattle.std.specs.Prelude.{ℕ, List}
use Rattle.afp_base.specs.declared.code.Code.TheVariants as code
use Rattle.dsi_frame.specs.Frame.{Frame}
use Rattle.afp_server.specs.link.Did.{Did, replies}
use Rattle.dsi_frame.specs.Replies.{reply_to}
use Rattle.afp_server.specs.declared.link.stage.Stage.{Stage}

-- The status block is the reply, in any phase and whatever the payload; nothing is asked.
abbrev pub gets_status : List ℕ → Stage → Frame → Did
gets_status block stage f = replies (reply_to f code.Ok block) stage
