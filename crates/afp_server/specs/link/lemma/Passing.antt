-- What the code and the proofs go by beside Passing; no public contract cites it.
use Rattle.std.specs.Prelude.{◌≡◌, Bool, true, false, Option, Some, None, Result, Ok, Err}
use Rattle.afp_base.specs.declared.bytes.OutOfMemory.{OutOfMemory}
use Rattle.afp_base.specs.declared.ids.LinkNumber.{LinkNumber}
use Rattle.afp_outside.specs.ends.Gate.{Passed, with_entered}
use Rattle.dsi_frame.specs.declared.frame.DsiCommand.{DsiCommand}
use Rattle.afp_server.specs.link.LinkRun.{carries_call}
use Rattle.afp_server.specs.declared.link.stage.FrameEnd.{FrameEnd}
use Rattle.afp_server.specs.declared.link.stage.Stage.{Stage}
use Rattle.afp_server.specs.declared.link.stage.Stage.TheVariants as stages

abbrev pub if_call : Bool → LinkNumber → Option LinkNumber
if_call true link = Some link
if_call false link = None

-- the link of the session that a frame is a call on, if it is one: a request that carries a call, on an open session
abbrev pub call_link : Bool → Stage → DsiCommand → Option LinkNumber
call_link true stage kind = None
call_link false stages.Fresh kind = None
call_link false (stages.Open link) kind = if_call (carries_call kind) link
call_link false stages.Closing kind = None

-- The call entered the gate before it was asked; where there was no memory for its copy nothing did.
abbrev pub PassesIn : Option LinkNumber → Result (Option FrameEnd) OutOfMemory → Passed → Passed → Type 0
PassesIn called (Ok end) old new = new ≡ with_entered old called
PassesIn called (Err fault) old new = new ≡ old
