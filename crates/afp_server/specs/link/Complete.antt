-- Laws of whole runs: that their frames follow the script, and what is served where nothing is in the way (this profile).
use Rattle.std.specs.Prelude.{◌≡◌, ◌⊎◌, ℕ, ◌+◌, ◌-◌, ◌<◌, List, [], ◌++◌, length, Option, Some, None, option_map}
use Rattle.afp_base.specs.Counts.{last_count}
use Rattle.afp_base.specs.declared.ids.LinkNumber.{LinkNumber}
use Rattle.afp_outside.specs.ends.Link.{LinkState}
use Rattle.afp_serial.specs.Went.{Step}
use Rattle.dsi_frame.specs.Frame.{Frame}
use Rattle.dsi_frame.specs.declared.frame.Reason.{Reason}
use Rattle.afp_server.specs.link.LinkRun.{Fills, IsServed}
use Rattle.dsi_frame.specs.Replies.{only_replies, spelling_of}
use Rattle.afp_server.specs.link.Script.{Script}
use Rattle.afp_server.specs.link.Trace.{Happening, frames_in, replies_in, sent_in, frame_steps_in, Standing, Cause, closed, displaced, bad, silent, drained, unwritten, Follows}
use Rattle.afp_server.specs.declared.link.serve.LinkEnd.{LinkEnd}
use Rattle.afp_server.specs.declared.link.serve.LinkEnd.TheVariants as links
use Rattle.afp_server.specs.declared.link.stage.FrameEnd.{FrameEnd}
use Rattle.afp_server.specs.declared.link.stage.FrameEnd.TheVariants as ends
use Rattle.afp_server.specs.declared.link.stage.Stage.{Stage}
use Rattle.afp_server.specs.declared.link.stage.Stage.TheVariants as stages

-- How a script ends, and in which phase, by why the trace ends in that phase: a quiet ends no frame.
abbrev pub ScriptEnds : Option Cause → Stage → Stage → Option FrameEnd → Type 0
ScriptEnds None last after end = (after ≡ last) × (end ≡ None)
ScriptEnds (Some closed) last after end = (after ≡ last) × (end ≡ Some ends.Closed)
ScriptEnds (Some (bad reason)) last after end = (after ≡ last) × (end ≡ Some (ends.Bad reason))
ScriptEnds (Some silent) last after end = (after ≡ last) × (end ≡ None)
ScriptEnds (Some unwritten) last after end = (after ≡ last) × (end ≡ None)
ScriptEnds (Some drained) last after end = (link : LinkNumber) × (after ≡ stages.Open link) × (end ≡ None)
ScriptEnds (Some displaced) last after end =
    ((after ≡ last) × (end ≡ Some ends.Displaced)) ⊎ ((link : LinkNumber) × (after ≡ stages.Open link) × (end ≡ None))

-- The frames of a trace are a script, with the steps that they asked and the replies to them. Each of these is a reply, and of all
-- frames that were written no others are.
pub record IsScripted (block : List ℕ) (stage : Stage) (trace : List Happening) (last : Stage) (cause : Option Cause) : Type 0 where
  pub after : Stage
  pub end : Option FrameEnd
  pub script : Script block stage (frames_in trace) (frame_steps_in trace) (replies_in trace) after end
  pub ends : ScriptEnds cause last after end
  pub are_replies : only_replies (replies_in trace) ≡ replies_in trace
  pub no_others : only_replies (sent_in trace) ≡ replies_in trace

-- The law: what happens follows the script.
abbrev pub FollowsScript : Type 0
FollowsScript = (block : List ℕ) (a b : Standing) (trace : List Happening) (cause : Option Cause) → Follows block a trace b cause → IsScripted block a.stage trace b.stage cause

-- The first of the frames are a script, with just these steps.
pub record BeginsScript (block : List ℕ) (frames : List Frame) (steps : List Step) (end : Option FrameEnd) (replies : List Frame) : Type 0 where
  pub done : List Frame
  pub others : List Frame
  pub split : frames ≡ done ++ others
  pub after : Stage
  pub script : Script block stages.Fresh done steps replies after end

-- The link goes on behind all of the frames, with the first of these steps.
pub record GoesBehind (block : List ℕ) (frames : List Frame) (steps : List Step) : Type 0 where
  pub first : List Step
  pub later : List Step
  pub split : steps ≡ first ++ later
  pub replies : List Frame
  pub after : Stage
  pub script : Script block stages.Fresh frames first replies after None

-- Whole good frames are coming, with what these steps were told: up to the last byte, or to a frame that ends the link. None of them
-- ends it as a bad one.
pub record BringsGood (block bytes : List ℕ) (frames : List Frame) (steps : List Step) : Type 0 where
  pub behind : List ℕ
  pub fills : Fills bytes frames behind
  pub last : (behind ≡ []) ⊎ (GoesBehind block frames steps → ⊥)
  pub none_bad : (reason : Reason) (replies : List Frame) → BeginsScript block frames steps (Some (ends.Bad reason)) replies → ⊥

-- No count of faults rose, and none of the counts stands at its last number.
pub record RunsStill (old new : LinkState) : Type 0 where
  pub read_faults : new.read_faults ≡ old.read_faults
  pub write_faults : new.write_faults ≡ old.write_faults
  pub reads_count : old.read_faults < last_count
  pub writes_count : old.write_faults < last_count
  pub quiets_count : new.quiets < last_count

-- no silence, no other link that took the session, and no server that is about to stop
abbrev pub IsUnhindered : LinkEnd → Type 0
IsUnhindered (links.Silent last now) = ⊥
IsUnhindered links.Displaced = ⊥
IsUnhindered links.Closed = Unit {0}
IsUnhindered links.Ended = Unit {0}
IsUnhindered (links.Cut at) = Unit {0}
IsUnhindered (links.Bad b) = Unit {0}
IsUnhindered links.Drained = ⊥
IsUnhindered links.ReadFault = Unit {0}
IsUnhindered links.WriteFault = Unit {0}
IsUnhindered links.Spent = Unit {0}
IsUnhindered links.Memory = Unit {0}

-- These replies were written, and of all frames that were no others are replies.
abbrev pub Wrote : LinkState → List Frame → LinkState → Type 0
Wrote old replies new =
    (sent : List Frame) × (only_replies sent ≡ replies) × (new.written ≡ option_map (λ before. before ++ spelling_of sent) old.written)

-- What comes of good frames, with the steps that they asked: all of them are handled and replied to, or those up to the one that
-- closes the link; or there was no memory.
abbrev pub ServesAll : List ℕ → List Frame → LinkState → LinkEnd → LinkState → List Step → Type 0
ServesAll block frames old answer new steps =
    (answer ≡ links.Memory)
    ⊎ ((replies : List Frame) × (answer ≡ links.Closed) × BeginsScript block frames steps (Some ends.Closed) replies × Wrote old replies new)
    ⊎ ((replies : List Frame) × (after : Stage) × (answer ≡ links.Ended) × Script block stages.Fresh frames steps replies after None × Wrote old replies new)

-- The law: whole good frames are coming, with what the run's own frames were told, up to the last byte or to one that ends the link;
-- the run is still and unhindered, and the bytes and quiets are below the limit. Then all of them are served.
abbrev pub IsComplete : Type 0
IsComplete = (block bytes : List ℕ) (frames : List Frame) (turns : ℕ) (old new : LinkState) (answer : LinkEnd) (steps : List Step)
    → (served : IsServed block turns old answer new steps) → old.coming ≡ Some bytes → BringsGood block bytes frames (frame_steps_in served.comes.trace)
    → RunsStill old new → IsUnhindered answer → length bytes + (new.quiets - old.quiets) < turns
    → ServesAll block frames old answer new (frame_steps_in served.comes.trace)
