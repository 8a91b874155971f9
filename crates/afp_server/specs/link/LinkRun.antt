-- What one run of a link is: what its reads gave, what was asked and written, and why it ended (this profile).
use Rattle.std.specs.Prelude.{◌≡◌, ◌⊎◌, ℕ, ◌+◌, ◌<◌, ◌≤◌, Bool, true, false, List, [], ◌∷◌, ◌++◌, length, Option, Some, None, IfSome, option_map}
use Rattle.afp_base.specs.declared.ids.LinkNumber.{LinkNumber}
use Rattle.afp_base.specs.Counts.{CountsOn, Rises}
use Rattle.afp_outside.specs.ends.Link.{Event, piece, quiet, bytes_taken, LinkState}
use Rattle.afp_serial.specs.Household.{Household}
use Rattle.afp_serial.specs.StatusBlock.{status_block}
use Rattle.afp_serial.specs.declared.ask.Ask.TheVariants as ask
use Rattle.afp_serial.specs.declared.ask.Told.{Told}
use Rattle.afp_serial.specs.Went.{Step, step}
use Rattle.dsi_frame.specs.Buffered.{buffer_length}
use Rattle.dsi_frame.specs.Frame.{Frame}
use Rattle.dsi_frame.specs.Stream.{Begins, Spelled, Framed, Stopped}
use Rattle.dsi_frame.specs.declared.frame.BadFrame.{BadFrame}
use Rattle.dsi_frame.specs.declared.frame.DsiCommand.{DsiCommand}
use Rattle.dsi_frame.specs.declared.frame.DsiCommand.TheVariants as commands
use Rattle.dsi_frame.specs.Replies.{spelling_of}
use Rattle.afp_server.specs.link.Trace.{Happening, received, was_quiet, handled, events_in, frames_in, sent_in, steps_in, Standing, begun, Cause, closed, displaced, silent, drained, unwritten, bad, Follows}
use Rattle.afp_server.specs.declared.link.serve.LinkEnd.{LinkEnd}
use Rattle.afp_server.specs.declared.link.serve.LinkEnd.TheVariants as ends
use Rattle.afp_server.specs.declared.link.stage.Stage.{Stage}
use Rattle.afp_server.specs.declared.link.stage.Stage.TheVariants as stages

-- how many of the events are quiets
abbrev pub quiets_in : List Event → ℕ
quiets_in [] = 0
quiets_in (piece written now bytes ∷ events) = quiets_in events
quiets_in (quiet written now ∷ events) = 1 + quiets_in events

-- what reads cost: the bytes taken and the quiets
abbrev pub cost_of : List Event → ℕ
cost_of events = length (bytes_taken events) + quiets_in events

-- A link moved on: its reads gave these events, these bytes were written, and so many writes failed. Faults of reading may be counted
-- beside reads that do not fail, since a read's clock may fail.
pub record Moves (old : LinkState) (events : List Event) (wrote : List ℕ) (failed : ℕ) (new : LinkState) : Type 0 where
  pub told : new.events ≡ option_map (λ before. before ++ events) old.events
  pub coming : old.coming ≡ option_map (λ left. bytes_taken events ++ left) new.coming
  pub written : new.written ≡ option_map (λ before. before ++ wrote) old.written
  pub quiets : CountsOn (quiets_in events) old.quiets new.quiets
  pub read_faults : old.read_faults ≤ new.read_faults
  pub write_faults : CountsOn failed old.write_faults new.write_faults

-- The bytes begin with these frames, one after another, and this is left behind them.
pub record Fills (bytes : List ℕ) (frames : List Frame) (left : List ℕ) : Type 0 where
  pub filled : List ℕ
  pub spelled : Spelled filled frames
  pub whole : bytes ≡ filled ++ left

-- all bytes that were read
abbrev pub bytes_read : List Happening → List ℕ
bytes_read trace = bytes_taken (events_in trace)

-- what had been written before a read
abbrev pub written_before : Event → Option (List ℕ)
written_before (piece written now bytes) = written
written_before (quiet written now) = written

-- how many bytes a read gave
abbrev pub size_of : Event → ℕ
size_of (piece written now bytes) = length bytes
size_of (quiet written now) = 0

-- the most bytes that one read takes
abbrev pub read_limit : ℕ
read_limit = 16384

-- A link reads only where all whole frames that came were handled, all replies to them and all requests of quiets are written behind
-- what was `written` at first, and the cost so far is below the limit; and it takes no more than the limit of a read, and than its
-- buffer has room for.
pub record MayRead (turns : ℕ) (written : Option (List ℕ)) (before : List Happening) (event : Event) : Type 0 where
  pub left : List ℕ
  pub framed : Framed (bytes_read before) (frames_in before) left
  pub sent : written_before event ≡ option_map (λ first. first ++ spelling_of (sent_in before)) written
  pub below : cost_of (events_in before) < turns
  pub size : size_of event ≤ read_limit
  pub room : length left + size_of event ≤ buffer_length

-- Each read of the trace, behind those before, was made where the link may read.
abbrev pub EachMayRead : ℕ → Option (List ℕ) → List Happening → List Happening → Type 0
EachMayRead turns written before [] = Unit {0}
EachMayRead turns written before (received past now bytes ∷ trace) =
    MayRead turns written before (piece past now bytes) × EachMayRead turns written (before ++ received past now bytes ∷ []) trace
EachMayRead turns written before (was_quiet past now idled ∷ trace) =
    MayRead turns written before (quiet past now) × EachMayRead turns written (before ++ was_quiet past now idled ∷ []) trace
EachMayRead turns written before (handled f did ∷ trace) = EachMayRead turns written (before ++ handled f did ∷ []) trace

-- The frames handled begin the bytes that came, and all replies to them and all requests of quiets were written.
pub record IsAnswered (trace : List Happening) (wrote : List ℕ) : Type 0 where
  pub left : List ℕ
  pub fills : Fills (bytes_read trace) (frames_in trace) left
  pub sent : wrote ≡ spelling_of (sent_in trace)

-- A CloseSession was handled, or a call whose session ended with it.
pub record EndsClosed (trace : List Happening) (cause : Option Cause) (wrote : List ℕ) : Type 0 where
  pub why : cause ≡ Some closed
  pub answered : IsAnswered trace wrote

-- A call, or the Pulse of a quiet, was told that its session has another link.
pub record EndsDisplaced (trace : List Happening) (cause : Option Cause) (wrote : List ℕ) : Type 0 where
  pub why : cause ≡ Some displaced
  pub answered : IsAnswered trace wrote

-- At a quiet 60 seconds or more lay between a drain's moment, which its Pulse was told, and that moment; the link asked Bye.
pub record EndsDrained (trace : List Happening) (cause : Option Cause) (wrote : List ℕ) : Type 0 where
  pub why : cause ≡ Some drained
  pub answered : IsAnswered trace wrote

-- At a quiet 120 seconds or more lay between the last byte and that moment.
pub record EndsSilent (trace : List Happening) (cause : Option Cause) (wrote : List ℕ) (last now : ℕ) (new : LinkState) : Type 0 where
  pub why : cause ≡ Some silent
  pub last_read : last ≡ new.last_read
  pub read : now ≡ new.now
  pub answered : IsAnswered trace wrote

-- The link goes on: all whole frames that came were handled, none of them ended it, all replies and requests were written, and less
-- than a frame is left.
pub record Continues (trace : List Happening) (cause : Option Cause) (wrote left : List ℕ) : Type 0 where
  pub why : cause ≡ None
  pub framed : Framed (bytes_read trace) (frames_in trace) left
  pub sent : wrote ≡ spelling_of (sent_in trace)

-- The reads ended, with nothing left behind the frames handled.
pub record EndsWhole (turns : ℕ) (trace : List Happening) (cause : Option Cause) (wrote : List ℕ) (new : LinkState) : Type 0 where
  pub ended : new.ended ≡ true
  pub nothing_comes : IfSome new.coming (λ coming. coming ≡ [])
  pub goes_on : Continues trace cause wrote []
  pub below : cost_of (events_in trace) < turns

-- The reads ended within a frame that begins at this place.
pub record EndsCut (turns : ℕ) (trace : List Happening) (cause : Option Cause) (wrote : List ℕ) (at : ℕ) (new : LinkState) : Type 0 where
  pub ended : new.ended ≡ true
  pub nothing_comes : IfSome new.coming (λ coming. coming ≡ [])
  pub left : List ℕ
  pub goes_on : Continues trace cause wrote left
  pub something_left : 0 < length left
  pub place : at + length left ≡ length (bytes_read trace)
  pub below : cost_of (events_in trace) < turns

-- Behind the frames handled there is a bad header.
pub record EndsAtHeader (trace : List Happening) (cause : Option Cause) (wrote : List ℕ) (b : BadFrame) : Type 0 where
  pub why : cause ≡ None
  pub stopped : Stopped (bytes_read trace) (frames_in trace) b.at b.reason
  pub sent : wrote ≡ spelling_of (sent_in trace)

-- The last frame may not come where it came; it begins where those before it end.
pub record EndsAtFrame (trace : List Happening) (cause : Option Cause) (wrote : List ℕ) (b : BadFrame) : Type 0 where
  pub why : cause ≡ Some (bad b.reason)
  pub before : List Frame
  pub last : Frame
  pub frames : frames_in trace ≡ before ++ last ∷ []
  pub left : List ℕ
  pub fills : Fills (bytes_read trace) before left
  pub begins : Begins left last
  pub place : b.at + length left ≡ length (bytes_read trace)
  pub sent : wrote ≡ spelling_of (sent_in trace)

-- A read failed where the link went on, and its fault is counted.
pub record EndsUnread (turns : ℕ) (trace : List Happening) (cause : Option Cause) (wrote : List ℕ) (old new : LinkState) : Type 0 where
  pub left : List ℕ
  pub goes_on : Continues trace cause wrote left
  pub below : cost_of (events_in trace) < turns
  pub fault : Rises 1 old.read_faults new.read_faults

-- The frame that is written last: the reply to the frame that was handled last, or the request of a quiet that ends with it.
abbrev pub WritesLast : Happening → Option Cause → Frame → Type 0
WritesLast (received past now bytes) cause f = ⊥
WritesLast (was_quiet past now idled) cause f = (idled.request ≡ Some f) × (cause ≡ Some unwritten)
WritesLast (handled last did) cause f = did.reply ≡ Some f

-- The last reply or request could not be written whole: what was written is the frames before it, and a first part of it.
pub record EndsUnwritten (trace : List Happening) (cause : Option Cause) (wrote : List ℕ) : Type 0 where
  pub before : List Happening
  pub last : Happening
  pub happened_last : trace ≡ before ++ last ∷ []
  pub left : List ℕ
  pub fills : Fills (bytes_read trace) (frames_in trace) left
  pub frame : Frame
  pub writes : WritesLast last cause frame
  pub part : List ℕ
  pub lost : List ℕ
  pub some_lost : 0 < length lost
  pub cut : part ++ lost ≡ spelling_of (frame ∷ [])
  pub sent : wrote ≡ spelling_of (sent_in before) ++ part

-- The link would read again, and the cost so far has reached the limit.
pub record EndsSpent (turns : ℕ) (trace : List Happening) (cause : Option Cause) (wrote : List ℕ) : Type 0 where
  pub left : List ℕ
  pub goes_on : Continues trace cause wrote left
  pub reached : turns ≤ cost_of (events_in trace)

-- a request that carries a call
abbrev pub carries_call : DsiCommand → Bool
carries_call commands.Command = true
carries_call commands.Write = true
carries_call commands.GetStatus = false
carries_call commands.OpenSession = false
carries_call commands.Tickle = false
carries_call commands.CloseSession = false
carries_call commands.Attention = false

-- The next frame is a call on an open session, and there was no memory for a copy of its payload: it was not asked.
pub record EndsUncopied (trace : List Happening) (cause : Option Cause) (wrote : List ℕ) (stage : Stage) : Type 0 where
  pub why : cause ≡ None
  pub link : LinkNumber
  pub in_session : stage ≡ stages.Open link
  pub left : List ℕ
  pub fills : Fills (bytes_read trace) (frames_in trace) left
  pub next : Frame
  pub begins : Begins left next
  pub request : next.reply ≡ false
  pub call : carries_call next.command ≡ true
  pub sent : wrote ≡ spelling_of (sent_in trace)

-- Nothing was read behind what happened last: the link has not ended, and its moment is that of what happened.
pub record StaysAt (old : LinkState) (last : Standing) (new : LinkState) : Type 0 where
  pub ended : new.ended ≡ old.ended
  pub now : last.now ≡ new.now

-- Why the link ended, by its answer. It answered that no byte is left exactly where that is Ended or Cut.
abbrev pub EndsBy : ℕ → LinkState → List Happening → Standing → Option Cause → List ℕ → LinkEnd → LinkState → Type 0
EndsBy turns old trace last cause wrote ends.Closed new = EndsClosed trace cause wrote × StaysAt old last new
EndsBy turns old trace last cause wrote ends.Ended new = EndsWhole turns trace cause wrote new
EndsBy turns old trace last cause wrote (ends.Cut at) new = EndsCut turns trace cause wrote at new
EndsBy turns old trace last cause wrote (ends.Bad b) new = (EndsAtHeader trace cause wrote b ⊎ EndsAtFrame trace cause wrote b) × StaysAt old last new
EndsBy turns old trace last cause wrote (ends.Silent last_read now) new = EndsSilent trace cause wrote last_read now new × StaysAt old last new
EndsBy turns old trace last cause wrote ends.Displaced new = EndsDisplaced trace cause wrote × StaysAt old last new
EndsBy turns old trace last cause wrote ends.Drained new = EndsDrained trace cause wrote × StaysAt old last new
EndsBy turns old trace last cause wrote ends.ReadFault new = EndsUnread turns trace cause wrote old new × (new.ended ≡ old.ended)
EndsBy turns old trace last cause wrote ends.WriteFault new = EndsUnwritten trace cause wrote × StaysAt old last new
EndsBy turns old trace last cause wrote ends.Spent new = EndsSpent turns trace cause wrote × StaysAt old last new
EndsBy turns old trace last cause wrote ends.Memory new = EndsUncopied trace cause wrote last.stage × StaysAt old last new

-- how many writes failed: one where the link ended so, and else none
abbrev pub failed_writes : LinkEnd → ℕ
failed_writes ends.Closed = 0
failed_writes ends.Ended = 0
failed_writes (ends.Cut at) = 0
failed_writes (ends.Bad b) = 0
failed_writes (ends.Silent last_read now) = 0
failed_writes ends.Displaced = 0
failed_writes ends.Drained = 0
failed_writes ends.ReadFault = 0
failed_writes ends.WriteFault = 1
failed_writes ends.Spent = 0
failed_writes ends.Memory = 0

-- Where the session is still open at the end, the link tells that it was lost, whatever that is told.
abbrev pub Parts : Stage → ℕ → List Step → Type 0
Parts stages.Fresh now steps = steps ≡ []
Parts (stages.Open link) now steps = (answer : Told) × (steps ≡ step now link ask.Lost answer ∷ [])
Parts stages.Closing now steps = steps ≡ []

-- A link is served, on a server with this status block, up to its end: by a trace of what happened, whose reads were each made
-- where the link may read, and whose events and frames are told where the link tells them.
pub record RunsTo (block : List ℕ) (turns : ℕ) (old : LinkState) (answer : LinkEnd) (stage : Stage) (new : LinkState) (asked : List Step) : Type 0 where
  pub trace : List Happening
  pub last : Standing
  pub cause : Option Cause
  pub wrote : List ℕ
  pub follows : Follows block (begun old) trace last cause
  pub stands : last.stage ≡ stage
  pub last_read : last.last_read ≡ new.last_read
  pub moves : Moves old (events_in trace) wrote (failed_writes answer) new
  pub reads : EachMayRead turns old.written [] trace
  pub ends : EndsBy turns old trace last cause wrote answer new
  pub steps : asked ≡ steps_in trace

-- The same, with what is asked at the end.
pub record IsServed (block : List ℕ) (turns : ℕ) (old : LinkState) (answer : LinkEnd) (new : LinkState) (steps : List Step) : Type 0 where
  pub asked : List Step
  pub parting : List Step
  pub stage : Stage
  pub comes : RunsTo block turns old answer stage new asked
  pub parts : Parts stage new.now parting
  pub all : steps ≡ asked ++ parting

-- There was no memory before a byte was read, and nothing happened.
pub record EndsUnbegun (old : LinkState) (answer : LinkEnd) (new : LinkState) (steps : List Step) : Type 0 where
  pub memory : answer ≡ ends.Memory
  pub unchanged : new ≡ old
  pub nothing_asked : steps ≡ []

-- A whole run of a link.
abbrev pub IsRun : Household → ℕ → LinkState → LinkEnd → LinkState → List Step → Type 0
IsRun house turns old answer new steps =
    IsServed (status_block house) turns old answer new steps ⊎ EndsUnbegun old answer new steps
