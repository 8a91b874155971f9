-- How far a link has come, between its beginning and its end (this profile).
use Rattle.std.specs.Prelude.{◌≡◌, ℕ, ◌+◌, List, [], ◌∷◌, length, None}
use Rattle.afp_base.specs.declared.ids.LinkNumber.{LinkNumber}
use Rattle.afp_outside.specs.ends.Gate.{Passed}
use Rattle.afp_outside.specs.ends.Link.{LinkState}
use Rattle.afp_serial.specs.Shown.{Shown}
use Rattle.afp_serial.specs.Went.{Step, step, Went}
use Rattle.afp_serial.specs.declared.ask.Ask.TheVariants as asks
use Rattle.afp_serial.specs.declared.ask.Told.{Told}
use Rattle.dsi_frame.specs.Buffered.{Buffered}
use Rattle.dsi_frame.specs.Replies.{spelling_of}
use Rattle.afp_server.specs.link.LinkRun.{Moves, Fills, EachMayRead, RunsTo, bytes_read, cost_of}
use Rattle.afp_server.specs.link.Passing.{all_passed, GoThrough}
use Rattle.afp_server.specs.link.Requests.{Requests}
use Rattle.afp_server.specs.link.Trace.{Happening, events_in, frames_in, sent_in, steps_in, standing, begun, Follows}
use Rattle.afp_server.specs.declared.link.serve.LinkEnd.{LinkEnd}
use Rattle.afp_server.specs.declared.link.stage.Stage.{Stage}

-- Where a link begins: its server's status block, its limit, its state and what its teller shows.
pub record Start : Type 0 where
  pub block : List ℕ
  pub turns : ℕ
  pub link : LinkState
  pub shown : Shown

-- Where it stands: what is buffered, how far it has come, what decides its requests, its state, what its teller shows, and what went
-- through the gate.
pub record Point : Type 0 where
  pub held : Buffered
  pub stage : Stage
  pub requests : Requests
  pub link : LinkState
  pub shown : Shown
  pub passed : Passed

abbrev pub point : Buffered → Stage → Requests → LinkState → Shown → Passed → Point
point held stage requests link shown passed = record { held = held; stage = stage; requests = requests; link = link; shown = shown; passed = passed }

-- All that happened is handled and replied to, and the deframer holds what is left.
pub record SoFar (start : Start) (p : Point) (cost : ℕ) : Type 0 where
  pub trace : List Happening
  pub follows : Follows start.block (begun start.link) trace (standing p.stage p.requests p.link) None
  pub moves : Moves start.link (events_in trace) (spelling_of (sent_in trace)) 0 p.link
  pub ended : p.link.ended ≡ start.link.ended
  pub reads : EachMayRead start.turns start.link.written [] trace
  pub fills : Fills (bytes_read trace) (frames_in trace) p.held.rest
  pub place : p.held.place + length p.held.rest ≡ length (bytes_read trace)
  pub costs : cost ≡ cost_of (events_in trace)
  pub went : Went start.shown (steps_in trace) p.shown
  pub through : p.passed ≡ all_passed (steps_in trace)

-- The link has ended: this is its run, before what is asked at its end.
pub record Ended (start : Start) (answer : LinkEnd) (stage : Stage) (link : LinkState) (shown : Shown) (passed : Passed) : Type 0 where
  pub asked : List Step
  pub comes : RunsTo start.block start.turns start.link answer stage link asked
  pub went : Went start.shown asked shown
  pub through : GoThrough answer asked passed

-- A Bye was asked at this link, whatever it was told.
pub record LeavesBy (now : ℕ) (link : LinkNumber) (before after : Shown) : Type 0 where
  pub answer : Told
  pub went : Went before (step now link asks.Bye answer ∷ []) after
