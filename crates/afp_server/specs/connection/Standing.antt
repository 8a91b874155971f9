-- Where a link stands between its turns, among others of the same teller (this profile).
use Rattle.std.specs.Prelude.{◌≡◌, ◌≢◌, ◌⊎◌, ℕ, ◌<◌, List, length, Option, Some, None}
use Rattle.afp_base.specs.declared.ids.LinkNumber.{LinkNumber}
use Rattle.afp_outside.specs.ends.Gate.{Passed, with_exited}
use Rattle.afp_outside.specs.ends.Link.{LinkState}
use Rattle.afp_outside.specs.ends.Whole.{Sends, SendsPart}
use Rattle.afp_serial.specs.Shown.{Shown}
use Rattle.afp_serial.specs.Went.{Step, Went}
use Rattle.dsi_frame.specs.Buffered.{Buffered, buffer_length}
use Rattle.dsi_frame.specs.Stream.{IsUnfinished}
use Rattle.afp_server.specs.link.Requests.{Requests}
use Rattle.afp_server.specs.link.Progress.{Start, Point, point, SoFar, Ended, LeavesBy}
use Rattle.afp_server.specs.connection.Turn.{shown_to}
use Rattle.afp_server.specs.declared.connection.standing.Standing.{Standing}
use Rattle.afp_server.specs.declared.connection.standing.Standing.TheVariants as stands
use Rattle.afp_server.specs.declared.connection.standing.Then.{Then}
use Rattle.afp_server.specs.declared.connection.standing.Then.TheVariants as thens
use Rattle.afp_server.specs.declared.link.serve.LinkEnd.{LinkEnd}
use Rattle.afp_server.specs.declared.link.serve.LinkEnd.TheVariants as links
use Rattle.afp_server.specs.declared.link.stage.Stage.{Stage}
use Rattle.afp_server.specs.declared.link.stage.Stage.TheVariants as stages

-- a link of a server with this status block and limit
abbrev pub IsOf : List ℕ → ℕ → Start → Type 0
IsOf block turns start = (start.block ≡ block) × (start.turns ≡ turns)

-- Where a link has come once its reply or request is written: it goes on, or has ended so, or does once it has asked Bye.
abbrev pub ServesThen : Start → ℕ → Then → Point → Type 0
ServesThen start cost thens.GoesOn p = SoFar start p cost
ServesThen start cost (thens.Ends end) p = Ended start end p.stage p.link p.shown p.passed
ServesThen start cost (thens.Leaves number) p = (after : Shown) → LeavesBy p.link.now number p.shown after → Ended start links.Drained stages.Closing p.link after p.passed

-- A reply or a request is under way on a link, and these bytes of it are not written: once they are, and its call has left the gate, the
-- link has come to where that leads; and where they cannot be written, it has ended with that.
pub record IsUnderWay (start : Start) (cost : ℕ) (then : Then) (called : Option LinkNumber) (unsent : List ℕ) (p : Point) : Type 0 where
  pub sent : (link : LinkState) (passed : Passed) → Sends p.link unsent 0 link → passed ≡ with_exited p.passed called
      → ServesThen start cost then (point p.held p.stage p.requests link p.shown passed)
  pub some : 0 < length unsent
  pub unsent_ends : (link : LinkState) → SendsPart p.link unsent link → Ended start links.WriteFault p.stage link p.shown p.passed

-- All that was handled is replied to, and some bytes are left: between two turns there was no memory for them.
pub record IsUnheld (start : Start) (cost : ℕ) (end : LinkEnd) (p : Point) : Type 0 where
  pub memory : end ≡ links.Memory
  pub held : Buffered
  pub some : 0 < length held.rest
  pub so_far : SoFar start (point held p.stage p.requests p.link p.shown p.passed) cost

-- Where a link stands. It ended as one does that is served alone, or there was no memory for what is left of its bytes.
abbrev pub StandsBy : Start → ℕ → Standing → Point → Type 0
StandsBy start cost stands.Waits p = SoFar start p cost
StandsBy start cost stands.More p = SoFar start p cost
StandsBy start cost (stands.Sends unsent then called) p = IsUnderWay start cost then called unsent p
StandsBy start cost (stands.Over end) p = Ended start end p.stage p.link p.shown p.passed ⊎ IsUnheld start cost end p

-- A session that was closed takes no more frames.
abbrev pub IsLive : Stage → Standing → Type 0
IsLive stage stands.Waits = stage ≢ stages.Closing
IsLive stage stands.More = stage ≢ stages.Closing
IsLive stage (stands.Sends unsent then called) = then ≡ thens.GoesOn → stage ≢ stages.Closing
IsLive stage (stands.Over end) = Unit {0}

abbrev pub IsLiveIn : Stage → Option Standing → Type 0
IsLiveIn stage None = stage ≢ stages.Closing
IsLiveIn stage (Some s) = IsLive stage s

-- Where it waits, less than a frame is left, and there is room for more.
abbrev pub RestsAt : Standing → List ℕ → Type 0
RestsAt stands.Waits rest = IsUnfinished rest × (length rest < buffer_length)
RestsAt stands.More rest = Unit {0}
RestsAt (stands.Sends unsent then called) rest = Unit {0}
RestsAt (stands.Over end) rest = Unit {0}

-- The law: where a link stands, it stands behind another link's turn.
abbrev pub OthersLeave : Type 0
OthersLeave = (start : Start) (cost : ℕ) (s : Standing) (held : Buffered) (stage : Stage) (requests : Requests) (link : LinkState) (passed : Passed) (own : List ℕ) (a b : Shown) (steps : List Step)
    → Went a steps b → StandsBy start cost s (point held stage requests link (shown_to own a) passed) → StandsBy start cost s (point held stage requests link (shown_to own b) passed)
