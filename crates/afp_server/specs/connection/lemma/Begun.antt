-- A frame that was handled, and a piece that was put on its way, on a link that never waits.
use Rattle.std.specs.Prelude.{◌≡◌, ℕ, ◌+◌, ◌<◌, List, ◌++◌, length, Option, Some, None}
use Rattle.afp_outside.specs.ends.Gate.{Passed}
use Rattle.afp_outside.specs.ends.Link.{LinkState}
use Rattle.afp_outside.specs.ends.Whole.{Sends, SendsPart}
use Rattle.afp_serial.specs.Shown.{Shown}
use Rattle.dsi_frame.specs.Buffered.{Buffered}
use Rattle.dsi_frame.specs.Frame.{Frame, IsSpelling}
use Rattle.afp_server.specs.link.Requests.{Requests}
use Rattle.afp_server.specs.link.lemma.Serving.{end_of_frame}
use Rattle.afp_server.specs.link.Progress.{Start, Point, point, SoFar}
use Rattle.afp_server.specs.connection.Standing.{IsOf, StandsBy}
use Rattle.afp_server.specs.declared.connection.sending.Put.{Put}
use Rattle.afp_server.specs.declared.connection.sending.Put.TheVariants as puts
use Rattle.afp_server.specs.declared.connection.sending.Sent.{Sent}
use Rattle.afp_server.specs.declared.connection.sending.Sent.TheVariants as sents
use Rattle.afp_server.specs.declared.connection.standing.Standing.{Standing}
use Rattle.afp_server.specs.declared.connection.standing.Then.{Then}
use Rattle.afp_server.specs.declared.connection.standing.Then.TheVariants as thens
use Rattle.afp_server.specs.declared.link.serve.LinkEnd.{LinkEnd}
use Rattle.afp_server.specs.declared.link.stage.FrameEnd.{FrameEnd}
use Rattle.afp_server.specs.declared.link.stage.Stage.{Stage}

-- A first part of a piece was written, and these bytes are left.
pub record LeavesSome (old : LinkState) (piece unsent : List ℕ) (new : LinkState) : Type 0 where
  pub part : List ℕ
  pub whole : piece ≡ part ++ unsent
  pub some : 0 < length unsent
  pub sends : Sends old part 0 new

-- by the answer
abbrev pub SendsSome : LinkState → List ℕ → Sent → LinkState → Type 0
SendsSome old piece sents.All new = Sends old piece 0 new
SendsSome old piece (sents.Left n) new = (unsent : List ℕ) × (length unsent ≡ n) × LeavesSome old piece unsent new
SendsSome old piece sents.Failed new = SendsPart old piece new

abbrev pub Puts : LinkState → List ℕ → Put → LinkState → Type 0
Puts old piece puts.All new = Sends old piece 0 new
Puts old piece (puts.Left unsent) new = LeavesSome old piece unsent new
Puts old piece puts.Failed new = SendsPart old piece new

-- The frame at the front was handled: it is given out where the link goes on, and else says why the link ends.
abbrev pub GoesBehind : Buffered → Option FrameEnd → Option LinkEnd → Buffered → Type 0
GoesBehind held None end new = (end ≡ None) × ((f : Frame) (first more : List ℕ) → IsSpelling first f → held.rest ≡ first ++ more → new ≡ record { place = held.place + length first; rest = more })
GoesBehind held (Some e) end new = (end ≡ Some (end_of_frame e held.place)) × (new ≡ held)

-- what follows once the reply to a frame is written
abbrev pub then_of : Option LinkEnd → Then
then_of None = thens.GoesOn
then_of (Some end) = thens.Ends end

-- Where a link goes on, of this server.
abbrev pub StandsAt : List ℕ → ℕ → ℕ → Buffered → Stage → Requests → LinkState → Passed → Start → Shown → Type 0
StandsAt block turns cost held stage requests link passed start shown = IsOf block turns start × SoFar start (point held stage requests link shown passed) cost

-- A reply or a request was begun, or none: the link goes on, or stands so.
abbrev pub Begins : Start → ℕ → Option Standing → Point → Type 0
Begins start cost None p = SoFar start p cost
Begins start cost (Some s) p = StandsBy start cost s p
