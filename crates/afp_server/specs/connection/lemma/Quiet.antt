-- A quiet of a link that never waits.
use Rattle.std.specs.Prelude.{◌≡◌, ℕ, ◌<◌, List, Option, Some, None, if◌then◌else◌}
use Rattle.afp_base.specs.declared.ids.LinkNumber.{LinkNumber}
use Rattle.afp_outside.specs.ends.Link.{LinkState}
use Rattle.afp_serial.specs.Shown.{Shown}
use Rattle.dsi_frame.specs.Replies.{listed, spelling_of}
use Rattle.dsi_frame.specs.Stream.{IsUnfinished}
use Rattle.afp_server.specs.link.Requests.{Requests, is_over, request_at, requests_after}
use Rattle.afp_server.specs.link.lemma.Serving.{IdlesOpen}
use Rattle.afp_server.specs.link.Progress.{Start, Point, SoFar}
use Rattle.afp_server.specs.connection.lemma.Begun.{LeavesSome}
use Rattle.afp_server.specs.declared.connection.standing.Standing.{Standing}
use Rattle.afp_server.specs.declared.connection.standing.Standing.TheVariants as stands
use Rattle.afp_server.specs.declared.connection.standing.Then.{Then}
use Rattle.afp_server.specs.declared.connection.standing.Then.TheVariants as thens
use Rattle.afp_server.specs.declared.link.stage.Stage.{Stage}
use Rattle.afp_server.specs.declared.link.stage.Stage.TheVariants as stages

-- It waits for more: less than a frame is left, and it may read.
abbrev pub WaitsAt : Start → ℕ → Point → Type 0
WaitsAt start cost p = SoFar start p cost × IsUnfinished p.held.rest × (cost < start.turns)

-- A request was begun behind a Pulse that was told this drain's moment, or none, and these bytes of it are left.
pub record LeavesRequest (link : LinkState) (number : LinkNumber) (drain : Option ℕ) (a : Requests) (before : Shown) (unsent : List ℕ) (follows : Then) (called : Option LinkNumber) (next : Stage) (b : Requests) (end : LinkState) (after : Shown) : Type 0 where
  pub noted : b ≡ requests_after link.now drain a
  pub left : LeavesSome link (spelling_of (listed (request_at link.now drain a))) unsent end
  pub follows_is : follows ≡ (if is_over drain link.now then thens.Leaves number else thens.GoesOn)
  pub none_called : called ≡ None
  pub open_still : next ≡ stages.Open number
  pub nothing_asked : after ≡ before

-- The same by where the link stands then.
abbrev pub OpensBegun : LinkState → LinkNumber → Option ℕ → Requests → Shown → Option Standing → Stage → Requests → LinkState → Shown → Type 0
OpensBegun link number drain a before None next b end after = IdlesOpen link number drain a before None next b end after
OpensBegun link number drain a before (Some (stands.Over answer)) next b end after = IdlesOpen link number drain a before (Some answer) next b end after
OpensBegun link number drain a before (Some (stands.Sends unsent follows called)) next b end after = LeavesRequest link number drain a before unsent follows called next b end after
OpensBegun link number drain a before (Some stands.Waits) next b end after = ⊥
OpensBegun link number drain a before (Some stands.More) next b end after = ⊥
