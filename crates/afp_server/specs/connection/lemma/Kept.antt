-- What is kept of a link's bytes between its turns.
use Rattle.std.specs.Prelude.{◌≡◌, ℕ, ◌≤◌, List, length}
use Rattle.afp_outside.specs.ends.Gate.{Passed}
use Rattle.afp_outside.specs.ends.Link.{LinkState}
use Rattle.afp_serial.specs.Shown.{Shown}
use Rattle.dsi_frame.specs.Buffered.{Buffered, buffer_length}
use Rattle.afp_server.specs.link.Requests.{Requests}
use Rattle.afp_server.specs.link.Progress.{Start, point}
use Rattle.afp_server.specs.connection.Standing.{IsLive, RestsAt, StandsBy}
use Rattle.afp_server.specs.declared.connection.standing.Standing.{Standing}
use Rattle.afp_server.specs.declared.link.stage.Stage.{Stage}

-- The link stands as before, with these bytes kept, or it has ended.
pub record Keeps (held : Buffered) (old : Standing) (before : LinkState) (rest : List ℕ) (new : Standing) (after : LinkState) : Type 0 where
  pub few : length rest ≤ length held.rest
  pub fits : length rest ≤ buffer_length
  pub live : (stage : Stage) → IsLive stage old → IsLive stage new
  pub rests : RestsAt old held.rest → RestsAt new rest
  pub stands : (start : Start) (cost : ℕ) (stage : Stage) (requests : Requests) (shown : Shown) (passed : Passed) → StandsBy start cost old (point held stage requests before shown passed)
      → StandsBy start cost new (point (record { place = held.place; rest = rest }) stage requests after shown passed)
