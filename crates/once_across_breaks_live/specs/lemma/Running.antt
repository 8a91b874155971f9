-- What is held of a client, its links and the teller, and what comes of a happening.
use Rattle.std.specs.Prelude.{◌≡◌, ℕ, ◌<◌, ◌≤◌, ◌-◌, suc, Bool, true, List, [], length, Option, Some, None, slice_get}
use Rattle.afp_client.specs.session.State.{Client}
use Rattle.afp_client.specs.session.Takes.{begun}
use Rattle.afp_serial.specs.Shown.{Shown}
use Rattle.once_across_breaks_code.specs.run.Doings.{Doing}
use Rattle.once_across_breaks_code.specs.run.Things.{Things, begun_lane}
use Rattle.once_across_breaks_live.specs.Happens.{Happens}
use Rattle.once_across_breaks_live.specs.Steps.{Server}
use Rattle.once_across_breaks_live.specs.declared.client_end.ClientEnd.{ClientEnd}
use Rattle.once_across_breaks_live.specs.declared.happening.Happening.{Happening}
use Rattle.once_across_breaks_live.specs.declared.lane.Lane.{Lane}
use Rattle.once_across_breaks_live.specs.lemma.Lanes.{IsLane}
use Rattle.once_across_breaks_live.specs.lemma.Near.{came_to}

-- these things are held so
pub record Stands (end : ClientEnd) (lanes : List Lane) (shown : Shown) (t : Things) : Type 0 where
  pub client : t.client ≡ end.client
  pub most : came_to end.client ≤ end.came
  pub results : t.results ≡ end.results.items
  pub shown_is : t.shown ≡ shown
  pub size : length lanes ≡ suc t.top
  pub each : (i : ℕ) (l : Lane) → slice_get lanes i ≡ Some l → IsLane l (t.lanes i)

-- what is answered only where all was until now
abbrev pub IsSure : Bool → Bool → Type 0
IsSure sure answered = sure ≡ true → answered ≡ true

abbrev pub IsStanding : ClientEnd → List Lane → Shown → Type 0
IsStanding end lanes shown = (t : Things) × Stands end lanes shown t

-- a happening leads from these things to what is held then
pub record Comes (server : Server) (h : Happening) (t : Things) (end : ClientEnd) (lanes : List Lane) (shown : Shown) : Type 0 where
  pub doings : List Doing
  pub last : Things
  pub happens : Happens server h t doings last
  pub stands : Stands end lanes shown last

-- the place of that link among so many
abbrev pub IsPlace : ℕ → ℕ → Option ℕ → Type 0
IsPlace link links None = 0 < link → link ≤ links → ⊥
IsPlace link links (Some i) = (0 < link) × (i ≡ link - 1) × (i < links)

-- a link that the client begins
pub record BeginsLane (block : List ℕ) (old : Client) (lane : Lane) (new : Client) : Type 0 where
  pub client : new ≡ record { state = begun old.state; held = record { place = 0; rest = [] } }
  pub begun_is : IsLane lane (begun_lane block)
