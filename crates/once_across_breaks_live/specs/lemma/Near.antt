-- What the calls at the client's end do.
use Rattle.std.specs.Prelude.{◌≡◌, ◌⊎◌, ℕ, ◌+◌, ◌-◌, ◌<◌, ◌≤◌, Bool, true, not, List, [], ◌∷◌, ◌++◌, length, take, drop, min}
use Rattle.afp_base.specs.Cached.{Answer}
use Rattle.afp_calls_grammar.specs.declared.grammar.call.Call as grammar
use Rattle.afp_client.specs.session.Happens as client
use Rattle.afp_client.specs.session.State.{Client, IsReady, call_frame}
use Rattle.afp_client.specs.session.Takes.{asked}
use Rattle.afp_client.specs.declared.session.event.Event.{Event}
use Rattle.dsi_frame.specs.Buffered.{buffer_length}
use Rattle.dsi_frame.specs.Frame.{canonical_frame}
use Rattle.once_across_breaks_code.specs.run.Doings.{told_in}
use Rattle.once_across_breaks_live.specs.Happens.{GoesOn, is_last}
use Rattle.once_across_breaks_live.specs.Skips.{CanBeAsked}
use Rattle.once_across_breaks_live.specs.declared.client_end.ClientEnd.{ClientEnd}
use Rattle.once_across_breaks_live.specs.declared.lane.Lane.{Lane}

-- the client, the bytes that it wrote and that are under way on its newest link, and its results
pub record Near : Type 0 where
  pub client : Client
  pub up : List ℕ
  pub results : List Answer

abbrev pub near : ClientEnd → List ℕ → Near
near e up = record { client = e.client; up = up; results = e.results.items }

-- the client takes what its next event is
pub record IsTakenNear (event : Event) (old new : Near) : Type 0 where
  pub more : List ℕ
  pub happens : client.Happens old.client old.up event new.client (old.up ++ more)
  pub up : new.up ≡ old.up ++ more
  pub results : new.results ≡ old.results ++ told_in event

-- as many bytes came
abbrev pub came_to : Client → ℕ
came_to c = c.held.place + length c.held.rest

pub record TakesOne (goes_on : Bool) (old new : Near) : Type 0 where
  pub event : Event
  pub is : is_last event ≡ not goes_on
  pub taken : IsTakenNear event old new
  pub total : came_to new.client ≡ came_to old.client
  pub less : goes_on ≡ true → length new.client.held.rest < length old.client.held.rest

-- these events, and a last one
abbrev pub Takings : Near → List Event → Event → Near → Type 0
Takings old [] last new = IsTakenNear last old new
Takings old (e ∷ es) last new = (mid : Near) × GoesOn e × IsTakenNear e old mid × Takings mid es last new

pub record TakesAll (old new : Near) : Type 0 where
  pub events : List Event
  pub last : Event
  pub ends : is_last last ≡ true
  pub takings : Takings old events last new
  pub total : came_to new.client ≡ came_to old.client

-- bytes come, as many as there is room for, and what came is taken
pub record BringsNear (n : ℕ) (old : ClientEnd) (lane : Lane) (new : ClientEnd) (lane_new : Lane) : Type 0 where
  pub fed : Client
  pub size : ℕ
  pub size_is : size ≡ min (min (length lane.down) n) (buffer_length - length old.client.held.rest)
  pub rest : fed.held.rest ≡ old.client.held.rest ++ take size lane.down
  pub state : fed.state ≡ old.client.state
  pub takes : TakesAll (record { client = fed; up = lane.up; results = old.results.items }) (near new lane_new.up)
  pub down : lane_new.down ≡ drop size lane.down
  pub wire : lane_new.wire ≡ lane.wire
  pub fed_same : lane_new.fed ≡ lane.fed
  pub most : came_to new.client ≤ new.came

-- a call is asked
pub record IsAskedNear (call : grammar.Call) (old : ClientEnd) (lane : Lane) (new : ClientEnd) (lane_new : Lane) : Type 0 where
  pub ready : IsReady old.client.state
  pub can : CanBeAsked call
  pub client_is : new.client ≡ record { state = asked old.client.state call; held = old.client.held }
  pub up : lane_new ≡ record { wire = lane.wire; fed = lane.fed; up = lane.up ++ canonical_frame (call_frame old.client.state.next_id call); down = lane.down }
  pub came : new.came ≡ old.came
  pub results : new.results.items ≡ old.results.items

abbrev pub AsksNear : grammar.Call → ClientEnd → Lane → ClientEnd → Lane → Type 0
AsksNear call old lane new lane_new = IsAskedNear call old lane new lane_new
    ⊎ ((IsReady old.client.state → CanBeAsked call → ⊥) × (new ≡ old) × (lane_new ≡ lane))
