-- What the calls on a link do.
use Rattle.std.specs.Prelude.{◌≡◌, ◌≢◌, ◌⊎◌, ℕ, ◌+◌, ◌<◌, ◌≤◌, Bool, true, false, List, [], ◌++◌, length, take, drop, Option, Some, None, IfNone, is_some, slice_get, slice_set}
use Rattle.afp_base.specs.declared.ids.LinkNumber.{LinkNumber}
use Rattle.afp_serial.specs.Shown.{Asked, Shown}
use Rattle.afp_serial.specs.declared.ask.Ask.TheVariants as ask
use Rattle.afp_serial.specs.declared.ask.Told.{Told}
use Rattle.afp_server.specs.link.Wire.{Feeds, PartsBy, WireState, feed_point, open_link}
use Rattle.afp_server.specs.declared.link.stage.Stage.{Stage}
use Rattle.afp_server.specs.declared.link.stage.Stage.TheVariants as stages
use Rattle.afp_server.specs.declared.link.wire.WireEnd.{WireEnd}
use Rattle.afp_server.specs.declared.link.wire.WireEnd.TheVariants as wire_ends
use Rattle.dsi_frame.specs.Deframe.{GivenOut}
use Rattle.dsi_frame.specs.Frame.{Frame}
use Rattle.volume_spec.specs.TypedVolume.{are_bytes}
use Rattle.once_across_breaks_code.specs.run.Doings.{fed_at, is_displaced}
use Rattle.once_across_breaks_code.specs.run.Things as things
use Rattle.once_across_breaks_live.specs.Steps.{LossIsTold, WentOn}
use Rattle.once_across_breaks_live.specs.declared.lane.Lane.{Lane}

-- the server end that is there goes on
pub record IsLive (w : WireState) (l : Lane) (x : things.Lane) : Type 0 where
  pub ended : x.ended ≡ false
  pub wire : x.wire ≡ w
  pub goes_on : w.end ≡ None
  pub open_yet : w.stage ≢ stages.Closing
  pub bytes : List ℕ
  pub past : List Frame
  pub given : GivenOut bytes past w.held
  pub most : w.held.place + length w.held.rest ≤ l.fed

abbrev pub HasEnd : Option WireState → Lane → things.Lane → Type 0
HasEnd None l x = x.ended ≡ true
HasEnd (Some w) l x = IsLive w l x

-- what is held of a link is this link
pub record IsLane (l : Lane) (x : things.Lane) : Type 0 where
  pub up : x.up ≡ l.up
  pub down : x.down ≡ l.down
  pub end : HasEnd l.wire l x

-- the link of the session that is open there
abbrev pub open_at : Option WireState → Option LinkNumber
open_at None = None
open_at (Some w) = open_link w.stage

-- the wire is there where it goes on; its memory sufficed
abbrev pub IsStill : WireState → Option WireEnd → Option WireState → Type 0
IsStill w None there = there ≡ Some w
IsStill w (Some wire_ends.Memory) there = ⊥
IsStill w (Some wire_ends.Closed) there = there ≡ None
IsStill w (Some wire_ends.Displaced) there = there ≡ None
IsStill w (Some (wire_ends.Bad b)) there = there ≡ None

-- nothing was done
pub record Rests (x : things.Lane) (a : Shown) (l : Lane) (b : Shown) : Type 0 where
  pub lane : IsLane l x
  pub shown : b ≡ a

-- the first so many bytes under way were fed to this wire
pub record FedWith (told : Bool) (size now : ℕ) (w : WireState) (old : Lane) (a : Shown) (new : Lane) (b : Shown) : Type 0 where
  pub after : WireState
  pub result : Option WireEnd
  pub still : IsStill after result new.wire
  pub end : after.end ≡ result
  pub open_yet : IfNone after.end (after.stage ≢ stages.Closing)
  pub total : after.held.place + length after.held.rest ≤ new.fed
  pub feeds : (bytes : List ℕ) (past : List Frame) → GivenOut bytes past w.held
      → Feeds (record { block = w.block; now = now; bytes = bytes; past = past; stage = w.stage; out = old.down; shown = a }) (bytes ++ take size old.up) result after.held
      (feed_point after.stage after.tally new.down b)
  pub up : new.up ≡ drop size old.up
  pub answered : told ≡ true → after.tally.answered ≡ true
  pub typed : are_bytes new.down ≡ true

-- Wire::feed, at a link
pub record IsFedLane (now : ℕ) (x : things.Lane) (a : Shown) (y : things.Lane) (b : Shown) : Type 0 where
  pub live : x.ended ≡ false
  pub piece : List ℕ
  pub some : piece ≢ []
  pub result : Option WireEnd
  pub moved : x.up ≡ piece ++ y.up
  pub feeds : (bytes : List ℕ) (past : List Frame) → GivenOut bytes past x.wire.held
      → Feeds (fed_at x now a bytes past) (bytes ++ piece) result y.wire.held (feed_point y.wire.stage y.wire.tally y.down b)
  pub memory : result ≢ Some wire_ends.Memory
  pub ended : y.ended ≡ is_some result
  pub typed : are_bytes y.down ≡ true

pub record FeedsSome (told : Bool) (n now : ℕ) (x : things.Lane) (a : Shown) (l : Lane) (b : Shown) : Type 0 where
  pub asked : 0 < n
  pub some : x.up ≢ []
  pub new : things.Lane
  pub fed : IsFedLane now x a new b
  pub moved : new.up ≡ drop n x.up
  pub answered : told ≡ true → new.wire.tally.answered ≡ true
  pub lane : IsLane l new
  pub went_on : WentOn a b

abbrev pub FeedsLane : Bool → ℕ → ℕ → things.Lane → Shown → Lane → Shown → Type 0
FeedsLane told n now x a l b = FeedsSome told n now x a l b ⊎ ((x.ended ≡ false → 0 < n → x.up ≢ [] → ⊥) × Rests x a l b)

-- a quiet, at a link
pub record IdlesSome (now : ℕ) (x : things.Lane) (a : Shown) (l : Lane) (b : Shown) : Type 0 where
  pub live : x.ended ≡ false
  pub link : LinkNumber
  pub in_session : x.wire.stage ≡ stages.Open link
  pub told : Told
  pub asked : Asked a now link ask.Pulse told b
  pub lane : IsLane l (record { wire = x.wire; ended = is_displaced told; up = x.up; down = x.down })
  pub went_on : WentOn a b

abbrev pub IdlesLane : ℕ → things.Lane → Shown → Lane → Shown → Type 0
IdlesLane now x a l b = IdlesSome now x a l b ⊎ ((x.ended ≡ false → (link : LinkNumber) → x.wire.stage ≡ stages.Open link → ⊥) × Rests x a l b)

-- the end of a wire that is lost
pub record PartsTold (told : Bool) (stage : Stage) (now : ℕ) (a b : Shown) : Type 0 where
  pub parts : PartsBy stage now a b
  pub answered : told ≡ true → LossIsTold now stage a b

-- a loss, at a link
pub record LosesSome (told : Bool) (now : ℕ) (x : things.Lane) (a : Shown) (l : Lane) (b : Shown) : Type 0 where
  pub live : x.ended ≡ false
  pub parts : PartsBy x.wire.stage now a b
  pub answered : told ≡ true → LossIsTold now x.wire.stage a b
  pub lane : IsLane l (record { wire = x.wire; ended = true; up = x.up; down = x.down })
  pub went_on : WentOn a b

abbrev pub LosesLane : Bool → ℕ → things.Lane → Shown → Lane → Shown → Type 0
LosesLane told now x a l b = LosesSome told now x a l b ⊎ ((x.ended ≡ false → ⊥) × Rests x a l b)

-- the link at that place changed so, and no other
pub record ChangesAt (index : ℕ) (lanes new_lanes : List Lane) (changes : Lane → Lane → Type 0) : Type 0 where
  pub old : Lane
  pub new : Lane
  pub there : slice_get lanes index ≡ Some old
  pub set_there : new_lanes ≡ slice_set lanes index new
  pub changed : changes old new
