-- How many links a door hands out at which nobody waits (this profile).
use Rattle.std.specs.Prelude.{◌≡◌, ◌≢◌, ℕ, ◌-◌, Option, Some, option_map}
use Rattle.afp_outside.specs.ends.Link.{LinkState}
use Rattle.afp_outside.specs.declared.ends.readiness.Came.{Came}
use Rattle.afp_outside.specs.declared.ends.readiness.Came.TheVariants as comes

-- The door is closed exactly where it has handed out as many links as it may.
abbrev pub LimitsReady : Option ℕ → Came LinkState → Option ℕ → Type 0
LimitsReady old (comes.Link link) new = (old ≢ Some 0) × (new ≡ option_map (λ n. n - 1) old)
LimitsReady old comes.NotYet new = (old ≢ Some 0) × (new ≡ old)
LimitsReady old comes.Closed new = (old ≡ Some 0) × (new ≡ old)
LimitsReady old comes.Failed new = (old ≢ Some 0) × (new ≡ old)
