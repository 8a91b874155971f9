-- A world whose volumes stand beside their keepers (this profile).
use Rattle.afp_serial.specs.Household.{Household}
use Rattle.afp_serial.specs.World.{World, Session}
use Rattle.volume_spec.specs.VolumeState.{VolumeState}
use Rattle.volume_keeper.specs.kept.Kept.{KeptState}
use Rattle.afp_core_state.specs.Forks.{Forks}
use Rattle.record_keeper.specs.Settling.{settled_in}
use Rattle.std.specs.Prelude.{ℕ, Bool, List, map, Option}

-- A world, and of each volume's keeper the count of its faults, whether it is sure (a sure keeper never fails), and how many of its settles went well.
pub record KeptWorld : Type 0 where
  pub world : World
  pub faults : List ℕ
  pub sure : List Bool
  pub settled : List ℕ

-- the volumes alone
abbrev pub volumes_of : List KeptState → List VolumeState
volumes_of kept = map (λ k. k.state) kept

-- the setup with this key of tokens
abbrev pub with_token_key : Household → List ℕ → Household
with_token_key house key = record house { token_key = key }

-- the world of these parts
abbrev pub world_of : Household → ℕ → Option ℕ → ℕ → List Session → Forks → List VolumeState → World
world_of house latest drain next_link sessions forks volumes = record {
  house = house;
  latest = latest;
  drain = drain;
  next_link = next_link;
  sessions = sessions;
  opens = forks.opens;
  locks = forks.locks;
  volumes = volumes;
}

-- a world over volumes beside their keepers
abbrev pub kept_world : World → List KeptState → KeptWorld
kept_world w kept = record { world = w; faults = map (λ k. k.faults) kept; sure = map (λ k. k.sure) kept; settled = map (λ k. settled_in k.settles) kept }
