-- The server of a house whose volumes were loaded from their keepers (this profile).
use Rattle.std.specs.Prelude.{◌≡◌, ℕ, Bool, List, map, Option}
use Rattle.afp_core.specs.turns.ServerState.{ServerState, start_server}
use Rattle.afp_core.specs.keepers.Loads.{LoadEach}
use Rattle.afp_core_state.specs.KeptWorld.{volumes_of}
use Rattle.afp_serial.specs.Household.{Household}
use Rattle.volume_keeper.specs.kept.Kept.{KeptState}
use Rattle.record_keeper.specs.Records.{Records}
use Rattle.record_keeper.specs.Settling.{settled_in}

-- a server that nobody has asked, over the volumes that were loaded, and their keepers' counts
pub record IsLoadedServer {K : Type 0} (records : K → Option Records) (sure : K → Bool) (faults : K → ℕ) (house : Household) (now : ℕ) (keepers : List K) (server : ServerState) : Type 0 where
  pub kept : List KeptState
  pub loaded : LoadEach records sure faults now house.volumes keepers kept
  pub start : server ≡ start_server house now (volumes_of kept) (map (λ k. k.faults) kept) (map (λ k. k.sure) kept) (map (λ k. settled_in k.settles) kept)
