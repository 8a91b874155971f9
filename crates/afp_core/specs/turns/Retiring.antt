-- What settling the keepers of a server comes to (this profile).
use Rattle.std.specs.Prelude.{◌≡◌, ℕ, Bool, List, map}
use Rattle.afp_core.specs.turns.ServerState.{ServerState}
use Rattle.afp_core.specs.keepers.Retiring.{Retires}
use Rattle.afp_core.specs.declared.keepers.retired.Retired.{Retired}
use Rattle.afp_core_state.specs.KeptWorld.{volumes_of}
use Rattle.record_keeper.specs.Settling.{Answers, settled_in}
use Rattle.volume_keeper.specs.kept.Kept.{KeptState}

-- Its volumes stood beside keepers, each of which was asked to settle, once; the numbers are those of the answers.
pub record RetiresServer {K : Type 0} (faults : K → ℕ) (sure : K → Bool) (settles : K → Answers) (s : ServerState) (r : Retired) : Type 0 where
  pub kept : List KeptState
  pub volumes_are : volumes_of kept ≡ s.world.volumes
  pub faults_are : map (λ k. k.faults) kept ≡ s.faults
  pub sure_are : map (λ k. k.sure) kept ≡ s.sure
  pub settled_are : map (λ k. settled_in k.settles) kept ≡ s.settled
  pub retires : Retires faults sure settles kept r
