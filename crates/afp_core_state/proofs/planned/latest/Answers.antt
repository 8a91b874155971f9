use Rattle.std.proofs.Common.{ap}
use Rattle.afp_core_state.specs.KeptWorld.{KeptWorld}
use Rattle.afp_core_state.proofs.planned.latest.Goals as goal

pub returns : goal.returns
returns g c = ap (λ (k : KeptWorld). k.world.latest) c.state.view_is
