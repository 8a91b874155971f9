use Rattle.std.proofs.Common.{ap, ◌∙◌}
use Rattle.afp_core.specs.turns.ServerState.{ServerState}
use Rattle.afptool_lib.proofs.teller.making.NewKeepersTellerMaker.make.Goals as goal

pub returns : goal.returns
returns g c = record { start = ap (λ (s : ServerState). s.world) c.new.ensures.start ∙ c.in_ok-core.ensures.world; history = c.new.ensures.history }
