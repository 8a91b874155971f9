use Rattle.std.proofs.Common.{◌∙◌, ap}
use Rattle.afp_serial.specs.StatusBlock.{status_block}
use Rattle.afp_serial.specs.World.{World}
use Rattle.test_once.proofs.server.ServedHousedTeller.house.Goals as goal

pub returns : goal.returns
unfolding status_block
returns c = ap status_block c.house.ensures ∙ ap (λ (w : World). status_block w.house) c.core.ensures.stands
