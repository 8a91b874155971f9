use Rattle.std.proofs.Common.{◌∙◌, ap}
use Rattle.afp_serial.specs.StatusBlock.{status_block}
use Rattle.afp_core_state.specs.KeptWorld.{KeptWorld}
use Rattle.afp_core_calls.proofs.OfSession.TellingLemmas.{info-runs}
use Rattle.afp_core_calls.proofs.session.server.get_srvr_info.Goals as goal

pub returns : goal.returns
unfolding status_block
returns g c = λ number s at.
    info-runs c.args.state.now s _ _ (c.in_ok-block.ensures.block ∙ ap (λ (k : KeptWorld). status_block k.world.house) c.state.view_is) c.done.ensures
