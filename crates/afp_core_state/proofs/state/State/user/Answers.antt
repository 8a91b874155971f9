use Rattle.std.proofs.Common.{◌∙◌, ap}
use Rattle.session_table.specs.Sessions.{session_of}
use Rattle.afp_core_state.specs.KeptWorld.{KeptWorld}
use Rattle.afp_core_state.proofs.SessionLemmas.{user-is}
use Rattle.afp_core_state.proofs.state.State.user.Goals as goal

pub returns : goal.returns
returns g c = λ s at.
    let there = ap (λ (k : KeptWorld). session_of k.world.sessions c.args.session.0) c.self.view_is ∙ at in
    user-is s c.user.result c.unwrap_or.result c.unwrap_or.ensures (c.user.ensures s there)
