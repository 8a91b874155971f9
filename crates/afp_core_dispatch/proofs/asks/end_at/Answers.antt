use Rattle.std.proofs.Common.{◌∙◌, ap, sym, subst}
use Rattle.afp_serial.specs.World.{session_at}
use Rattle.afp_core_state.specs.KeptWorld.{KeptWorld}
use Rattle.session_table.specs.Sessions.{IsAt}
use Rattle.afp_core_dispatch.proofs.AskLemmas.{bye-displaced, bye-runs}
use Rattle.afp_core_dispatch.proofs.ReadyLemmas.{ready}
use Rattle.afp_core_dispatch.proofs.asks.end_at.Goals as goal

pub end-requires : goal.end-requires
end-requires g c = ready c.args.state.now.world c.requires

pub returns-in-Some : goal.returns-in-Some
returns-in-Some g c = λ out.
    bye-runs c.args.state.now _ c.args.link.0 c.in-Some.session.0
    (subst (λ (k : KeptWorld). IsAt k.world.sessions c.args.link.0 c.in-Some.session.0) c.state.view_is c.in-Some.ensures)
    c.end.ensures

pub returns-in-None : goal.returns-in-None
returns-in-None g c = λ out. bye-displaced c.args.state.now c.args.link.0 (ap (λ (k : KeptWorld). session_at k.world c.args.link.0) (sym c.state.view_is) ∙ c.in-None.ensures)
