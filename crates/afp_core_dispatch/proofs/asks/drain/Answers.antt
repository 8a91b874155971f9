use Rattle.std.proofs.Common.{◌∙◌, ap, sym, Some, is_some}
use Rattle.afp_core_state.specs.KeptWorld.{KeptWorld}
use Rattle.afp_core_dispatch.proofs.AskLemmas.{drain-first, drain-kept, drain-runs, with_drain}
use Rattle.afp_core_dispatch.proofs.asks.drain.Goals as goal
use Rattle.afp_core_dispatch.proofs.asks.drain.Goals.{then-is_none, else-is_none}

pub returns : goal.returns
returns g c = λ link out.
    elim c.if-is_none.branch [
      | then-is_none w ↦ drain-runs c.args.state.now c.if-is_none.state link (Some c.args.state.now.world.latest)
          (w.state-is ∙ ap (λ (k : KeptWorld). with_drain k (Some k.world.latest)) c.state.view_is)
          (drain-first c.args.state.now.world.latest c.args.state.now.world.drain (ap (λ (k : KeptWorld). is_some k.world.drain) (sym c.state.view_is) ∙ w.if-is_none.ensures))
      | else-is_none w ↦ drain-runs c.args.state.now c.if-is_none.state link c.args.state.now.world.drain
          w.state-is (drain-kept c.args.state.now.world.latest c.args.state.now.world.drain (ap (λ (k : KeptWorld). is_some k.world.drain) (sym c.state.view_is) ∙ w.if-is_none.ensures))
    ]
