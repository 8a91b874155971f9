use Rattle.std.proofs.Common.{subst, sym}
use Rattle.afp_core_state.specs.KeptWorld.{KeptWorld}
use Rattle.afp_core_dispatch.specs.Asks.{IsReadyToAsk}
use Rattle.afp_core_dispatch.proofs.AskLemmas.{ask-fits}
use Rattle.afp_core_dispatch.proofs.ReadyLemmas.{ready-at}
use Rattle.afp_core_dispatch.proofs.asks.run_ask.Goals as goal

pub run_ask_now-requires-clause-ready : goal.run_ask_now-requires-clause-ready
run_ask_now-requires-clause-ready g c = ready-at _ c.args.now _ c.later-state-inside.ensures c.moment_in_range.ensures (subst (λ (k : KeptWorld). IsReadyToAsk k.world) (sym c.state.view_is) c.requires.ready)

pub run_ask_now-requires-clause-fits : goal.run_ask_now-requires-clause-fits
run_ask_now-requires-clause-fits g c =
    let is_ready = subst (λ (k : KeptWorld). IsReadyToAsk k.world) (sym c.state.view_is) c.requires.ready in
    ask-fits _ c.args.now _ c.args.link c.args.ask c.later-state-inside.ensures is_ready.sound c.entry_in_range.ensures
