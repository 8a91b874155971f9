use Rattle.afp_core_dispatch.proofs.ReadyLemmas.{are-below, ready}
use Rattle.afp_core_dispatch.proofs.call.run.Goals as goal

pub row-requires-clause-below : goal.row-requires-clause-below
row-requires-clause-below g c = are-below c.args.state.now.world c.requires

pub row-requires-clause-ready : goal.row-requires-clause-ready
row-requires-clause-ready g c = ready c.args.state.now.world c.requires
