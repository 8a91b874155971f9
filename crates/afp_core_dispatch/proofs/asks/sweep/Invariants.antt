use Rattle.std.proofs.Common.{◌≡◌, length}
use Rattle.afp_serial.specs.Answer.{without_expired}
use Rattle.afp_core_dispatch.specs.Asks.{IsReadyToAsk}
use Rattle.afp_core_dispatch.proofs.asks.sweep.Given as goal

abbrev pub invariant-loop-session : goal.invariant-loop-session
invariant-loop-session g l = IsReadyToAsk l.state.world × (record l.state { world = without_expired l.state.world } ≡ record l.fn.state { world = without_expired l.fn.state.world })

abbrev pub decreases-loop-session : goal.decreases-loop-session
decreases-loop-session g l = length l.state.world.sessions
