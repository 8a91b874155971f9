-- What the code and the proofs go by beside ServerState; no public contract cites it.
use Rattle.afp_core_state.specs.KeptWorld.{KeptWorld}
use Rattle.afp_core.specs.turns.ServerState.{ServerState}

-- the world of a core, beside its keepers
abbrev pub kept_of : ServerState → KeptWorld
kept_of c = record { world = c.world; faults = c.faults; sure = c.sure; settled = c.settled }
