use Rattle.std.proofs.Common.{subst}
use Rattle.afp_core_state.specs.Forks.{AllHeld}
use Rattle.afp_core_state.proofs.HeldLocks.{all-held}
use Rattle.afp_core_state.proofs.forks.OpenForks.keeps_sound.Goals as goal

pub returns : goal.returns
returns c = subst AllHeld c.self.view_is (all-held c.self.inside.table c.keeps_sound.ensures)
