use Rattle.afp_core_state.proofs.HeldLocks.{closing-undoes}
use Rattle.afp_core_state.proofs.laws.closing_undoes_an_open.Goals as goal

pub returns : goal.returns
returns c = closing-undoes
