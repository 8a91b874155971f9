use Rattle.afp_serial.proofs.ParmsShown.{volume-is-shown, node-is-shown}
use Rattle.afp_serial.proofs.laws.parameters_are_shown.Goals as goal

pub returns-clause-volume : goal.returns-clause-volume
returns-clause-volume c = volume-is-shown

pub returns-clause-node : goal.returns-clause-node
returns-clause-node c = node-is-shown
