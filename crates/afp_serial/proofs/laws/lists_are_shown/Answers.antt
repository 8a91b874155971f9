use Rattle.afp_serial.proofs.ListShown.{list-has-its-size, list-is-shown}
use Rattle.afp_serial.proofs.laws.lists_are_shown.Goals as goal

pub returns-clause-size : goal.returns-clause-size
returns-clause-size c = list-has-its-size

pub returns-clause-shown : goal.returns-clause-shown
returns-clause-shown c = list-is-shown
