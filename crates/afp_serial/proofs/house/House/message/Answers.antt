use Rattle.afp_serial.proofs.Faultless.{faultless}
use Rattle.afp_serial.proofs.house.House.message.Goals as goal

pub returns-clause-sound : goal.returns-clause-sound
returns-clause-sound c = rw (← c.self.view_is) (faultless _ c.self.invariant.0)
