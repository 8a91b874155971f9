use Rattle.afp_serial.specs.Answered.{told_of}
use Rattle.afp_desk.specs.desk.Calls.{call_of}
use Rattle.afp_desk.proofs.desk.turn.take_turn.Given as goal

abbrev pub ghosts-decide : goal.ghosts-decide
ghosts-decide g a = record { call = call_of a.now a.link a.ask.now.value (told_of a.answered.now a.out.now) }
