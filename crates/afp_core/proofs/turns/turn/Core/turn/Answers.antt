use Rattle.afp_serial.specs.Answered.{told_of}
use Rattle.afp_core.proofs.OfTurns.TurnLemmas.{turned-takes}
use Rattle.afp_core.proofs.turns.turn.Core.turn.Goals as goal

pub returns-in-Ok-clause-turn : goal.returns-in-Ok-clause-turn
returns-in-Ok-clause-turn g c =
    turned-takes c.args.self.now c.step.new.self c.args.now c.args.link c.args.ask (told_of c.in-Ok.answered c.step.new.out) c.in-Ok.field-0-1 c.in-Ok.ensures.step
