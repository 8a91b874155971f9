use Rattle.std.proofs.Common.{[]}
use Rattle.afp_serial.specs.Answered.{told_of}
use Rattle.afp_serial.specs.declared.ask.Ask.TheVariants as asks
use Rattle.afp_serial.proofs.Grows.{went-one}
use Rattle.afp_server.proofs.link.session.LinkSession.pulse.Goals as goal

pub returns-clause-pulses : goal.returns-clause-pulses
returns-clause-pulses g c =
    (told_of c.ask_bare-answered.result [], c.pulsed.ensures, went-one _ _ c.args.now c.args.link asks.Pulse (told_of c.ask_bare-answered.result []) c.ask_bare-answered.ensures.asked)
