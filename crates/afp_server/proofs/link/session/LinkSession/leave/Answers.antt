use Rattle.std.proofs.Common.{[]}
use Rattle.afp_serial.specs.Answered.{told_of}
use Rattle.afp_serial.specs.declared.ask.Ask.TheVariants as asks
use Rattle.afp_serial.proofs.Grows.{went-one}
use Rattle.afp_server.proofs.link.session.LinkSession.leave.Goals as goal

pub returns-clause-leaves : goal.returns-clause-leaves
returns-clause-leaves g c = record { answer = told_of c.ask_bare.result []; went = went-one _ _ c.args.now c.args.link asks.Bye (told_of c.ask_bare.result []) c.ask_bare.ensures.asked }
