use Rattle.afptool_lib.proofs.OfTeller.TellerLemmas.{becomes}
use Rattle.afptool_lib.proofs.teller.turning.turn.Goals as goal

pub returns-in_default-clause-turns : goal.returns-in_default-clause-turns
returns-in_default-clause-turns g c = becomes c.args.core.now c.turn.new.self c.args.now c.args.link c.args.ask c.turn.result c.turn.new.out c.turn.ensures.turn c.in_default.not-Memory
