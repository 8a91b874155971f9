use Rattle.afp_serial.specs.Answered.{told_of}
use Rattle.capture_log_server.proofs.ConnectionLemmas.{idled}
use Rattle.capture_log_server.proofs.connection.Connection.idle.Goals as goal

pub returns-in-Some : goal.returns-in-Some
returns-in-Some g c =
    idled c.args.now c.in-Some.link (told_of c.ask-answered.result c.ask-answered.new.out) c.args.self.now c.pulsed.new.self (g.T.Teller.shown c.args.teller.now) (g.T.Teller.shown c.ask-answered.new.self) c.link.result c.pulsed.result c.link.ensures c.in-Some.is
    c.ask-answered.ensures.asked (g.met.T.SoleTeller.sole c.args.teller.now) (g.met.T.SoleTeller.sole c.ask-answered.new.self) (c.pulsed.ensures.memory c.ask-answered.new.out) (c.pulsed.ensures.is c.ask-answered.new.out)
