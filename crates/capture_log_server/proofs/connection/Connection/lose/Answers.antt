use Rattle.afp_serial.specs.Answered.{told_of}
use Rattle.capture_log_server.proofs.ConnectionLemmas.{ended}
use Rattle.capture_log_server.proofs.connection.Connection.lose.Goals as goal

pub returns-in_ok-is_told-in-Some : goal.returns-in_ok-is_told-in-Some
returns-in_ok-is_told-in-Some g c =
    ended c.args.now c.in-Some.link (told_of c.ask-answered.result c.ask-answered.new.out) c.args.self.now c.end.new.self (g.T.Teller.shown c.args.teller.now) (g.T.Teller.shown c.ask-answered.new.self) c.link.result c.link.ensures c.in-Some.is
    c.ask-answered.ensures.asked (g.met.T.SoleTeller.sole c.args.teller.now) (g.met.T.SoleTeller.sole c.ask-answered.new.self) (c.in_ok-is_told-in-Some.ensures c.ask-answered.new.out) c.end.ensures
