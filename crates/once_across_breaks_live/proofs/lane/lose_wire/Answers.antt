use Rattle.afp_serial.specs.Answered.{told_of}
use Rattle.once_across_breaks_live.proofs.LaneLemmas.{loss-none, loss-some}
use Rattle.once_across_breaks_live.proofs.lane.lose_wire.Goals as goal

pub returns-in-None : goal.returns-in-None
returns-in-None g c = loss-none c.args.wire.now.stage c.link.result c.args.now (g.T.Teller.shown c.args.teller.now) c.link.ensures c.in-None.is

pub returns-in-Some : goal.returns-in-Some
returns-in-Some g c =
    loss-some c.is_told.result c.args.wire.now.stage c.link.result c.in-Some.link c.args.now (told_of c.ask.result c.ask.new.out) (g.T.Teller.shown c.args.teller.now) (g.T.Teller.shown c.ask.new.self)
    c.link.ensures c.in-Some.is c.ask.ensures.asked (c.is_told.ensures c.ask.new.out)
