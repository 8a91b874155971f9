use Rattle.std.proofs.Common.{ap}
use Rattle.afp_serial.specs.Answered.{told_of}
use Rattle.once_across_breaks_drill.specs.rounds.Lines.{LineState}
use Rattle.once_across_breaks_drill.proofs.OfRounds.Wholes.{lost}
use Rattle.once_across_breaks_drill.proofs.rounds.line.Line.lose.Goals as goal

pub returns : goal.returns
returns g c =
    lost c.args.now c.in-Some.link (told_of c.ask.result c.ask.new.out) c.args.self c.self.inside.wire.stage c.link.result (g.T.Teller.shown c.args.teller.now) (g.T.Teller.shown c.ask.new.self) c.is_told.result
    c.link.ensures c.in-Some.is (ap (λ (l : LineState). l.stage) c.self.view_is) c.ask.ensures.asked (g.met.T.SoleTeller.sole c.args.teller.now) (g.met.T.SoleTeller.sole c.ask.new.self) (c.is_told.ensures c.ask.new.out)
