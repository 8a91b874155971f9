use Rattle.std.proofs.Common.{ap, arith, length}
use Rattle.once_across_breaks_drill.proofs.OfRounds.Wholes.{between, served-on, served-over}
use Rattle.once_across_breaks_drill.proofs.rounds.line.Line.serve.Goals as goal

pub returns-then-over : goal.returns-then-over
returns-then-over g c = λ f good whole.
    let i = c.self.invariant in
    served-over c.args.now i.bytes i.past f c.self.inside.wire c.args.self c.args.out.now (g.T.Teller.shown c.args.teller.now) c.in_ok-over.over c.feed_whole.new.wire c.feed_whole.new.out (g.T.Teller.shown c.feed_whole.new.teller)
    c.self.view_is c.if-over.true (c.in_ok-over.ensures.feeds i.bytes i.past f i.given i.whole good whole)

pub invariant_of-result : goal.invariant_of-result
invariant_of-result g c =
    let i = c.self.invariant in
    let f = c.requires.0 in
    between c.args.now i.bytes i.past f c.self.inside.wire c.args.out.now (g.T.Teller.shown c.args.teller.now) c.in_ok-over.over c.feed_whole.new.wire c.feed_whole.new.out (g.T.Teller.shown c.feed_whole.new.teller) c.in-Some.fed
    c.if-over.false (omega (arith, c.in_ok-over.ensures.total, i.most, ap length i.whole)) (c.in_ok-over.ensures.feeds i.bytes i.past f i.given i.whole c.requires.1 c.requires.2)

pub returns : goal.returns
returns g c = λ f good whole.
    let i = c.self.invariant in
    served-on c.args.now i.bytes i.past f c.self.inside.wire c.args.self c.args.out.now (g.T.Teller.shown c.args.teller.now) c.in_ok-over.over c.feed_whole.new.wire c.feed_whole.new.out (g.T.Teller.shown c.feed_whole.new.teller)
    c.self.view_is c.if-over.false (c.in_ok-over.ensures.feeds i.bytes i.past f i.given i.whole good whole)
