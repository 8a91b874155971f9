use Rattle.std.proofs.Common.{sym, ap, ◌∙◌, true}
use Rattle.std.specs.Prelude.{Option}
use Rattle.afp_server.specs.link.Wire.{WireState}
use Rattle.std.proofs.lemmas.Result.{IfOk-weaker}
use Rattle.once_across_breaks_live.proofs.LaneLemmas.{feeds-some, live-of, rests-ended, rests-none}
use Rattle.once_across_breaks_live.proofs.lane.Lane.feed.Goals as goal

pub returns-then-size-eq0 : goal.returns-then-size-eq0
returns-then-size-eq0 g c = λ x is. rests-none true c.args.most c.args.now c.moved-size.result c.args.self.now x _ is c.moved-size.ensures c.if-size-eq0.true

pub returns-in-None : goal.returns-in-None
returns-in-None g c = λ x is. rests-ended true c.args.most c.args.now c.args.self.now _ x _ is (sym c.take.ensures.value ∙ c.in-None.is)
    (ap (λ (o : Option WireState). record { wire = o; fed = c.args.self.now.fed; up = c.args.self.now.up; down = c.args.self.now.down }) c.take.ensures.after)

pub feed_wire-requires-clause-goes_on : goal.feed_wire-requires-clause-goes_on
feed_wire-requires-clause-goes_on g c = (live-of c.args.self.now c.requires.0 c.in-Some.wire c.requires.1 (sym c.take.ensures.value ∙ c.in-Some.is)).goes_on

pub feed_wire-requires-clause-live : goal.feed_wire-requires-clause-live
feed_wire-requires-clause-live g c = (live-of c.args.self.now c.requires.0 c.in-Some.wire c.requires.1 (sym c.take.ensures.value ∙ c.in-Some.is)).open_yet

pub feed_wire-requires-clause-most : goal.feed_wire-requires-clause-most
feed_wire-requires-clause-most g c = (live-of c.args.self.now c.requires.0 c.in-Some.wire c.requires.1 (sym c.take.ensures.value ∙ c.in-Some.is)).most

pub returns-in-Some : goal.returns-in-Some
returns-in-Some g c =
    IfOk-weaker c.feed_wire.result _ _
    (λ told f x is. feeds-some told c.args.most c.args.now c.moved-size.result c.in-Some.wire c.take.new.self c.args.self.now c.feed_wire.new.self x (g.T.Teller.shown c.args.teller.now) (g.T.Teller.shown c.feed_wire.new.teller) is
    (sym c.take.ensures.value ∙ c.in-Some.is) c.moved-size.ensures c.if-size-eq0.false f)
    c.feed_wire.ensures
