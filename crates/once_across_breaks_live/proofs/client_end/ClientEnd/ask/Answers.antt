use Rattle.once_across_breaks_live.proofs.NearLemmas.{asks-some, asks-unasked, asks-unready}
use Rattle.once_across_breaks_live.proofs.client_end.ClientEnd.ask.Goals as goal

pub returns-then-not-ready : goal.returns-then-not-ready
returns-then-not-ready c = asks-unready c.args.call.now c.args.self.now c.args.lane.now c.ready.result c.ready.ensures c.if-not-ready.true

pub returns-then-not-can : goal.returns-then-not-can
returns-then-not-can c = asks-unasked c.args.call.now c.args.self.now c.args.lane.now c.in_ok-can.can c.in_ok-can.ensures c.if-not-can.true

pub ask-requires-clause-ready : goal.ask-requires-clause-ready
ask-requires-clause-ready c = c.ready.ensures.0 c.if-not-ready.false

pub ask-requires-clause-command : goal.ask-requires-clause-command
ask-requires-clause-command c = (c.in_ok-can.ensures.0 c.if-not-can.false).askable.command

pub ask-requires-clause-spellable : goal.ask-requires-clause-spellable
ask-requires-clause-spellable c = (c.in_ok-can.ensures.0 c.if-not-can.false).spelt

pub ask-requires-clause-fits : goal.ask-requires-clause-fits
ask-requires-clause-fits c = (c.in_ok-can.ensures.0 c.if-not-can.false).askable.fits

pub returns : goal.returns
returns c =
    asks-some c.args.call.now c.ask.result c.args.self.now c.args.lane.now c.ask.new.self c.ask.new.out (c.ready.ensures.0 c.if-not-ready.false)
    (c.in_ok-can.ensures.0 c.if-not-can.false) c.ask.ensures.state c.ask.ensures.frame
