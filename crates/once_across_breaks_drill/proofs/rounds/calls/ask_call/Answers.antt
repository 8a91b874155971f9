use Rattle.std.proofs.Common.{refl}
use Rattle.once_across_breaks_drill.proofs.OfRounds.Calling.{asks-call, is-ready}
use Rattle.once_across_breaks_drill.proofs.rounds.calls.ask_call.Goals as goal

pub ask-requires-clause-ready : goal.ask-requires-clause-ready
ask-requires-clause-ready c = is-ready c.requires.linked.0 c.requires.linked.1 c.args.linked c.requires.linked.3

pub returns : goal.returns
returns c = λ token id small linked.
    asks-call token id c.args.call.now c.args.linked (record { caller = c.ask.new.self; line = c.args.linked.line; link = c.args.linked.link }) c.args.out.now c.ask.new.out small c.in_ok-fits.ensures linked
    c.in_ok-ask.ensures.state c.in_ok-ask.ensures.frame refl refl
