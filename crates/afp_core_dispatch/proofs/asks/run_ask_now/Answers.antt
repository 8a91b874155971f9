use Rattle.std.proofs.Common.{ap}
use Rattle.afp_serial.specs.Answered.{tells_bytes}
use Rattle.afp_core_dispatch.proofs.AskLemmas.{ask-as, call-at, call-fits}
use Rattle.afp_core_dispatch.specs.Asks.{told_in}
use Rattle.afp_core_dispatch.proofs.asks.run_ask_now.Goals as goal

pub call-requires-clause-fits : goal.call-requires-clause-fits
call-requires-clause-fits g c =
    call-fits c.args.state.now.world c.args.link.0 c.in-Call.id c.in-Call.write c.in-Call.offset c.in-Call.payload c.args.ask c.in-Call.is c.requires.fits

pub call-requires-clause-room : goal.call-requires-clause-room
call-requires-clause-room g c = c.requires.room (ap tells_bytes c.in-Call.is)

pub returns-in-Call-clause-runs : goal.returns-in-Call-clause-runs
returns-in-Call-clause-runs g c =
    call-at c.args.state.now c.call.new.state c.args.link.0 c.in-Call.id c.in-Call.write c.in-Call.offset c.in-Call.payload c.args.ask (told_in c.call.result c.call.new.out) c.in-Call.is c.call.ensures.runs

pub returns-in_ok-open-in-Open-clause-runs : goal.returns-in_ok-open-in-Open-clause-runs
returns-in_ok-open-in-Open-clause-runs g c = ask-as c.args.state.now _ c.args.link.0 _ _ _ c.in-Open.is (c.in_ok-open-in-Open.ensures c.args.link.0 c.in-Open.attention c.args.out.now)

pub returns-in-Pulse-clause-runs : goal.returns-in-Pulse-clause-runs
returns-in-Pulse-clause-runs g c = ask-as c.args.state.now _ c.args.link.0 _ _ _ c.in-Pulse.is (c.pulse.ensures c.args.out.now)

pub returns-in-Bye-clause-runs : goal.returns-in-Bye-clause-runs
returns-in-Bye-clause-runs g c = ask-as c.args.state.now _ c.args.link.0 _ _ _ c.in-Bye.is (c.end_at.ensures c.args.out.now)

pub returns-in-Lost-clause-runs : goal.returns-in-Lost-clause-runs
returns-in-Lost-clause-runs g c = ask-as c.args.state.now _ c.args.link.0 _ _ _ c.in-Lost.is (c.lose_at.ensures c.args.out.now)

pub returns-in-Drain-clause-runs : goal.returns-in-Drain-clause-runs
returns-in-Drain-clause-runs g c = ask-as c.args.state.now _ c.args.link.0 _ _ _ c.in-Drain.is (c.drain.ensures c.args.link.0 c.args.out.now)
