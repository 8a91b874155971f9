use Rattle.afp_client.specs.session.State.{call_frame}
use Rattle.dsi_frame.specs.Replies.{reply_to}
use Rattle.once_across_breaks_drill.proofs.OfRounds.Exchanging.{IsNext, ended-served, next-served}
use Rattle.once_across_breaks_drill.proofs.rounds.round.call_round.Goals as goal

pub take-requires : goal.take-requires
take-requires g c =
    let t = g.T.Teller.shown c.args.teller.now in
    let u = g.T.Teller.shown c.serve.new.teller in
    let asked = c.requires.4 in
    let x : IsNext c.args.now c.requires.0 c.requires.1 c.requires.2 c.requires.3 c.args.caller c.args.line c.in-Some.behind c.as_slice.result.now t u =
    next-served c.sound_worlds_stay_sound.ensures.fits c.faults_are_told_of_this_ask.ensures.memory c.requests_are_told_in_order.ensures.calls c.args.now c.requires.0 c.requires.1 c.requires.2 c.requires.3 c.args.caller c.args.line c.in-Some.behind c.in_ok-serve.field-0
    c.args.request.now c.new-reply.result c.serve.new.out c.as_slice.result.now t u (g.met.T.Teller.sound c.args.teller.now) (g.met.T.Teller.sound c.serve.new.teller) asked c.new-reply.ensures c.in-Some.is c.as_slice.ensures
    (c.in_ok-serve.ensures (call_frame c.requires.1 c.requires.2) asked.good asked.spelt) in
    (reply_to (call_frame c.requires.1 c.requires.2) x.tells.code x.tells.block, x.tells.code, c.requires.3 x.tells.code x.tells.block, x.next)

pub returns-in-None : goal.returns-in-None
returns-in-None g c = λ link id call does asked.
    ended-served c.args.now id call c.args.line c.in_ok-serve.field-0 c.new-reply.result c.serve.new.out (g.T.Teller.shown c.args.teller.now) (g.T.Teller.shown c.serve.new.teller) c.new-reply.ensures c.in-None.is
    (c.in_ok-serve.ensures (call_frame id call) asked.good asked.spelt)

pub returns-in_ok-taken-in-Some : goal.returns-in_ok-taken-in-Some
returns-in_ok-taken-in-Some g c = λ link id call does asked.
    let t = g.T.Teller.shown c.args.teller.now in
    let u = g.T.Teller.shown c.serve.new.teller in
    let x : IsNext c.args.now link id call does c.args.caller c.args.line c.in-Some.behind c.as_slice.result.now t u =
    next-served c.sound_worlds_stay_sound.ensures.fits c.faults_are_told_of_this_ask.ensures.memory c.requests_are_told_in_order.ensures.calls c.args.now link id call does c.args.caller c.args.line c.in-Some.behind c.in_ok-serve.field-0
    c.args.request.now c.new-reply.result c.serve.new.out c.as_slice.result.now t u (g.met.T.Teller.sound c.args.teller.now) (g.met.T.Teller.sound c.serve.new.teller) asked c.new-reply.ensures c.in-Some.is c.as_slice.ensures
    (c.in_ok-serve.ensures (call_frame id call) asked.good asked.spelt) in
    let taken = c.in_ok-taken-in-Some.ensures (reply_to (call_frame id call) x.tells.code x.tells.block) x.tells.code (does x.tells.code x.tells.block) x.next in
    record { sent = c.as_slice.result.now; tells = x.tells; other = x.other; state = taken.0; event = taken.1; writes = taken.2 }
