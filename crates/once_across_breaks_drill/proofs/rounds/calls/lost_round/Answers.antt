use Rattle.afp_client.specs.session.State.{call_frame}
use Rattle.once_across_breaks_drill.proofs.OfRounds.Calling.{is-served}
use Rattle.once_across_breaks_drill.proofs.rounds.calls.lost_round.Goals as goal

pub serve-requires : goal.serve-requires
serve-requires g c = (call_frame c.requires.0 c.requires.1, c.requires.2.good, c.requires.2.spelt)

pub returns : goal.returns
returns g c = λ link id call at written.
    is-served c.requests_are_told_in_order.ensures.calls c.args.now link id call c.args.line c.in-Some.behind c.in_ok-serve.field-0 c.new-reply.result c.serve.new.out (g.T.Teller.shown c.args.teller.now) (g.T.Teller.shown c.serve.new.teller) at c.in-Some.is
    (c.in_ok-serve.ensures (call_frame id call) written.good written.spelt)
