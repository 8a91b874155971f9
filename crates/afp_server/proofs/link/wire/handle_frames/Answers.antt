use Rattle.afp_server.specs.link.Wire.{feed_point}
use Rattle.afp_server.proofs.OfLink.WireLemmas.{fed-header}
use Rattle.afp_server.proofs.link.wire.handle_frames.Goals as goal

pub returns-in-Bad-clause-feeds : goal.returns-in-Bad-clause-feeds
returns-in-Bad-clause-feeds g c = λ start bytes block moment s.
    let bad = c.in-Bad.ensures.head in
    fed-header start bytes c.loop-bad.deframer (feed_point c.loop-bad.session.stage c.loop-bad.session.tally c.loop-bad.out (g.T.Teller.shown c.loop-bad.teller)) c.in-Bad.bad
    (c.loop-bad.invariant.feeds start bytes block moment s) bad.0 bad.1
