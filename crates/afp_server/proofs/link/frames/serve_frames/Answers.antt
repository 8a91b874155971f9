use Rattle.std.proofs.Common.{sym, ◌∙◌}
use Rattle.afp_server.specs.link.Progress.{point}
use Rattle.afp_server.proofs.OfLink.Serving.{ends-header}
use Rattle.afp_server.proofs.link.frames.serve_frames.Goals as goal

pub returns-in-Bad-clause-serves : goal.returns-in-Bad-clause-serves
returns-in-Bad-clause-serves g c = λ start cost block s.
    ends-header start (point c.loop-bad.deframer c.loop-bad.session.stage c.loop-bad.requests (g.L.Link.link_state c.loop-bad.link) (g.T.Teller.shown c.loop-bad.teller) (g.G.Gate.passed c.loop-bad.log)) cost c.in-Bad.bad
    (c.loop-bad.invariant.serves start cost block s) c.in-Bad.ensures.head.0 c.in-Bad.ensures.head.1

pub returns-in-Some-clause-serves : goal.returns-in-Some-clause-serves
returns-in-Some-clause-serves g c = λ start cost block s.
    c.in-Some.ensures.serves start cost (block ∙ sym c.loop-bad.invariant.block) (c.loop-bad.invariant.serves start cost block s)
