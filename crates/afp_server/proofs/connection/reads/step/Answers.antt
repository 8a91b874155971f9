use Rattle.std.proofs.Common.{refl, inl, arith}
use Rattle.afp_server.specs.link.Progress.{point}
use Rattle.afp_server.proofs.OfLink.Serving.{ends-header}
use Rattle.afp_server.proofs.OfConnection.Turning.{in-turn-none}
use Rattle.afp_server.proofs.connection.reads.step.Goals as goal

pub returns-in-Bad-clause-begins : goal.returns-in-Bad-clause-begins
returns-in-Bad-clause-begins g c =
    in-turn-none _ _ _ _ refl (λ start shown at. (
      at.0,
      inl (ends-header start (point c.args.deframer.now c.args.session.now.stage c.args.requests.now (g.L.ReadyLink.link_state c.args.link.now) shown (g.G.Gate.passed c.args.log.now)) c.args.cost.now c.in-Bad.bad
          at.1 c.in-Bad.ensures.head.0 c.in-Bad.ensures.head.1),
    ))

pub returns-in-NotYet-clause-begins : goal.returns-in-NotYet-clause-begins
returns-in-NotYet-clause-begins g c =
    in-turn-none _ _ _ _ refl (λ start shown at. (at.0, c.read_some.ensures.reads start c.args.session.now.stage c.args.requests.now shown (g.G.Gate.passed c.args.log.now) at.0.1 at.1))

pub returns-then-frames-eq0-clause-begins : goal.returns-then-frames-eq0-clause-begins
returns-then-frames-eq0-clause-begins g c = in-turn-none _ _ _ _ refl (λ start shown at. at)

pub returns-else-frames-eq0-clause-begins : goal.returns-else-frames-eq0-clause-begins
returns-else-frames-eq0-clause-begins g c = c.begin_frame.ensures.begins c.args.turn.now.turns c.args.cost.now
