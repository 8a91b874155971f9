use Rattle.std.proofs.Common.{refl, inl, arith}
use Rattle.afp_server.specs.link.Progress.{point}
use Rattle.afp_server.specs.connection.Standing.{IsOf}
use Rattle.afp_server.proofs.OfLink.ReadSteps.{ends-spent}
use Rattle.afp_server.proofs.OfConnection.Turning.{in-turn-none, in-turn-from, in-turn-of}
use Rattle.afp_server.proofs.connection.quiet.be_quiet.Goals as goal

pub returns-then-eq-clause-goes : goal.returns-then-eq-clause-goes
returns-then-eq-clause-goes g c = λ held passed rests. in-turn-none _ _ _ _ refl (λ start shown at. at)

pub returns-then-cost-turn-clause-goes : goal.returns-then-cost-turn-clause-goes
returns-then-cost-turn-clause-goes g c = λ held passed rests.
    in-turn-none _ _ _ _ refl (λ start shown at. (
      at.0,
      inl (ends-spent start (point held c.args.session.now.stage c.args.requests.now (g.L.ReadyLink.link_state c.args.link.now) shown passed) c.args.cost.now at.1 rests.0 (let of = at.0.1 in omega (arith, of, c.if-cost-turn.true))),
    ))

pub returns-in-Some-clause-goes : goal.returns-in-Some-clause-goes
returns-in-Some-clause-goes g c = λ held passed rests.
    in-turn-from _ _ _ _ _ (λ start shown at. (at.0, (at.1, rests.0, (let of = at.0.1 in omega (arith, of, c.if-cost-turn.false)))))
    (in-turn-of _ _ (IsOf c.args.session.now.block c.args.turn.now.turns) _ _ (c.in-Some.ensures.idles (g.L.ReadyLink.link_state c.args.link.now) c.args.cost.now held passed c.be_quiet.ensures (let few = rests.1 in omega (arith, few))))

pub returns-in-None-clause-goes : goal.returns-in-None-clause-goes
returns-in-None-clause-goes g c = λ held passed rests.
    in-turn-from _ _ _ _ _ (λ start shown at. (at.0, (at.1, rests.0, (let of = at.0.1 in omega (arith, of, c.if-cost-turn.false)))))
    (in-turn-of _ _ (IsOf c.args.session.now.block c.args.turn.now.turns) _ _ (c.in-None.ensures.idles (g.L.ReadyLink.link_state c.args.link.now) c.args.cost.now held passed c.be_quiet.ensures (let few = rests.1 in omega (arith, few))))
