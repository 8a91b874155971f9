use Rattle.std.proofs.Common.{refl, subst, inl, ◌∙◌}
use Rattle.afp_server.specs.link.Progress.{point}
use Rattle.afp_server.specs.connection.Standing.{StandsBy, RestsAt}
use Rattle.afp_server.specs.declared.connection.standing.Standing.{Standing}
use Rattle.afp_server.proofs.OfConnection.Turning.{in-turn-none, in-turn-from}
use Rattle.afp_server.proofs.OfConnection.Reading.{given-up}
use Rattle.afp_server.proofs.connection.quiet.tick_from.Goals as goal

pub returns-in-Waits-clause-goes : goal.returns-in-Waits-clause-goes
returns-in-Waits-clause-goes g c = λ held passed rests.
    in-turn-from _ _ _ _ _ (λ start shown at. (at.0, subst (λ (s : Standing). StandsBy start c.args.cost.now s (point held c.args.session.now.stage c.args.requests.now (g.L.ReadyLink.link_state c.args.link.now) shown passed)) c.in-Waits.is at.1))
    (c.be_quiet.ensures.goes held passed (subst (λ (s : Standing). RestsAt s held.rest) c.in-Waits.is rests))

pub returns-in-More-clause-goes : goal.returns-in-More-clause-goes
returns-in-More-clause-goes g c = λ held passed rests.
    in-turn-none _ _ _ _ refl (λ start shown at. (at.0, subst (λ (s : Standing). StandsBy start c.args.cost.now s (point held c.args.session.now.stage c.args.requests.now (g.L.ReadyLink.link_state c.args.link.now) shown passed)) c.in-More.is at.1))

pub returns-in-Over-clause-goes : goal.returns-in-Over-clause-goes
returns-in-Over-clause-goes g c = λ held passed rests.
    in-turn-none _ _ _ _ refl (λ start shown at. (at.0, subst (λ (s : Standing). StandsBy start c.args.cost.now s (point held c.args.session.now.stage c.args.requests.now (g.L.ReadyLink.link_state c.args.link.now) shown passed)) c.in-Over.is at.1))

pub returns-then-is_stuck-clause-goes : goal.returns-then-is_stuck-clause-goes
returns-then-is_stuck-clause-goes g c = λ held passed rests.
    in-turn-none _ _ _ _ refl (λ start shown at.
    let u = subst (λ (s : Standing). StandsBy start c.args.cost.now s (point held c.args.session.now.stage c.args.requests.now (g.L.ReadyLink.link_state c.args.link.now) shown passed)) c.in-Sends.is at.1 in
    (at.0, inl (u.unsent_ends (g.L.ReadyLink.link_state c.give_up.new.self) (given-up (g.L.ReadyLink.link_state c.args.link.now) (g.L.ReadyLink.link_state c.give_up.new.self) c.in-Sends.unsent u.some c.give_up.ensures))))

pub returns-else-is_stuck-clause-goes : goal.returns-else-is_stuck-clause-goes
returns-else-is_stuck-clause-goes g c = λ held passed rests.
    in-turn-none _ _ _ _ refl (λ start shown at. (at.0, subst (λ (s : Standing). StandsBy start c.args.cost.now s (point held c.args.session.now.stage c.args.requests.now (g.L.ReadyLink.link_state c.args.link.now) shown passed)) c.in-Sends.is at.1))
