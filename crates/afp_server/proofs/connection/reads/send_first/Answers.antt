use Rattle.std.proofs.Common.{refl, subst}
use Rattle.afp_server.specs.link.Progress.{point}
use Rattle.afp_server.specs.connection.Standing.{StandsBy}
use Rattle.afp_server.specs.declared.connection.standing.Standing.{Standing}
use Rattle.afp_server.proofs.OfConnection.Turning.{in-turn-none, in-turn-from}
use Rattle.afp_server.proofs.connection.reads.send_first.Goals as goal

pub returns-in-Waits-clause-sends : goal.returns-in-Waits-clause-sends
returns-in-Waits-clause-sends g c = λ cost held requests.
    in-turn-none _ _ _ _ refl (λ start shown at. subst (λ (s : Standing). StandsBy start cost s (point held c.args.session.now.stage requests (g.L.ReadyLink.link_state c.args.link.now) shown (g.G.Gate.passed c.args.log.now))) c.in-Waits.is at)

pub returns-in-More-clause-sends : goal.returns-in-More-clause-sends
returns-in-More-clause-sends g c = λ cost held requests.
    in-turn-none _ _ _ _ refl (λ start shown at. subst (λ (s : Standing). StandsBy start cost s (point held c.args.session.now.stage requests (g.L.ReadyLink.link_state c.args.link.now) shown (g.G.Gate.passed c.args.log.now))) c.in-More.is at)

pub returns-in-Over-clause-sends : goal.returns-in-Over-clause-sends
returns-in-Over-clause-sends g c = λ cost held requests.
    in-turn-none _ _ _ _ refl (λ start shown at. subst (λ (s : Standing). StandsBy start cost s (point held c.args.session.now.stage requests (g.L.ReadyLink.link_state c.args.link.now) shown (g.G.Gate.passed c.args.log.now))) c.in-Over.is at)

pub returns-in-Sends-clause-sends : goal.returns-in-Sends-clause-sends
returns-in-Sends-clause-sends g c = λ cost held requests.
    in-turn-from _ _ _ _ _ (λ start shown at. subst (λ (s : Standing). StandsBy start cost s (point held c.args.session.now.stage requests (g.L.ReadyLink.link_state c.args.link.now) shown (g.G.Gate.passed c.args.log.now))) c.in-Sends.is at)
    (c.send_on.ensures.sends cost held requests)
