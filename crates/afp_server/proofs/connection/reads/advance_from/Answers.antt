use Rattle.std.proofs.Common.{ℕ, List, ◌∙◌, subst}
use Rattle.std.specs.Prelude.{Option, None, Some}
use Rattle.afp_server.specs.link.Progress.{Start, point}
use Rattle.afp_serial.specs.Shown.{Shown}
use Rattle.afp_server.specs.connection.Turn.{InTurn}
use Rattle.afp_server.specs.connection.Standing.{IsOf, StandsBy}
use Rattle.afp_server.specs.connection.lemma.Begun.{Begins, StandsAt}
use Rattle.afp_server.proofs.OfConnection.Turning.{in-turn-of, in-turn-join}
use Rattle.afp_server.proofs.connection.reads.advance_from.Goals as goal

pub returns-in-Some-clause-goes : goal.returns-in-Some-clause-goes
returns-in-Some-clause-goes g c =
    in-turn-of _ _ (IsOf c.args.session.now.block c.args.turn.now.turns) _ _ (c.in-Some.ensures.sends c.args.cost.now c.args.deframer.now c.args.requests.now)

pub returns-in-None-clause-goes : goal.returns-in-None-clause-goes
returns-in-None-clause-goes g c =
    in-turn-join _ _ _ _ _ _
    (in-turn-of _ _ (IsOf c.args.session.now.block c.args.turn.now.turns) _ _ (c.in-None.ensures.sends c.args.cost.now c.args.deframer.now c.args.requests.now))
    (subst (λ (b : List ℕ). InTurn (g.T.Teller.shown c.send_first.new.teller) (g.T.Teller.shown c.go_on.new.teller)
    (StandsAt b c.args.turn.now.turns c.args.cost.now c.args.deframer.now c.send_first.new.session.stage c.args.requests.now (g.L.ReadyLink.link_state c.send_first.new.link) (g.G.Gate.passed c.send_first.new.log))
    (λ start shown. IsOf b c.args.turn.now.turns start × StandsBy start c.go_on.new.cost c.go_on.result (point c.go_on.new.deframer c.go_on.new.session.stage c.go_on.new.requests (g.L.ReadyLink.link_state c.go_on.new.link) shown (g.G.Gate.passed c.go_on.new.log))))
    c.send_first.ensures.block c.go_on.ensures.goes)
