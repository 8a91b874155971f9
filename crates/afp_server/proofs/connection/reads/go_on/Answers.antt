use Rattle.std.proofs.Common.{ℕ, List, refl, subst, ◌∙◌}
use Rattle.std.specs.Prelude.{Some, None}
use Rattle.afp_server.specs.link.Progress.{point}
use Rattle.afp_server.specs.connection.Turn.{InTurn}
use Rattle.afp_server.specs.connection.Standing.{IsOf}
use Rattle.afp_server.specs.connection.lemma.Begun.{Begins, StandsAt}
use Rattle.afp_server.proofs.OfConnection.Turning.{in-turn-none, in-turn-join}
use Rattle.afp_server.proofs.connection.reads.go_on.Goals as goal

pub loop-standing-init : goal.loop-standing-init
loop-standing-init g c = record {
  fixed = refl;
  block = refl;
  live = c.requires.live;
  total = c.requires.total;
  turns = in-turn-none _ _ _ _ refl (λ start shown at. at);
}

pub returns-in-Some-clause-goes : goal.returns-in-Some-clause-goes
returns-in-Some-clause-goes g c =
    in-turn-join _ _ _ _ _ _ c.loop-standing.invariant.turns
    (subst (λ (b : List ℕ). InTurn (g.T.Teller.shown c.loop-standing.teller) (g.T.Teller.shown c.step.new.teller)
    (StandsAt b c.args.turn.now.turns c.loop-standing.cost c.loop-standing.deframer c.loop-standing.session.stage c.loop-standing.requests (g.L.ReadyLink.link_state c.loop-standing.link) (g.G.Gate.passed c.loop-standing.log))
    (λ start shown. IsOf b c.args.turn.now.turns start × Begins start c.step.new.cost (Some c.in-Some.standing) (point c.step.new.deframer c.step.new.session.stage c.step.new.requests (g.L.ReadyLink.link_state c.step.new.link) shown (g.G.Gate.passed c.step.new.log))))
    c.loop-standing.invariant.block c.in-Some.ensures.begins)

pub loop-standing-preserved : goal.loop-standing-preserved
loop-standing-preserved g c = record {
  fixed = c.in_default.ensures.fixed ∙ c.loop-standing.invariant.fixed;
  block = c.in_default.ensures.block ∙ c.loop-standing.invariant.block;
  live = c.in_default.ensures.live;
  total = c.in_default.ensures.total;
  turns = in-turn-join _ _ _ _ _ _ c.loop-standing.invariant.turns
      (subst (λ (b : List ℕ). InTurn (g.T.Teller.shown c.loop-standing.teller) (g.T.Teller.shown c.step.new.teller)
      (StandsAt b c.args.turn.now.turns c.loop-standing.cost c.loop-standing.deframer c.loop-standing.session.stage c.loop-standing.requests (g.L.ReadyLink.link_state c.loop-standing.link) (g.G.Gate.passed c.loop-standing.log))
      (λ start shown. IsOf b c.args.turn.now.turns start × Begins start c.step.new.cost None (point c.step.new.deframer c.step.new.session.stage c.step.new.requests (g.L.ReadyLink.link_state c.step.new.link) shown (g.G.Gate.passed c.step.new.log))))
      c.loop-standing.invariant.block c.in_default.ensures.begins);
}
