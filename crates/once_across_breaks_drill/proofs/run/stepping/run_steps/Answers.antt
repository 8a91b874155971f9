use Rattle.std.proofs.Common.{◌≡◌, ◌-◌, arith, subst, sym}
use Rattle.std.specs.Prelude.{map}
use Rattle.once_across_breaks_drill.specs.rounds.Linked.{as_told}
use Rattle.once_across_breaks_drill.specs.steps.Drilling.{Drawn}
use Rattle.once_across_breaks_drill.specs.run.lemma.Going.{HasLeft}
use Rattle.once_across_breaks_drill.proofs.OfRun.Steps.{has-all, has-less, more-left, runs-steps}
use Rattle.once_across_breaks_drill.proofs.run.stepping.run_steps.Goals as goal

pub loop-left-init : goal.loop-left-init
loop-left-init g c = λ token linked. has-all token c.args.number c.args.steps (g.T.Teller.shown c.args.teller.now) c.args.going c.new-drawn.result c.requires.new c.new-drawn.ensures linked

pub go_step-requires-clause-more : goal.go_step-requires-clause-more
go_step-requires-clause-more g c =
    let token = c.requires.linked.0 in
    more-left token c.args.number c.args.steps c.args.going.linked (map as_told c.args.going.results.items) (g.T.Teller.shown c.args.teller.now) c.loop-left.left c.loop-left.drawn c.loop-left.going (g.T.Teller.shown c.loop-left.teller)
    c.requires.most c.loop-left-test.true (c.loop-left.invariant token c.requires.linked.1)

pub go_step-requires-clause-small : goal.go_step-requires-clause-small
go_step-requires-clause-small g c = (c.loop-left.invariant c.requires.linked.0 c.requires.linked.1).small

pub go_step-requires-clause-linked : goal.go_step-requires-clause-linked
go_step-requires-clause-linked g c = (c.requires.linked.0, (c.loop-left.invariant c.requires.linked.0 c.requires.linked.1).linked)

pub loop-left-preserved : goal.loop-left-preserved
loop-left-preserved g c = λ token linked.
    let t = g.T.Teller.shown c.args.teller.now in
    let before = map as_told c.args.going.results.items in
    let u = g.T.Teller.shown c.go_step.new.teller in
    let x = c.loop-left.invariant token linked in
    subst (λ (d : Drawn). HasLeft token c.args.number c.args.steps c.args.going.linked before t (c.loop-left.left - 1) d c.in_ok-going.going u) (sym c.in_ok-going.ensures.after)
    (has-less token c.args.number c.args.steps c.args.going.linked before t c.loop-left.left c.loop-left.drawn c.loop-left.going c.in_ok-going.going (g.T.Teller.shown c.loop-left.teller) u c.loop-left-test.true x
    (c.in_ok-going.ensures.goes token x.small x.linked))

pub returns : goal.returns
returns g c = λ token linked.
    let none : c.loop-left.left ≡ 0 = omega (arith, c.loop-left-test.false) in
    runs-steps token c.args.number c.args.steps c.args.going.linked (map as_told c.args.going.results.items) (g.T.Teller.shown c.args.teller.now) c.loop-left.left c.loop-left.drawn c.loop-left.going (g.T.Teller.shown c.loop-left.teller) none (c.loop-left.invariant token linked)
