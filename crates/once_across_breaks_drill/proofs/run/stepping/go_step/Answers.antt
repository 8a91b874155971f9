use Rattle.std.proofs.Common.{◌≡◌}
use Rattle.once_across_breaks_drill.specs.steps.Drilling.{drawn_after}
use Rattle.once_across_breaks_drill.proofs.OfRun.Steps.{drawn-step, goes-step, on-ok, step-goes, step-no-opening}
use Rattle.once_across_breaks_drill.proofs.run.stepping.go_step.Goals as goal

pub make_step-requires-clause-command : goal.make_step-requires-clause-command
make_step-requires-clause-command g c = step-no-opening c.args.drawn.now c.in_ok-step.step.call c.in_ok-step.ensures.call

pub make_step-requires-clause-linked : goal.make_step-requires-clause-linked
make_step-requires-clause-linked g c = (c.requires.linked.0, c.args.drawn.now.id, c.requires.small, c.requires.linked.1)

pub returns-clause-after : goal.returns-clause-after
returns-clause-after g c = on-ok c.count_step.result (c.next.new.self ≡ drawn_after c.args.drawn.now) c.in_ok-step.ensures.after

pub returns-clause-goes : goal.returns-clause-goes
returns-clause-goes g c =
    step-goes c.count_step.result c.args.going c.in_ok-answered.answered c.in_ok-step.step.breaks c.args.drawn.now (g.T.Teller.shown c.args.teller.now) (g.T.Teller.shown c.make_step.new.teller)
    c.count_step.ensures.linked c.count_step.ensures.counts c.count_step.ensures.results
    (λ g' token small linked same counts kept.
    let s = c.in_ok-step.ensures in
    goes-step token c.args.drawn.now c.in_ok-step.step c.args.going g' c.in_ok-answered.answered (g.T.Teller.shown c.args.teller.now) (g.T.Teller.shown c.make_step.new.teller)
    (drawn-step c.args.drawn.now c.in_ok-step.step s.at s.call s.breaks) (c.in_ok-answered.ensures token c.args.drawn.now.id small linked) same counts kept)
