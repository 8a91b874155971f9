use Rattle.std.proofs.lemmas.Result.{IfOk-weaker}
use Rattle.once_across_breaks_drill.proofs.OfRounds.OpeningSteps.{awaits-login, logs-in}
use Rattle.once_across_breaks_drill.proofs.rounds.opening.log_in.Goals as goal

pub login_round-requires : goal.login_round-requires
login_round-requires g c =
    awaits-login c.args.now c.args.caller c.new-request.result c.as_slice.result.now (g.T.Teller.shown c.args.teller.now) c.in_ok-linked.linked c.open_round.new.out (g.T.Teller.shown c.open_round.new.teller)
    c.requires.guest c.new-request.ensures c.as_slice.ensures c.in_ok-linked.ensures

pub returns : goal.returns
returns g c =
    IfOk-weaker c.login_round.result _ _
    (λ l y. logs-in c.args.now c.args.caller c.new-request.result c.open_round.new.out c.args.out.now c.login_round.new.out (g.T.Teller.shown c.args.teller.now) (g.T.Teller.shown c.open_round.new.teller) (g.T.Teller.shown c.login_round.new.teller)
    c.in_ok-linked.linked l c.in_ok-linked.ensures y)
    c.login_round.ensures
