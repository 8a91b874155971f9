use Rattle.once_across_breaks_drill.specs.rounds.Linked.{waits}
use Rattle.once_across_breaks_drill.proofs.OfRun.Reaching.{goes-back}
use Rattle.once_across_breaks_drill.proofs.run.breaking.go_back.Goals as goal

pub returns : goal.returns
returns g c = λ token id next call linked good.
    goes-back c.args.now token id next call c.args.linked c.in_ok-back.back c.new-request.result c.come_back.new.out (g.T.Teller.shown c.args.teller.now) (g.T.Teller.shown c.come_back.new.teller) c.new-request.ensures good
    (c.in_ok-back.ensures token (waits id call) next linked)
