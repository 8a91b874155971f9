use Rattle.std.proofs.Common.{Some}
use Rattle.std.proofs.lemmas.Result.{IfOk-weaker}
use Rattle.once_across_breaks_drill.specs.rounds.Linked.{IsServed, waits}
use Rattle.once_across_breaks_drill.proofs.OfRun.Reaching.{goes-behind, lost-linked}
use Rattle.once_across_breaks_drill.proofs.run.breaking.go_behind.Goals as goal

pub go_back-requires : goal.go_back-requires
go_back-requires g c =
    let w = c.requires.4 in
    let x : IsServed c.args.now c.args.linked.link c.requires.1 c.requires.3 c.args.linked.line (g.T.Teller.shown c.args.teller.now) c.in_ok-line.line (g.T.Teller.shown c.lost_round.new.teller) =
    c.in_ok-line.ensures c.args.linked.link c.requires.1 c.requires.3 w.linked.at w.written in
    (c.requires.0, c.requires.1, c.requires.2, c.requires.3, lost-linked c.requires.0 (Some (waits c.requires.1 c.requires.3)) c.requires.2 c.args.linked c.in_ok-line.line x.line_is w.linked)

pub returns : goal.returns
returns g c =
    IfOk-weaker c.go_back.result _ _
    (λ r y token id next call w.
    let x : IsServed c.args.now c.args.linked.link id call c.args.linked.line (g.T.Teller.shown c.args.teller.now) c.in_ok-line.line (g.T.Teller.shown c.lost_round.new.teller) = c.in_ok-line.ensures c.args.linked.link id call w.linked.at w.written in
    goes-behind c.args.now token id next call c.args.linked c.in_ok-line.line (g.T.Teller.shown c.args.teller.now) (g.T.Teller.shown c.lost_round.new.teller) (g.T.Teller.shown c.go_back.new.teller) r x
    (y token id next call (lost-linked token (Some (waits id call)) next c.args.linked c.in_ok-line.line x.line_is w.linked) w.written.good))
    c.go_back.ensures
