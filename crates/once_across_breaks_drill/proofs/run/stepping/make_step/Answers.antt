use Rattle.std.proofs.lemmas.Result.{IfOk-weaker}
use Rattle.dsi_session.specs.RequestIds.{id_after}
use Rattle.once_across_breaks_drill.proofs.OfRun.Reaching.{waits-for}
use Rattle.once_across_breaks_drill.proofs.OfRun.Steps.{makes-step}
use Rattle.once_across_breaks_drill.proofs.run.stepping.make_step.Goals as goal

pub reach-requires : goal.reach-requires
reach-requires g c =
    let r = c.requires.linked in
    (r.0, r.1, id_after r.1, c.args.step.now.call, waits-for r.0 r.1 c.args.step.now.call c.args.linked c.in_ok-asked.asked c.new-request.result c.ask_call.new.out c.new-request.ensures (c.in_ok-asked.ensures r.0 r.1 r.2 r.3))

pub tell-requires : goal.tell-requires
tell-requires g c =
    let r = c.requires.linked in
    let waits = waits-for r.0 r.1 c.args.step.now.call c.args.linked c.in_ok-asked.asked c.new-request.result c.ask_call.new.out c.new-request.ensures (c.in_ok-asked.ensures r.0 r.1 r.2 r.3) in
    (r.0, r.1, id_after r.1, c.args.step.now.call, (c.in_ok-reached.ensures r.0 r.1 (id_after r.1) c.args.step.now.call waits).waits)

pub returns : goal.returns
returns g c =
    IfOk-weaker c.tell.result _ _
    (λ a y token id small linked.
    let call = c.args.step.now.call in
    let asks = c.in_ok-asked.ensures token id small linked in
    let reaches = c.in_ok-reached.ensures token id (id_after id) call (waits-for token id call c.args.linked c.in_ok-asked.asked c.new-request.result c.ask_call.new.out c.new-request.ensures asks) in
    makes-step c.args.step.now.at token id call c.args.step.now.breaks c.args.linked c.in_ok-asked.asked c.new-request.result c.ask_call.new.out (g.T.Teller.shown c.args.teller.now) (g.T.Teller.shown c.reach.new.teller) (g.T.Teller.shown c.tell.new.teller)
    c.in_ok-reached.reached a asks reaches (y token id (id_after id) call reaches.waits))
    c.tell.ensures
