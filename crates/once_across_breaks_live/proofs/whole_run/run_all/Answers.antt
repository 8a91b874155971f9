use Rattle.std.proofs.Common.{arith}
use Rattle.afp_serial.specs.StatusBlock.{status_block}
use Rattle.once_across_breaks_code.specs.run.Things.{begun_things}
use Rattle.once_across_breaks_live.proofs.RunningLemmas.{all-come, comes-on, has-begun, next-behind}
use Rattle.once_across_breaks_live.proofs.whole_run.run_all.Goals as goal

pub loop-event-init : goal.loop-event-init
loop-event-init g c = λ sure is.
    has-begun (record { block = status_block c.args.house.now; answered = sure }) c.args.events.now (begun_things (status_block c.args.house.now) c.args.login (g.T.Teller.shown c.args.teller)) c.in_ok-running.running.end c.in_ok-running.running.lanes.items
    (g.T.Teller.shown c.in_ok-running.running.teller) c.in_ok-running.ensures

pub happen-requires : goal.happen-requires
happen-requires g c =
    let x = c.loop-event.invariant c.loop-event.running.answered (λ e. e) in
    (x.now, x.stands)

pub loop-event-preserved : goal.loop-event-preserved
loop-event-preserved g c = λ sure is.
    let block = status_block c.args.house.now in
    comes-on (record { block = block; answered = sure }) c.args.events.now _ _ c.event-item.result (begun_things block c.args.login (g.T.Teller.shown c.args.teller)) c.loop-event.running.end c.happen.new.self.end c.loop-event.running.lanes.items c.happen.new.self.lanes.items
    (g.T.Teller.shown c.loop-event.running.teller) (g.T.Teller.shown c.happen.new.self.teller) (next-behind c.args.events.now c.loop-event.event-index c.event-item.result (omega arith) c.event-item.is)
    (c.loop-event.invariant sure (λ e. c.in_ok-happen.ensures.kept (is e))) (λ t st. c.in_ok-happen.ensures.comes sure t is st)

pub returns : goal.returns
returns g c =
    all-come (status_block c.args.house.now) c.args.login (g.T.Teller.shown c.args.teller) c.args.events.now c.loop-event.event-index c.loop-event.running.answered c.loop-event.running.end c.loop-event.running.lanes.items
    (g.T.Teller.shown c.loop-event.running.teller) c.what_happens_is_a_schedule.ensures c.what_happens_takes_effect_once.ensures (c.loop-event.invariant c.loop-event.running.answered (λ e. e)) (omega arith)
