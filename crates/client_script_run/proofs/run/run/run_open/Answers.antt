use Rattle.std.proofs.Common.{ℕ, ap, ◌∙◌}
use Rattle.afp_client.specs.session.State.{Client}
use Rattle.client_script_run.specs.asker.Standing.{first_of}
use Rattle.client_script_run.proofs.OfRun.StopLemmas.{closed-runs, left-runs, unclosed-runs}
use Rattle.client_script_run.proofs.run.run.run_open.Goals as goal

pub returns-in-None : goal.returns-in-None
returns-in-None g c =
    let state = g.D.Link.Link.link_state in
    let took = c.take_lines-ended in
    let was = c.args.asker.asked.fixed in
    let now = took.new.asker in
    let src = g.S.Source.source_state in
    let snk = g.O.Sink.sink_state in
    closed-runs state c.args.turns (first_of was.core.value was.turns) (first_of now.asked.fixed.core.value now.asked.fixed.turns) (g.D.Dialer.dialer_state was.dialer.value) (g.D.Dialer.dialer_state now.asked.fixed.dialer.value) (src c.args.source.now) (snk c.args.out.now)
    took.result.end now.asked.exchanges now.asked.unanswered now.ended now.cost now.place now.asked.fixed.limits.items took.result.closes (g.D.Dialer.dialer_state c.close-finished.result.dialer) (src took.new.source) (snk took.new.out)
    took.ensures.stops (ap (λ (x : Client). first_of x now.asked.fixed.turns) (ap (λ s. s.value) took.ensures.core) ∙ ap (λ (n : ℕ). first_of was.core.value n) took.ensures.turns) (cc took.ensures.dialer) c.close-finished.result.end c.in-None.is c.if-ended.true c.close-finished.ensures

pub returns-in-Some : goal.returns-in-Some
returns-in-Some g c =
    let state = g.D.Link.Link.link_state in
    let took = c.take_lines-ended in
    let was = c.args.asker.asked.fixed in
    let now = took.new.asker in
    let src = g.S.Source.source_state in
    let snk = g.O.Sink.sink_state in
    unclosed-runs state c.args.turns (first_of was.core.value was.turns) (first_of now.asked.fixed.core.value now.asked.fixed.turns) (g.D.Dialer.dialer_state was.dialer.value) (g.D.Dialer.dialer_state now.asked.fixed.dialer.value) (src c.args.source.now) (snk c.args.out.now)
    took.result.end now.asked.exchanges now.asked.unanswered now.ended now.cost now.place now.asked.fixed.limits.items took.result.closes (g.D.Dialer.dialer_state c.close-finished.result.dialer) (src took.new.source) (snk took.new.out)
    took.ensures.stops (ap (λ (x : Client). first_of x now.asked.fixed.turns) (ap (λ s. s.value) took.ensures.core) ∙ ap (λ (n : ℕ). first_of was.core.value n) took.ensures.turns) (cc took.ensures.dialer) c.close-finished.result.end c.in-Some.field-0 c.in-Some.is c.if-ended.true c.close-finished.ensures

pub returns-else-ended : goal.returns-else-ended
returns-else-ended g c =
    let state = g.D.Link.Link.link_state in
    let took = c.take_lines-ended in
    let was = c.args.asker.asked.fixed in
    let now = took.new.asker in
    let src = g.S.Source.source_state in
    let snk = g.O.Sink.sink_state in
    left-runs state c.args.turns (first_of was.core.value was.turns) (first_of now.asked.fixed.core.value now.asked.fixed.turns) (g.D.Dialer.dialer_state was.dialer.value) (g.D.Dialer.dialer_state now.asked.fixed.dialer.value) (src c.args.source.now) (snk c.args.out.now)
    took.result.end now.asked.exchanges now.asked.unanswered now.ended now.cost now.place now.asked.fixed.limits.items took.result.closes (g.D.Dialer.dialer_state c.leave-finished.result.dialer) (src took.new.source) (snk took.new.out)
    took.ensures.stops (ap (λ (x : Client). first_of x now.asked.fixed.turns) (ap (λ s. s.value) took.ensures.core) ∙ ap (λ (n : ℕ). first_of was.core.value n) took.ensures.turns) (cc took.ensures.dialer) c.if-ended.false c.leave-finished.ensures.finishes
