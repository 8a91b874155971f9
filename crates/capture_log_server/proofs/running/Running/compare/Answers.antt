use Rattle.std.proofs.Common.{List, length, arith, ap, ◌∙◌, subst}
use Rattle.std.proofs.lemmas.Result.{IfOk-weaker}
use Rattle.capture_log_server.specs.States.{ConnectionState, RunningState}
use Rattle.capture_log_server.specs.lemma.Slots.{ComparesAt}
use Rattle.capture_log_server.proofs.RunningLemmas.{lent_back, compare-there}
use Rattle.capture_log_server.proofs.running.Running.compare.Goals as goal

pub returns : goal.returns
returns g c =
    let slots = c.compare_at.new.slots in
    let back = lent_back c.self.inside.connections.len slots c.self.inside.connections.items (omega (arith, c.compare_at.auto.slots, ap length c.as_mut_slice.ensures.value)) (omega (arith, c.as_mut_slice.ensures.len, ap length c.as_mut_slice.ensures.value)) in
    IfOk-weaker c.compare_at.result _ _
    (λ found at s first now is started.
    compare-there c.args.self.now _ s first now c.args.index c.args.wanted.now found slots is started
    (subst (λ (x : RunningState). ComparesAt c.args.wanted.now x.connections c.args.index found slots) c.self.view_is
    (subst (λ (l : List ConnectionState). ComparesAt c.args.wanted.now l c.args.index found slots) c.as_mut_slice.ensures.value at))
    (ap (λ (l : List ConnectionState). record { house = c.self.inside.house; teller = g.T.Teller.shown c.self.inside.teller; connections = l; links = c.self.inside.links; replies = c.self.inside.replies; refused = c.self.inside.refused }) back
    ∙ ap (λ (x : RunningState). record x { connections = slots }) c.self.view_is))
    c.compare_at.ensures
