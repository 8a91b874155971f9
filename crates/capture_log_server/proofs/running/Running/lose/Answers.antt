use Rattle.std.proofs.Common.{List, length, arith, ap, ◌∙◌, subst}
use Rattle.capture_log_server.specs.States.{ConnectionState, RunningState}
use Rattle.capture_log_server.specs.lemma.Slots.{LosesAt}
use Rattle.capture_log_server.proofs.RunningLemmas.{lent_back, on_ok_with, loss-there}
use Rattle.capture_log_server.proofs.running.Running.lose.Goals as goal

pub returns : goal.returns
returns g c =
    let u = g.T.Teller.shown c.lose_at.new.teller in
    let slots = c.lose_at.new.slots in
    let back = lent_back c.self.inside.connections.len slots c.self.inside.connections.items (omega (arith, c.lose_at.auto.slots, ap length c.as_mut_slice-slots.ensures.value)) (omega (arith, c.as_mut_slice-slots.ensures.len, ap length c.as_mut_slice-slots.ensures.value)) in
    on_ok_with c.lose_at.result _ _
    (λ at s first is started.
    loss-there c.args.self.now _ s first c.args.now c.args.index u slots is started
    (subst (λ (x : RunningState). LosesAt c.args.now x.connections c.args.index x.teller slots u) c.self.view_is
    (subst (λ (l : List ConnectionState). LosesAt c.args.now l c.args.index (g.T.Teller.shown c.self.inside.teller) slots u) c.as_mut_slice-slots.ensures.value at))
    (ap (λ (l : List ConnectionState). record { house = c.self.inside.house; teller = u; connections = l; links = c.self.inside.links; replies = c.self.inside.replies; refused = c.self.inside.refused }) back
    ∙ ap (λ (x : RunningState). record x { teller = u; connections = slots }) c.self.view_is))
    c.lose_at.ensures
