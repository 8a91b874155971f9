use Rattle.std.proofs.Common.{List, length, arith, ap, ◌∙◌, subst}
use Rattle.capture_log_server.specs.States.{ConnectionState, RunningState}
use Rattle.capture_log_server.specs.lemma.Slots.{IdlesAt}
use Rattle.capture_log_server.proofs.RunningLemmas.{lent_back, on_ok_with, quiet-there}
use Rattle.capture_log_server.proofs.running.Running.idle.Goals as goal

pub returns : goal.returns
returns g c =
    let u = g.T.Teller.shown c.idle_at.new.teller in
    let slots = c.idle_at.new.slots in
    let back = lent_back c.self.inside.connections.len slots c.self.inside.connections.items (omega (arith, c.idle_at.auto.slots, ap length c.as_mut_slice-slots.ensures.value)) (omega (arith, c.as_mut_slice-slots.ensures.len, ap length c.as_mut_slice-slots.ensures.value)) in
    on_ok_with c.idle_at.result _ _
    (λ at s first is started.
    quiet-there c.args.self.now _ s first c.args.now c.args.index u slots is started
    (subst (λ (x : RunningState). IdlesAt c.args.now x.connections c.args.index x.teller slots u) c.self.view_is
    (subst (λ (l : List ConnectionState). IdlesAt c.args.now l c.args.index (g.T.Teller.shown c.self.inside.teller) slots u) c.as_mut_slice-slots.ensures.value at))
    (ap (λ (l : List ConnectionState). record { house = c.self.inside.house; teller = u; connections = l; links = c.self.inside.links; replies = c.self.inside.replies; refused = c.self.inside.refused }) back
    ∙ ap (λ (x : RunningState). record x { teller = u; connections = slots }) c.self.view_is))
    c.idle_at.ensures
