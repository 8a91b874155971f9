use Rattle.std.proofs.Common.{ℕ, ◌++◌, ◌∷◌, [], Option, ap, length, subst, sym, ◌∙◌}
use Rattle.client_script_run.specs.asker.Read.{zipped}
use Rattle.client_script_run.specs.asker.Standing.{Stands, first_of}
use Rattle.client_script_run.specs.declared.asker.asker.AskEnd.{AskEnd}
use Rattle.client_script_run.proofs.OfAsker.StandingLemmas.{limits-open, stands-open}
use Rattle.client_script_run.proofs.asker.asker.LinkAsker.limit.Goals as goal

pub invariant_of-self : goal.invariant_of-self
invariant_of-self g c =
    let state = g.D.Link.Link.link_state in
    let inside = c.self.inside in
    let talk = inside.talk in
    let exchanges = zipped inside.exchanges.calls.items inside.exchanges.answers.items in
    let first = first_of inside.beginning.core.value inside.beginning.turns in
    let limits = inside.beginning.limits.items in
    let more = c.and-self-inside.result.items in
    let old = g.D.Dialer.dialer_state inside.beginning.dialer.value in
    let dialer = g.D.Dialer.dialer_state talk.dialer in
    let stands = subst (λ (e : Option AskEnd). Stands state first old limits talk.turns exchanges inside.unanswered.items e talk.link talk.core talk.out (length talk.room.items) talk.noted talk.idle talk.cost inside.place dialer) c.in-None.is c.self.invariant in
    subst (λ t. Stands state first old more t.turns exchanges inside.unanswered.items inside.ended t.link t.core t.out (length t.room.items) t.noted t.idle t.cost inside.place (g.D.Dialer.dialer_state t.dialer)) (sym c.limit.ensures.same)
    (stands-open state first old more c.args.turns exchanges inside.unanswered.items inside.ended talk.link talk.core talk.out (length talk.room.items) talk.noted talk.idle talk.cost inside.place dialer c.in-None.is stands.0
    (limits-open state first old limits more talk.turns c.args.turns exchanges talk.link talk.core talk.out (length talk.room.items) talk.noted talk.idle talk.cost inside.place dialer stands.1 c.requires c.limit.ensures.limits
    (c.and-self-inside.ensures ∙ ap (λ (n : ℕ). limits ++ (record { turns = c.args.turns; spent = n }) ∷ []) c.cost.ensures)))
