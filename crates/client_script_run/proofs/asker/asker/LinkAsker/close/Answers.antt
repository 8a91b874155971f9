use Rattle.std.proofs.Common.{length, subst, sym, Option}
use Rattle.client_script_run.specs.asker.Read.{zipped}
use Rattle.client_script_run.specs.asker.Standing.{HasClosed, HasLeft, Stands, first_of}
use Rattle.client_script_run.specs.declared.asker.asker.AskEnd.{AskEnd}
use Rattle.client_script_run.proofs.OfAsker.StandingLemmas.{closes-on, leaves-on}
use Rattle.client_script_run.proofs.asker.asker.LinkAsker.close.Goals as goal

pub returns-in-Ok : goal.returns-in-Ok
returns-in-Ok g c =
    let state = g.D.Link.Link.link_state in
    let inside = c.self.inside in
    let talk = inside.talk in
    let exchanges = zipped inside.exchanges.calls.items inside.exchanges.answers.items in
    let first = first_of inside.beginning.core.value inside.beginning.turns in
    let limits = inside.beginning.limits.items in
    let old = g.D.Dialer.dialer_state inside.beginning.dialer.value in
    let dialer = g.D.Dialer.dialer_state talk.dialer in
    let stands = subst (λ (e : Option AskEnd). Stands state first old limits talk.turns exchanges inside.unanswered.items e talk.link talk.core talk.out (length talk.room.items) talk.noted talk.idle talk.cost inside.place dialer) c.in-None.is c.self.invariant in
    rw (← c.self.view_is) (rw c.in-None.is
    (subst (λ (d : g.row.D.Denot). HasClosed state first old limits exchanges talk.cost (g.D.Dialer.dialer_state d)) (sym c.into_dialer.ensures)
    (closes-on state first old limits talk.turns exchanges talk.link talk.core talk.out (length talk.room.items) talk.noted talk.idle talk.cost inside.place dialer
    (g.D.Dialer.dialer_state c.close.new.self.dialer) c.in-Ok.field-0 stands.1 c.in-Ok.ensures.closes)))

pub returns-in-None : goal.returns-in-None
returns-in-None g c =
    let state = g.D.Link.Link.link_state in
    let inside = c.self.inside in
    let talk = inside.talk in
    let exchanges = zipped inside.exchanges.calls.items inside.exchanges.answers.items in
    let first = first_of inside.beginning.core.value inside.beginning.turns in
    let limits = inside.beginning.limits.items in
    let old = g.D.Dialer.dialer_state inside.beginning.dialer.value in
    let dialer = g.D.Dialer.dialer_state talk.dialer in
    let stands = subst (λ (e : Option AskEnd). Stands state first old limits talk.turns exchanges inside.unanswered.items e talk.link talk.core talk.out (length talk.room.items) talk.noted talk.idle talk.cost inside.place dialer) c.in-None.is c.self.invariant in
    rw (← c.self.view_is) (rw c.in-None.is
    (subst (λ (d : g.row.D.Denot). HasLeft state first old limits exchanges talk.cost inside.place (g.D.Dialer.dialer_state d)) (sym c.into_dialer-in-Err.ensures)
    (leaves-on state first old limits talk.turns exchanges talk.link talk.core talk.out (length talk.room.items) talk.noted talk.idle talk.cost inside.place dialer
    (g.D.Dialer.dialer_state c.close.new.self.dialer) stands.1 c.in-Err.ensures.closes)))
