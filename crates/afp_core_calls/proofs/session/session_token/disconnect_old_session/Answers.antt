use Rattle.std.proofs.Common.{◌∙◌, ◌==◌, ap, not, subst, List, ℕ, false}
use Rattle.std.specs.Prelude.{Ok as with_ok, Err}
use Rattle.afp_base.specs.declared.code.Code.TheVariants.{Ok}
use Rattle.afp_serial.specs.declared.ask.Told.TheVariants.{Reply}
use Rattle.afp_core_state.specs.KeptWorld.{KeptWorld}
use Rattle.session_table.specs.Sessions.{session_of}
use Rattle.afp_core_state.specs.lemma.KeptWorld.{forks_in, table_in, with_forks, with_table}
use Rattle.afp_core_state.proofs.SessionLemmas.{session_of-number}
use Rattle.afp_core_state.specs.Forks.{left_of}
use Rattle.session_table.specs.Sessions.{Adopts}
use Rattle.afp_core_calls.proofs.OfSession.TokenLemmas.{disconnect-refused, disconnect-runs}
use Rattle.afp_core_calls.proofs.session.session_token.disconnect_old_session.Goals as goal

pub returns-in-Ok : goal.returns-in-Ok
returns-in-Ok g c = λ kind s at.
    let there = ap (λ (k : KeptWorld). session_of k.world.sessions c.args.session.0) c.state.view_is ∙ at in
    disconnect-runs c.args.state.now _ s c.args.session.0 kind c.args.token.now c.adopt.new.self c.close_session.new.self c.in-Ok.field-0 _ c.requires.ready.opens
    (session_of-number c.args.state.now.world.sessions c.args.session.0 s at)
    (subst (λ (k : KeptWorld). Adopts (table_in k.world) s c.args.token.now k.world.latest (with_ok c.in-Ok.field-0) c.adopt.new.self) c.state.view_is (c.in-Ok.ensures s there))
    (c.close_session.ensures ∙ ap (λ (k : KeptWorld). left_of (λ o. not (o.session == c.args.session.0)) (forks_in k.world)) c.state.view_is)
    (c.done.ensures ∙ ap (λ (b : List ℕ). Reply Ok b false) c.new.ensures)
    (ap (λ (k : KeptWorld). with_forks (with_table k c.adopt.new.self) c.close_session.new.self) c.state.view_is)

pub returns-in-Err : goal.returns-in-Err
returns-in-Err g c = λ kind s at.
    let there = ap (λ (k : KeptWorld). session_of k.world.sessions c.args.session.0) c.state.view_is ∙ at in
    disconnect-refused c.args.state.now _ s kind c.args.token.now c.adopt.new.self c.in-Err.code _
    (subst (λ (k : KeptWorld). Adopts (table_in k.world) s c.args.token.now k.world.latest (Err c.in-Err.code) c.adopt.new.self) c.state.view_is (c.in-Err.ensures s there))
    c.refused.ensures
    (ap (λ (k : KeptWorld). with_table k c.adopt.new.self) c.state.view_is)
