use Rattle.std.proofs.Common.{◌∙◌, ap, sym, subst}
use Rattle.std.specs.Prelude.{is_some}
use Rattle.afp_serial.specs.declared.attachment.Attachment.TheVariants.{Detached}
use Rattle.afp_core_state.specs.lemma.KeptWorld.{table_in, with_table}
use Rattle.session_table.specs.Sessions.{Becomes}
use Rattle.afp_serial.specs.World.{session_at}
use Rattle.afp_core_state.specs.KeptWorld.{KeptWorld}
use Rattle.session_table.specs.Sessions.{IsAt, session_of}
use Rattle.afp_core_dispatch.proofs.ReadyLemmas.{ready}
use Rattle.afp_core_dispatch.proofs.AskLemmas.{lost-displaced, lost-ends, lost-waits}
use Rattle.afp_core_dispatch.proofs.asks.lose_at.Goals as goal

pub end-requires : goal.end-requires
end-requires g c = ready c.args.state.now.world c.requires

pub returns-in_default : goal.returns-in_default
returns-in_default g c = λ out. lost-displaced c.args.state.now c.args.link.0 (ap (λ (k : KeptWorld). session_at k.world c.args.link.0) (sym c.state.view_is) ∙ c.in_default.ensures)

pub returns-then-is_none : goal.returns-then-is_none
returns-then-is_none g c = λ out.
    let at = subst (λ (k : KeptWorld). IsAt k.world.sessions c.args.link.0 c.in-Some.session.0) c.state.view_is c.in-Some.ensures in
    lost-ends c.args.state.now _ c.args.link.0 c.in-Some.session.0 at
    (ap is_some (sym (c.user.ensures at.session (ap (λ (k : KeptWorld). session_of k.world.sessions c.in-Some.session.0) c.state.view_is ∙ at.numbered))) ∙ c.if-is_none.ensures) c.end.ensures

pub returns : goal.returns
returns g c = λ out.
    let at = subst (λ (k : KeptWorld). IsAt k.world.sessions c.args.link.0 c.in-Some.session.0) c.state.view_is c.in-Some.ensures in
    lost-waits c.args.state.now _ c.args.link.0 c.in-Some.session.0 c.detach.new.self at
    (ap is_some (sym (c.user.ensures at.session (ap (λ (k : KeptWorld). session_of k.world.sessions c.in-Some.session.0) c.state.view_is ∙ at.numbered))) ∙ c.if-is_none.ensures)
    (subst (λ (k : KeptWorld). Becomes (table_in k.world) c.in-Some.session.0 (λ x. record x { place = Detached k.world.latest }) c.detach.new.self) c.state.view_is c.detach.ensures)
    (ap (λ (k : KeptWorld). with_table k c.detach.new.self) c.state.view_is)
