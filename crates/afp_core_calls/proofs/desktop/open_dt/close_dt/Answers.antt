use Rattle.std.proofs.Common.{ap, refl, subst, [], None}
use Rattle.std.specs.Prelude.{Ok}
use Rattle.afp_core_state.specs.OnVolumes.{IsOpen}
use Rattle.afp_core_state.specs.Running.{done}
use Rattle.afp_replies.specs.declared.reply.Reply.TheVariants.{Empty}
use Rattle.afp_core_state.proofs.ForkLemmas.{state-in}
use Rattle.afp_core_state.proofs.OnVolumeLemmas.{is-user, user-in}
use Rattle.afp_core_state.proofs.TellRows.{tells-runs, tells-unopened}
use Rattle.afp_core_calls.proofs.OfDesktop.CallRows.{close_dt-tells}
use Rattle.afp_core_calls.proofs.desktop.open_dt.close_dt.Goals as goal

pub returns-in_default : goal.returns-in_default
returns-in_default g c =
    tells-unopened c.args.state.now c.args.session.0 _ c.args.dt _ _ (close_dt-tells c.args.dt) _
    (subst (IsOpen c.args.state.now c.args.session.0 c.args.dt) c.in_default.is c.opened.ensures) c.refused.ensures

pub returns : goal.returns
returns g c =
    let v = state-in c.args.state.now.world.volumes c.in-Some._index c.in-Some.ensures.within in
    tells-runs c.args.state.now c.args.session.0 _ c.args.dt _ _ (close_dt-tells c.args.dt) (user-in c.args.state.now c.args.session.0) c.in-Some._index v.0 None Empty (Ok tt) [] c.new.result (Ok (done c.done.result)) (is-user c.args.state.now c.args.session.0) c.in-Some.ensures v.1 refl refl refl refl c.new.ensures (ap done c.done.ensures)
