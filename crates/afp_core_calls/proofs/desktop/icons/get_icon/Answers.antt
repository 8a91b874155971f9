use Rattle.std.proofs.Common.{refl, subst}
use Rattle.afp_core_state.specs.OnVolumes.{IsOpen}
use Rattle.afp_core_state.proofs.OnVolumeLemmas.{is-user, user-in}
use Rattle.afp_core_state.proofs.TellRows.{tells-runs, tells-unopened}
use Rattle.afp_core_calls.proofs.OfDesktop.CallRows.{get_icon-tells}
use Rattle.afp_core_calls.proofs.desktop.icons.get_icon.Goals as goal

pub returns-in_default : goal.returns-in_default
returns-in_default g c =
    tells-unopened c.args.state.now c.args.session.0 _ c.args.dt _ _ (get_icon-tells c.args.dt c.args.creator c.args.kind c.args.icon_kind c.args.count) _
    (subst (IsOpen c.args.state.now c.args.session.0 c.args.dt) c.in_default.is c.opened.ensures) c.refused.ensures

pub returns : goal.returns
returns g c =
    let answer = c.put_icon-answer in
    tells-runs c.args.state.now c.args.session.0 _ c.args.dt _ _ (get_icon-tells c.args.dt c.args.creator c.args.kind c.args.icon_kind c.args.count) (user-in c.args.state.now c.args.session.0) c.in-Some.index c.whole_at-volume.result.now.state _ _ answer.result c.new-block.result answer.new.out
    c.told_of.result (is-user c.args.state.now c.args.session.0) c.in-Some.ensures c.whole_at-volume.ensures refl refl answer.ensures.refused c.new-block.ensures answer.ensures.ok c.told_of.ensures
