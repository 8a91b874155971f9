use Rattle.std.proofs.Common.{refl, subst}
use Rattle.afp_core_state.specs.OnVolumes.{IsOpen}
use Rattle.afp_core_calls.proofs.OfVolume.CallRows.{get_vol_parms-tells}
use Rattle.afp_core_state.proofs.OnVolumeLemmas.{is-user, user-in}
use Rattle.afp_core_state.proofs.TellRows.{tells-runs, tells-unopened}
use Rattle.afp_core_calls.proofs.volume.get_vol_parms.get_vol_parms.Goals as goal

pub returns-in_default : goal.returns-in_default
returns-in_default g c =
    tells-unopened c.args.state.now c.args.session.0 _ c.args.volume.0 _ _ (get_vol_parms-tells c.args.volume c.args.bits) _
    (subst (IsOpen c.args.state.now c.args.session.0 c.args.volume.0) c.in_default.is c.opened.ensures) c.refused.ensures

pub returns : goal.returns
returns g c =
    let answer = c.get_vol_parms-answer in
    let k = c.args.state.now in
    tells-runs k c.args.session.0 _ c.args.volume.0 _ _ (get_vol_parms-tells c.args.volume c.args.bits) (user-in k c.args.session.0) c.in-Some.index c.kept_at.result.now.state _ _ answer.result c.in_ok-block.block answer.new.out
    c.told_of.result (is-user k c.args.session.0) c.in-Some.ensures c.kept_at.ensures refl refl answer.ensures.refused c.in_ok-block.ensures answer.ensures.ok c.told_of.ensures
