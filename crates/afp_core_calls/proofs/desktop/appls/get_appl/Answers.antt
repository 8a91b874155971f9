use Rattle.std.proofs.Common.{ap, refl, subst, sym, List}
use Rattle.afp_core_state.specs.OnVolumes.{IsOpen}
use Rattle.afp_core_state.specs.KeptWorld.{KeptWorld}
use Rattle.afp_core_state.specs.lemma.KeptWorld.{forks_in}
use Rattle.afp_core_state.proofs.ForkLemmas.{has-forks}
use Rattle.afp_core_state.proofs.OnVolumeLemmas.{is-user, user-in}
use Rattle.afp_core_state.proofs.TellRows.{tells-runs, tells-unopened}
use Rattle.afp_serial.specs.Appls.{get_appl_reply}
use Rattle.volume_spec.specs.Appls.{get_appl_mapping}
use Rattle.volume_spec.specs.Shared.{Opened}
use Rattle.afp_core_calls.proofs.OfDesktop.CallRows.{get_appl-tells}
use Rattle.afp_core_calls.proofs.desktop.appls.get_appl.Goals as goal

pub returns-in_default : goal.returns-in_default
returns-in_default g c =
    tells-unopened c.args.state.now c.args.session.0 _ c.args.dt _ _ (get_appl-tells c.args.dt c.args.creator c.args.index c.args.bits) _
    (subst (IsOpen c.args.state.now c.args.session.0 c.args.dt) c.in_default.is c.opened.ensures) c.refused.ensures

pub returns : goal.returns
returns g c =
    let answer = c.put_appl-answer in
    let v = c.kept_at-kept.result.now.state in
    let k = c.args.state.now in
    let opens = sym (c.on-opens.ensures k.world (has-forks k.world c.state.inside.forks (ap (λ (x : KeptWorld). forks_in x.world) c.state.view_is))) in
    tells-runs k c.args.session.0 _ c.args.dt _ _ (get_appl-tells c.args.dt c.args.creator c.args.index c.args.bits) (user-in c.args.state.now c.args.session.0) c.in-Some.place v _ _ answer.result c.new-block.result answer.new.out
    c.told_of.result (is-user c.args.state.now c.args.session.0) c.in-Some.ensures c.kept_at-kept.ensures refl (ap (λ (l : List Opened). get_appl_reply c.args.bits v l (get_appl_mapping v c.args.creator c.args.index)) opens)
    answer.ensures.refused c.new-block.ensures answer.ensures.ok c.told_of.ensures
