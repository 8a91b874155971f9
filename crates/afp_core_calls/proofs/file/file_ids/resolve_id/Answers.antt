use Rattle.std.proofs.Common.{ap, refl, subst, sym, List}
use Rattle.afp_core_state.specs.OnVolumes.{IsOpen}
use Rattle.afp_core_state.specs.KeptWorld.{KeptWorld}
use Rattle.afp_core_state.specs.lemma.KeptWorld.{forks_in}
use Rattle.afp_core_state.proofs.ForkLemmas.{has-forks}
use Rattle.afp_core_state.proofs.TellRows.{tells-runs, tells-unopened}
use Rattle.afp_serial.specs.FileIds.{resolve_id_reply}
use Rattle.volume_spec.specs.FileIds.{resolve_id_values}
use Rattle.volume_spec.specs.Shared.{Opened}
use Rattle.afp_core_calls.proofs.OfFile.FileRows.{resolve_id-tells}
use Rattle.afp_core_calls.proofs.file.file_ids.resolve_id.Goals as goal

pub returns-in_default : goal.returns-in_default
returns-in_default g c =
    tells-unopened c.args.state.now c.args.session.0 _ c.args.volume.0 _ _ (resolve_id-tells c.args.volume c.args.id c.args.bits) _
    (subst (IsOpen c.args.state.now c.args.session.0 c.args.volume.0) c.in_default.is c.opened.ensures) c.refused.ensures

pub returns : goal.returns
returns g c =
    let answer = c.put_resolved-answer in
    let v = c.kept_at-kept.result.now.state in
    let k = c.args.state.now in
    let opens = sym (c.on-opens.ensures k.world (has-forks k.world c.state.inside.forks (ap (λ (x : KeptWorld). forks_in x.world) c.state.view_is))) in
    tells-runs k c.args.session.0 _ c.args.volume.0 _ _ (resolve_id-tells c.args.volume c.args.id c.args.bits) c.user-user.result c.in-Some.index v _ _ answer.result c.new-block.result answer.new.out
    c.told_of.result c.user-user.ensures c.in-Some.ensures c.kept_at-kept.ensures refl (ap (λ (l : List Opened). resolve_id_reply c.args.bits (resolve_id_values v l c.args.id.0 c.args.bits)) opens)
    answer.ensures.refused c.new-block.ensures answer.ensures.ok c.told_of.ensures
