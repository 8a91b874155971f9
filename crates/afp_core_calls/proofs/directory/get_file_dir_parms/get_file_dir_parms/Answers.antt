use Rattle.std.proofs.Common.{ap, refl, subst, sym, List}
use Rattle.afp_serial.specs.GetFileDirParms.{get_file_dir_parms_reply}
use Rattle.volume_spec.specs.Shared.{Opened}
use Rattle.volume_spec.specs.GetFileDirParms.{get_file_dir_parms_values}
use Rattle.afp_core_state.specs.OnVolumes.{IsOpen}
use Rattle.afp_core_state.specs.KeptWorld.{KeptWorld}
use Rattle.afp_core_state.specs.lemma.KeptWorld.{forks_in}
use Rattle.afp_core_calls.proofs.OfDirectory.CallRows.{get_file_dir_parms-tells}
use Rattle.afp_core_state.proofs.ForkLemmas.{has-forks}
use Rattle.afp_core_state.proofs.TellRows.{tells-runs, tells-unopened}
use Rattle.afp_core_calls.proofs.directory.get_file_dir_parms.get_file_dir_parms.Goals as goal

pub returns-in_default : goal.returns-in_default
returns-in_default g c =
    tells-unopened c.args.state.now c.args.session.0 _ c.args.volume.0 _ _ (get_file_dir_parms-tells c.args.volume c.args.dir c.args.file_bits c.args.dir_bits c.args.path.now) _
    (subst (IsOpen c.args.state.now c.args.session.0 c.args.volume.0) c.in_default.is c.opened.ensures) c.refused.ensures

pub returns : goal.returns
returns g c =
    let answer = c.get_file_dir_parms-answer in
    let v = c.kept_at.result.now.state in
    let k = c.args.state.now in
    let opens = sym (c.on-opens.ensures k.world (has-forks k.world c.state.inside.forks (ap (λ (x : KeptWorld). forks_in x.world) c.state.view_is))) in
    tells-runs c.args.state.now c.args.session.0 _ c.args.volume.0 _ _ (get_file_dir_parms-tells c.args.volume c.args.dir c.args.file_bits c.args.dir_bits c.args.path.now) c.user.result c.in-Some.index v _ _
    answer.result c.in_ok-block.block answer.new.out
    c.told_of.result c.user.ensures c.in-Some.ensures c.kept_at.ensures refl
    (ap (λ (l : List Opened). get_file_dir_parms_reply c.args.file_bits c.args.dir_bits (get_file_dir_parms_values v c.user.result l c.args.file_bits c.args.dir_bits c.args.dir.0 c.args.path.now)) opens)
    answer.ensures.refused c.in_ok-block.ensures answer.ensures.ok c.told_of.ensures
