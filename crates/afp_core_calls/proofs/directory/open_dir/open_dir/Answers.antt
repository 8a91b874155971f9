use Rattle.std.proofs.Common.{subst}
use Rattle.afp_core_state.specs.OnVolumes.{IsOpen}
use Rattle.afp_core_calls.proofs.OfDirectory.CallRows.{open_dir-shown, open_dir-tells}
use Rattle.afp_core_state.proofs.TellRows.{tells-unopened}
use Rattle.afp_core_calls.proofs.OfDirectory.NodeRows.{tells-node}
use Rattle.afp_core_calls.proofs.directory.open_dir.open_dir.Goals as goal

pub returns-in_default : goal.returns-in_default
returns-in_default g c =
    tells-unopened c.args.state.now c.args.session.0 _ c.args.volume.0 _ _ (open_dir-tells c.args.volume c.args.dir c.args.path.now) _
    (subst (IsOpen c.args.state.now c.args.session.0 c.args.volume.0) c.in_default.is c.opened.ensures) c.refused.ensures

pub returns : goal.returns
returns g c =
    let answer = c.open_dir-answer in
    let v = c.kept_at.result.now.state in
    tells-node c.args.state.now c.args.session.0 _ c.args.volume.0 _ _ (open_dir-tells c.args.volume c.args.dir c.args.path.now) c.user.result c.in-Some.index v answer.result c.told_node.result
    c.user.ensures c.in-Some.ensures c.kept_at.ensures answer.ensures.refused (open_dir-shown v c.user.result c.args.dir.0 c.args.path.now answer.result answer.ensures.id) c.told_node.ensures
