use Rattle.std.proofs.Common.{◌≡◌, ◌∙◌, ap, sym, subst, true}
use Rattle.volume_spec.specs.SoundVolume.{has_fit_privileges}
use Rattle.volume_spec.specs.VolumeState.{Row}
use Rattle.volume_keeper.proofs.OfReplies.Nodes.{told-dir, told-file, on-ok}
use Rattle.volume_keeper.proofs.OfReplies.ToldRights.{node-fit}
use Rattle.volume_tree.specs.Shown.{opened}
use Rattle.volume_keeper.proofs.replies.node.put_node.Goals as goal

pub put_dir-requires-clause-privileges : goal.put_dir-requires-clause-privileges
put_dir-requires-clause-privileges c =
    subst (λ dir. has_fit_privileges dir c.args.node.now.privileges ≡ true) (sym (ap (λ (r : Row). r.dir) c.node.view_is) ∙ c.if-node.true)
    (node-fit c.args.volume.now.state c.args.node.now c.keeps_sound.ensures c.requires.node)

pub returns-then-node-clause-ok : goal.returns-then-node-clause-ok
returns-then-node-clause-ok c =
    on-ok c.put_dir.result c.put_dir.ensures.ok (λ is row of_row.
    is ∙ told-dir c.args.volume.now.state.rows c.args.user (opened c.args.opens.now) c.args.file_bits c.args.dir_bits c.args.node.now row c.args.out.now of_row (sym (ap (λ (r : Row). r.dir) c.node.view_is) ∙ c.if-node.true))

pub returns-else-node-clause-ok : goal.returns-else-node-clause-ok
returns-else-node-clause-ok c =
    on-ok c.put_file.result c.put_file.ensures.ok (λ is row of_row.
    is ∙ told-file c.args.volume.now.state.rows c.args.user (opened c.args.opens.now) c.args.file_bits c.args.dir_bits c.args.node.now row c.args.out.now of_row (sym (ap (λ (r : Row). r.dir) c.node.view_is) ∙ c.if-node.false))
