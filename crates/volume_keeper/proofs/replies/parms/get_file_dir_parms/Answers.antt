use Rattle.std.proofs.Common.{◌∙◌, ap, ◌++◌}
use Rattle.volume_spec.proofs.Walks.{row-there}
use Rattle.afp_replies.specs.Replies.{canonical_reply}
use Rattle.afp_replies.specs.declared.reply.Reply.TheVariants.{FileDirParams}
use Rattle.volume_keeper.proofs.OfReplies.NodeReplies.{told-values}
use Rattle.volume_tree.specs.Shown.{opened}
use Rattle.volume_keeper.proofs.replies.parms.get_file_dir_parms.Goals as goal

pub put_node_parms-requires-clause-node : goal.put_node_parms-requires-clause-node
put_node_parms-requires-clause-node c =
    let there = c.rows_are_changed_in_place.ensures.walks c.args.volume.now.state c.args.user c.args.dir.0 c.in-Ok.id.0 c.args.path.now c.keeps_sound.ensures c.in-Ok.ensures in
    let row = row-there c.args.volume.now.state.rows c.in-Ok.id.0 there in
    (row.0, c.node_at-node.ensures row.0 row.1)

pub returns-in-Ok-put_node_parms-clause-ok : goal.returns-in-Ok-put_node_parms-clause-ok
returns-in-Ok-put_node_parms-clause-ok c values told =
    let rows = c.args.volume.now.state.rows in
    let there = c.rows_are_changed_in_place.ensures.walks c.args.volume.now.state c.args.user c.args.dir.0 c.in-Ok.id.0 c.args.path.now c.keeps_sound.ensures c.in-Ok.ensures in
    let row = row-there rows c.in-Ok.id.0 there in
    c.in-Ok-put_node_parms.ensures.ok row.0 (c.node_at-node.ensures row.0 row.1)
    ∙ ap (λ v. c.args.out.now ++ canonical_reply (FileDirParams c.args.file_bits c.args.dir_bits v))
    (told-values c.args.volume.now.state c.args.user (opened c.args.opens.now) c.args.file_bits c.args.dir_bits c.args.dir.0 c.in-Ok.id.0 c.args.path.now row.0 values c.in-Ok.ensures row.1 told)
