use Rattle.std.proofs.Common.{◌∙◌}
use Rattle.volume_keeper.proofs.OfReplies.NodeReplies.{node-reply}
use Rattle.volume_keeper.proofs.OfReplies.Nodes.{on-ok}
use Rattle.volume_tree.specs.Shown.{opened}
use Rattle.volume_keeper.proofs.replies.parms.put_node_parms.Goals as goal

pub returns-clause-ok : goal.returns-clause-ok
returns-clause-ok c =
    on-ok c.put_node.result c.put_node.ensures.ok (λ is row of_row.
    is row of_row
    ∙ node-reply c.args.volume.now.state.rows c.args.user (opened c.args.opens.now) c.args.file_bits c.args.dir_bits c.flag_of.result c.is_dir.result c.args.node.now row c.args.out.now c.push_u16.new.self c.push_u16-2.new.self
    c.push_u8.new.self c.push_u8-2.new.self of_row c.in_ok-push_u16.ensures.ok c.in_ok-push_u16-2.ensures.ok c.is_dir.ensures c.flag_of.ensures c.in_ok-push_u8.ensures.ok c.in_ok-push_u8-2.ensures.ok)
