use Rattle.volume_spec.proofs.Walks.{row-there}
use Rattle.volume_keeper.proofs.replies.node.node_params.Goals as goal

pub put_node-requires-clause-node : goal.put_node-requires-clause-node
put_node-requires-clause-node c =
    let row = row-there c.args.volume.now.state.rows c.args.id.0 c.requires.there in
    (row.0, c.node_at-node.ensures row.0 row.1)
