use Rattle.volume_keeper.proofs.OfReplies.Fitting.{dir-fits}
use Rattle.volume_keeper.proofs.replies.directory.put_dir.Goals as goal

pub put_params-requires-clause-fits : goal.put_params-requires-clause-fits
put_params-requires-clause-fits c =
    dir-fits c.args.volume.now.state.rows c.args.user c.args.bits c.args.node.now c.in_ok-values.values c.in_ok-values.ensures.values c.in_ok-values.ensures.long_name c.in_ok-values.ensures.utf8_name
