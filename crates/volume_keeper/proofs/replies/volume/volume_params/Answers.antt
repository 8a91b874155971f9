use Rattle.volume_keeper.proofs.OfReplies.Fitting.{volume-fits}
use Rattle.volume_keeper.proofs.replies.volume.volume_params.Goals as goal

pub put_params-requires-clause-fits : goal.put_params-requires-clause-fits
put_params-requires-clause-fits c = volume-fits c.args.volume.now.state c.args.id.0 c.args.bits c.in_ok-values.values c.in_ok-values.ensures.values c.in_ok-values.ensures.short
