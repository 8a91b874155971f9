use Rattle.std.proofs.Common.{◌-◌, ap}
use Rattle.volume_keeper.proofs.OfReplies.Starting.{starts}
use Rattle.volume_keeper.proofs.replies.lists.start_place.Goals as goal

pub returns : goal.returns
returns c = starts c.args.volume.now.state.rows c.args.asked.now c.args.dir.0 (c.start.result - 1) c.place_behind.result c.requires (ap (λ n. n - 1) c.start.ensures) c.place_behind.ensures
