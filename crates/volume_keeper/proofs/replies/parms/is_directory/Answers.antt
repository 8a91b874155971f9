use Rattle.volume_keeper.proofs.OfReplies.NodeReplies.{directory-is}
use Rattle.volume_keeper.proofs.replies.parms.is_directory.Goals as goal

pub returns : goal.returns
returns c = directory-is c.args.volume.now.state c.args.id.0 c.node_at.result.now c.is_dir.result c.keeps_sound.ensures c.requires c.node_at.ensures c.is_dir.ensures
