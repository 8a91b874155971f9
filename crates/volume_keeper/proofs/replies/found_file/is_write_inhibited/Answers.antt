use Rattle.volume_spec.specs.Shared.{write_inhibit}
use Rattle.volume_keeper.proofs.OfReplies.FoundFiles.{attribute-is}
use Rattle.volume_keeper.proofs.replies.found_file.is_write_inhibited.Goals as goal

pub returns : goal.returns
returns c = attribute-is c.args.volume.now.state write_inhibit c.args.id.0 c.node_at.result.now c.is_inhibited.result c.keeps_sound.ensures c.requires c.node_at.ensures c.is_inhibited.ensures
