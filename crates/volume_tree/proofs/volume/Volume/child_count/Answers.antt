use Rattle.std.proofs.Common.{◌∙◌, ap, length}
use Rattle.volume_tree.proofs.Siblings.{siblings-count}
use Rattle.volume_tree.proofs.volume.Volume.child_count.Goals as goal

pub returns : goal.returns
returns c = ap length c.siblings.ensures ∙ siblings-count c.args.self.now.state.rows c.args.dir.0
