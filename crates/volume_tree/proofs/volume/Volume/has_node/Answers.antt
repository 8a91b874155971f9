use Rattle.std.proofs.Common.{None}
use Rattle.volume_tree.proofs.Edited.{looked-up}
use Rattle.volume_tree.proofs.volume.Volume.has_node.Goals as goal

pub returns-in-Some : goal.returns-in-Some
returns-in-Some c = looked-up c.args.self.now.state.rows c.args.id.0 _ c.in-Some.ensures

pub returns-in-None : goal.returns-in-None
returns-in-None c = looked-up c.args.self.now.state.rows c.args.id.0 None c.in-None.ensures
