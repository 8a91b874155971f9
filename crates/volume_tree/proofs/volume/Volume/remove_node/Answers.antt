use Rattle.std.proofs.Common.{◌∙◌, sym}
use Rattle.volume_tree.proofs.Edited.{not-there}
use Rattle.volume_tree.proofs.volume.Volume.remove_node.Goals as goal

pub returns-then-not-has_node-clause-state : goal.returns-then-not-has_node-clause-state
returns-then-not-has_node-clause-state c = not-there c.args.self.now.state c.args.id.0 c.has_no_desktop.ensures (sym c.has_node.ensures ∙ c.if-not-has_node.true)
