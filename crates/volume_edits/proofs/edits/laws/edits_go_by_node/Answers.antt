use Rattle.volume_edits.proofs.OfEdits.ByNode.{by-node}
use Rattle.volume_edits.proofs.edits.laws.edits_go_by_node.Goals as goal

pub returns : goal.returns
returns c = by-node
