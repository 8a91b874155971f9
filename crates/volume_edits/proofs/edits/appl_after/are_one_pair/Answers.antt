use Rattle.std.proofs.Common.{rules}
use Rattle.volume_edits.proofs.OfEdits.DesktopBehind.{pair-parts}
use Rattle.volume_edits.proofs.edits.appl_after.are_one_pair.Goals as goal

pub returns-then-eq : goal.returns-then-eq
returns-then-eq c = search (rules, pair-parts c.args.creator.now c.args.other.now c.args.node.0 c.args.other_node.0)

pub returns-else-eq : goal.returns-else-eq
returns-else-eq c = search (rules, pair-parts c.args.creator.now c.args.other.now c.args.node.0 c.args.other_node.0)
