use Rattle.std.proofs.Common.{◌≡◌, take, map}
use Rattle.node_rows.specs.Children.{child_of}
use Rattle.node_rows.proofs.rows.children_of.Given as goal

abbrev pub invariant-loop-node : goal.invariant-loop-node
invariant-loop-node l = l.children.items ≡ map child_of (take l.node-index l.nodes)
