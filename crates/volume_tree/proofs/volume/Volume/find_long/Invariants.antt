use Rattle.volume_tree.proofs.LongNames.{LowestSoFar}
use Rattle.volume_tree.proofs.volume.Volume.find_long.Given as goal

-- the lowest id is that of what was found and of the children that are still to be passed
abbrev pub invariant-loop-child : goal.invariant-loop-child
invariant-loop-child l = LowestSoFar l.self.state l.fn.dir.0 l.element l.child-index l.found
