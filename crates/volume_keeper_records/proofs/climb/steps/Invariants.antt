use Rattle.std.proofs.Common.{◌≡◌, take, map}
use Rattle.volume_keeper_records.specs.lemma.Climb.{next_of}
use Rattle.volume_keeper_records.proofs.climb.steps.Given as goal

abbrev pub invariant-loop-node : goal.invariant-loop-node
invariant-loop-node l = l.steps.items ≡ map (next_of l.ids) (take l.node-index l.nodes)
