use Rattle.std.proofs.Common.{◌≡◌, take, map}
use Rattle.volume_keeper_records.specs.lemma.Climb.{id_of}
use Rattle.volume_keeper_records.proofs.tree.grow.Given as goal

abbrev pub invariant-loop-place : goal.invariant-loop-place
invariant-loop-place l = l.ids.items ≡ map id_of (take l.place-index l.place-items)
