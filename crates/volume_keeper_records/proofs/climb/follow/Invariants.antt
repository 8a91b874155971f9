use Rattle.std.proofs.Common.{◌≡◌, take}
use Rattle.volume_keeper_records.specs.lemma.Climb.{through}
use Rattle.volume_keeper_records.proofs.climb.follow.Given as goal

abbrev pub invariant-loop-place : goal.invariant-loop-place
invariant-loop-place l = l.both.items ≡ through (take l.place-index l.first) l.second
