use Rattle.std.proofs.Common.{◌≡◌, ◌<◌, ℕ, length, slice_index}
use Rattle.volume_keeper_records.specs.lemma.Climb.{Climbs}
use Rattle.volume_keeper_records.proofs.climb.all_through.Given as goal

abbrev pub invariant-loop-place : goal.invariant-loop-place
invariant-loop-place l = record {
  count : length l.ends.items ≡ l.place;
  each : (k : ℕ) → k < l.place → slice_index l.ends.items k ≡ k;
}

abbrev pub invariant-loop-left : goal.invariant-loop-left
invariant-loop-left l = Climbs l.fn.steps.items l.fn.count l.up.items l.ends.items l.left

abbrev pub decreases-loop-left : goal.decreases-loop-left
decreases-loop-left l = l.left
