use Rattle.std.proofs.Common.{◌≡◌, true, take}
use Rattle.std.specs.List.{list_all}
use Rattle.volume_spec.specs.TypedVolume.{is_long}
use Rattle.volume_changes.specs.declared.records.touched.ForkPlace.{ForkPlace}
use Rattle.volume_changes.proofs.records.touched.forks_in_range.Given as goal

abbrev pub invariant-loop-i : goal.invariant-loop-i
invariant-loop-i l = list_all (λ (p : ForkPlace). is_long p.node) (take l.i l.forks) ≡ true
