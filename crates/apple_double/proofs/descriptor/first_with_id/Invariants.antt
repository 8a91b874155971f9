use Rattle.std.proofs.Common.{◌≡◌, ℕ, ◌<◌}
use Rattle.apple_double.specs.Format.{descriptor_at}
use Rattle.apple_double.proofs.descriptor.first_with_id.Given as goal

abbrev pub invariant-loop-index : goal.invariant-loop-index
invariant-loop-index l = (k : ℕ) → k < l.index → (descriptor_at l.bytes k).id ≡ l.id → ⊥
