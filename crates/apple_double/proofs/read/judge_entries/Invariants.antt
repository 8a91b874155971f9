use Rattle.std.proofs.Common.{◌≡◌, ℕ, ◌<◌, false}
use Rattle.apple_double.specs.Faults.{entry_fault}
use Rattle.apple_double.proofs.read.judge_entries.Given as goal

abbrev pub invariant-loop-index : goal.invariant-loop-index
invariant-loop-index l = (k : ℕ) → k < l.index → (entry_fault l.bytes k).0 ≡ false
