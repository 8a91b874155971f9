use Rattle.std.proofs.Common.{◌≡◌, ◌≤◌, ◌-◌, ℕ, length, get_or}
use Rattle.fork_bytes.proofs.block.trimmed_len.Given as goal

abbrev pub invariant-loop-i : goal.invariant-loop-i
invariant-loop-i l = (k : ℕ) → length l.bytes - l.i ≤ k → get_or l.bytes k 0 ≡ 0
