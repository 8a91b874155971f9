use Rattle.std.proofs.Common.{◌≢◌, ℕ, ◌<◌, get_or, bit_and}
use Rattle.fork_bytes.proofs.read.end_in.Given as goal

abbrev pub invariant-loop-i : goal.invariant-loop-i
invariant-loop-i l = (k : ℕ) → k < l.i → bit_and (get_or l.bytes k 0) l.mask ≢ l.end
